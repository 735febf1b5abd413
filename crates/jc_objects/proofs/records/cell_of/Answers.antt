use Rattle.std.proofs.Common.{arith, length, ◌≡◌, ◌+◌, ◌/◌, ◌∙◌, ap, sym, true, false, get_or, List, ℕ}
use Rattle.jc_heap.proofs.Views.{readable}
use Rattle.jc_heap.specs.Packed.{byte_in}
use Rattle.jc_objects.proofs.HeapBounds.{Bounds, bounds}
use Rattle.jc_objects.proofs.ItemWords.{cell_by}
use Rattle.jc_objects.proofs.records.cell_of.Goals as goal

pub overflow_add-at-then-is_packed : goal.overflow_add-at-then-is_packed
overflow_add-at-then-is_packed g c =
    let w : List ℕ = g.W.ImageWords.words c.args.words.now in
    let b : Bounds w = bounds w c.requires.bounds in
    let cell = cell_by w c.args.at c.requires.bounds c.requires.record true c.args.facts c.args.i (sym c.is_packed.ensures ∙ c.if-is_packed.true)
    c.requires.object c.requires.cell in
    omega (arith, cell.0, b.fits, c.word_count.ensures)

pub word-requires : goal.word-requires
word-requires g c =
    let w : List ℕ = g.W.ImageWords.words c.args.words.now in
    let b : Bounds w = bounds w c.requires.bounds in
    let cell = cell_by w c.args.at c.requires.bounds c.requires.record true c.args.facts c.args.i (sym c.is_packed.ensures ∙ c.if-is_packed.true)
    c.requires.object c.requires.cell in
    readable (length w) (c.args.at + 4 + c.args.i / 2) (omega (arith, cell.0, b.fits)) (omega (arith, c.requires.record.low))

pub returns-then-is_packed : goal.returns-then-is_packed
returns-then-is_packed g c =
    let w : List ℕ = g.W.ImageWords.words c.args.words.now in
    let i : ℕ = c.args.i in
    let cell = cell_by w c.args.at c.requires.bounds c.requires.record true c.args.facts i (sym c.is_packed.ensures ∙ c.if-is_packed.true)
    c.requires.object c.requires.cell in
    let place : c.args.at + 4 + i / 2 ≡ c.args.at + (4 + i / 2) = omega arith in
    c.byte_in.ensures ∙ ap (λ (v : ℕ). byte_in v i) (c.word.ensures ∙ ap (λ (n : ℕ). get_or w n 0) place) ∙ sym cell.1

pub overflow_add-at-2 : goal.overflow_add-at-2
overflow_add-at-2 g c =
    let w : List ℕ = g.W.ImageWords.words c.args.words.now in
    let b : Bounds w = bounds w c.requires.bounds in
    let cell = cell_by w c.args.at c.requires.bounds c.requires.record false c.args.facts c.args.i (sym c.is_packed.ensures ∙ c.if-is_packed.false)
    c.requires.object c.requires.cell in
    omega (arith, cell.0, b.fits, c.word_count.ensures)

pub overflow_add-at-3 : goal.overflow_add-at-3
overflow_add-at-3 g c =
    let w : List ℕ = g.W.ImageWords.words c.args.words.now in
    let b : Bounds w = bounds w c.requires.bounds in
    let cell = cell_by w c.args.at c.requires.bounds c.requires.record false c.args.facts c.args.i (sym c.is_packed.ensures ∙ c.if-is_packed.false)
    c.requires.object c.requires.cell in
    omega (arith, cell.0, b.fits, c.word_count.ensures)

pub word-requires-2 : goal.word-requires-2
word-requires-2 g c =
    let w : List ℕ = g.W.ImageWords.words c.args.words.now in
    let b : Bounds w = bounds w c.requires.bounds in
    let cell = cell_by w c.args.at c.requires.bounds c.requires.record false c.args.facts c.args.i (sym c.is_packed.ensures ∙ c.if-is_packed.false)
    c.requires.object c.requires.cell in
    readable (length w) (c.args.at + 4 + c.args.i) (omega (arith, cell.0, b.fits)) (omega (arith, c.requires.record.low))

pub returns : goal.returns
returns g c =
    let w : List ℕ = g.W.ImageWords.words c.args.words.now in
    let i : ℕ = c.args.i in
    let cell = cell_by w c.args.at c.requires.bounds c.requires.record false c.args.facts i (sym c.is_packed.ensures ∙ c.if-is_packed.false)
    c.requires.object c.requires.cell in
    let place : c.args.at + 4 + i ≡ c.args.at + (4 + i) = omega arith in
    c.word-2.ensures ∙ ap (λ (n : ℕ). get_or w n 0) place ∙ sym cell.1
