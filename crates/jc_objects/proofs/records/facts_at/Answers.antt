use Rattle.std.proofs.Common.{arith, ◌<◌, ◌/◌, ◌∙◌, ap, length, List, ℕ}
use Rattle.jc_heap.proofs.Views.{readable}
use Rattle.jc_heap.specs.declared.object.Facts.{Facts}
use Rattle.jc_objects.proofs.HeapBounds.{Bounds, bounds}
use Rattle.jc_objects.proofs.ItemWords.{facts_built, five, four}
use Rattle.jc_objects.specs.Records.{record_size}
use Rattle.jc_objects.proofs.records.facts_at.Goals as goal

pub word-word-requires : goal.word-word-requires
word-word-requires g c =
    let w : List ℕ = g.W.ImageWords.words c.args.words.now in
    let b : Bounds w = bounds w c.requires.bounds in
    readable (length w) c.args.at (omega (arith, b.fits, c.requires.record.whole, four w c.args.at c.requires.bounds c.requires.record c.requires.object))
    c.requires.record.low

pub area_place-place-requires-clause-there : goal.area_place-place-requires-clause-there
area_place-place-requires-clause-there g c =
    let w : List ℕ = g.W.ImageWords.words c.args.words.now in
    let b : Bounds w = bounds w c.requires.bounds in
    λ n.
    let long : 4 < record_size w c.args.at = five w c.args.at c.requires.bounds c.requires.record c.requires.object
    (λ e. n (ap (λ (v : ℕ). v / 256) c.word-word.ensures ∙ e)) in
    omega (arith, b.fits, c.requires.record.whole, long)

pub returns : goal.returns
returns g c =
    let w : List ℕ = g.W.ImageWords.words c.args.words.now in
    let made = c.new-facts.ensures in
    facts_built w c.args.at c.requires.bounds c.requires.record c.requires.object c.word-word.result c.new-facts.result.kind c.new-facts.result.event
    c.new-facts.result.class c.new-facts.result.owner c.new-facts.result.length c.new-facts.result.place c.is_packed_header.result c.word-word.ensures
    (ap (λ (f : Facts). f.kind) made ∙ c.kind_of.ensures)
    (ap (λ (f : Facts). f.event) made ∙ c.event_of.ensures)
    (ap (λ (f : Facts). f.class) made ∙ c.word.ensures)
    (ap (λ (f : Facts). f.owner) made ∙ c.word-2.ensures)
    (ap (λ (f : Facts). f.length) made ∙ c.word-3.ensures)
    (ap (λ (f : Facts). f.place) made ∙ c.area_place-place.ensures)
    c.is_packed_header.ensures
