use Rattle.std.proofs.Common.{◌≡◌, ◌+◌, ◌-◌, ℕ, suc, Option, length, sym, ap, ◌∙◌, arith}
use Rattle.jc_heap.specs.Packed.{packed_words}
use Rattle.jc_heap.specs.Elements.{elements_of, bytes_with, byte_before, byte_behind}
use Rattle.jc_heap.proofs.Views.{packed_spot, single_spot}
use Rattle.jc_heap.proofs.RunsSet.{single_within, double_within}
use Rattle.jc_heap.proofs.elements.run_for.Goals as goal

pub word_at-requires : goal.word_at-requires
word_at-requires g c =
    let count : c.count-count.result ≡ length (elements_of c.args.values) = c.count-count.ensures in
    omega (
      arith,
      (single_spot c.args.journal.now.plain c.args.object c.args.i (omega (arith, count, c.if-count-eq0.false, c.requires.cells))
          (sym c.is_packed.ensures ∙ c.if-not-is_packed.true)).0,
      c.requires.small,
    )

pub new-requires-then-not-is_packed-clause-fits : goal.new-requires-then-not-is_packed-clause-fits
new-requires-then-not-is_packed-clause-fits g c =
    let count : c.count-count.result ≡ length (elements_of c.args.values) = c.count-count.ensures in
    let m : ℕ = length (elements_of c.args.values) - 1 in
    let size : length (elements_of c.args.values) ≡ suc m = omega (arith, count, c.if-count-eq0.false) in
    omega (
      arith,
      single_within c.args.journal.now.plain c.args.object c.args.i m (omega (arith, size, c.requires.cells))
          (sym c.is_packed.ensures ∙ c.if-not-is_packed.true),
      size,
      c.word_at.ensures,
      c.requires.small,
    )

pub word_at-requires-2 : goal.word_at-requires-2
word_at-requires-2 g c =
    let count : c.count-count.result ≡ length (elements_of c.args.values) = c.count-count.ensures in
    omega (
      arith,
      (packed_spot c.args.journal.now.plain c.args.object c.args.i (omega (arith, count, c.if-count-eq0.false, c.requires.cells))
          (sym c.is_packed.ensures ∙ c.if-not-is_packed.false)).0,
      c.requires.small,
    )

pub new-requires-2-clause-fits : goal.new-requires-2-clause-fits
new-requires-2-clause-fits g c =
    let count : c.count-count.result ≡ length (elements_of c.args.values) = c.count-count.ensures in
    let m : ℕ = length (elements_of c.args.values) - 1 in
    let size : length (elements_of c.args.values) ≡ suc m = omega (arith, count, c.if-count-eq0.false) in
    let behind : c.byte_behind.result ≡ byte_behind c.args.journal.now.plain c.args.object (c.args.i + length (elements_of c.args.values)) =
    c.byte_behind.ensures ∙ ap (λ (n : ℕ). byte_behind c.args.journal.now.plain c.args.object n) (omega (arith, c.from.ensures, count)) in
    let words : length (packed_words (bytes_with c.byte_before.result (elements_of c.args.values) c.byte_behind.result))
    ≡ length (packed_words (bytes_with (byte_before c.args.journal.now.plain c.args.object c.args.i) (elements_of c.args.values)
    (byte_behind c.args.journal.now.plain c.args.object (c.args.i + length (elements_of c.args.values))))) =
    ap (λ (b : Option ℕ). length (packed_words (bytes_with b (elements_of c.args.values) c.byte_behind.result))) c.byte_before.ensures
    ∙ ap (λ (b : Option ℕ). length (packed_words (bytes_with (byte_before c.args.journal.now.plain c.args.object c.args.i) (elements_of c.args.values) b))) behind in
    omega (
      arith,
      double_within c.args.journal.now.plain c.args.object c.args.i m (elements_of c.args.values) size c.requires.cells
          (sym c.is_packed.ensures ∙ c.if-not-is_packed.false),
      words,
      c.word_at-2.ensures,
      c.requires.small,
    )
