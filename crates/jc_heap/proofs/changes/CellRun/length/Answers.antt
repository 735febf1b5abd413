use Rattle.std.proofs.Common.{◌≡◌, length, sym, ap, ◌∙◌, arith, refl}
use Rattle.jc_commit.proofs.WordRuns.{viewed_length}
use Rattle.jc_heap.specs.Packed.{packed_words}
use Rattle.jc_heap.specs.Elements.{elements_of, packing_words, byte_or_none, bytes_with}
use Rattle.jc_heap.proofs.Runs.{length-double, count_byte}
use Rattle.jc_heap.proofs.changes.CellRun.length.Goals as goal

pub overflow_add-from : goal.overflow_add-from
overflow_add-from c =
    let long : length (packing_words c.self.inside.packing (elements_of c.self.inside.values))
    ≡ length (packed_words (bytes_with c.in-Double.before (elements_of c.self.inside.values) c.in-Double.behind)) =
    ap (λ p. length (packing_words p (elements_of c.self.inside.values))) c.in-Double.is in
    let first : c.from.result ≡ length (byte_or_none c.in-Double.before) = count_byte c.in-Double.before c.is_some.result c.from.result c.is_some.ensures
    c.from.ensures in
    omega (
      arith,
      long,
      first,
      c.count-count.ensures,
      c.self.invariant.0,
      length-double c.in-Double.before (elements_of c.self.inside.values)
          c.in-Double.behind _ refl,
    )

pub overflow_add-from-in-Double : goal.overflow_add-from-in-Double
overflow_add-from-in-Double c =
    let long : length (packing_words c.self.inside.packing (elements_of c.self.inside.values))
    ≡ length (packed_words (bytes_with c.in-Double.before (elements_of c.self.inside.values) c.in-Double.behind)) =
    ap (λ p. length (packing_words p (elements_of c.self.inside.values))) c.in-Double.is in
    let first : c.from.result ≡ length (byte_or_none c.in-Double.before) = count_byte c.in-Double.before c.is_some.result c.from.result c.is_some.ensures
    c.from.ensures in
    let last : c.from-in-Double.result ≡ length (byte_or_none c.in-Double.behind) =
    count_byte c.in-Double.behind c.is_some-in-Double.result c.from-in-Double.result c.is_some-in-Double.ensures c.from-in-Double.ensures in
    omega (
      arith,
      long,
      first,
      last,
      c.count-count.ensures,
      c.self.invariant.0,
      length-double c.in-Double.before (elements_of c.self.inside.values)
          c.in-Double.behind _ refl,
    )

pub returns-in-Single : goal.returns-in-Single
returns-in-Single c =
    let packing = viewed_length c.self.inside.at (packing_words c.self.inside.packing (elements_of c.self.inside.values)) c.args.self.now c.self.view_is in
    c.count-count.ensures ∙ sym (packing ∙ ap (λ p. length (packing_words p (elements_of c.self.inside.values))) c.in-Single.is)

pub returns-in-Double : goal.returns-in-Double
returns-in-Double c =
    let packing = viewed_length c.self.inside.at (packing_words c.self.inside.packing (elements_of c.self.inside.values)) c.args.self.now c.self.view_is in
    let long : length (packing_words c.self.inside.packing (elements_of c.self.inside.values))
    ≡ length (packed_words (bytes_with c.in-Double.before (elements_of c.self.inside.values) c.in-Double.behind)) =
    ap (λ p. length (packing_words p (elements_of c.self.inside.values))) c.in-Double.is in
    let first : c.from.result ≡ length (byte_or_none c.in-Double.before) = count_byte c.in-Double.before c.is_some.result c.from.result c.is_some.ensures
    c.from.ensures in
    let last : c.from-in-Double.result ≡ length (byte_or_none c.in-Double.behind) =
    count_byte c.in-Double.behind c.is_some-in-Double.result c.from-in-Double.result c.is_some-in-Double.ensures c.from-in-Double.ensures in
    omega (
      arith,
      packing,
      long,
      first,
      last,
      c.count-count.ensures,
      c.div_ceil.ensures,
      length-double c.in-Double.before (elements_of
          c.self.inside.values) c.in-Double.behind _ refl,
    )
