use Rattle.std.proofs.Common.{length, subst, sym, ◌∙◌, arith}
use Rattle.jc_heap.specs.Place.{HasPlace}
use Rattle.jc_heap.specs.Heap.{heap_of}
use Rattle.jc_heap.proofs.Views.{readable, packed_spot}
use Rattle.jc_heap.proofs.elements.word_for.Goals as goal

pub word_at-requires : goal.word_at-requires
word_at-requires g c = omega (
  arith,
  (packed_spot c.args.journal.now.plain c.in-Cell.object c.in-Cell.i (subst (HasPlace (heap_of c.args.journal.now.plain)) c.in-Cell.is c.requires.there)
      (sym c.is_packed.ensures ∙ c.if-is_packed.true)).0,
  c.requires.small,
)

pub read-requires : goal.read-requires
read-requires g c =
    let spot = packed_spot c.args.journal.now.plain c.in-Cell.object c.in-Cell.i (subst (HasPlace (heap_of c.args.journal.now.plain)) c.in-Cell.is c.requires.there)
    (sym c.is_packed.ensures ∙ c.if-is_packed.true) in
    rw c.word_at.ensures (readable (length c.args.journal.now.plain) _ spot.0 spot.1)
