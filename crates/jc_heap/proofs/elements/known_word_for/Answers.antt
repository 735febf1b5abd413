use Rattle.std.proofs.Common.{length, sym, ap, ◌∙◌, arith}
use Rattle.jc_heap.specs.Object.{is_packed}
use Rattle.jc_heap.proofs.Views.{readable, packed_spot}
use Rattle.jc_heap.proofs.elements.known_word_for.Goals as goal

pub word_at-requires : goal.word_at-requires
word_at-requires g c = omega (
  arith,
  (packed_spot c.args.journal.now.plain c.args.object c.args.i c.requires.cell
      (ap is_packed (sym c.requires.header) ∙ sym c.is_packed.ensures ∙ c.if-is_packed.true)).0,
  c.requires.small,
)

pub read-requires : goal.read-requires
read-requires g c =
    let spot = packed_spot c.args.journal.now.plain c.args.object c.args.i c.requires.cell
    (ap is_packed (sym c.requires.header) ∙ sym c.is_packed.ensures ∙ c.if-is_packed.true) in
    rw c.word_at.ensures (readable (length c.args.journal.now.plain) _ spot.0 spot.1)
