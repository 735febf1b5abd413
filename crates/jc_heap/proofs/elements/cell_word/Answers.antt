use Rattle.std.proofs.Common.{sym, ◌∙◌, arith}
use Rattle.jc_heap.proofs.Views.{packed_spot, single_spot}
use Rattle.jc_heap.proofs.elements.cell_word.Goals as goal

pub word_at-requires : goal.word_at-requires
word_at-requires g c = omega (
  arith,
  (packed_spot c.args.journal.now.plain c.args.object c.args.i c.requires.cell (sym c.is_packed.ensures ∙ c.if-is_packed.true)).0,
  c.requires.small,
)

pub word_at-requires-2 : goal.word_at-requires-2
word_at-requires-2 g c = omega (
  arith,
  (single_spot c.args.journal.now.plain c.args.object c.args.i c.requires.cell (sym c.is_packed.ensures ∙ c.if-is_packed.false)).0,
  c.requires.small,
)
