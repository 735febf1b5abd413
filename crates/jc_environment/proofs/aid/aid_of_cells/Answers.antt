use Rattle.std.proofs.Common.{sym, ◌∙◌, ◌++◌, ◌∷◌, [], ap, map, arith}
use Rattle.std.specs.List.{range_with_len}
use Rattle.std.proofs.lemmas.List.FromFn.{map-range_with_len_more}
use Rattle.jc_environment.specs.Aid.{aid_byte}
use Rattle.jc_environment.proofs.aid.aid_of_cells.Goals as goal

pub loop-i-preserved : goal.loop-i-preserved
loop-i-preserved c = (
  c.push.ensures.items
      ∙ ap (λ l. l ++ c.aid_byte.result ∷ []) c.loop-i.invariant.0
      ∙ ap (λ x. map (aid_byte c.args.cells.now) (range_with_len 0 c.loop-i.i) ++ x ∷ []) c.aid_byte.ensures
      ∙ sym (map-range_with_len_more (aid_byte c.args.cells.now) 0 c.loop-i.i c.loop-i.i (omega arith)),
  grind arith,
)
