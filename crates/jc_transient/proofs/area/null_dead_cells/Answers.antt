use Rattle.std.proofs.Common.{arith}
use Rattle.std.proofs.lemmas.List.Edits.{map_over_more}
use Rattle.jc_transient.specs.Cell.{without_dead}
use Rattle.jc_transient.proofs.area.null_dead_cells.Goals as goal

pub loop-k-preserved : goal.loop-k-preserved
loop-k-preserved c = rw c.without_dead.ensures (map_over_more (without_dead c.args.top) c.args.cells.now c.loop-k.cells c.loop-k.k c.index-cells-k.result
    (omega arith) c.loop-k.invariant c.index-cells-k.is)
