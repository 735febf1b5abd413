use Rattle.std.proofs.Common.{arith}
use Rattle.std.proofs.lemmas.List.Edits.{map_over_more}
use Rattle.jc_transient.specs.Cell.{default_value}
use Rattle.jc_transient.proofs.area.clear_cells.Goals as goal

pub loop-k-preserved : goal.loop-k-preserved
loop-k-preserved c = rw c.default_value.ensures (map_over_more default_value c.args.cells.now c.loop-k.cells c.loop-k.k c.index-cells-k.result
    (omega arith) c.loop-k.invariant c.index-cells-k.is)
