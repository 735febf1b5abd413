use Rattle.std.proofs.Common.{◌<◌, ◌+◌, length, arith}
use Rattle.std.proofs.lemmas.List.Edits.{fill_from_more}
use Rattle.jc_transient.proofs.area.fill_cells.Goals as goal

pub loop-k-preserved : goal.loop-k-preserved
loop-k-preserved c =
    let within : c.args.place + c.loop-k.k < length c.args.cells.now = omega arith in
    rw c.loop-k.invariant (fill_from_more c.args.cells.now c.args.place c.loop-k.k c.args.value.now within)
