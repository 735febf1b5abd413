use Rattle.std.proofs.Common.{◌≡◌, ◌++◌, take}
use Rattle.jc_frames.proofs.frames.push_all.Given as goal

abbrev pub invariant-loop-cell : goal.invariant-loop-cell
invariant-loop-cell l = l.cells.items ≡ l.fn.cells.items ++ take l.cell-index l.more
