use Rattle.jc_heap.proofs.OwnCells.{owns_cells}
use Rattle.jc_heap.proofs.heap_laws.transient_objects_own_their_cells.Goals as goal

pub returns : goal.returns
returns c = owns_cells
