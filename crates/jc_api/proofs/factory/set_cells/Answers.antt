use Rattle.std.proofs.Common.{[], ◌∷◌}
use Rattle.jc_heap.specs.declared.place.Place.TheVariants as place
use Rattle.jc_heap.specs.declared.touch.Touch.TheVariants as touch
use Rattle.jc_memory.proofs.Touched.{room_first}
use Rattle.jc_api.proofs.factory.set_cells.Goals as goal

pub set_cell-requires-clause-room : goal.set_cell-requires-clause-room
set_cell-requires-clause-room g c = room_first c.args.memory.now (touch.Place (place.Cell c.args.instance 0) ∷ [])
    (touch.Place (place.Cell c.args.instance 1) ∷ []) c.requires.room

pub set_cell-requires-2-clause-room : goal.set_cell-requires-2-clause-room
set_cell-requires-2-clause-room g c = c.in_ok-set_cell.ensures.left (touch.Place (place.Cell c.args.instance 1) ∷ []) c.requires.room
