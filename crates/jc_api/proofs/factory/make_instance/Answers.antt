use Rattle.std.proofs.Common.{[], ◌∷◌, refl, arith}
use Rattle.jc_heap.specs.declared.touch.Touch.TheVariants as touch
use Rattle.jc_memory.proofs.ProgramLemmas.{in_two_steps}
use Rattle.jc_memory.proofs.Touched.{room_first}
use Rattle.jc_api.proofs.factory.make_instance.Goals as goal

pub make_within_capacity-requires-clause-room : goal.make_within_capacity-requires-clause-room
make_within_capacity-requires-clause-room g c = room_first c.args.memory.now (touch.HeapEnd ∷ []) (touch.NewCell 0 ∷ touch.NewCell 1 ∷ []) c.requires.room

pub set_cells-requires-clause-room : goal.set_cells-requires-clause-room
set_cells-requires-clause-room g c = c.in_ok-instance.ensures.left (touch.NewCell 0 ∷ touch.NewCell 1 ∷ []) (refl, (refl, tt)) c.requires.room

pub returns-in_err-instance : goal.returns-in_err-instance
returns-in_err-instance g c = grind (arith, in_two_steps)

pub returns : goal.returns
returns g c = grind (arith, in_two_steps)
