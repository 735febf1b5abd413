use Rattle.std.proofs.Common.{◌≡◌, ◌∙◌, true, false, [], ◌∷◌, Ok, sym, arith}
use Rattle.jc_heap.specs.declared.object.Kind.TheVariants.{Instance}
use Rattle.jc_heap.specs.declared.touch.Touch.TheVariants as touch
use Rattle.jc_memory.specs.Making.{creation_refusal}
use Rattle.jc_memory.specs.CommitCapacity.{has_space, lacks_capacity}
use Rattle.jc_memory.proofs.ProgramLemmas.{in_two_steps}
use Rattle.jc_platform.specs.Hierarchy.{cells_of}
use Rattle.jc_api.specs.Factory.{state_array}
use Rattle.jc_api.proofs.EngineMaking.{after_made, cut_later}
use Rattle.jc_api.proofs.EngineRoom.{room_left, space_behind}
use Rattle.jc_api.proofs.factory.make_engine.Goals as goal

pub keeps_no_cells-requires-clause-cells : goal.keeps_no_cells-requires-clause-cells
keeps_no_cells-requires-clause-cells g c = c.requires.state.cells

pub make_instance-requires-clause-cells : goal.make_instance-requires-clause-cells
make_instance-requires-clause-cells g c = c.requires.state.cells

pub make_instance-requires-clause-space : goal.make_instance-requires-clause-space
make_instance-requires-clause-space g c =
    let m = c.args.memory.now in
    let e = c.args.engine in
    after_made (λ v. has_space v Instance (cells_of e.class) ≡ true) (creation_refusal m (state_array e m)) m c.make_state.new.memory (state_array e m)
    (λ none. space_behind e m (sym c.has_space_for_both.ensures ∙ c.if-not-has_space_for_both.false)) (Ok c.in_ok-array.array) c.in_ok-array.ensures

pub make_instance-requires-clause-room : goal.make_instance-requires-clause-room
make_instance-requires-clause-room g c =
    let m = c.args.memory.now in
    let e = c.args.engine in
    after_made (λ v. lacks_capacity v (touch.HeapEnd ∷ touch.NewCell 0 ∷ touch.NewCell 1 ∷ []) ≡ false) (creation_refusal m (state_array e m)) m
    c.make_state.new.memory (state_array e m) (λ none. room_left e m none (sym c.keeps_no_cells.ensures ∙ c.if-not-keeps_no_cells.false))
    (Ok c.in_ok-array.array) c.in_ok-array.ensures

pub returns-in-Err : goal.returns-in-Err
returns-in-Err g c = cut_later c.args.engine c.args.linked.now c.args.memory.now c.make_state.new.memory c.make_instance.new.memory c.in_ok-array.array
    (sym c.is_in_table.ensures ∙ c.if-not-is_in_table.false) (sym c.has_space_for_both.ensures ∙ c.if-not-has_space_for_both.false)
    (sym c.keeps_no_cells.ensures ∙ c.if-not-keeps_no_cells.false) c.in_ok-array.ensures c.in-Err.ensures

pub returns-in-Ok : goal.returns-in-Ok
returns-in-Ok g c = grind (arith, in_two_steps)
