use Rattle.std.proofs.Common.{◌≡◌, false, List, [], ◌∷◌, ap, sym, ◌∙◌, arith}
use Rattle.jc_heap.specs.declared.touch.Touch.{Touch}
use Rattle.jc_heap.specs.declared.touch.Touch.TheVariants.{HeapEnd}
use Rattle.jc_heap.specs.Touch.{touched_cells}
use Rattle.jc_memory.specs.CommitCapacity.{lacks_capacity}
use Rattle.jc_memory.proofs.Touched.{room_first}
use Rattle.jc_environment.specs.Pins.{cell_count, limit_cell}
use Rattle.jc_environment.specs.Pins.PinInit.{touched_by_init}
use Rattle.jc_environment.proofs.pins.pin_init.init.Goals as goal

pub make_within_capacity-requires-clause-room : goal.make_within_capacity-requires-clause-room
make_within_capacity-requires-clause-room g c =
    let m = c.args.memory.now in
    let room : lacks_capacity m (touched_by_init c.args.pin) ≡ false = ap (λ (ts : List Touch). lacks_capacity m ts) (sym c.touched_by_init.ensures)
    ∙ sym c.lacks_capacity.ensures ∙ c.if-lacks_capacity.false in
    room_first m (HeapEnd ∷ []) (touched_cells c.args.pin limit_cell cell_count) room

pub set_record-requires-clause-room : goal.set_record-requires-clause-room
set_record-requires-clause-room g c =
    let m = c.args.memory.now in
    let room : lacks_capacity m (touched_by_init c.args.pin) ≡ false = ap (λ (ts : List Touch). lacks_capacity m ts) (sym c.touched_by_init.ensures)
    ∙ sym c.lacks_capacity.ensures ∙ c.if-lacks_capacity.false in
    let there = c.requires.itself.cells in
    c.in_ok-value.ensures.left (touched_cells c.args.pin limit_cell cell_count)
    (omega (arith, there), (omega (arith, there), (omega (arith, there), (omega (arith, there), (omega (arith, there), tt))))) room
