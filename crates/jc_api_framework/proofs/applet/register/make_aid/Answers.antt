use Rattle.std.proofs.Common.{ℕ, List, [], ◌∷◌, ◌++◌, refl, arith}
use Rattle.std.proofs.lemmas.Result.{err_from_is_err_and}
use Rattle.jc_heap.specs.Completions.{Completed, Torn}
use Rattle.jc_heap.specs.declared.object.Kind.TheVariants.{Instance}
use Rattle.jc_memory.specs.State.{MemoryState}
use Rattle.jc_memory.specs.CommitCapacity.{StayPut, cells_update}
use Rattle.jc_memory.specs.Making.{object_creation}
use Rattle.jc_memory.specs.Programs.{Program, Finish, bind}
use Rattle.jc_heap.specs.declared.touch.Touch.{Touch}
use Rattle.jc_heap.specs.declared.touch.Touch.TheVariants.{HeapEnd}
use Rattle.jc_heap.specs.Touch.{touched_cells, touched_new_cells}
use Rattle.jc_memory.proofs.Touched.{room_first}
use Rattle.jc_api_framework.specs.Applet.Register.{aid_cells, aid_object, aid_object_creation, touched_by_entry}
use Rattle.jc_memory.proofs.ProgramLemmas.{bind_made, in_two_steps}
use Rattle.jc_api_framework.specs.Aid.Cells.{cells_of_aid}
use Rattle.jc_api_framework.proofs.applet.register.make_aid.Goals as goal

-- each cell of an AID object has a word of its own
own_cells : (s : MemoryState) (n : ℕ) → StayPut s Instance (touched_new_cells aid_cells ++ touched_by_entry n)
own_cells s n = (refl, (refl, (refl, (refl, (refl, (refl, (refl, (refl, (refl, (tt, (tt, (tt, (tt, tt)))))))))))))

pub make_within_capacity-requires-clause-room : goal.make_within_capacity-requires-clause-room
make_within_capacity-requires-clause-room g c =
    room_first c.args.memory.now (HeapEnd ∷ []) (touched_new_cells aid_cells ++ touched_by_entry c.args.memory.now.heap.now.counts.1) c.requires.room

pub fill_aid-requires-clause-room : goal.fill_aid-requires-clause-room
fill_aid-requires-clause-room g c =
    let entry : List Touch = touched_by_entry c.args.memory.now.heap.now.counts.1 in
    room_first c.make_within_capacity.new.memory (touched_cells c.in_ok-made.made 0 aid_cells) entry
    (c.in_ok-made.ensures.left (touched_new_cells aid_cells ++ entry) (own_cells c.args.memory.now c.args.memory.now.heap.now.counts.1) c.requires.room)

pub returns-clause-left : goal.returns-clause-left
returns-clause-left g c =
    let entry : List Touch = touched_by_entry c.args.memory.now.heap.now.counts.1 in
    c.in_ok-fill_aid.ensures.left entry (c.in_ok-made.ensures.left (touched_new_cells aid_cells ++ entry) (own_cells c.args.memory.now c.args.memory.now.heap.now.counts.1) c.requires.room)

pub returns-in_err-made-clause-made : goal.returns-in_err-made-clause-made
unfolding aid_object_creation
returns-in_err-made-clause-made g c = grind (arith, in_two_steps)

-- what is done with the object once it is made
abbrev filled : List ℕ → ℕ → MemoryState → Program ℕ
filled aid r m = bind (cells_update r 0 (cells_of_aid aid)) m (λ u v. Finish r)

pub returns-in_err-fill_aid-clause-made : goal.returns-in_err-fill_aid-clause-made
unfolding aid_object_creation
returns-in_err-fill_aid-clause-made g c =
    let down = err_from_is_err_and c.from_residual-in_err-fill_aid.result c.from_residual-in_err-fill_aid.ensures.1 in
    let made = rw (c.class_word.ensures, c.platform.ensures) at c.in_ok-made.ensures.made in
    rw down.1 (bind_made (filled c.args.aid.now) (object_creation (aid_object c.args.linked.now) Finish) c.args.memory.now c.make_within_capacity.new.memory
    c.in_ok-made.made (Torn c.fill_aid.new.memory) made c.in_err-fill_aid.ensures.made)

pub returns-clause-made : goal.returns-clause-made
unfolding aid_object_creation
returns-clause-made g c =
    let made = rw (c.class_word.ensures, c.platform.ensures) at c.in_ok-made.ensures.made in
    bind_made (filled c.args.aid.now) (object_creation (aid_object c.args.linked.now) Finish) c.args.memory.now c.make_within_capacity.new.memory
    c.in_ok-made.made (Completed c.in_ok-made.made c.fill_aid.new.memory) made (refl, c.in_ok-fill_aid.ensures.made.1)
