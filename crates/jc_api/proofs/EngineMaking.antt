-- How the making of an object with a state ends.
use Rattle.std.proofs.Common.{◌≡◌, ◌∙◌, ℕ, Bool, true, Option, Some, None, Result, Ok, Err, IfOk, refl, sym, ap, subst, if◌then◌else◌}
use Rattle.std.proofs.lemmas.Option.{none-some}
use Rattle.jc_transient.specs.declared.cell.CellValue.{CellValue}
use Rattle.jc_transient.specs.declared.cell.ClearEvent.{ClearEvent}
use Rattle.jc_heap.specs.Completions.{Done, Torn, after_change, after_making}
use Rattle.jc_heap.specs.Moves.{Write}
use Rattle.jc_heap.specs.declared.place.Place.TheVariants as place
use Rattle.jc_heap.specs.declared.refusal.ChangeRefusal.{ChangeRefusal}
use Rattle.jc_heap.specs.declared.refusal.ChangeRefusal.TheVariants as change
use Rattle.jc_heap.specs.declared.refusal.HeapRefusal.{HeapRefusal}
use Rattle.jc_heap.specs.declared.refusal.HeapRefusal.TheVariants as making
use Rattle.jc_memory.specs.Cells.{cell_effect_in, cell_refusal_in, word_of}
use Rattle.jc_memory.specs.Making.{creation_move, creation_refusal, new_object, object_creation}
use Rattle.jc_memory.specs.Programs.{Completes, Executes, Finish, IsTornIn, Perform, bind, unless_refused}
use Rattle.jc_memory.specs.State.{HeapMove, MemoryState, apply_effect}
use Rattle.jc_memory.specs.declared.making.NewObject.{NewObject}
use Rattle.jc_memory.proofs.ProgramLemmas.{bind_cut, bind_made}
use Rattle.jc_frames.specs.declared.cell.Cell.TheVariants.{Reference}
use Rattle.jc_frames.specs.Reasons.{buffer_full, no_resource}
use Rattle.jc_linker.specs.Values.{Packages}
use Rattle.jc_world.specs.declared.native_result.NativeResult.TheVariants.{ReturnValue}
use Rattle.jc_world.specs.NativeCalls.{NativeProgram, code_fault, return_value, throw_exception, unless}
use Rattle.jc_api.specs.Factory.{cell_update, engine_creation, factory_call, has_space_for_both, instance_creation, is_in_table, keeps_no_cells, state_array}
use Rattle.jc_api.specs.declared.factory.NewEngine.{NewEngine}
use Rattle.jc_api.proofs.States.{done_refused}

-- ---- the array

-- where it was made, this is so of the memory that is left
pub after_made : (R : MemoryState → Type 0) (reason : Option HeapRefusal) (m new : MemoryState) (o : NewObject)
    → (reason ≡ None → R (apply_effect (HeapMove (creation_move o.event o)) m)) → (result : Result ℕ HeapRefusal)
    → Executes (unless_refused reason (object_creation o (λ r. Finish (Done r)))) m (after_making result new) → IfOk result (λ r. R new)
after_made R None m new o so (Ok r) did = subst R (sym did.2.1) (so refl)
after_made R (Some why) m new o so (Ok r) did = absurd (done_refused r why did.0)
after_made R reason m new o so (Err e) did = tt

-- it was made, since there was no reason against it
pub made_alone : (reason : Option HeapRefusal) (m new : MemoryState) (o : NewObject) (r : ℕ)
    → Completes (unless_refused reason (object_creation o (λ r. Finish (Done r)))) m (Done r) new
    → (reason ≡ None) × Completes (object_creation o Finish) m r new
made_alone None m new o r did = (refl, (did.0, did.1, (cc (did.2.0), did.2.1)))
made_alone (Some why) m new o r did = absurd (done_refused r why did.0)

-- ---- a cell of the instance

-- it was set
pub did_set : (event : Option ClearEvent) (reason : Option HeapRefusal) (s new : MemoryState) (r i : ℕ) (v : CellValue) → event ≡ None →
    Completes (unless_refused (cell_refusal_in event reason) (Perform (cell_effect_in event r i v) (Finish (Done (tt {0}))))) s (Done (tt {0})) new
    → new ≡ apply_effect (HeapMove (Write (place.Cell r i) (word_of v))) s
did_set None None s new r i v kept did = did.1
did_set None (Some why) s new r i v kept did = absurd (done_refused tt why did.0)
did_set (Some event) reason s new r i v kept did = absurd (none-some event (sym kept))

-- or the store was cut, where there was room
pub cut_set : (event : Option ClearEvent) (reason : Option HeapRefusal) (s new : MemoryState) (r i : ℕ) (v : CellValue) (e : ChangeRefusal) → event ≡ None
    → reason ≡ None →
    Executes (unless_refused (cell_refusal_in event reason) (Perform (cell_effect_in event r i v) (Finish (Done tt)))) s
    (after_change {A = Unit {0}} (Err e) new) → IsTornIn (cell_update r i (word_of v)) s new
cut_set None None s new r i v change.StoreDown kept none cut = cut
cut_set None None s new r i v change.CommitFull kept none did = absurd (done_refused (tt {0}) making.CommitFull (sym did.0))
cut_set None (Some why) s new r i v e kept none cut = absurd (none-some why (sym none))
cut_set (Some event) reason s new r i v e kept none cut = absurd (none-some event (sym kept))

-- ---- the whole call

-- a call with all space and room makes the object
pub factory_is : (e : NewEngine) (p : Packages) (m : MemoryState) → is_in_table e.class p ≡ true → has_space_for_both e m ≡ true → keeps_no_cells e m ≡ true
    → creation_refusal m (state_array e m) ≡ None → factory_call (Ok e) p m ≡ engine_creation e p m
factory_is e p m there space cells room =
    ap (λ (b : Bool). if b then (if has_space_for_both e m then (if keeps_no_cells e m then unless (creation_refusal m (state_array e m)) (engine_creation e p m)
    else throw_exception buffer_full) else throw_exception no_resource) else code_fault) there
    ∙ ap (λ (b : Bool). if b then (if keeps_no_cells e m then unless (creation_refusal m (state_array e m)) (engine_creation e p m)
    else throw_exception buffer_full) else throw_exception no_resource) space
    ∙ ap (λ (b : Bool). if b then unless (creation_refusal m (state_array e m)) (engine_creation e p m) else throw_exception buffer_full) cells
    ∙ ap (λ o. unless o (engine_creation e p m)) room

-- it was cut after the array was made
pub cut_later : (e : NewEngine) (p : Packages) (m mid new : MemoryState) (array : ℕ) → is_in_table e.class p ≡ true → has_space_for_both e m ≡ true
    → keeps_no_cells e m ≡ true → Completes (new_object m (state_array e m)) m (Done array) mid → IsTornIn (instance_creation e array p mid) mid new
    → IsTornIn (factory_call (Ok e) p m) m new
cut_later e p m mid new array there space cells made cut =
    let alone = made_alone (creation_refusal m (state_array e m)) m mid (state_array e m) array made in
    let ends : ℕ → MemoryState → NativeProgram = λ r w. return_value (ReturnValue (Reference r)) in
    let more : ℕ → MemoryState → NativeProgram = λ a v. bind (instance_creation e a p v) v ends in
    subst (λ d. IsTornIn d m new) (sym (factory_is e p m there space cells alone.0))
    (bind_made more (object_creation (state_array e m) Finish) m mid array (Torn new) alone.1 (bind_cut ends (instance_creation e array p mid) mid new cut))
