-- New objects.
use Rattle.std.specs.Prelude.{ℕ, Option, Some, None}
use Rattle.jc_transient.specs.declared.cell.ClearEvent.{ClearEvent}
use Rattle.jc_heap.specs.declared.refusal.HeapRefusal.{HeapRefusal}
use Rattle.jc_heap.specs.Moves.{Move, AddTransient, new_move, refusal_of_transient, refusal_of_object as no_persistent}
use Rattle.jc_heap.specs.Completions.{Attempt, Done}
use Rattle.jc_memory.specs.declared.making.NewObject.{NewObject}
use Rattle.jc_transient.specs.Owners.{owner_number}
use Rattle.jc_memory.specs.State.{MemoryState, HeapMove}
use Rattle.jc_memory.specs.Programs.{Program, Finish, Perform, Choose, unless_refused}

-- the move that makes an object that is to be kept so
abbrev pub creation_move : Option ClearEvent → NewObject → Move
creation_move None o = new_move o.kind o.class (owner_number o.owner) o.length
creation_move (Some event) o = AddTransient o.kind event o.class (owner_number o.owner) o.length

-- why it can't be made
abbrev pub creation_refusal_in : Option ClearEvent → MemoryState → NewObject → Option HeapRefusal
creation_refusal_in None s o = no_persistent s.heap o.kind o.length
creation_refusal_in (Some event) s o = refusal_of_transient s.heap event o.length

-- why an object can't be made: no space in its event's area, no space in the heap, no room in the transaction
abbrev pub creation_refusal : MemoryState → NewObject → Option HeapRefusal
creation_refusal s o = creation_refusal_in o.event s o

-- it is made, under a new reference, and then the rest follows
abbrev pub object_creation : {A : Type 0} → NewObject → (ℕ → Program A) → Program A
object_creation o rest = Choose (λ r. Perform (HeapMove (creation_move o.event o)) (rest r))

-- what making an object may do
abbrev pub new_object : MemoryState → NewObject → Program (Attempt ℕ)
new_object s o = unless_refused (creation_refusal s o) (object_creation o (λ r. Finish (Done r)))
