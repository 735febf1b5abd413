-- A PIN gets another value.
use Rattle.std.specs.Prelude.{ℕ, nat_lt, false, List, [], ◌∷◌, ◌++◌, length, if◌then◌else◌, Option, Result, Ok, Err}
use Rattle.jc_heap.specs.declared.place.Place.{Place}
use Rattle.jc_heap.specs.declared.place.Place.TheVariants.{Cell}
use Rattle.jc_heap.specs.declared.refusal.HeapRefusal.{HeapRefusal}
use Rattle.jc_heap.specs.declared.refusal.ChangeRefusal.{ChangeRefusal}
use Rattle.jc_heap.specs.declared.refusal.ChangeRefusal.TheVariants as change
use Rattle.jc_heap.specs.Moves.{SetPlaces, refusal_of_places}
use Rattle.jc_heap.specs.Place.{places_of, cell_changes}
use Rattle.jc_memory.specs.State.{MemoryState, HeapMove, SetFlag}
use Rattle.jc_memory.specs.Programs.{Program, Finish, Perform, unless_else}
use Rattle.jc_heap.specs.Completions.{Completion, Completed, Torn}
use Rattle.jc_environment.specs.declared.pins.updates.PinRefusal.{PinRefusal}
use Rattle.jc_environment.specs.declared.pins.updates.PinRefusal.TheVariants.{StoreDown, CommitFull, IllegalValue, HeapFull}
use Rattle.jc_environment.specs.declared.pins.pin.PinRecord.{PinRecord}
use Rattle.jc_environment.specs.Pins.{record_of, counter, length_cell}

-- why a change is refused
abbrev pub pin_refusal_of : ChangeRefusal → PinRefusal
pin_refusal_of change.StoreDown = StoreDown
pin_refusal_of change.CommitFull = CommitFull

-- how a call ends that may be refused
abbrev pub after_pin : {A : Type 0} → Result A PinRefusal → MemoryState → Completion MemoryState (Result A PinRefusal)
after_pin (Ok a) s = Completed (Ok a) s
after_pin (Err StoreDown) s = Torn s
after_pin (Err CommitFull) s = Completed (Err CommitFull) s
after_pin (Err IllegalValue) s = Completed (Err IllegalValue) s
after_pin (Err HeapFull) s = Completed (Err HeapFull) s

-- an update as a change: the value, its length, and all tries
abbrev pub changes_of_update : PinRecord → ℕ → List ℕ → List (Place × ℕ)
changes_of_update pin r bytes = cell_changes pin.value 0 bytes ++ (Cell r length_cell, length bytes) ∷ (counter r, pin.limit) ∷ []

-- this, unless the transaction has no room for the change
abbrev pub unless_no_room : {A : Type 0} → Option HeapRefusal → Program (Result A PinRefusal) → Program (Result A PinRefusal)
unless_no_room refusal d = unless_else (λ reason. Finish (Err CommitFull)) refusal d

-- the value, its length and all tries are set as one change, and the flag is taken away; a value above the maximum is refused
unfoldable pub pin_update : MemoryState → ℕ → List ℕ → Program (Result (Unit {0}) PinRefusal)
pin_update s r bytes =
    let change = changes_of_update (record_of s r) r bytes in
    if nat_lt (record_of s r).maximum (length bytes) then Finish (Err IllegalValue) else
    unless_no_room (refusal_of_places s.heap (places_of change)) (Perform (HeapMove (SetPlaces change)) (Perform (SetFlag r false) (Finish (Ok tt))))
