-- A PIN is set up.
use Rattle.std.specs.Prelude.{ℕ, false, not, List, [], ◌∷◌, if◌then◌else◌, None, Result, Ok, Err}
use Rattle.jc_heap.specs.declared.object.Kind.TheVariants.{ByteArray}
use Rattle.jc_heap.specs.declared.place.Place.{Place}
use Rattle.jc_heap.specs.declared.place.Place.TheVariants.{Cell}
use Rattle.jc_heap.specs.declared.touch.Touch.{Touch}
use Rattle.jc_heap.specs.declared.touch.Touch.TheVariants.{HeapEnd}
use Rattle.jc_heap.specs.Moves.{SetPlaces}
use Rattle.jc_heap.specs.Touch.{touched_cells}
use Rattle.jc_memory.specs.declared.making.NewObject.{NewObject}
use Rattle.jc_memory.specs.State.{MemoryState, HeapMove, SetFlag}
use Rattle.jc_memory.specs.Programs.{Program, Finish, Perform}
use Rattle.jc_memory.specs.Making.{object_creation}
use Rattle.jc_memory.specs.CommitCapacity.{has_space, lacks_capacity}
use Rattle.jc_environment.specs.declared.pins.updates.PinRefusal.{PinRefusal}
use Rattle.jc_environment.specs.declared.pins.updates.PinRefusal.TheVariants.{CommitFull, HeapFull}
use Rattle.jc_environment.specs.Pins.{limit_cell, maximum_cell, counter_cell, length_cell, value_cell, cell_count}

-- the array for values of n bytes, which belongs to whom the code runs for
abbrev pub value_array : MemoryState → ℕ → NewObject
value_array s maximum = record { kind = ByteArray; event = None; class = 0; owner = s.registers.active; length = maximum }

-- the record of a PIN with all tries and no value
abbrev pub first_record : ℕ → ℕ → ℕ → ℕ → List (Place × ℕ)
first_record r limit maximum value =
    (Cell r limit_cell, limit) ∷ (Cell r maximum_cell, maximum) ∷ (Cell r counter_cell, limit) ∷ (Cell r length_cell, 0) ∷ (Cell r value_cell, value) ∷ []

-- the words that are changed: the heap's end, for the array, and the cells of the PIN
abbrev pub touched_by_init : ℕ → List Touch
touched_by_init r = HeapEnd ∷ touched_cells r limit_cell cell_count

-- the array is made, then the cells are set as one change, and the flag is taken away; before, room is asked for all of it
unfoldable pub pin_init : MemoryState → ℕ → ℕ → ℕ → Program (Result (Unit {0}) PinRefusal)
pin_init s r limit maximum =
    if not (has_space s ByteArray maximum) then Finish (Err HeapFull) else (if lacks_capacity s (touched_by_init r) then Finish (Err CommitFull) else
    object_creation (value_array s maximum) (λ value. Perform (HeapMove (SetPlaces (first_record r limit maximum value)))
    (Perform (SetFlag r false) (Finish (Ok tt)))))
