-- Guesses that are not the value of a PIN.
use Rattle.std.specs.Prelude.{ℕ, ◌-◌, ◌≡◌, false, List, Option}
use Rattle.jc_heap.specs.Heap.{set_cell}
use Rattle.jc_memory.specs.State.{MemoryState}
use Rattle.jc_memory.specs.Programs.{Completes}
use Rattle.jc_environment.specs.Pins.{record_of}
use Rattle.jc_environment.specs.Pins.Checks.{pin_check}
use Rattle.law_code.specs.PinChanges.{IsChanged}

-- a guess at a PIN that the open transaction has not changed takes a try where it is wrong, from the heap as it is and from
-- the one that is saved: neither an abort nor a loss of power gives it back
abbrev pub TakeATry : Type 0
TakeATry = (s new : MemoryState) (r : ℕ) (guess : Option (List ℕ)) → (IsChanged s r → ⊥) → ((record_of s r).tries ≡ 0 → ⊥)
    → Completes (pin_check s r guess) s false new →
    (new.heap.now ≡ set_cell s.heap.now r 2 ((record_of s r).tries - 1)) × (new.heap.durable ≡ set_cell s.heap.durable r 2 ((record_of s r).tries - 1))
