-- A PIN is checked.
use Rattle.std.specs.Prelude.{ℕ, ◌-◌, ◌==◌, Bool, true, false, List, length, if◌then◌else◌, Option, Some, None}
use Rattle.std.specs.Str.{bytes_eq}
use Rattle.jc_memory.specs.State.{MemoryState, SetFlag, apply_effect}
use Rattle.jc_memory.specs.Programs.{Program, Finish, Perform, bind}
use Rattle.jc_memory.specs.Cells.{bytes_at}
use Rattle.jc_memory.specs.Changes.{nonatomic_write}
use Rattle.jc_environment.specs.Pins.{record_of, tries_refill, counter_cell}

-- these bytes are the value. There is none before the first update
abbrev pub is_value : MemoryState → ℕ → List ℕ → Bool
is_value s r bytes =
    let pin = record_of s r in
    if length bytes == 0 then false else (if length bytes == pin.length then bytes_eq bytes (bytes_at s pin.value 0 pin.length) else false)

-- once a try was taken: the value gives the tries back, and says so
abbrev pub comparison : MemoryState → ℕ → Option (List ℕ) → Program Bool
comparison s r None = Finish false
comparison s r (Some bytes) = if is_value s r bytes then tries_refill s r (Perform (SetFlag r true) (Finish true)) else Finish false

-- a try is taken, and the flag away, before anything is compared; without tries nothing is done
unfoldable pub pin_check : MemoryState → ℕ → Option (List ℕ) → Program Bool
pin_check s r guess =
    let before = apply_effect (SetFlag r false) s in
    let pin = record_of s r in
    if pin.tries == 0 then Finish false else Perform (SetFlag r false) (bind (nonatomic_write r counter_cell (pin.tries - 1)) before
    (λ u v. comparison v r guess))
