-- A PIN is reset.
use Rattle.std.specs.Prelude.{ℕ, false, if◌then◌else◌}
use Rattle.jc_transient.specs.State.{flag_of}
use Rattle.jc_memory.specs.State.{MemoryState, SetFlag}
use Rattle.jc_memory.specs.Programs.{Program, Finish, Perform}
use Rattle.jc_environment.specs.Pins.{tries_refill}

-- the flag is taken away, and all tries are given back
abbrev pub pin_unblock : MemoryState → ℕ → Program (Unit {0})
pin_unblock s r = Perform (SetFlag r false) (tries_refill s r (Finish tt))

-- the same, where the value was given
unfoldable pub pin_reset : MemoryState → ℕ → Program (Unit {0})
pin_reset s r = if flag_of s.ram r then pin_unblock s r else Finish tt
