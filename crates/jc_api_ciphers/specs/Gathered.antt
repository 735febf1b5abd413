-- Bytes that are gathered in a state: two bytes, how many there are, and room for as many as the longest modulus has.
use Rattle.std.specs.Int.{to_be_bytes, w16}
use Rattle.std.specs.Prelude.{ℕ, ◌-◌, ◌+◌, ◌*◌, List, ◌++◌, drop, length, min, replicate, slice_index, take}
use Rattle.jc_memory.specs.State.{MemoryState}
use Rattle.jc_world.specs.declared.arrays.Stretch.{Stretch}
use Rattle.jc_api_keys.specs.Receivers.{bytes_of_state}

-- what came: the bytes of a state say how many bytes that is, at most 512, and then what they are
abbrev pub count_in : List ℕ → ℕ
count_in bytes = min (slice_index bytes 0 * 256 + slice_index bytes 1) 512

abbrev pub gathered_in : List ℕ → List ℕ
gathered_in bytes = take (count_in bytes) (drop 2 bytes)

abbrev pub gathered : MemoryState → Stretch → List ℕ
gathered m state = gathered_in (bytes_of_state m state)

-- the bytes of a state that says this
abbrev pub state_of : List ℕ → List ℕ
state_of all = to_be_bytes w16 (length all) ++ (all ++ replicate (512 - length all) 0)
