-- The state of a message under a hash function, between two calls.
use Rattle.std.specs.Prelude.{ℕ, ◌≡◌, ◌/◌, List}
use Rattle.jc_digests.specs.Kept.{state_after, state_size}
use Rattle.jc_digests.specs.declared.kept.HashAlgorithm.{HashAlgorithm}
use Rattle.jc_memory.specs.State.{MemoryState}
use Rattle.jc_world.specs.Arrays.{bytes_in}
use Rattle.jc_world.specs.declared.arrays.Stretch.{Stretch}
use Rattle.jc_api.specs.Changing.{IsState}
use Rattle.jc_api_keys.specs.Receivers.{bytes_of_state}
use Rattle.jc_api_keys.specs.declared.digest_states.RunningDigest.{RunningDigest}

-- how many shorts a state has: hash value, open block and length of the message by their bytes
abbrev pub digest_shorts : HashAlgorithm → ℕ
digest_shorts a = state_size a / 2

-- these cells of its state are there
pub record IsRunning (m : MemoryState) (own : RunningDigest) : Type 0 where
  pub there : IsState m own.state
  pub all : own.state.count ≡ digest_shorts own.algorithm

-- the bytes of the state once these elements follow
abbrev pub bytes_after : MemoryState → RunningDigest → Stretch → List ℕ
bytes_after m own e = state_after own.algorithm (bytes_of_state m own.state) (bytes_in m e)
