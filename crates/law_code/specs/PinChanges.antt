-- PINs that the open transaction changes.
use Rattle.std.specs.Prelude.{ℕ, ◌≡◌, true}
use Rattle.jc_heap.specs.Heap.{goes_back}
use Rattle.jc_heap.specs.Place.{place_at}
use Rattle.jc_memory.specs.State.{MemoryState}
use Rattle.jc_environment.specs.Pins.{counter}

-- a change of the open transaction has set the counter of a PIN, or the PIN was born in it
abbrev pub IsChanged : MemoryState → ℕ → Type 0
IsChanged s r = goes_back s.heap (place_at s.heap.now (counter r)) ≡ true
