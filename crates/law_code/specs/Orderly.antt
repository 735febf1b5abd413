-- The order of transactions: what an effect may do while one is open, and while none is.
use Rattle.std.specs.Prelude.{ℕ, ◌≡◌, ◌⊎◌, true, false}
use Rattle.jc_heap.specs.declared.place.Place.{Place}
use Rattle.jc_heap.specs.Moves.{WriteNonAtomic, Begin, Commit, Abort}
use Rattle.jc_memory.specs.State.{MemoryState, Effect, HeapMove}
use Rattle.jc_environment.specs.Pins.{counter, is_pin}
use Rattle.law_code.specs.Bytes.{IsByteElement}

-- the place is the counter of a PIN's tries
abbrev pub IsCounter : MemoryState → Place → Type 0
IsCounter s place = (r : ℕ) × (place ≡ counter r) × (is_pin s r ≡ true)

-- the place may be set for good: it is such a counter, or an element of a persistent array of bytes
abbrev pub MayBeSetForGood : MemoryState → Place → Type 0
MayBeSetForGood s place = IsCounter s place ⊎ IsByteElement s.heap.now place

-- an effect keeps the order of transactions: it sets nothing else for good, begins one where none is open, and ends one where one is
abbrev pub KeepsTransactionOrder : Effect → MemoryState → Type 0
KeepsTransactionOrder (HeapMove (WriteNonAtomic place v)) s = MayBeSetForGood s place
KeepsTransactionOrder (HeapMove Begin) s = s.heap.begun ≡ false
KeepsTransactionOrder (HeapMove Commit) s = s.heap.begun ≡ true
KeepsTransactionOrder (HeapMove Abort) s = s.heap.begun ≡ true
KeepsTransactionOrder e s = Unit {0}
