-- The order of transactions, and what a loss of power, or an abort, leaves.
use Rattle.std.specs.Prelude.{ℕ, List, Option, ◌≡◌, ◌⊎◌, ◌++◌, true, false, [], ◌∷◌, if◌then◌else◌, slice_index}
use Rattle.jc_memory.specs.State.{MemoryState, Effect, HeapMove, apply_effect, apply_effects, moves_of}
use Rattle.jc_memory.specs.Reading.{AllDue, HasTracePrefix, HasTrace}
use Rattle.jc_linker.specs.Values.{Packages}
use Rattle.jc_frames.specs.Frames.{Frames}
use Rattle.jc_interp.specs.declared.attacks.Attack.{Attack}
use Rattle.jc_interp.specs.Step.{machine_step}
use Rattle.jc_interp.specs.Run.{run_of}
use Rattle.law_code.specs.Orderly.{KeepsTransactionOrder, MayBeSetForGood}
use Rattle.jc_heap.specs.Heap.{HeapState, goes_back, heap_item_at, is_allocated}
use Rattle.jc_heap.specs.Place.{place_at, set_place}
use Rattle.jc_heap.specs.Moves.{WriteNonAtomic, Begin, Abort, IsInside}
use Rattle.jc_memory.specs.Programs.{Program, Completes, TearLeaves}
use Rattle.jc_heap.specs.declared.place.Place.TheVariants.{Cell}
use Rattle.jc_heap.specs.Object.{Item, cells_of, header_only}

-- each step and each run is orderly, of whatever code, in whatever frames and memory, and whatever attack comes
pub record CodeIsOrderly : Type 0 where
  pub step : (lent : List ℕ) (p : Packages) (s : Frames) (m : MemoryState) → AllDue KeepsTransactionOrder (machine_step lent p s m) m
  pub run : (attack : Option Attack) (budget : ℕ) (lent : List ℕ) (p : Packages) (s : Frames) (m : MemoryState)
      → AllDue KeepsTransactionOrder (run_of attack budget lent p s m) m

-- ---- what a loss of power, or an abort, leaves

-- these effects make of one saved heap the other: a PIN's counter and an element of an array of bytes are set where one of them sets
-- them for good, until the transaction has changed their word itself; all else stays
abbrev pub SavedHeapAfter : List Effect → MemoryState → HeapState → HeapState → Type 0
SavedHeapAfter [] s old new = new ≡ old
SavedHeapAfter (HeapMove (WriteNonAtomic place v) ∷ es) s old new =
    MayBeSetForGood s place × SavedHeapAfter es (apply_effect (HeapMove (WriteNonAtomic place v)) s)
    (if goes_back s.heap (place_at s.heap.now place) then old else set_place old place v) new
SavedHeapAfter (e ∷ es) s old new = SavedHeapAfter es (apply_effect e s) old new

-- with these effects a transaction began, which they leave open: the heap is the one that it found, but for what was set for good
abbrev pub IsHeapFound : List Effect → MemoryState → HeapState → Type 0
IsHeapFound es s h = (before : List Effect) × (during : List Effect) × (es ≡ before ++ (HeapMove Begin ∷ during)) × IsInside (moves_of during) ×
    ((apply_effects before s).heap.begun ≡ false) × SavedHeapAfter during (apply_effect (HeapMove Begin) (apply_effects before s))
    (apply_effects before s).heap.now h

-- the transaction was open before these effects, which stay within it: the heap is the one that was saved, but for what was set for good
abbrev pub IsHeapSaved : List Effect → MemoryState → HeapState → Type 0
IsHeapSaved es s h = IsInside (moves_of es) × SavedHeapAfter es s s.heap.durable h

-- after these effects a loss leaves this heap: the one that the open transaction found, but for what was set for good; the heap as it
-- is, where none is open
abbrev pub TearLeavesAfter : List Effect → MemoryState → HeapState → Type 0
TearLeavesAfter es s h =
    let end = apply_effects es s in
    ((end.heap.begun ≡ false) × (h ≡ end.heap.now)) ⊎ ((end.heap.begun ≡ true) × (IsHeapSaved es s h ⊎ IsHeapFound es s h))

-- where no transaction is open a loss leaves the heap as it is
abbrev pub IsDurableOutside : MemoryState → Type 0
IsDurableOutside s = s.heap.begun ≡ false → s.heap.durable ≡ s.heap.now

-- the first law, of all that is done by orderly effects: within the open transaction what was saved stays, but for what was set for good;
-- what a loss leaves after each beginning of it; that an abort leaves the same; and that a loss within it is one after
-- such a beginning
pub record TransactionsAreAtomic (A : Type 0) : Type 0 where
  pub within : (d : Program A) (s : MemoryState) (es : List Effect) → AllDue KeepsTransactionOrder d s → s.heap.begun ≡ true → HasTracePrefix d s es
      → IsInside (moves_of es) →
      SavedHeapAfter es s s.heap.durable (apply_effects es s).heap.durable
  pub behind : (d : Program A) (s : MemoryState) (es : List Effect) → AllDue KeepsTransactionOrder d s → IsDurableOutside s → HasTracePrefix d s es
      → TearLeavesAfter es s (apply_effects es s).heap.durable
  pub aborted : (s : MemoryState) → (apply_effect (HeapMove Abort) s).heap.now ≡ s.heap.durable
  pub lost : (d : Program A) (s : MemoryState) (passed : ℕ) (h : HeapState) → AllDue KeepsTransactionOrder d s → IsDurableOutside s → TearLeaves d s passed h
      → (es : List Effect) × HasTracePrefix d s es × TearLeavesAfter es s h
  pub done : (d : Program A) (s new : MemoryState) (a : A) → AllDue KeepsTransactionOrder d s → IsDurableOutside s → Completes d s a new →
      (es : List Effect) × HasTrace d s es a × (new ≡ apply_effects es s) × TearLeavesAfter es s new.heap.durable

-- ---- heaps that differ in what was set for good alone

-- one of these effects sets this cell for good: it counts the tries of a PIN, or is of a non-atomic call
abbrev pub SetForGood : List Effect → ℕ → ℕ → Type 0
SetForGood [] r i = ⊥
SetForGood (HeapMove (WriteNonAtomic place v) ∷ es) r i = (place ≡ Cell r i) ⊎ SetForGood es r i
SetForGood (e ∷ es) r i = SetForGood es r i

-- what stands at an address is as it was, but for cells that were set for good
pub record IsSameButSet (es : List Effect) (r : ℕ) (old new : Item) : Type 0 where
  pub header : header_only new ≡ header_only old
  pub cells : (i : ℕ) → (SetForGood es r i → ⊥) → slice_index (cells_of new) i ≡ slice_index (cells_of old) i

-- two heaps are the same, with their text, packages, applets and ends, but for such cells
pub record SameButSet (es : List Effect) (old new : HeapState) : Type 0 where
  pub rest : record new { items = old.items } ≡ old
  pub stands : (r : ℕ) → is_allocated new r ≡ is_allocated old r
  pub items : (r : ℕ) → IsSameButSet es r (heap_item_at old r) (heap_item_at new r)

-- what was saved and what it became differ so
abbrev pub StaysSameButSet : Type 0
StaysSameButSet = (es : List Effect) (s : MemoryState) (old new : HeapState) → SavedHeapAfter es s old new → SameButSet es old new
