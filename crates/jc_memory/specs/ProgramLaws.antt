-- Laws of what may be done, for answers of any type.
use Rattle.std.specs.Prelude.{ℕ, ◌≡◌, ◌⊎◌, ◌↔◌, true, List, if◌then◌else◌}
use Rattle.jc_heap.specs.Heap.{HeapState, is_allocated, HeapView, heap_after_abort, SameShape, KeepsBelowTop}
use Rattle.jc_heap.specs.Moves.{TornMovesLeave, apply_moves, Abort}
use Rattle.jc_memory.specs.State.{MemoryState, Effect, apply_effects, moves_of, IsNew, HeapMove, apply_effect}
use Rattle.jc_memory.specs.Programs.{Program, Completes, TearLeaves, IsTornIn, Executes, bind}
use Rattle.jc_heap.specs.Completions.{Completion}
use Rattle.jc_memory.specs.Reading.{HasTrace, HasTracePrefix}
use Rattle.jc_transient.specs.declared.cell.CellValue.TheVariants.{Reference}
use Rattle.jc_transient.specs.declared.cell.ClearEvent.{ClearEvent}
use Rattle.jc_transient.specs.Cell.{without_dead}
use Rattle.jc_transient.specs.State.{cell_at}
use Rattle.jc_heap.specs.WholeHeap.{IsReference}
use Rattle.jc_heap.specs.HeapLaws.{IsConsistentHeap}

-- two in a row: all of it was done where all of the first and then all of the second was; a loss within it is
-- one within the first, or one within the second after all of the first
pub record IsSequence (A B : Type 0) : Type 0 where
  pub done : (d : Program A) (more : A → MemoryState → Program B) (s new : MemoryState) (b : B) →
      Completes (bind d s more) s b new ↔ ((a : A) × (mid : MemoryState) × Completes d s a mid × Completes (more a mid) mid b new)
  pub lost : (d : Program A) (more : A → MemoryState → Program B) (s : MemoryState) (p : ℕ) (h : HeapState) →
      TearLeaves (bind d s more) s p h ↔ (TearLeaves d s p h ⊎ ((a : A) × (mid : MemoryState) × Completes d s a mid × TearLeaves (more a mid) mid p h))
  -- so it ends as the second does, where the first was done; and is cut where the first is
  pub made : (d : Program A) (more : A → MemoryState → Program B) (s mid : MemoryState) (a : A) (after : Completion MemoryState B) →
      Completes d s a mid → Executes (more a mid) mid after → Executes (bind d s more) s after
  pub cut : (d : Program A) (more : A → MemoryState → Program B) (s new : MemoryState) → IsTornIn d s new → IsTornIn (bind d s more) s new

-- what was done was done by its effects, one after the other, and by moves of the heap; and a loss of power
-- within it leaves the durable heap before one of the moves with which it begins
pub record IsByEffects (A : Type 0) : Type 0 where
  pub took : (d : Program A) (s new : MemoryState) (a : A) → Completes d s a new → (es : List Effect) × HasTrace d s es a × (new ≡ apply_effects es s)
  pub did : (d : Program A) (s : MemoryState) (es : List Effect) (a : A) → HasTrace d s es a → Completes d s a (apply_effects es s)
  pub heap : (es : List Effect) (s : MemoryState) → (apply_effects es s).heap ≡ apply_moves (moves_of es) s.heap
  pub lost : (d : Program A) (s : MemoryState) (p : ℕ) (h : HeapState) → TearLeaves d s p h
      → (es : List Effect) × HasTracePrefix d s es × TornMovesLeave (moves_of es) s.heap p h

-- a new reference is not null, and nothing stood there
abbrev pub IsFresh : Type 0
IsFresh = (h : HeapState) (r : ℕ) → IsNew h r → (r ≡ 0 → ⊥) × ((q : ℕ) → is_allocated h q ≡ true → q ≡ r → ⊥)

-- ---- dead references

-- the reference, or null where the heap has nothing there
abbrev pub live_or_null : HeapState → ℕ → ℕ
live_or_null h r = if is_allocated h r then r else 0

-- an abort leaves, of what stood, what stands below the top; so a reference that referred before it is null
-- after it at or above the top, which is where the heap has nothing; the abort itself makes each transient reference so.
-- That a reference in a frame or a transient cell referred before it is a premise here; law_theorems proves it of sessions.
pub record NullsDeadReferences : Type 0 where
  pub below : (v : HeapView) → IsConsistentHeap v.durable → SameShape v.durable v.now → KeepsBelowTop v.now (heap_after_abort v).now
  pub dead : (old new : HeapState) → KeepsBelowTop old new → (r : ℕ) → IsReference old r → without_dead new.top (Reference r) ≡ Reference (live_or_null new r)
  pub transient : (s : MemoryState) → IsConsistentHeap s.heap.durable → SameShape s.heap.durable s.heap.now → (event : ClearEvent) (place r : ℕ)
      → cell_at s.ram event place ≡ Reference r → IsReference s.heap.now r
      → cell_at (apply_effect (HeapMove Abort) s).ram event place ≡ Reference (live_or_null (apply_effect (HeapMove Abort) s).heap.now r)
