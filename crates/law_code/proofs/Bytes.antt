-- Elements of an array of bytes that are set one after another, each for good.
use Rattle.std.proofs.Common.{◌≡◌, ℕ, suc, ◌+◌, ◌≤◌, List, [], ◌∷◌, length, map, Option, Some, None, refl, ◌∙◌, ap, arith}
use Rattle.jc_transient.specs.declared.cell.ClearEvent.{ClearEvent}
use Rattle.jc_transient.specs.Cell.{number_of}
use Rattle.jc_heap.specs.declared.object.Facts.{Facts}
use Rattle.jc_heap.specs.declared.object.Kind.TheVariants.{ByteArray}
use Rattle.jc_heap.specs.declared.place.Place.TheVariants.{Cell}
use Rattle.jc_heap.specs.Heap.{facts}
use Rattle.jc_heap.specs.Moves.{WriteNonAtomic}
use Rattle.jc_heap.proofs.Laws.{facts-set_cell}
use Rattle.jc_memory.specs.State.{MemoryState, Effect, HeapMove, SetTransient, apply_effect}
use Rattle.jc_memory.specs.Changes.{nonatomic_store, nonatomic_store_in, nonatomic_writes}
use Rattle.jc_memory.specs.Reading.{AllDue}
use Rattle.law_code.specs.Bytes.{IsByteElement}

-- what is due of each element of the array is due of them all
module _ (P : Effect → MemoryState → Type 0) (r : ℕ)
    (each : (i x : ℕ) (v : MemoryState) → IsByteElement v.heap.now (Cell r i) → P (HeapMove (WriteNonAtomic (Cell r i) x)) v) where
  writes_due : (words : List ℕ) (i : ℕ) (v : MemoryState) → (facts v.heap.now r).kind ≡ ByteArray → (facts v.heap.now r).event ≡ None
      → i + length words ≤ (facts v.heap.now r).length → AllDue P (nonatomic_writes r i words) v
  writes_due [] i v kind persistent within = tt
  writes_due (w ∷ words) i v kind persistent within =
      let same : facts (apply_effect (HeapMove (WriteNonAtomic (Cell r i) w)) v).heap.now r ≡ facts v.heap.now r = facts-set_cell v.heap.now r i w r in
      let long = ap (λ (f : Facts). f.length) same in (
        each i w v (record { array = r; index = i; is = refl; kind = kind; persistent = persistent; within = omega (arith, within) }),
        writes_due words (suc i) (apply_effect (HeapMove (WriteNonAtomic (Cell r i) w)) v) (ap (λ (f : Facts). f.kind) same ∙ kind)
            (ap (λ (f : Facts). f.event) same ∙ persistent) (omega (arith, within, long)),
      )

  -- so it is of a transient one, where it is due of all at once
  pub store_due : (words : List ℕ) (i : ℕ) (m : MemoryState) → (facts m.heap.now r).kind ≡ ByteArray → i + length words ≤ (facts m.heap.now r).length
      → P (SetTransient r i (map number_of words)) m → AllDue P (nonatomic_store m r i words) m
  store_due words i m kind within transient = by (facts m.heap.now r).event refl
    where
      by : (event : Option ClearEvent) → (facts m.heap.now r).event ≡ event → AllDue P (nonatomic_store_in event r i words) m
      by None is = writes_due words i m kind is within
      by (Some event) is = (transient, tt)
