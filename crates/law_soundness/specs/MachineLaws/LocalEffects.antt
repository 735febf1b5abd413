-- Effects that leave a machine between two instructions as it is: registry, transaction and installation.
use Rattle.std.specs.Prelude.{◌≡◌, ℕ, false, List, [], ◌∷◌}
use Rattle.jc_heap.specs.declared.place.Place.{Place}
use Rattle.jc_heap.specs.declared.place.Place.TheVariants.{Cell, Static, Registry, AppletCount}
use Rattle.jc_heap.specs.Moves.{Write, SetPlaces, WriteNonAtomic, AddPackage, Begin, Commit, Abort}
use Rattle.jc_memory.specs.State.{MemoryState, Effect, HeapMove, SetRegisters, apply_effect}
use Rattle.jc_frames.specs.Frames.{Caller}
use Rattle.jc_heap.specs.HeapLaws.{IsConsistentHeap}
use Rattle.law_soundness.specs.LivingReferences.{KeepsReferences}
use Rattle.law_soundness.specs.MemoryLaws.State.{IsSteady}
use Rattle.law_soundness.specs.Machines.{KnowOwners}

-- a place that is none of the registry's
abbrev pub IsElsewhere : Place → Type 0
IsElsewhere (Cell r i) = Unit {0}
IsElsewhere (Static r j) = Unit {0}
IsElsewhere (Registry i) = ⊥
IsElsewhere AppletCount = ⊥

abbrev pub AreElsewhere : List (Place × ℕ) → Type 0
AreElsewhere [] = Unit {0}
AreElsewhere (c ∷ cs) = IsElsewhere c.0 × AreElsewhere cs

-- an effect registers nothing, neither begins nor ends a transaction, and leaves the installation
abbrev pub IsLocalEffect : Effect → MemoryState → Type 0
IsLocalEffect (HeapMove (Write place v)) m = IsElsewhere place
IsLocalEffect (HeapMove (SetPlaces changes)) m = AreElsewhere changes
IsLocalEffect (HeapMove (WriteNonAtomic place v)) m = IsElsewhere place
IsLocalEffect (HeapMove (AddPackage components arrays rest)) m = ⊥
IsLocalEffect (HeapMove Begin) m = ⊥
IsLocalEffect (HeapMove Commit) m = ⊥
IsLocalEffect (HeapMove Abort) m = ⊥
IsLocalEffect (SetRegisters registers) m = registers.installation ≡ m.registers.installation
IsLocalEffect e m = Unit {0}

-- after such an effect the memory stands as between two instructions, where it stood so, owners that were known are known, and what
-- referred refers
pub record LocalEffectsStay : Type 0 where
  pub steady : (e : Effect) (m : MemoryState) → IsLocalEffect e m → (m.heap.begun ≡ false → m.heap.now ≡ m.heap.durable) → IsSteady m
      → IsSteady (apply_effect e m)
  pub owners : (e : Effect) (m : MemoryState) (callers : List Caller) → IsLocalEffect e m → (m.heap.begun ≡ false → m.heap.now ≡ m.heap.durable)
      → KnowOwners callers m → KnowOwners callers (apply_effect e m)
  pub references : (e : Effect) (m : MemoryState) → IsLocalEffect e m → IsConsistentHeap m.heap.now
      → KeepsReferences m.heap.now (apply_effect e m).heap.now
