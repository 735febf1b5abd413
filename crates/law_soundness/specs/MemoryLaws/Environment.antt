-- The runtime environment's own objects.
use Rattle.std.specs.Prelude.{ℕ, ◌≡◌, ◌≤◌, ◌<◌, true, List, length, slice_index}
use Rattle.jc_environment.specs.Objects.{last_of}
use Rattle.jc_heap.specs.Heap.{HeapState, IsObject, facts}
use Rattle.jc_memory.specs.State.{MemoryState, Effect, apply_effect}
use Rattle.jc_linker.specs.Values.{Packages}
use Rattle.jc_packages.specs.Objects.{is_instance, is_object_address}
use Rattle.law_soundness.specs.MemoryLaws.Fit.{IsFit, IsPlatformClass}
use Rattle.law_soundness.specs.MemoryLaws.State.{IsSoundMemory}

-- the objects with which a heap begins, at these addresses, seventeen or more, are there, and the runtime environment's own; and its instances are of
-- classes of the platform
pub record AreEnvironmentObjects (p : Packages) (h : HeapState) (fixed : List ℕ) : Type 0 where
  pub long : 17 ≤ length fixed
  pub there : (k : ℕ) → k < length fixed → IsObject h (slice_index fixed k)
  pub first : (r : ℕ) → r ≤ last_of fixed → (facts h r).owner ≡ 0
  pub classes : (r : ℕ) → is_object_address h r ≡ true → is_instance (facts h r).kind ≡ true → (facts h r).owner ≡ 0 → IsPlatformClass p (facts h r).class

-- so it is in the heap as it is and in the one that a loss of power leaves
pub record HasEnvironment (p : Packages) (m : MemoryState) : Type 0 where
  pub now : AreEnvironmentObjects p m.heap.now m.fixed
  pub durable : AreEnvironmentObjects p m.heap.durable m.fixed

-- an effect that fits leaves it so
abbrev pub KeepsEnvironment : Type 0
KeepsEnvironment = (p : Packages) (e : Effect) (m : MemoryState) → IsFit p e m → IsSoundMemory p m → HasEnvironment p m → HasEnvironment p (apply_effect e m)
