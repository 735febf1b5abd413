-- What is read of a heap while a package is loaded.
use Rattle.std.specs.Prelude.{ℕ, ◌≡◌, false, List, Option, IfSome, Some}
use Rattle.jc_heap.specs.Heap.{HeapState}
use Rattle.jc_heap.specs.HeapLaws.{AreConsistent}
use Rattle.jc_memory.specs.Programs.{Completes, TearLeaves}
use Rattle.jc_memory.specs.State.{MemoryState}
use Rattle.jc_linker.specs.Values.{Packages}
use Rattle.jc_platform.specs.Tokens.{Tokens}
use Rattle.jc_packages.specs.Reading.{packages_of}
use Rattle.jc_packages.specs.declared.load.OpenLoad.{OpenLoad}
use Rattle.jc_packages.specs.LoadEnd.{LoadResult, end_of_load}
use Rattle.jc_packages.specs.Load.{empty_load, component_begin, component_end, component_append}
use Rattle.law_soundness.specs.StableReading.{IsReadAs}
use Rattle.law_soundness.specs.LoadedPackages.{AreBytes, IsReadable}

-- an open load whose components can be read of a record: what came is bytes
pub record IsOpenReadable (load : OpenLoad) : Type 0 where
  pub texts : IsReadable load.texts
  pub coming : IfSome load.coming (λ c. AreBytes c.bytes)

-- a load begins so, and stays so as components begin, as bytes come, and as components end
pub record LoadsAreReadable : Type 0 where
  pub new : IsOpenReadable empty_load
  pub begins : (tag : ℕ) (load : OpenLoad) → IsOpenReadable load → IsOpenReadable (component_begin tag load).1
  pub grows : (more : List ℕ) (load : OpenLoad) → AreBytes more → IsOpenReadable load → IsOpenReadable (component_append more load).1
  pub ends : (load : OpenLoad) → IsOpenReadable load → IsOpenReadable (component_end load).1

-- The packages that the end of a load leaves, outside a transaction, are those that are read of the memory that it leaves; of what a loss
-- of power within it leaves, those from before are read
pub record LoadEndsKeepReading : Type 0 where
  pub done : (t : Tokens) (p : Packages) (load : Option OpenLoad) (m new : MemoryState) (left : LoadResult) → IfSome load IsOpenReadable → AreConsistent m.heap
      → m.heap.begun ≡ false → IsReadAs t p m → Completes (end_of_load p m load) m left new →
      IsReadAs t left.packages new × IfSome left.load IsOpenReadable
  pub lost : (t : Tokens) (p : Packages) (load : Option OpenLoad) (m : MemoryState) (passed : ℕ) (h : HeapState) → IsReadAs t p m
      → TearLeaves (end_of_load p m load) m passed h
      → packages_of t h ≡ Some p
