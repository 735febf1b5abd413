-- What is read of a package after the end of its load.
use Rattle.std.specs.Prelude.{ℕ, ◌≡◌, ◌<◌, false, List, IfSome, Some, Ok}
use Rattle.std.specs.List.{All}
use Rattle.jc_cap.specs.declared.texts.LoadedComponents.{LoadedComponents}
use Rattle.jc_heap.specs.declared.object.Kind.{Kind}
use Rattle.jc_heap.specs.Heap.{HeapState}
use Rattle.jc_heap.specs.HeapLaws.{AreConsistent, IsConsistentHeap}
use Rattle.jc_heap.specs.Moves.{AddPackage}
use Rattle.jc_heap.specs.Package.{add_package}
use Rattle.jc_memory.specs.State.{MemoryState, HeapMove, apply_effect}
use Rattle.jc_linker.specs.Values.{Packages}
use Rattle.jc_platform.specs.Tokens.{Tokens}
use Rattle.jc_linker.specs.Linking.{with_package}
use Rattle.jc_packages.specs.RecordContents.{parts_of}
use Rattle.jc_packages.specs.PendingPackages.{PendingPackageValue, linked_components}
use Rattle.jc_packages.specs.Reading.{packages_of}
use Rattle.law_soundness.specs.StableReading.{IsReadAs}

-- numbers that are bytes
abbrev pub AreBytes : List ℕ → Type 0
AreBytes text = All (λ b. b < 256) text

-- components of bytes
pub record IsReadable (load : LoadedComponents) : Type 0 where
  pub header : IfSome load.header AreBytes
  pub directory : IfSome load.directory AreBytes
  pub applets : IfSome load.applets AreBytes
  pub imports : IfSome load.imports AreBytes
  pub pool : IfSome load.pool AreBytes
  pub classes : IfSome load.classes AreBytes
  pub methods : IfSome load.methods AreBytes
  pub statics : IfSome load.statics AreBytes
  pub exports : IfSome load.exports AreBytes

-- Of a heap from which these packages are read, and to which one is added that was put together of components and linked onto them, the
-- packages with this one are read, whatever its arrays and its image are. So they are of a memory outside a transaction
pub record LoadedPackagesReadBack : Type 0 where
  pub heap : (t : Tokens) (p : Packages) (load : LoadedComponents) (q : PendingPackageValue) (h : HeapState) (arrays : List (Kind × List ℕ)) (image : List ℕ)
      → IsReadable load → linked_components p load ≡ Ok q → IsConsistentHeap h → packages_of t h ≡ Some p →
      packages_of t (add_package h (parts_of q.texts) arrays image) ≡ Some (with_package p q.linked)
  pub memory : (t : Tokens) (p : Packages) (load : LoadedComponents) (q : PendingPackageValue) (m : MemoryState) (arrays : List (Kind × List ℕ))
      (image : List ℕ) → IsReadable load → linked_components p load ≡ Ok q → AreConsistent m.heap → m.heap.begun ≡ false → IsReadAs t p m →
      IsReadAs t (with_package p q.linked) (apply_effect (HeapMove (AddPackage (parts_of q.texts) arrays image)) m)
