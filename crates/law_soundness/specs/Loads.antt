-- A load's package in the memory.
use Rattle.std.specs.Prelude.{ℕ, ◌≡◌, ◌<◌, false, List, length, Ok}
use Rattle.jc_cap.specs.declared.texts.LoadedComponents.{LoadedComponents}
use Rattle.jc_cap.specs.declared.texts.PackageBytes.{PackageBytes}
use Rattle.jc_words.specs.Layout.{most_packages}
use Rattle.jc_heap.specs.Heap.{HeapState}
use Rattle.jc_heap.specs.HeapLaws.{IsConsistentHeap}
use Rattle.jc_heap.specs.Moves.{Move, AddPackage}
use Rattle.jc_heap.specs.Package.{add_package}
use Rattle.jc_memory.specs.State.{MemoryState, Effect, HeapMove, apply_effect}
use Rattle.jc_linker.specs.Values.{Packages}
use Rattle.jc_linker.specs.Values.{LinkerComponents}
use Rattle.jc_linker.specs.Linking.{with_package}
use Rattle.law_code.specs.LinkedPackages.{AreLinked}
use Rattle.jc_packages.specs.RecordContents.{arrays_of, image_of, parts_of, statics_of}
use Rattle.jc_packages.specs.PendingPackages.{PendingPackageValue, linked_components}
use Rattle.law_soundness.specs.MachineLaws.Commands.{IsServed}
use Rattle.law_soundness.specs.MemoryLaws.Environment.{HasEnvironment}
use Rattle.law_soundness.specs.MemoryLaws.State.{IsSoundMemory, IsSoundUpTo, is_open}
use Rattle.law_soundness.specs.Separation.{StandApart}

-- the heap counts its packages
abbrev pub CountsPackages : HeapState → Type 0
CountsPackages h = h.counts.0 ≡ length h.packages

-- the heap with the record and the arrays of a package that is put together of these components
abbrev pub with_record : HeapState → PackageBytes → HeapState
with_record h t = add_package h (parts_of t) (arrays_of (statics_of t)) (image_of (statics_of t))

-- the move that adds it
abbrev pub load_move : PackageBytes → Move
load_move t = AddPackage (parts_of t) (arrays_of (statics_of t)) (image_of (statics_of t))

-- a heap that fits the packages and the one that a load brings fits them as before with that package's record after the others
abbrev pub RecordsFit : Type 0
RecordsFit = (most : ℕ) (p : Packages) (load : LoadedComponents) (q : PendingPackageValue) (h : HeapState) (own : ℕ) → linked_components p load ≡ Ok q
    → length h.packages ≡ length p.loaded → CountsPackages h → IsConsistentHeap h → own < h.top →
    IsSoundUpTo most (with_package p q.linked) h own → IsSoundUpTo most (with_package p q.linked) (with_record h q.texts) own

-- and what stands in it stands apart
pub record IsLaidOut (h : HeapState) : Type 0 where
  pub counted : CountsPackages h
  pub apart : StandApart h

-- so it is with both heaps of the memory
pub record AreLaidOut (m : MemoryState) : Type 0 where
  pub now : IsLaidOut m.heap.now
  pub durable : IsLaidOut m.heap.durable

-- each effect that fits a sound memory leaves it so
abbrev pub EffectsKeepLayout : Type 0
EffectsKeepLayout = (p : Packages) (e : Effect) (m : MemoryState) → IsServed p e m → IsSoundMemory p m → AreLaidOut m → AreLaidOut (apply_effect e m)

-- the memory is sound, the objects with which it begins are the runtime environment's, and its heaps are laid out
pub record IsSoundForLoads (p : Packages) (m : MemoryState) : Type 0 where
  pub sound : IsSoundMemory p m
  pub environment : HasEnvironment p m
  pub layout : AreLaidOut m

-- while no transaction and no installation is open, all this stays so after the move that adds the package that a load brings, with
-- that package linked onto the others
abbrev pub LoadsKeepSound : Type 0
LoadsKeepSound = (cs : List LinkerComponents) (p : Packages) (load : LoadedComponents) (q : PendingPackageValue) (m : MemoryState) → AreLinked cs p
    → linked_components p load ≡ Ok q →
    m.heap.begun ≡ false → is_open m.registers.installation ≡ false → length m.heap.now.packages < most_packages → IsSoundForLoads p m
    → IsSoundForLoads (with_package p q.linked) (apply_effect (HeapMove (load_move q.texts)) m)
