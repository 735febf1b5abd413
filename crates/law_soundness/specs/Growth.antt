-- One more package.
use Rattle.std.specs.Prelude.{ℕ, ◌≡◌, ◌<◌, All, List, [], ◌∷◌, ◌++◌, Some, Ok, length}
use Rattle.jc_heap.specs.Heap.{HeapState}
use Rattle.jc_cap.specs.declared.texts.LoadedComponents.{LoadedComponents}
use Rattle.jc_linker.specs.Values.{Packages}
use Rattle.jc_linker.specs.Values.{LinkerComponents}
use Rattle.jc_linker.specs.Linking.{with_package}
use Rattle.jc_packages.specs.PendingPackages.{PendingPackageValue, linked_components}
use Rattle.law_code.specs.LinkedPackages.{AreLinked}
use Rattle.law_code.specs.ReadPackages.{AreRead}
use Rattle.law_soundness.specs.MemoryLaws.State.{IsSoundUpTo}
use Rattle.law_soundness.specs.GrowthLaws.{HaveAppletComponents}

-- what fits packages that were linked fits them with one more, which was prepared onto them
abbrev pub GrowthKeepsSound : Type 0
GrowthKeepsSound = (cs : List LinkerComponents) (most : ℕ) (p : Packages) (load : LoadedComponents) (q : PendingPackageValue) (h : HeapState) (own : ℕ)
    → AreLinked cs p → linked_components p load ≡ Ok q → length h.packages ≡ length p.loaded → IsSoundUpTo most p h own →
    IsSoundUpTo most (with_package p q.linked) h own

-- the Applet component, if one came, is of bytes
abbrev pub HasByteApplets : LoadedComponents → Type 0
HasByteApplets load = (text : List ℕ) → load.applets ≡ Some text → All (λ b. b < 256) text

-- one more package that was prepared onto packages that were read was linked like those, of components of its own
abbrev pub GrowthKeepsRead : Type 0
GrowthKeepsRead = (cs : List LinkerComponents) (p : Packages) (load : LoadedComponents) (q : PendingPackageValue) → AreRead cs p → HaveAppletComponents cs
    → HasByteApplets load → linked_components p load ≡ Ok q →
    (c : LinkerComponents) × AreRead (cs ++ c ∷ []) (with_package p q.linked) × HaveAppletComponents (cs ++ c ∷ [])
