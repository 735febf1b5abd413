-- What the cells of an image's objects are read by.
use Rattle.std.specs.Prelude.{ℕ, ◌≡◌, nat_lt, Bool, false, List, Option, Some, None, if◌then◌else◌}
use Rattle.jc_commit.specs.Image.{recovered_of}
use Rattle.jc_heap.specs.Heap.{heap_of}
use Rattle.jc_platform.specs.Tokens.{Tokens}
use Rattle.jc_linker.specs.Classes.{reference_cell}
use Rattle.jc_linker.specs.Lookups.{statics_at}
use Rattle.jc_linker.specs.Values.{Packages}
use Rattle.jc_packages.specs.Reading.{packages_of}
use Rattle.jc_objects.specs.ImageObjects.{IsImage}
use Rattle.jc_packages.specs.declared.fault.ReadFault.{ReadFault}
use Rattle.jc_packages.specs.declared.fault.ReadFault.TheVariants.{NoMemory, Damaged}
use Rattle.jc_objects.specs.declared.legend.Legend.{Legend}

-- the packages that words have once they are recovered, linked after those of a platform; none where they are no image's, or do not link
abbrev pub ArePackagesIn : Tokens → List ℕ → Option Packages → Type 0
ArePackagesIn t words (Some p) = (u : Tokens) × IsImage words u × (packages_of t (heap_of (recovered_of words)) ≡ Some p)
ArePackagesIn t words None = (u : Tokens) → IsImage words u → packages_of t (heap_of (recovered_of words)) ≡ None

-- this platform, and these packages
abbrev pub IsLegend : Tokens → List ℕ → Legend → Type 0
IsLegend t words l = (l.platform ≡ t) × ArePackagesIn t words l.packages

-- why words give no packages: memory was refused, or there are none
abbrev pub IsNotLinked : Tokens → List ℕ → ReadFault → Type 0
IsNotLinked t words NoMemory = Unit {0}
IsNotLinked t words Damaged = ArePackagesIn t words None

-- the same after those of the platform of the words
abbrev pub HasNoPackages : List ℕ → ReadFault → Type 0
HasNoPackages words NoMemory = Unit {0}
HasNoPackages words Damaged = (t : Tokens) → IsImage words t → packages_of t (heap_of (recovered_of words)) ≡ None

-- a cell of an instance of a class holds a reference, where packages are known
abbrev pub reference_by : Option Packages → ℕ → ℕ → Bool
reference_by (Some p) class cell = reference_cell p class cell
reference_by None class cell = false

abbrev pub holds_reference : Legend → ℕ → ℕ → Bool
holds_reference l class cell = reference_by l.packages class cell

-- how many references a package's static image begins with, where packages are known
abbrev pub references_by : Option Packages → ℕ → ℕ
references_by (Some p) number = if nat_lt number 256 then (statics_at p number).1 else 0
references_by None number = 0

abbrev pub static_references : Legend → ℕ → ℕ
static_references l number = references_by l.packages number
