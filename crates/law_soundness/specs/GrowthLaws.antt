-- Packages as a heap has them.
use Rattle.std.specs.Prelude.{ℕ, ◌≡◌, ◌<◌, List, Some, Ok, length, slice_get, slice_index}
use Rattle.jc_heap.specs.Heap.{HeapState, heap_of}
use Rattle.jc_platform.specs.Table.{Reads}
use Rattle.jc_platform.specs.Tokens.{Tokens}
use Rattle.jc_linker.specs.Values.{Packages}
use Rattle.jc_linker.specs.Values.{LinkerComponents}
use Rattle.jc_packages.specs.Reading.{packages_of}
use Rattle.jc_packages.specs.Sound.{package_record_at}
use Rattle.law_code.specs.ReadPackages.{AreRead, HasAppletComponent, HasByteTokens}

-- words of 16 bits
abbrev pub AreWords : List ℕ → Type 0
AreWords words = (i : ℕ) → slice_index words i < 65536

-- each package's record is of such words
abbrev pub HasWords : HeapState → Type 0
HasWords h = (k : ℕ) → k < length h.packages → AreWords (package_record_at h k)

-- the records of an image that is of such words are
abbrev pub ImagesHaveWords : Type 0
ImagesHaveWords = (words : List ℕ) → AreWords words → HasWords (heap_of words)

-- the applets of components, where there are any, are those of Applet components
abbrev pub HaveAppletComponents : List LinkerComponents → Type 0
HaveAppletComponents cs = (i : ℕ) (c : LinkerComponents) → slice_get cs i ≡ Some c → HasAppletComponent c.applets

-- the packages of a heap, after those of a platform whose table was read, with tokens of one byte each, were linked of components,
-- among them right Class and Applet components
abbrev pub RecordsAreRead : Type 0
RecordsAreRead = (text : List ℕ) (t : Tokens) (h : HeapState) (p : Packages) → Reads text (Ok t) → HasByteTokens t → HasWords h → packages_of t h ≡ Some p
    → (cs : List LinkerComponents) × AreRead cs p × HaveAppletComponents cs
