-- Packages that were read of one image, and may be those of another.
use Rattle.std.specs.Prelude.{◌≡◌, ℕ, List, [], map, Some, Ok}
use Rattle.jc_heap.specs.Component.{record_of}
use Rattle.jc_heap.specs.Heap.{HeapState}
use Rattle.jc_heap.specs.Packed.{bytes_of_packed}
use Rattle.jc_linker.specs.Values.{Packages}
use Rattle.jc_platform.specs.Table.{Reads}
use Rattle.jc_platform.specs.Tokens.{Tokens}
use Rattle.jc_packages.specs.Reading.{with_records}

-- how many bytes a table text has, its words, and the table that it spells; the words of records, and the packages that are linked of them
pub record KnownState : Type 0 where
  pub size : ℕ
  pub text : List ℕ
  pub tokens : Tokens
  pub records : List (List ℕ)
  pub packages : Packages

-- the text spells this table, and the packages are those of the records, after those of the platform
pub record AreKnown (k : KnownState) : Type 0 where
  pub reads : Reads (bytes_of_packed k.size k.text) (Ok k.tokens)
  pub linked : with_records (record { platform = k.tokens; loaded = [] }) k.records ≡ Some k.packages

-- the words of the records of a heap's packages, in order
abbrev pub package_records : HeapState → List (List ℕ)
package_records h = map (record_of h) h.packages
