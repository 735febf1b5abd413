-- An image over which a card powered up, beside what was found in it.
use Rattle.std.specs.Prelude.{ℕ, ◌≡◌, ◌<◌, ◌⊎◌, Bool, false, List, length, Ok, Some}
use Rattle.jc_words.specs.Layout.{magic}
use Rattle.jc_commit.specs.Image.{recovered_of}
use Rattle.jc_transient.specs.declared.sizes.RamSizes.{RamSizes}
use Rattle.jc_heap.specs.declared.object.Kind.TheVariants.{ReferenceArray}
use Rattle.jc_heap.specs.Heap.{HeapState, area_sizes, cells, facts, heap_of, set_cell}
use Rattle.jc_heap.specs.Heap.Store.{IsAtRest}
use Rattle.jc_heap.specs.Object.{IsElement}
use Rattle.jc_heap.specs.WholeHeap.{IsConsistent, IsReference}
use Rattle.jc_linker.specs.Values.{Packages}
use Rattle.jc_memory.specs.Marks.{mark_count}
use Rattle.jc_packages.specs.Objects.{MarksObjects}
use Rattle.jc_packages.specs.Reading.{packages_of}
use Rattle.jc_packages.specs.Sound.{IsSound}
use Rattle.jc_platform.specs.NamePlaces.{class_word}
use Rattle.jc_platform.specs.Table.{Reads}
use Rattle.jc_platform.specs.Tokens.{Tokens}
use Rattle.jc_platform.specs.declared.names.PlatformClass.TheVariants.{Aid}
use Rattle.jc_card.specs.Fixed.{BeginsWithFixed, fixed_of, last_fixed}

-- the heap that a recovery makes of words
abbrev pub heap_in : List ℕ → HeapState
heap_in words = heap_of (recovered_of words)

-- the heap is whole, begins with the objects of the runtime environment, and fits its packages; these are its packages, the addresses of those
-- objects and the sizes of its areas, and its objects are marked
pub record IsFoundIn (h : HeapState) (marks : List Bool) (p : Packages) (first : List ℕ) (areas : RamSizes) : Type 0 where
  pub magic : h.head.0 ≡ magic
  pub whole : IsConsistent h
  pub tokens : Tokens
  pub reads : Reads h.text (Ok tokens)
  pub begins : BeginsWithFixed tokens h
  pub linked : packages_of tokens h ≡ Some p
  pub sound : IsSound p h (last_fixed tokens h)
  pub fixed : first ≡ fixed_of tokens h
  pub sizes : areas ≡ area_sizes h
  pub long : length marks ≡ mark_count
  pub marked : MarksObjects marks h

-- words at rest, of whose heap this was found
pub record IsPoweredImage (words : List ℕ) (marks : List Bool) (p : Packages) (first : List ℕ) (areas : RamSizes) : Type 0 where
  pub small : length words < 65536
  pub rests : IsAtRest words false
  pub found : IsFoundIn (heap_in words) marks p first areas

-- a cell of an object that is no AID may hold this value, in an array of references a reference
pub record MayHold (p : Packages) (h : HeapState) (r i v : ℕ) : Type 0 where
  pub cell : i < length (cells h r)
  pub value : IsElement (facts h r).kind v
  pub reference : (facts h r).kind ≡ ReferenceArray → IsReference h v
  pub other : (facts h r).class ≡ class_word p.platform Aid → ⊥

-- one cell of an object is set, or two are, one after the other
abbrev pub HasCellsSet : HeapState → ℕ → HeapState → Type 0
HasCellsSet h r g = ((i v : ℕ) × (g ≡ set_cell h r i v)) ⊎ ((i v j w : ℕ) × (g ≡ set_cell (set_cell h r i v) r j w))
