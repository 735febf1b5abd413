-- The objects that the runtime environment owns, as the heap of an image has them: it begins with them.
use Rattle.std.specs.Prelude.{ℕ, zero, suc, ◌+◌, false, List, [], ◌∷◌, map, Option, Some, None, unwrap_or}
use Rattle.std.specs.List.{range_with_len}
use Rattle.jc_transient.specs.declared.cell.ClearEvent.TheVariants.{Reset}
use Rattle.jc_heap.specs.declared.object.Facts.{Facts}
use Rattle.jc_transient.specs.State.{buffer_told}
use Rattle.jc_heap.specs.Heap.{HeapState, add_transient, buffer_word, next_object}
use Rattle.jc_image.specs.Beginning.{HeapBeginsWith}
use Rattle.jc_platform.specs.Tokens.{Tokens}
use Rattle.jc_platform.specs.NamePlaces.{class_word}
use Rattle.jc_platform.specs.declared.names.PlatformClass.{PlatformClass}
use Rattle.jc_environment.specs.declared.objects.FixedObject.{FixedObject}
use Rattle.jc_environment.specs.Objects.{fixed_count, sized_objects}

-- the class as a header names it; an array of numbers has none
abbrev pub class_number_of : Tokens → Option PlatformClass → ℕ
class_number_of t None = 0
class_number_of t (Some class) = class_word t class

-- what the header of such an object says, whose cells stand from a place on
abbrev pub facts_of_fixed : Tokens → FixedObject → ℕ → Facts
facts_of_fixed t o place = record { kind = o.kind; event = Some Reset; class = class_number_of t o.class; owner = 0; length = o.cells; place = place; packed = false }

-- what the headers of these objects say, whose cells stand one after another from a place on
abbrev pub fixed_facts : Tokens → ℕ → List FixedObject → List Facts
fixed_facts t place [] = []
fixed_facts t place (o ∷ more) = facts_of_fixed t o place ∷ fixed_facts t (place + o.cells) more

-- how many cells the APDU buffer has, by the words of the heap
abbrev pub buffer_cells : HeapState → ℕ
buffer_cells h = buffer_told (buffer_word h)

-- the heap begins with the objects of the runtime environment, as many as its table names, with a buffer of as many cells as its words say
abbrev pub BeginsWithFixed : Tokens → HeapState → Type 0
BeginsWithFixed t h = HeapBeginsWith h (fixed_facts t 0 (sized_objects t (buffer_cells h)))

-- the heap with these objects after the others
abbrev pub with_objects : Tokens → HeapState → List FixedObject → HeapState
with_objects t h [] = h
with_objects t h (o ∷ more) = with_objects t (add_transient h o.kind Reset (class_number_of t o.class) 0 o.cells) more

-- the object after an address, or the first one of all after null; null, where there is none
abbrev pub next_or_null : HeapState → ℕ → ℕ
next_or_null h r = unwrap_or (next_object h r) 0

-- the object with this number in the order of addresses, from 1 on
unfoldable pub object_number : HeapState → ℕ → ℕ
object_number h zero = 0
object_number h (suc k) = next_or_null h (object_number h k)

-- the addresses of the first objects, as many as this says
abbrev pub numbered : HeapState → ℕ → List ℕ
numbered h n = map (object_number h) (range_with_len 1 n)

-- the addresses of the objects of the runtime environment
abbrev pub fixed_of : Tokens → HeapState → List ℕ
fixed_of t h = numbered h (fixed_count t)

-- the last one of them
abbrev pub last_fixed : Tokens → HeapState → ℕ
last_fixed t h = object_number h (fixed_count t)
