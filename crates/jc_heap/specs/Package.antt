-- A package's record, its initialised arrays, and a heap with one package more.
use Rattle.std.specs.Prelude.{ℕ, ◌+◌, ◌*◌, ◌≡◌, ◌<◌, ◌≤◌, Bool, true, false, List, [], ◌∷◌, ◌++◌, length, map, slice_index, slice_index_or, None, if◌then◌else◌}
use Rattle.jc_words.specs.Layout.{packages_address, addresses_start}
use Rattle.jc_heap.specs.declared.object.Kind.{Kind}
use Rattle.jc_heap.specs.declared.object.Kind.TheVariants.{Instance, ReferenceArray}
use Rattle.jc_heap.specs.declared.package.RecordComponent.{RecordComponent}
use Rattle.jc_heap.specs.declared.package.StaticArray.{StaticArray}
use Rattle.jc_heap.specs.Object.{Object, APackage, header_number, has_bytes, header_size}
use Rattle.jc_heap.specs.Heap.{HeapState, add_object, end_address}
use Rattle.jc_heap.specs.Packed.{packed_words}

-- a component as values: its tag and its info
abbrev pub part : RecordComponent → ℕ × List ℕ
part c = (c.tag, c.info.now)

abbrev pub parts : List RecordComponent → List (ℕ × List ℕ)
parts cs = map part cs

-- an initialised array as values: its kind and its bytes
abbrev pub array_init : StaticArray → Kind × List ℕ
array_init a = (a.kind, a.values.now)

abbrev pub array_inits : List StaticArray → List (Kind × List ℕ)
array_inits xs = map array_init xs

-- a component in a record: its tag, its size in bytes, its info
abbrev pub component_words : ℕ × List ℕ → List ℕ
component_words c = c.0 ∷ length c.1 ∷ packed_words c.1

-- components one after another
abbrev pub components_words : List (ℕ × List ℕ) → List ℕ
components_words [] = []
components_words (c ∷ cs) = component_words c ++ components_words cs

-- the cells of an initialised array: a byte each, but two bytes each of a short array
abbrev pub elements : Kind × List ℕ → List ℕ
elements a = if has_bytes a.0 then a.1 else packed_words a.1

-- an initialised array as an object
abbrev pub array_object : ℕ → Kind × List ℕ → Object
array_object owner a = record {
  facts = record { kind = a.0; event = None; class = 0; owner = owner; length = length (elements a); place = 0; packed = has_bytes a.0 };
  cells = elements a;
}

-- the words that such an object takes, with its owner: two bytes stand in a word, and so does a short
abbrev pub array_words : ℕ → Kind × List ℕ → List ℕ
array_words owner a = header_number a.0 (has_bytes a.0) ∷ 0 ∷ owner ∷ length (elements a) ∷ packed_words a.1

-- the words that such objects take, one after another
abbrev pub arrays_words : ℕ → List (Kind × List ℕ) → List ℕ
arrays_words owner [] = []
arrays_words owner (a ∷ xs) = array_words owner a ++ arrays_words owner xs

-- how many words the object takes
abbrev pub array_size : Kind × List ℕ → ℕ
array_size a = header_size + length (packed_words a.1)

-- how many words the objects take
abbrev pub arrays_size : List (Kind × List ℕ) → ℕ
arrays_size [] = 0
arrays_size (a ∷ xs) = array_size a + arrays_size xs

-- the addresses of objects one after another
abbrev pub array_addresses : ℕ → List (Kind × List ℕ) → List ℕ
array_addresses at [] = []
array_addresses at (a ∷ xs) = at ∷ array_addresses (at + array_size a) xs

-- a static image: references to the initialised arrays, then the other bytes
abbrev pub image_words : ℕ → List (Kind × List ℕ) → List ℕ → List ℕ
image_words at xs rest = array_addresses at xs ++ packed_words rest

-- how many words a package's record has
unfoldable pub record_size : List (ℕ × List ℕ) → List (Kind × List ℕ) → List ℕ → ℕ
record_size cs xs rest = length (components_words cs) + (length xs + length (packed_words rest)) + 2

-- a package's record: its length, the components, a word 0, the static image
unfoldable pub package_record : ℕ → List (ℕ × List ℕ) → List (Kind × List ℕ) → List ℕ → List ℕ
package_record at cs xs rest = record_size cs xs rest ∷ (components_words cs ++ 0 ∷ image_words (at + record_size cs xs rest) xs rest)

-- how many words a package takes
abbrev pub package_size : List (ℕ × List ℕ) → List (Kind × List ℕ) → List ℕ → ℕ
package_size cs xs rest = record_size cs xs rest + arrays_size xs

-- what owns the objects of a package
abbrev pub package_owner : ℕ → ℕ
package_owner number = 256 + number

-- the words that a package with a number takes: its record, then its arrays
abbrev pub package_words : ℕ → ℕ → List (ℕ × List ℕ) → List (Kind × List ℕ) → List ℕ → List ℕ
package_words at number cs xs rest = package_record at cs xs rest ++ arrays_words (package_owner number) xs

-- a record after the others, under the next package number
unfoldable pub push_package : HeapState → List ℕ → HeapState
push_package h words = record h {
  items = h.items ++ (h.top, APackage words) ∷ [];
  counts = (h.counts.0 + 1, h.counts.1);
  packages = h.packages ++ h.top ∷ [];
  top = h.top + length words;
}

-- objects after the others, one after another
abbrev pub add_arrays : HeapState → ℕ → List (Kind × List ℕ) → HeapState
add_arrays h owner [] = h
add_arrays h owner (a ∷ xs) = add_arrays (add_object h (array_object owner a) (array_size a)) owner xs

-- one package more: its record, and its arrays after it
abbrev pub add_package : HeapState → List (ℕ × List ℕ) → List (Kind × List ℕ) → List ℕ → HeapState
add_package h cs xs rest = add_arrays (push_package h (package_record h.top cs xs rest)) (package_owner (h.counts.0 + 1)) xs

-- the addresses of the words that change: the one with the record's address, the number of packages, the heap's end
unfoldable pub addresses_of_package : HeapState → List ℕ
addresses_of_package h = (addresses_start + h.counts.0) ∷ packages_address ∷ end_address ∷ []

-- 1 to 8, or 10
abbrev pub IsTag : ℕ → Type 0
IsTag t = (0 < t) × (t ≤ 10) × (t ≡ 9 → ⊥)

-- components as a record may have them: by ascending tags, and with sizes that are a word
pub record AreComponents (cs : List (ℕ × List ℕ)) : Type 0 where
  pub tags : (k : ℕ) → k < length cs → IsTag ((slice_index_or cs k (0, [])).0)
  pub ascending : (i k : ℕ) → i < k → k < length cs → (slice_index_or cs i (0, [])).0 < (slice_index_or cs k (0, [])).0
  pub sizes : (k : ℕ) → k < length cs → length ((slice_index_or cs k (0, [])).1) < 65536

-- an array of booleans, bytes or shorts
abbrev pub is_array_init : Kind → Bool
is_array_init Instance = false
is_array_init ReferenceArray = false
is_array_init _ = true

-- initialised arrays as a package may have them: of booleans, bytes or shorts, and below 65,536 bytes each
pub record AreArrays (xs : List (Kind × List ℕ)) : Type 0 where
  pub kinds : (k : ℕ) → k < length xs → is_array_init ((slice_index_or xs k (Instance, [])).0) ≡ true
  pub sizes : (k : ℕ) → k < length xs → length ((slice_index_or xs k (Instance, [])).1) < 65536

-- the components and the arrays of a package
pub record ArePackageParts (cs : List (ℕ × List ℕ)) (xs : List (Kind × List ℕ)) : Type 0 where
  pub components : AreComponents cs
  pub arrays : AreArrays xs

-- the values of these arrays are bytes
abbrev pub AreArraysOfBytes : List (Kind × List ℕ) → Type 0
AreArraysOfBytes [] = Unit {0}
AreArraysOfBytes (a ∷ xs) = ((i : ℕ) → slice_index a.1 i < 256) × AreArraysOfBytes xs

-- how many bytes a static image has
abbrev pub image_size : List (Kind × List ℕ) → List ℕ → ℕ
image_size xs rest = 2 * length xs + length rest
