-- What the words of one object have to say, beside the packages that are linked.
use Rattle.std.specs.Prelude.{ℕ, ◌≡◌, ◌<◌, ◌-◌, ◌==◌, ◌&&◌, ◌||◌, nat_lt, nat_le, Bool, true, false, not, is_none, List, length, slice_index, if◌then◌else◌}
use Rattle.jc_platform.specs.declared.names.PlatformClass.TheVariants.{Aid, OwnerPin}
use Rattle.jc_heap.specs.declared.object.Facts.{Facts}
use Rattle.jc_heap.specs.declared.object.Kind.{Kind}
use Rattle.jc_heap.specs.declared.object.Kind.TheVariants.{Instance, ByteArray, ReferenceArray}
use Rattle.jc_heap.specs.Object.{is_object}
use Rattle.jc_heap.specs.Heap.{HeapState, heap_item_at, facts, cells}
use Rattle.jc_memory.specs.Marks.{is_marked}
use Rattle.jc_linker.specs.Values.{Packages}
use Rattle.jc_linker.specs.Classes.{is_a, is_class, reference_cell, size_of}
use Rattle.jc_linker.specs.Resolve.{names_interface}

-- an object stands at this address
abbrev pub is_object_address : HeapState → ℕ → Bool
is_object_address h r = is_object (heap_item_at h r)

-- the addresses at which objects stand are marked, and no others
abbrev pub MarksObjects : List Bool → HeapState → Type 0
MarksObjects marks h = (r : ℕ) → is_marked marks r ≡ is_object_address h r

-- null or an object
abbrev pub is_reference : HeapState → ℕ → Bool
is_reference h v = v == 0 || is_object_address h v

-- an instance has a class, no interface, and as many cells as it says; an array of references has a class or an interface
abbrev pub fits_class : Packages → Kind → ℕ → ℕ → Bool
fits_class p Instance class long = is_class p class && (not (names_interface p class) && long == size_of p class)
fits_class p ReferenceArray class long = is_class p class
fits_class p _ class long = true

-- the runtime environment, an applet of the registry, or a package
abbrev pub is_owner : HeapState → ℕ → Bool
is_owner h n = n == 0 || (nat_le n h.counts.1 || (nat_lt 256 n && nat_le (n - 256) (length h.packages)))

-- an instance
abbrev pub is_instance : Kind → Bool
is_instance Instance = true
is_instance _ = false

-- an array of bytes
abbrev pub is_bytes : Kind → Bool
is_bytes ByteArray = true
is_bytes _ = false

-- a persistent array of this many bytes
abbrev pub is_byte_array : Facts → ℕ → Bool
is_byte_array f n = is_bytes f.kind && (is_none f.event && f.length == n)

-- the first cell of an AID is its length, 16 at most
abbrev pub fits_aid : Packages → ℕ → List ℕ → Bool
fits_aid p class held = not (is_a p class Aid) || nat_le (slice_index held 0) 16

-- an OwnerPIN's fifth cell is null where its second, the maximum, is 0, or else an array of this many bytes
abbrev pub has_value : HeapState → List ℕ → Bool
has_value h held = if slice_index held 4 == 0 then slice_index held 1 == 0 else is_object_address h (slice_index held 4) && is_byte_array
    (facts h (slice_index held 4)) (slice_index held 1)

-- and its fourth, the length, is not above the maximum
abbrev pub fits_pin : Packages → HeapState → ℕ → List ℕ → Bool
fits_pin p h class held = not (is_a p class OwnerPin) || (nat_le (slice_index held 3) (slice_index held 1) && has_value h held)

-- the cells of an instance that hold references hold null or objects
abbrev pub HoldsReferences : Packages → HeapState → ℕ → Type 0
HoldsReferences p h r = (i : ℕ) → i < length (cells h r) → reference_cell p (facts h r).class i ≡ true → is_reference h (slice_index (cells h r) i) ≡ true

-- what the cells of a persistent instance hold fits its class
pub record HoldsValues (p : Packages) (h : HeapState) (r : ℕ) : Type 0 where
  pub references : HoldsReferences p h r
  pub aid : fits_aid p (facts h r).class (cells h r) ≡ true
  pub pin : fits_pin p h (facts h r).class (cells h r) ≡ true

-- a persistent instance
abbrev pub is_persistent_instance : Facts → Bool
is_persistent_instance f = is_instance f.kind && is_none f.event

-- an object's class, its owner and what it holds are there
pub record IsSoundObject (p : Packages) (h : HeapState) (r : ℕ) : Type 0 where
  pub class : fits_class p (facts h r).kind (facts h r).class (facts h r).length ≡ true
  pub owner : is_owner h (facts h r).owner ≡ true
  pub values : is_persistent_instance (facts h r) ≡ true → HoldsValues p h r
