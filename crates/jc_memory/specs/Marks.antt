-- Marks: addresses at which objects are known to stand.
use Rattle.std.specs.Prelude.{ℕ, ◌≡◌, Bool, true, false, List, slice_index_or}
use Rattle.jc_heap.specs.Heap.{HeapView, IsObject}
use Rattle.jc_memory.specs.declared.images.KnownImage.{KnownImage}
use Rattle.jc_memory.specs.Images.{AreImages}

-- there is a mark for each address
abbrev pub mark_count : ℕ
mark_count = 65536

-- the address is marked
abbrev pub is_marked : List Bool → ℕ → Bool
is_marked marks r = slice_index_or marks r false

-- nothing is marked
abbrev pub AreNone : List Bool → Type 0
AreNone marks = (r : ℕ) → is_marked marks r ≡ false

-- while the store is up an object stands at each address that is marked
abbrev pub AreObjects : List Bool → HeapView → Type 0
AreObjects marks v = v.down ≡ false → (r : ℕ) → is_marked marks r ≡ true → IsObject v.now r

-- while it is up this holds of marks, and static images begin where it is known
abbrev pub AreKnown : List Bool → List KnownImage → HeapView → Type 0
AreKnown marks images v = v.down ≡ false → ((r : ℕ) → is_marked marks r ≡ true → IsObject v.now r) × AreImages images v.now v.durable
