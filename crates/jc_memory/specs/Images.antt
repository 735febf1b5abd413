-- Where the static images of packages begin, as far as it is known.
use Rattle.std.specs.Prelude.{ℕ, ◌≡◌, ◌<◌, List, [], ◌∷◌, Some}
use Rattle.jc_heap.specs.Component.{record_of}
use Rattle.jc_heap.specs.Heap.{HeapState}
use Rattle.jc_heap.specs.Statics.{statics_of}
use Rattle.jc_memory.specs.declared.images.KnownImage.{KnownImage}

-- in the record at this address the static image begins there, in the heap as it is, and in the one that a recovery would leave
pub record IsImage (h d : HeapState) (r begin : ℕ) : Type 0 where
  pub below : r < d.top
  pub now : statics_of (record_of h r) ≡ Some begin
  pub back : statics_of (record_of d r) ≡ Some begin

-- each of these does
abbrev pub AreImages : List KnownImage → HeapState → HeapState → Type 0
AreImages [] h d = Unit {0}
AreImages (i ∷ is) h d = IsImage h d i.owner i.begin × AreImages is h d
