-- Elements of arrays of bytes that are kept.
use Rattle.std.specs.Prelude.{ℕ, ◌≡◌, ◌<◌, None}
use Rattle.jc_heap.specs.declared.object.Kind.TheVariants.{ByteArray}
use Rattle.jc_heap.specs.declared.place.Place.{Place}
use Rattle.jc_heap.specs.declared.place.Place.TheVariants.{Cell}
use Rattle.jc_heap.specs.Heap.{HeapState, facts}

-- the place is an element of a persistent array of bytes
pub record IsByteElement (h : HeapState) (place : Place) : Type 0 where
  pub array : ℕ
  pub index : ℕ
  pub is : place ≡ Cell array index
  pub kind : (facts h array).kind ≡ ByteArray
  pub persistent : (facts h array).event ≡ None
  pub within : index < (facts h array).length
