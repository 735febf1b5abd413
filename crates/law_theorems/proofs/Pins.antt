-- An object with a counter, as a PIN is.
use Rattle.std.proofs.Common.{◌≡◌, ℕ, ◌<◌, true, length, ap, get_or, refl}
use Rattle.std.proofs.lemmas.List.{set-get_or, set-set}
use Rattle.jc_heap.specs.Object.{Item, Object, AnObject, APackage, cells_of, with_cell}
use Rattle.jc_heap.specs.Heap.{HeapState, heap_item_at, is_allocated}

-- an object with a counter
pub record PinIn (r : ℕ) (h : HeapState) : Type 0 where
  pub object : Object
  pub item : heap_item_at h r ≡ AnObject object
  pub cells : 2 < length object.cells
  pub there : is_allocated h r ≡ true

-- an item is itself with what its counter holds
pub as_it_was : (t : Item) → with_cell t 2 (get_or (cells_of t) 2 0) ≡ t
as_it_was (AnObject o) = ap (λ l. AnObject (record o { cells = l })) (set-get_or o.cells 2 0)
as_it_was (APackage words) = refl

-- the last of two values stays
pub twice : (t : Item) (v w : ℕ) → with_cell (with_cell t 2 v) 2 w ≡ with_cell t 2 w
twice (AnObject o) v w = ap (λ l. AnObject (record o { cells = l })) (set-set o.cells 2 v w)
twice (APackage words) v w = refl
