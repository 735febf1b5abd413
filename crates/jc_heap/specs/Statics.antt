-- The static image of a package, and a word of its record changed.
use Rattle.std.specs.Prelude.{ℕ, ◌+◌, ◌==◌, ◌≡◌, ◌<◌, ◌≤◌, List, [], ◌∷◌, length, set, slice_index, Option, Some, None, if◌then◌else◌}
use Rattle.jc_heap.specs.Walk.{with_entry}
use Rattle.jc_heap.specs.Object.{Item, AnObject, APackage}
use Rattle.jc_heap.specs.Heap.{HeapState, heap_item_at}
use Rattle.jc_heap.specs.Component.{record_parts}

abbrev pub with_word : Item → ℕ → ℕ → Item
with_word (AnObject o) j v = AnObject o
with_word (APackage ws) j v = APackage (set ws j v)

-- another word of the package's record at an address
unfoldable pub set_word : HeapState → ℕ → ℕ → ℕ → HeapState
set_word h r j v = record h { items = with_entry h.items r (with_word (heap_item_at h r) j v) }

-- where the image among these parts begins: after the first 0 that stands for a tag
abbrev pub image_from : List (ℕ × List ℕ) → Option ℕ
image_from [] = None
image_from (p ∷ ps) = if slice_index p.1 0 == 0 then Some (p.0 + 1) else image_from ps

-- where a record's static image begins: after the 0 that follows the components; nowhere, where a record
-- has no component, or ends before
unfoldable pub statics_of : List ℕ → Option ℕ
statics_of words = if slice_index words 1 == 0 then None else image_from (record_parts words)

-- a word of a record is one of its static image
pub record IsStatic (words : List ℕ) (j : ℕ) : Type 0 where
  pub begin : ℕ
  pub image : statics_of words ≡ Some begin
  pub behind : begin ≤ j
  pub within : j < length words
