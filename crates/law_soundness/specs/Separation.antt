-- What stands in a heap stands apart.
use Rattle.std.specs.Prelude.{ℕ, ◌+◌, ◌≡◌, ◌<◌, ◌≤◌, true, length, is_none, if◌then◌else◌}
use Rattle.jc_words.specs.Layout.{text_start}
use Rattle.jc_heap.specs.Heap.{HeapState, heap_item_at, is_allocated}
use Rattle.jc_heap.specs.Object.{Item, AnObject, APackage, header_size, is_packed, transient_size, words_of_cells}

-- how many words something in a heap takes
abbrev pub item_size : Item → ℕ
item_size (AnObject o) = if is_none o.facts.event then header_size + words_of_cells (is_packed o.facts) o.facts.length else transient_size
item_size (APackage words) = length words

-- nothing stands before the table text, ends above the top, or reaches into what stands after it
pub record StandApart (h : HeapState) : Type 0 where
  pub start : text_start ≤ h.top
  pub first : (r : ℕ) → is_allocated h r ≡ true → text_start ≤ r
  pub below : (r : ℕ) → is_allocated h r ≡ true → r + item_size (heap_item_at h r) ≤ h.top
  pub apart : (r q : ℕ) → is_allocated h r ≡ true → is_allocated h q ≡ true → r < q → r + item_size (heap_item_at h r) ≤ q
