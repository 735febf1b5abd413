-- The records from the address on lack as many words as all of them. What is marked, and what is left, are all the names. From the address on, the items fit from the places on just if all of them fit from 0 on,
-- and they and what is named hold references just if all of them do.
use Rattle.std.proofs.Common.{ℕ, ◌≡◌, ◌≤◌, ◌-◌, ◌↔◌, false, get_or, length}
use Rattle.jc_words.specs.Layout.{top_address, text_start}
use Rattle.jc_transient.specs.declared.cell.ClearEvent.TheVariants.{Reset, Deselect}
use Rattle.jc_heap.specs.Image.{image, missing_words_of_image}
use Rattle.jc_heap.specs.Heap.{heap_of, area_end, area_limit}
use Rattle.jc_heap.proofs.AreaRuns.{Run}
use Rattle.jc_image.specs.Steps.{items_from, AreReferences}
use Rattle.jc_image.proofs.Marking.{Marks}
use Rattle.jc_image.proofs.Stepping.{missing_from}
use Rattle.jc_image.proofs.Referring.{AllHold}
use Rattle.jc_image.proofs.marks.mark_records.Given as goal

abbrev pub invariant-loop-at : goal.invariant-loop-at
invariant-loop-at g l = record {
  low : text_start ≤ l.at;
  high : l.at ≤ get_or l.journal.plain top_address 0;
  left : missing_from l.journal.plain l.at ≡ missing_words_of_image (image l.journal.plain);
  long : length l.marks ≡ 65536;
  named_long : length l.named ≡ 65536;
  marks : Marks l.marks (items_from l.journal.plain l.at) ((heap_of l.journal.plain).items);
  below : (r : ℕ) → get_or l.journal.plain top_address 0 ≤ r → get_or l.named r false ≡ false;
  reset_room : l.places.reset ≤ area_limit (heap_of l.journal.plain) Reset;
  deselect_room : l.places.deselect ≤ area_limit (heap_of l.journal.plain) Deselect;
  reset : Run Reset (area_limit (heap_of l.journal.plain) Reset) l.places.reset (items_from l.journal.plain l.at) (area_end (heap_of l.journal.plain) Reset)
      ↔ Run Reset (area_limit (heap_of l.journal.plain) Reset) 0 ((heap_of l.journal.plain).items) (area_end (heap_of l.journal.plain) Reset);
  deselect : Run Deselect (area_limit (heap_of l.journal.plain) Deselect) l.places.deselect (items_from l.journal.plain l.at) (area_end (heap_of l.journal.plain) Deselect)
      ↔ Run Deselect (area_limit (heap_of l.journal.plain) Deselect) 0 ((heap_of l.journal.plain).items) (area_end (heap_of l.journal.plain) Deselect);
  held : (AreReferences (heap_of l.journal.plain) l.named × AllHold (heap_of l.journal.plain) (items_from l.journal.plain l.at))
      ↔ AllHold (heap_of l.journal.plain) ((heap_of l.journal.plain).items);
}

abbrev pub decreases-loop-at : goal.decreases-loop-at
decreases-loop-at g l = l.top - l.at
