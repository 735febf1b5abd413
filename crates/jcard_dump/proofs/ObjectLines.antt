-- The lines of what stands from an address on.
use Rattle.std.proofs.Common.{◌≡◌, ℕ, ◌+◌, ◌<◌, ◌≤◌, Bool, true, false, List, [], ◌++◌, ap, ap₂}
use Rattle.std.specs.List.{flat_map}
use Rattle.jc_heap.specs.Object.{Item}
use Rattle.jc_commit.specs.Image.{top_of}
use Rattle.jc_objects.specs.Bounds.{first_record, IsBounded}
use Rattle.jc_objects.specs.Records.{are_whole, is_whole_from, item_at, items_from, record_size, standing_items}
use Rattle.jc_objects.proofs.Standing.{items_end, items_first, items_short, items_step}
use Rattle.jcard_dump.specs.InventoryLines.{Lines}

abbrev both : List ℕ → Bool → Lines
both text readable = record { text = text; readable = readable }

-- of each item a text
abbrev pub Texts : Type 0
Texts = ℕ × Item → List ℕ

abbrev pub lines_from : Texts → List ℕ → ℕ → Lines
lines_from f w at = record { text = flat_map f (items_from w at); readable = is_whole_from w at }

abbrev pub all_lines : Texts → List ℕ → Lines
all_lines f w = record { text = flat_map f (standing_items w); readable = are_whole w }

pub lines_first : (f : Texts) (w : List ℕ) → IsBounded w → lines_from f w (first_record w) ≡ all_lines f w
lines_first f w h = ap₂ both (ap (flat_map f) (items_first w h).0) (items_first w h).1

pub lines_step : (f : Texts) (w : List ℕ) (at : ℕ) → IsBounded w → at + record_size w at ≤ top_of w
    → lines_from f w at ≡ record {
      text = f (at, item_at w at) ++ (lines_from f w (at + record_size w at)).text;
      readable = (lines_from f w (at + record_size w at)).readable;
    }
lines_step f w at h fits = ap₂ both (ap (flat_map f) (items_step w h at fits).0) (items_step w h at fits).1

pub lines_short : (f : Texts) (w : List ℕ) (at : ℕ) → IsBounded w → at < top_of w → top_of w < at + record_size w at
    → ((lines_from f w at).text ≡ []) × ((lines_from f w at).readable ≡ false)
lines_short f w at h below short = (ap (flat_map f) (items_short w h at below short).0, (items_short w h at below short).1)

pub lines_end : (f : Texts) (w : List ℕ) (at : ℕ) → IsBounded w → top_of w ≤ at
    → ((lines_from f w at).text ≡ []) × ((lines_from f w at).readable ≡ true)
lines_end f w at h past = (ap (flat_map f) (items_end w h at past).0, (items_end w h at past).1)
