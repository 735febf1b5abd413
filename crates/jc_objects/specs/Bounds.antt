-- Where the heap of an image lies, as its words say.
use Rattle.std.specs.Prelude.{ℕ, ◌+◌, ◌/◌, ◌≤◌, ◌&&◌, nat_le, Bool, List, length, slice_index}
use Rattle.jc_words.specs.Layout.{text_length_address, text_start}
use Rattle.jc_commit.specs.Image.{limit_of, top_of}

-- the first word after the table text
abbrev pub first_record : List ℕ → ℕ
first_record w = text_start + (slice_index w text_length_address + 1) / 2

-- the heap lies after the table text, and below where a heap ends at the latest
abbrev pub has_bounds : List ℕ → Bool
has_bounds w = nat_le (first_record w) (top_of w) && nat_le (top_of w) (limit_of w)

-- the same of words of which none is the journal's that ends them: the heap lies after the table text, and among the words
pub record IsBounded (w : List ℕ) : Type 0 where
  pub first : first_record w ≤ top_of w
  pub fits : top_of w ≤ length w
