-- What the bounds of a heap come to.
use Rattle.std.proofs.Common.{◌≡◌, ◌≤◌, ◌+◌, ◌/◌, ◌&&◌, Bool, true, false, List, ℕ, length, get_or, ap, refl, arith}
use Rattle.std.specs.Prelude.{nat_le}
use Rattle.std.proofs.lemmas.Bool.{eq-eqb, leb-true, false≢true}
use Rattle.std.proofs.lemmas.List.{get_or-take}
use Rattle.jc_words.specs.Layout.{text_length_address, text_start, top_address}
use Rattle.jc_commit.specs.Image.{capacity_of, limit_of, top_of}
use Rattle.jc_commit.proofs.Words.{heap_end_within}
use Rattle.jc_heap.specs.Heap.{heap_of}
use Rattle.jc_heap.specs.Image.{IsWellFormed, base, image, missing_words_of_image}
use Rattle.jc_heap.proofs.Following.{base_is}
use Rattle.jc_objects.specs.Bounds.{IsBounded, first_record, has_bounds}
use Rattle.jc_objects.specs.Records.{standing_items, whole_among}

left_of : (a b : Bool) → (a && b) ≡ true → a ≡ true
left_of true b e = refl
left_of false b e = absurd (false≢true e)

right_of : (a b : Bool) → (a && b) ≡ true → b ≡ true
right_of true b e = e
right_of false b e = absurd (false≢true e)

-- a heap that lies below where a heap ends lies among the words
pub bounded : (w : List ℕ) → has_bounds w ≡ true → IsBounded w
bounded w h =
    let high : top_of w ≤ limit_of w = leb-true (top_of w) (limit_of w)
    (right_of (nat_le (first_record w) (top_of w)) (nat_le (top_of w) (limit_of w)) h) in
    record {
      first = leb-true (first_record w) (top_of w) (left_of (nat_le (first_record w) (top_of w)) (nat_le (top_of w) (limit_of w)) h);
      fits = omega (arith, high, heap_end_within (length w) (capacity_of w));
    }

-- it begins after the first words, and ends among the words
pub record Bounds (w : List ℕ) : Type 0 where
  pub first : first_record w ≤ top_of w
  pub wide : text_start ≤ top_of w
  pub fits : top_of w ≤ length w

pub bounds : (w : List ℕ) → IsBounded w → Bounds w
bounds w h = record { first = h.first; wide = omega (arith, h.first); fits = h.fits }

-- so does a well-formed one, of which all can be read
pub formed_bounds : (w : List ℕ) → IsWellFormed w → IsBounded w
formed_bounds w formed =
    let b : base (image w) ≡ first_record w = base_is w formed in
    record { first = omega (arith, b, formed.based); fits = formed.fits }

pub all_stand : (w : List ℕ) → IsWellFormed w → standing_items w ≡ (heap_of w).items
all_stand w formed = ap (λ (whole : Bool). whole_among whole (heap_of w).items) (eq-eqb (missing_words_of_image (image w)) 0 formed.whole)

-- the first record begins where the heap begins
pub base-first : (w : List ℕ) → text_start ≤ top_of w → base (image w) ≡ first_record w
base-first w wide = ap (λ n. text_start + (n + 1) / 2) (get_or-take (get_or w top_address 0) w text_length_address 0 (omega (arith, wide)))
