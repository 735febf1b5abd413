-- Places from which a walk finds what begins at an address.
use Rattle.std.proofs.Common.{arith, ◌≡◌, ◌<◌, ◌≤◌, ◌+◌, ◌∙◌, ap, ap₂, sym, List, ℕ, Bool, true, if◌then◌else◌}
use Rattle.std.proofs.lemmas.Bool.{lt-leb}
use Rattle.jc_heap.specs.Object.{Item}
use Rattle.jc_commit.specs.Image.{top_of}
use Rattle.jc_objects.specs.Bounds.{first_record, IsBounded}
use Rattle.jc_objects.specs.Records.{is_whole_from, item_at, items_from, record_size}
use Rattle.jc_objects.specs.Places.{IsPlaceFor, standing_here, standing_in}
use Rattle.jc_objects.specs.declared.places.Standing.{Standing}
use Rattle.jc_objects.proofs.HeapBounds.{Bounds, bounds}
use Rattle.jc_objects.proofs.Standing.{items_first, items_step}

-- where the first record begins is one for each address
pub place_first : (w : List ℕ) (a : ℕ) → IsBounded w → IsPlaceFor w (first_record w) a
place_first w a h =
    let b : Bounds w = bounds w h in
    let first = items_first w h in
    record {
      low = omega arith;
      high = b.first;
      tells = λ (c : ℕ) behind. ap₂ (λ (whole : Bool) (l : List (ℕ × Item)). standing_in whole l c) first.1 first.0;
    }

-- so is where a record ends that begins before the address
pub place_step : (w : List ℕ) (at a : ℕ) → IsBounded w → at + record_size w at ≤ top_of w → at < a → IsPlaceFor w at a
    → IsPlaceFor w (at + record_size w at) a
place_step w at a h fits before p =
    let next : ℕ = at + record_size w at in
    let step = items_step w h at fits in
    record {
      low = omega (arith, p.low);
      high = fits;
      tells = λ (c : ℕ) behind.
          let here : Standing = standing_here (at, item_at w at) c in
          ap (λ (whole : Bool). standing_in whole (items_from w next) c) (sym step.1)
          ∙ sym (ap (λ (b : Bool). if b then here else standing_in (is_whole_from w at) (items_from w next) c) (lt-leb c at (omega (arith, before, behind))))
          ∙ sym (ap (λ (l : List (ℕ × Item)). standing_in (is_whole_from w at) l c) step.0)
          ∙ p.tells c behind;
    }

-- and each place is one for a later address
pub place_behind : (w : List ℕ) (at a b : ℕ) → a ≤ b → IsPlaceFor w at a → IsPlaceFor w at b
place_behind w at a b further p = record {
  low = p.low;
  high = p.high;
  tells = λ (c : ℕ) behind. p.tells c (omega (arith, further, behind));
}
