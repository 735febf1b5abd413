-- The store of an open image.
use Rattle.std.proofs.Common.{◌≡◌, List, ℕ, Bool, length, sym, ap, ◌∙◌}
use Rattle.jc_words.specs.Refusals.{Refusals}
use Rattle.jc_commit.specs.State.{State}
use Rattle.jc_commit.specs.Image.{limit_of, recovered_of}
use Rattle.jc_commit.specs.Migration.{migrated}
use Rattle.jc_commit.proofs.InPlace.{length-recovered}
use Rattle.jc_heap.specs.Heap.{head_of}
use Rattle.jc_heap.proofs.Holding.{IsStoreOf}
use Rattle.jc_heap.proofs.Migrated.{migrated_alike}
use Rattle.jc_heap.proofs.RawWords.{plain-head}
use Rattle.jc_image.specs.Opening.{HoldsImage, IsOpen}

pub holds_image : (w : List ℕ) (d : Bool) (p : ℕ) (r : Refusals) (j : State) (n : ℕ) → IsStoreOf w d p r j → IsOpen j n → HoldsImage w d p r j
holds_image w d p r j n s o = record {
  good = s.good;
  plain = s.plain;
  recovered = s.recovered ∙ o.recovered;
  head = sym (plain-head w s.good) ∙ ap head_of s.plain;
  size = s.size ∙ ap (λ (l : List ℕ). length l) o.recovered;
  up = s.down ∙ o.up;
  closed = s.closed o.up o.closed;
  current = s.current;
  passed = s.passed;
  refusals = s.refusals;
}

-- recovered and migrated words end where the heap does
pub long_recovered : (w : List ℕ) → length (migrated 3 (recovered_of w)) ≡ limit_of w
long_recovered w = (migrated_alike (recovered_of w) 3).size ∙ length-recovered w
