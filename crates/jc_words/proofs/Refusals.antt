-- The count of refused writes.
use Rattle.std.proofs.Common.{◌≡◌, ℕ, Bool, refl}
use Rattle.jc_words.specs.Count.{saturating_count}
use Rattle.jc_words.specs.Refusals.{Refusals, refused_once}

-- a refused write counts as one, whether the store was down or not
pub count-refused_once : (down : Bool) (passed : ℕ) (r : Refusals) → (refused_once down passed r).count ≡ saturating_count r.count 1
unfolding refused_once
count-refused_once down passed r = refl
