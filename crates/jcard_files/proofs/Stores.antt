-- The stores of images.
use Rattle.std.proofs.Common.{◌≡◌, ℕ, Bool, false, List, None}
use Rattle.jc_words.specs.Refusals.{Refusals, no_refusals}
use Rattle.jc_words.specs.Store.{FuseStoreValue, StoreValue}
use Rattle.jcard_files.specs.FileDeeds.{fresh_store, untouched}

-- a store under a fuse that is not armed
abbrev pub under_fuse : List ℕ → Bool → ℕ → Refusals → FuseStoreValue
under_fuse w down passed refusals = record {
  words = w;
  down = down;
  passed = 0;
  refusals = record { count = 0; fuse = None; faults = refusals.count };
  down_below = down;
  passed_below = passed;
}

-- a store with these counts
abbrev pub stored : List ℕ → Bool → ℕ → Refusals → StoreValue
stored w down passed refusals = record { words = w; down = down; passed = passed; refused = refusals.count }

-- one that was just opened
pub fresh_under_fuse : (w : List ℕ) (down : Bool) (passed : ℕ) (refusals : Refusals) → down ≡ false → passed ≡ 0
    → refusals ≡ no_refusals → under_fuse w down passed refusals ≡ fresh_store w
fresh_under_fuse w down passed refusals d p r = λ i. under_fuse w (d i) (p i) (r i)

-- any store that was just opened
pub fresh_untouched : (w : List ℕ) (down : Bool) (passed : ℕ) (refusals : Refusals) → down ≡ false → passed ≡ 0
    → refusals ≡ no_refusals → stored w down passed refusals ≡ untouched w
fresh_untouched w down passed refusals d p r = λ i. stored w (d i) (p i) (r i)
