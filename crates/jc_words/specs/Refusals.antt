-- The writes that a store refuses, and its fuse.
use Rattle.std.specs.Prelude.{ℕ, ◌≡◌, ◌≤◌, ◌==◌, ◌||◌, Bool, false, Option, None, Some, if◌then◌else◌}
use Rattle.jc_words.specs.Count.{saturating_count}

-- what is known of the writes that a store refused
pub record Refusals : Type 0 where
  -- how many were refused
  pub count : ℕ
  -- the count of passed writes at which the next write is refused, where that is known
  pub fuse : Option ℕ
  -- how many were refused while the store was up, and not by a fuse
  pub faults : ℕ

-- no write was refused, and no fuse is known
abbrev pub no_refusals : Refusals
no_refusals = record { count = 0; fuse = None; faults = 0 }

-- the fuse is one that refuses the next write when this number has passed
abbrev pub with_fuse_at : ℕ → Refusals → Refusals
with_fuse_at passed r = record r { fuse = Some passed }

-- whether a fuse refuses the next write when this number has passed
abbrev pub is_at : ℕ → Option ℕ → Bool
is_at passed None = false
is_at passed (Some n) = n == passed

-- no more writes have passed than the fuse lets pass, where one is known
abbrev pub IsWithinFuse : ℕ → Option ℕ → Type 0
IsWithinFuse passed fuse = (n : ℕ) → fuse ≡ Some n → passed ≤ n

-- one write more was refused when this number had passed: by a store that was down, or by one that was up, whose fuse is then burnt out if
-- it was at this count; if it was not, that is one fault more
unfoldable pub refused_once : Bool → ℕ → Refusals → Refusals
refused_once down passed r = record {
  count = saturating_count r.count 1;
  fuse = if down then r.fuse else (if is_at passed r.fuse then None else r.fuse);
  faults = if down || is_at passed r.fuse then r.faults else saturating_count r.faults 1;
}
