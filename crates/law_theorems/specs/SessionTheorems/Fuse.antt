-- The fuse of a session's store.
use Rattle.std.specs.Prelude.{ℕ, ◌≡◌, ◌⊎◌, ◌<◌, ◌≤◌, List, None}
use Rattle.jc_words.specs.Count.{saturating_count}
use Rattle.jc_words.specs.Refusals.{IsWithinFuse, Refusals, with_fuse_at}
use Rattle.jc_card.specs.Session.Requests.{Request, Reply}
use Rattle.jc_card.specs.State.Power.{PowerState, armed, durable_state}
use Rattle.jc_card.specs.Session.Serving.{SessionRun}
use Rattle.law_theorems.specs.DownRuns.{ArmNone, RunWithDown}

-- what is known of the writes that its store refused
abbrev pub refusals_of : PowerState → Refusals
refusals_of s = (durable_state s).refusals

-- one of these requests is cut when exactly this many writes have passed, which burns the fuse out; no write is refused before it, and none after it
pub record IsCutAt (count : ℕ) (requests : List Request) (replies : List Reply) (s last : PowerState) : Type 0 where
  pub run : RunWithDown requests replies s last
  pub none : refusals_of run.mid ≡ refusals_of s
  pub passed : (durable_state run.next).passed ≡ count
  pub cut : refusals_of run.next ≡ record (refusals_of s) { count = saturating_count (refusals_of s).count 1; fuse = None }
  pub still : refusals_of last ≡ refusals_of run.next

-- no write is refused, at most as many pass as the fuse lets pass, and it stands where it was set
abbrev pub IsSpared : ℕ → PowerState → PowerState → Type 0
IsSpared count s last = (refusals_of last ≡ with_fuse_at count (refusals_of s)) × ((durable_state last).passed ≤ count)

-- After `stop K`, while no request arms the fuse again and the store below refuses nothing by itself, over a store that lets no more writes
-- pass than its fuse: no write is refused, at most K more pass, and the fuse stands K writes ahead of those that had passed; or exactly one is
-- refused, after exactly K more. Resets in between change nothing of that
abbrev pub FusesCut : Type 0
FusesCut = (k : ℕ) (requests : List Request) (replies : List Reply) (s last : PowerState) → SessionRun (armed k s) requests replies last → ArmNone requests
    → (refusals_of s).faults < 18446744073709551615 → (refusals_of last).faults ≡ (refusals_of s).faults
    → IsWithinFuse (durable_state last).passed (refusals_of last).fuse
    → IsSpared (saturating_count (durable_state s).passed k) s last ⊎ IsCutAt (saturating_count (durable_state s).passed k) requests replies (armed k s) last
