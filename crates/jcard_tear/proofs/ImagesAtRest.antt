-- Words at rest are left as they are by a recovery.
use Rattle.std.proofs.Common.{◌≡◌, ◌≢◌, ℕ, List, false, arith, subst, sym}
use Rattle.std.specs.Prelude.{slice_index}
use Rattle.jc_words.specs.Image.{log_of}
use Rattle.jc_words.specs.Layout.{first_version, version, version_address}
use Rattle.jc_commit.specs.Image.{count_of}
use Rattle.jc_commit.proofs.Steps.{Replayed, replayed_all, replayed_none}
use Rattle.jc_heap.specs.Heap.Store.{IsAtRest}
use Rattle.jcard_sweeps.specs.Runs.{IsRecovered}

pub is_recovered : (w : List ℕ) → IsAtRest w false → IsRecovered w
is_recovered w rests = (
  rests.good,
  sym (replayed_all w (subst (λ (n : ℕ). Replayed (log_of w) w 0 n) (sym rests.closed) (replayed_none (log_of w) w 0))),
  later (slice_index w version_address) rests.current,
)
  where
    later : (x : ℕ) → x ≡ version → x ≢ first_version
    later x e = λ is. absurd (omega (arith, e, is))
