use Rattle.std.proofs.Common.{◌≡◌, ◌≢◌, ◌∙◌, List, ℕ, Result, Ok, Err, IfSome, MatchResult, OnOk, subst}
use Rattle.std.specs.Prelude.{slice_index}
use Rattle.std.specs.Result.{result_ok}
use Rattle.jc_words.specs.Layout.{first_version, version_address}
use Rattle.jc_commit.specs.Image.{IsGoodLog, recovered_of}
use Rattle.jc_commit.specs.Migration.{migrated}
use Rattle.jcard_tear.proofs.KeptCuts.{migrated_none}
use Rattle.jcard_tear.proofs.kept_card.recovered_alike.Goals as goal

-- an image that is not of the first version is recovered alone
recovered_alone : {A E : Type 0} (R : E → Type 0) (heap : A → List ℕ) (words : List ℕ) (r : Result A E) → MatchResult r (λ x. heap x ≡ migrated 3 (recovered_of words)) R
    → OnOk r (IsGoodLog words) → slice_index words version_address ≢ first_version → IfSome (result_ok r) (λ x. heap x ≡ recovered_of words)
recovered_alone R heap words (Ok x) is good later = is ∙ migrated_none words good later
recovered_alone R heap words (Err e) is good later = tt

pub returns-clause-heap : goal.returns-clause-heap
returns-clause-heap c =
    let later = subst (λ (w : List ℕ). slice_index w version_address ≢ first_version) c.deref.ensures.value c.in_ok-journal_of.ensures.version in
    rw c.ok.ensures.value (recovered_alone _ _ c.args.words.items c.recovered.result c.recovered.ensures.heap c.recovered.ensures.good later)
