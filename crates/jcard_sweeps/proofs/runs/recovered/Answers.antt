use Rattle.std.proofs.Common.{◌≡◌, ◌≢◌, ◌∙◌, ℕ, List, ap, arith, sym}
use Rattle.std.specs.Prelude.{slice_index}
use Rattle.jc_words.specs.Layout.{first_version, version, version_address}
use Rattle.jc_words.specs.Store.{MemStoreValue}
use Rattle.jc_commit.specs.Image.{plain_of, recovered_of}
use Rattle.jc_commit.specs.Migration.{migrated}
use Rattle.jc_commit.specs.State.{State}
use Rattle.jcard_sweeps.proofs.runs.recovered.Goals as goal

-- the version that is written is not the first
later : (x : ℕ) → x ≡ version → x ≢ first_version
later x e = λ is. absurd (omega (arith, e, is))

pub returns-in-Ok-clause-heap : goal.returns-in-Ok-clause-heap
returns-in-Ok-clause-heap c = ap plain_of c.into_words.ensures ∙ c.into_store-store.ensures.stands.plain ∙ ap (λ (s : State). s.plain) c.in-Ok.ensures.recovered
    ∙ ap (λ (m : MemStoreValue). migrated 3 (recovered_of m.words)) c.of.ensures

pub returns-in-Ok-clause-recovered : goal.returns-in-Ok-clause-recovered
returns-in-Ok-clause-recovered c =
    let left = c.into_store-store.ensures in
    let words = c.into_words.ensures in (
      rw words left.stands.good,
      ap recovered_of words ∙ left.stands.recovered ∙ ap (λ (s : State). s.recovered) c.in-Ok.ensures.recovered
          ∙ sym (ap plain_of words ∙ left.stands.plain ∙ ap (λ (s : State). s.plain) c.in-Ok.ensures.recovered),
      later _ (ap (λ (w : List ℕ). slice_index w version_address) words ∙ left.current),
    )

pub returns-in-Ok-clause-good : goal.returns-in-Ok-clause-good
returns-in-Ok-clause-good c = rw c.of.ensures at c.in-Ok.ensures.good
