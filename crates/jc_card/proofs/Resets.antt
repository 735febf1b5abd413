-- A reset that finds a fault leaves what was there.
use Rattle.std.proofs.Common.{◌≡◌, List, ℕ, false, refl, sym, ◌∙◌, ap, subst}
use Rattle.jc_commit.specs.Image.{IsGoodLog, limit_of, recovered_of}
use Rattle.jc_heap.specs.Heap.{heap_of}
use Rattle.jc_heap.proofs.Migrated.{migrated_alike}
use Rattle.jc_card.specs.PowerUp.{PowerUpRefuses, RefusalLeaves}
use Rattle.jc_card.specs.declared.power_up.PowerFault.{PowerFault as Fault}
use Rattle.jc_card.specs.declared.power_up.PowerFault.TheVariants.{BadMagic, BadVersion, BadSize, BadLog, BadTable, BadPackage, NoMemory, StoreDown}
use Rattle.jc_card.specs.State.Power.{KeptState, PowerState, StoreState, IsStoreOf}
use Rattle.jc_card.specs.Session.Starting.{FailsToReset, FailsToStart}
use Rattle.jc_card.proofs.Laid.{laid_still}

-- what a power up that found a fault leaves: its log is good, and it recovers to the same heap
still_left : (fault : Fault) (old new : List ℕ) → (fault ≡ StoreDown → ⊥) → IsGoodLog old → RefusalLeaves fault old new
    → IsGoodLog new × (heap_of (recovered_of new) ≡ heap_of (recovered_of old))
still_left BadMagic old new other good stands = (subst IsGoodLog (sym stands) good, ap (λ w. heap_of (recovered_of w)) stands)
still_left BadVersion old new other good stands = (subst IsGoodLog (sym stands) good, ap (λ w. heap_of (recovered_of w)) stands)
still_left BadSize old new other good stands = (subst IsGoodLog (sym stands) good, ap (λ w. heap_of (recovered_of w)) stands)
still_left BadLog old new other good stands = (subst IsGoodLog (sym stands) good, ap (λ w. heap_of (recovered_of w)) stands)
still_left BadTable old new other good stands = (stands.good, ap heap_of stands.recovered ∙ (migrated_alike (recovered_of old) 3).heap)
still_left BadPackage old new other good stands = (stands.good, ap heap_of stands.recovered ∙ (migrated_alike (recovered_of old) 3).heap)
still_left NoMemory old new other good stands = (stands.good, ap heap_of stands.recovered ∙ (migrated_alike (recovered_of old) 3).heap)
still_left StoreDown old new other good stands = absurd (other refl)

-- a reset that finds a fault leaves what was there, with the power on
pub fails_to_reset : (fault : Fault) (s : PowerState) (before after : StoreState) → IsStoreOf s before → PowerUpRefuses fault before.words
    → (fault ≡ StoreDown → ⊥) → limit_of after.words ≡ limit_of before.words → RefusalLeaves fault before.words after.words → after.down ≡ false
    → after.refusals ≡ before.refusals → FailsToReset fault s after
fails_to_reset fault s before after held cause other size stands up refusals =
    let left = still_left fault before.words after.words other held.good stands in (
      before,
      held,
      cause,
      other,
      record {
        good = left.0;
        kept = λ i. record {
          durable = (left.1 ∙ ap (λ (k : KeptState). k.durable) held.kept) i;
          laid = (laid_still fault before.words after.words other stands ∙ ap (λ (k : KeptState). k.laid) held.kept) i;
          down = up i;
          passed = after.passed;
          refusals =
              (refusals ∙ ap (λ (k : KeptState). k.refusals) held.kept) i;
          size = (size ∙ ap (λ (k : KeptState). k.size) held.kept) i;
        };
      },
    )

pub start_fails : (fault : Fault) (s : PowerState) (before after : StoreState) → IsStoreOf s before → FailsToStart fault before after
    → FailsToReset fault s after
start_fails fault s before after held fails = fails_to_reset fault s before after held fails.cause fails.other fails.size fails.stands fails.up fails.refusals
