-- What comes of powering up, from its parts; and what a fault leaves of the store, one by one.
use Rattle.std.proofs.Common.{◌≡◌, ℕ, List, length, refl, sym, ◌∙◌, ap, subst, Ok, Err}
use Rattle.std.specs.Prelude.{Bool, false, Result, IfOk, IfErr, OnOk}
use Rattle.jc_words.specs.declared.image.ImageFault.{ImageFault}
use Rattle.jc_words.specs.declared.image.ImageFault.TheVariants as image
use Rattle.jc_words.specs.Refusals.{Refusals}
use Rattle.jc_commit.specs.Image.{limit_of, recovered_of}
use Rattle.jc_commit.specs.Migration.{migrated}
use Rattle.jc_commit.specs.Journal.{IsOpened}
use Rattle.jc_commit.specs.State.{State}
use Rattle.jc_commit.proofs.InPlace.{length-recovered}
use Rattle.jc_heap.specs.Heap.{heap_at_rest, heap_of}
use Rattle.jc_heap.specs.Heap.Store.{heap_of_store_at_rest}
use Rattle.jc_image.specs.Opening.{HoldsImage}
use Rattle.jc_platform.specs.Tokens.{Tokens}
use Rattle.jc_interp.specs.Attacks.{undisturbed}
use Rattle.jc_card.specs.Card.{CardState}
use Rattle.jc_packages.specs.Tables.{HasTable}
use Rattle.jc_card.specs.PowerUp.{HasHead, HasHeap, PowerUpRefuses, RecoveredWordsFail, RefusalLeaves, fault_of}
use Rattle.jc_card.specs.PowerUp.Outcome.{FaultLeaves, IsLeftRecovered, IsPoweredOver, PowerUpFails, PowersUpOver}
use Rattle.jc_card.specs.PowerUp.Reset.{IsAtReset}
use Rattle.jc_card.specs.declared.power_up.PowerFault.{PowerFault}
use Rattle.jc_card.specs.declared.power_up.PowerFault.TheVariants.{BadMagic, BadVersion, BadSize, BadLog, BadTable, BadPackage, NoMemory, StoreDown}
use Rattle.jc_card.proofs.PoweredUp.{fails_back, heap_back, limit_still, long_image, made_found, recovered_alike, refuses_from, table_back}

-- the first words' fault
pub image_refuses : (r : Result (Unit {0}) ImageFault) (f : ImageFault) (w : List ℕ) → r ≡ Err f
    → (r ≡ Err image.BadMagic → PowerUpRefuses BadMagic w)
    → (r ≡ Err image.BadVersion → PowerUpRefuses BadVersion w)
    → (r ≡ Err image.BadSize → PowerUpRefuses BadSize w)
    → PowerUpRefuses (fault_of f) w
image_refuses r image.BadMagic w is first second third = first is
image_refuses r image.BadVersion w is first second third = second is
image_refuses r image.BadSize w is first second third = third is

module _ {S : Type 0} (words : S → List ℕ) (down : S → Bool) (passed : S → ℕ) (refusals : S → Refusals) (old : S) where
  -- a fault of the first words leaves the store as it was
  pub image_leaves : (f : ImageFault) → FaultLeaves words down passed refusals old (fault_of f) old
  image_leaves image.BadMagic = refl
  image_leaves image.BadVersion = refl
  image_leaves image.BadSize = refl

  module _ (new : S) where
    leaves_recovered : (fault : PowerFault) (w : List ℕ) → RecoveredWordsFail fault w → IsLeftRecovered words down passed refusals old new
        → FaultLeaves words down passed refusals old fault new
    leaves_recovered BadMagic w fail left = absurd fail
    leaves_recovered BadVersion w fail left = absurd fail
    leaves_recovered BadSize w fail left = absurd fail
    leaves_recovered BadLog w fail left = absurd fail
    leaves_recovered BadTable w fail left = left
    leaves_recovered BadPackage w fail left = left
    leaves_recovered NoMemory w fail left = left
    leaves_recovered StoreDown w fail left = absurd fail

    -- unless a write was refused, a store that was up is up, and has refused none
    pub still_up : (fault : PowerFault) → (fault ≡ StoreDown → ⊥) → down old ≡ false → FaultLeaves words down passed refusals old fault new
        → down new ≡ false
    still_up BadMagic other up leaves = ap down leaves ∙ up
    still_up BadVersion other up leaves = ap down leaves ∙ up
    still_up BadSize other up leaves = ap down leaves ∙ up
    still_up BadLog other up leaves = ap down leaves ∙ up
    still_up BadTable other up leaves = leaves.is_up
    still_up BadPackage other up leaves = leaves.is_up
    still_up NoMemory other up leaves = leaves.is_up
    still_up StoreDown other up leaves = absurd (other refl)

    pub none_refused : (fault : PowerFault) → (fault ≡ StoreDown → ⊥) → FaultLeaves words down passed refusals old fault new
        → refusals new ≡ refusals old
    none_refused BadMagic other leaves = ap refusals leaves
    none_refused BadVersion other leaves = ap refusals leaves
    none_refused BadSize other leaves = ap refusals leaves
    none_refused BadLog other leaves = ap refusals leaves
    none_refused BadTable other leaves = leaves.none_refused
    none_refused BadPackage other leaves = leaves.none_refused
    none_refused NoMemory other leaves = leaves.none_refused
    none_refused StoreDown other leaves = absurd (other refl)

    -- what is left of the words
    pub words_left : (fault : PowerFault) → FaultLeaves words down passed refusals old fault new → RefusalLeaves fault (words old) (words new)
    words_left BadMagic leaves = ap words leaves
    words_left BadVersion leaves = ap words leaves
    words_left BadSize leaves = ap words leaves
    words_left BadLog leaves = ap words leaves
    words_left BadTable leaves = leaves.left
    words_left BadPackage leaves = leaves.left
    words_left NoMemory leaves = leaves.left
    words_left StoreDown leaves = leaves.still

    -- and the heap ends where it did
    same_end : IsLeftRecovered words down passed refusals old new → limit_of (words new) ≡ limit_of (words old)
    same_end leaves = sym (length-recovered (words new)) ∙ ap (λ (l : List ℕ). length l) leaves.left.recovered ∙ long_image (words old)

    pub limit_left : (fault : PowerFault) → FaultLeaves words down passed refusals old fault new → limit_of (words new) ≡ limit_of (words old)
    limit_left BadMagic leaves = ap (λ (s : S). limit_of (words s)) leaves
    limit_left BadVersion leaves = ap (λ (s : S). limit_of (words s)) leaves
    limit_left BadSize leaves = ap (λ (s : S). limit_of (words s)) leaves
    limit_left BadLog leaves = ap (λ (s : S). limit_of (words s)) leaves
    limit_left BadTable leaves = same_end leaves
    limit_left BadPackage leaves = same_end leaves
    limit_left NoMemory leaves = same_end leaves
    limit_left StoreDown leaves = limit_still (words old) (words new) leaves.still

  -- a store that was opened, from what is read of its words
  module _ (back : S) (j : State) (head : HasHead (words old)) (opened : IsOpened (words old) (down old) (passed old) (refusals old) j)
      (holds : HoldsImage (words back) (down back) (passed back) (refusals back) j) where
    same : recovered_of (words back) ≡ migrated 3 (recovered_of (words old))
    same = holds.recovered ∙ ap (λ (s : State). s.plain) opened.recovered

    left : IsLeftRecovered words down passed refusals old back
    left = record {
      left = record { good = holds.good; plain = holds.plain ∙ ap (λ (s : State). s.plain) opened.recovered; recovered = same; closed = holds.closed };
      was_up = opened.was_up;
      is_up = holds.up;
      writes = holds.passed ∙ ap (λ (s : State). s.passed) opened.recovered;
      none_refused = holds.refusals ∙ ap (λ (s : State). s.refusals) opened.recovered;
    }

    is_powered : (budget : ℕ) (card : CardState) → (t : Tokens) × HasTable (recovered_of (words back)) t × HasHeap t (recovered_of (words back))
        → card.memory.heap ≡ heap_of_store_at_rest (words back) (passed back) (refusals back)
        → IsAtReset (heap_of (recovered_of (words back))) card → card.budget ≡ undisturbed budget
        → IsPoweredOver (words old) (down old) (passed old) (refusals old) budget card
    is_powered budget card found heap reset has =
        let w = words old in
        let alike = recovered_alike w in
        let moved : (t : Tokens) × HasTable (migrated 3 (recovered_of w)) t × HasHeap t (migrated 3 (recovered_of w))
        = subst (λ l. (t : Tokens) × HasTable l t × HasHeap t l) same found in
        record {
          made = made_found w head opened.good moved.0 (table_back (recovered_of w) (migrated 3 (recovered_of w)) alike moved.0 moved.1)
              (heap_back (recovered_of w) (migrated 3 (recovered_of w)) alike moved.0 moved.2);
          was_up = opened.was_up;
          heap = heap ∙ (λ i. heap_at_rest (heap_of (same i)) (left.writes i) (left.none_refused i)
              ((holds.size ∙ ap (λ (s : State). length (s.plain)) opened.recovered ∙ long_image w) i));
          reset = subst (λ h. IsAtReset h card) (ap heap_of same ∙ alike.heap) reset;
          budget = has;
        }

    is_refused : (e : PowerFault × S) → RecoveredWordsFail e.0 (recovered_of (words back)) → e.1 ≡ back
        → PowerUpFails words down passed refusals old e.0 e.1
    is_refused e fail kept =
        let w = words old in (
          refuses_from w e.0 head opened.good (fails_back (recovered_of w) (migrated 3 (recovered_of w)) (recovered_alike w) e.0
              (subst (RecoveredWordsFail e.0) same fail)),
          subst (FaultLeaves words down passed refusals old e.0) (sym kept) (leaves_recovered back e.0 (recovered_of (words back)) fail left),
        )

    pub powers_up : (budget : ℕ) (r : Result CardState (PowerFault × S))
        → OnOk r ((t : Tokens) × HasTable (recovered_of (words back)) t × HasHeap t (recovered_of (words back)))
        → IfOk r (λ card. card.memory.heap ≡ heap_of_store_at_rest (words back) (passed back) (refusals back))
        → IfOk r (λ card. card.budget ≡ undisturbed budget)
        → IfOk r (λ card. IsAtReset (heap_of (recovered_of (words back))) card)
        → IfErr r (λ e. RecoveredWordsFail e.0 (recovered_of (words back)))
        → IfErr r (λ e. e.1 ≡ back)
        → PowersUpOver words down passed refusals old budget r
    powers_up budget (Ok card) found heap has reset fail kept = is_powered budget card found heap reset has
    powers_up budget (Err e) found heap has reset fail kept = is_refused e fail kept
