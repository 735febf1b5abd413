-- What a power up over a store comes to.
use Rattle.std.proofs.Common.{◌≡◌, ℕ, List, Bool, true, false, refl, sym, ◌∙◌, ap, subst}
use Rattle.jc_words.specs.Refusals.{Refusals, refused_once}
use Rattle.jc_commit.specs.Image.{limit_of, recovered_of}
use Rattle.jc_commit.specs.Migration.{migrated, StillOpens}
use Rattle.jc_commit.specs.State.{recovered_journal}
use Rattle.jc_heap.specs.Heap.{HeapView, heap_at_rest, heap_of, heap_view}
use Rattle.jc_heap.proofs.Migrated.{migrated_alike}
use Rattle.jc_interp.specs.Attacks.{undisturbed}
use Rattle.jc_card.specs.Card.{CardState}
use Rattle.jc_card.specs.ProductImages.{IsCardHeap, IsMade}
use Rattle.jc_card.specs.PowerUp.{PowerUpRefuses, RefusalLeaves}
use Rattle.jc_card.specs.PowerUp.Outcome.{PowerUpFails}
use Rattle.jc_card.specs.PowerUp.Reset.{IsAtReset}
use Rattle.jc_card.specs.declared.power_up.PowerFault.{PowerFault as Fault}
use Rattle.jc_card.specs.declared.power_up.PowerFault.TheVariants.{StoreDown}
use Rattle.jc_card.proofs.PoweredUp.{limit_still}
use Rattle.jc_card.proofs.PoweringUp.{limit_left, none_refused, still_up, words_left}
use Rattle.jc_card.specs.State.Power.{KeptState, Off, StoreState, Up, durable_state_in_store, is_well_formed}
use Rattle.jc_card.specs.Session.Starting.{FailsToStart, Starts}
use Rattle.jc_card.proofs.Laid.{same_answer}

-- what an opening leaves stands for the heap of the recovered words
opened_heap : (w : List ℕ) (passed : ℕ) (refusals : Refusals) (n : ℕ) → heap_view (recovered_journal w passed refusals) n
    ≡ heap_at_rest (heap_of (recovered_of w)) (recovered_journal w passed refusals).passed refusals n
opened_heap w passed refusals n =
    let same = (migrated_alike (recovered_of w) 3).heap in
    λ i. heap_at_rest (same i) (recovered_journal w passed refusals).passed refusals n

-- the card is up
pub starts_up : (budget : ℕ) (before : StoreState) (passed : ℕ) (card : CardState) → IsMade before.words
    → card.memory.heap ≡ heap_view (recovered_journal before.words passed before.refusals) (limit_of before.words)
    → IsAtReset (heap_of (recovered_of before.words)) card → card.budget ≡ undisturbed budget → Starts budget before (Up card)
starts_up budget before passed card made heap reset has =
    let opened = heap ∙ opened_heap before.words passed before.refusals (limit_of before.words) in (
      made,
      record {
        made = subst (λ n. IsCardHeap n (heap_of (recovered_of before.words))) (sym (ap (λ (h : ℕ × ℕ). h.1) made.heap.head)) made.heap;
        heap = opened ∙ (λ i. heap_at_rest (heap_of (recovered_of before.words)) (sym (ap (λ (v : HeapView). v.passed) opened) i) before.refusals
            (limit_of before.words));
        reset = reset;
        budget = has;
      },
    )

-- or a write was refused
pub starts_off : (budget : ℕ) (before after : StoreState) → PowerUpRefuses StoreDown before.words → StillOpens before.words after.words → after.down ≡ true
    → after.refusals ≡ refused_once false after.passed before.refusals → Starts budget before (Off budget (durable_state_in_store after))
starts_off budget before after cause still down refusals =
    let alike = migrated_alike (recovered_of before.words) still.done in
    let limit = limit_still before.words after.words still in
    let laid : is_well_formed (recovered_of after.words) ≡ is_well_formed (recovered_of before.words) = ap is_well_formed still.recovered
    ∙ same_answer (migrated still.done (recovered_of before.words)) (recovered_of before.words) (alike.back, alike.laid) in (
      cause,
      (λ i. record {
        durable = (ap heap_of still.recovered ∙ alike.heap) i;
        laid = laid i;
        down = down i;
        passed = after.passed;
        refusals = refusals i;
        size = limit i;
      }),
      refl,
    )

-- the same of the store that a power up was over, whose words and refusals are those of the one before
pub card_starts : (budget : ℕ) (before : StoreState) (w : List ℕ) (passed : ℕ) (refusals : Refusals) (card held : CardState) → w ≡ before.words → refusals ≡ before.refusals
    → held ≡ card → IsMade w → card.memory.heap ≡ heap_view (recovered_journal w passed refusals) (limit_of w) → IsAtReset (heap_of (recovered_of w)) card
    → card.budget ≡ undisturbed budget → Starts budget before (Up held)
card_starts budget before w passed refusals card held words same is made heap reset has = subst (λ (c : CardState). Starts budget before (Up c)) (sym is)
    (starts_up budget before passed card (subst IsMade words made)
    (heap ∙ (λ i. heap_view (recovered_journal (words i) passed (same i)) (limit_of (words i))))
    (subst (λ (l : List ℕ). IsAtReset (heap_of (recovered_of l)) card) words reset) has)

pub store_starts : (budget : ℕ) (before after : StoreState) (w : List ℕ) (refusals : Refusals) (k : KeptState) → w ≡ before.words → refusals ≡ before.refusals
    → k ≡ durable_state_in_store after → PowerUpRefuses StoreDown w → StillOpens w after.words → after.down ≡ true
    → after.refusals ≡ refused_once false after.passed refusals → Starts budget before (Off budget k)
store_starts budget before after w refusals k words same is cause still down refused = subst (λ (s : KeptState). Starts budget before (Off budget s)) (sym is)
    (starts_off budget before after (subst (PowerUpRefuses StoreDown) words cause) (subst (λ (l : List ℕ). StillOpens l after.words) words still) down
    (refused ∙ ap (λ (r : Refusals). refused_once false after.passed r) same))

-- or a fault was found
pub fault_starts : {S : Type 0} (words : S → List ℕ) (down : S → Bool) (passed : S → ℕ) (refusals : S → Refusals) (mid after : S) (before : StoreState)
    (fault : Fault) → words mid ≡ before.words → refusals mid ≡ before.refusals → down mid ≡ false → (fault ≡ StoreDown → ⊥)
    → PowerUpFails words down passed refusals mid fault after
    → FailsToStart fault before (record { words = words after; down = down after; passed = passed after; refusals = refusals after })
fault_starts words down passed refusals mid after before fault same is up other fails = record {
  cause = subst (PowerUpRefuses fault) same fails.0;
  other = other;
  stands = subst (λ (l : List ℕ). RefusalLeaves fault l (words after)) same (words_left words down passed refusals mid after fault fails.1);
  size = limit_left words down passed refusals mid after fault fails.1 ∙ ap limit_of same;
  up = still_up words down passed refusals mid after fault other up fails.1;
  refusals = none_refused words down passed refusals mid after fault other fails.1 ∙ is;
}
