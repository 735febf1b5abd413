-- A cut leaves the changes before it.
use Rattle.std.proofs.Common.{◌≡◌, ℕ, ◌+◌, true, List, [], ◌∷◌, ◌++◌, inl, inr, sym, subst, ◌∙◌, ap}
use Rattle.std.proofs.lemmas.Bool.{false_from_ne_true}
use Rattle.std.proofs.lemmas.Bool.{and_parts}
use Rattle.jc_heap.specs.Heap.{HeapState, HeapView, facts}
use Rattle.jc_heap.specs.HeapLaws.{IsExactCut}
use Rattle.jc_heap.specs.Moves.{Commit, WriteNonAtomic}
use Rattle.jc_heap.proofs.Losses.{exact}
use Rattle.jc_memory.specs.State.{MemoryState, Effect, HeapMove, apply_effects, moves_of}
use Rattle.jc_memory.specs.Reading.{AllEffectsDue}
use Rattle.jc_memory.proofs.ProgramLemmas.{due_before, lost_by}
use Rattle.jc_platform.specs.Tokens.{Tokens}
use Rattle.jc_environment.specs.Pins.{counter}
use Rattle.jc_card.specs.Answers.{exchange}
use Rattle.jc_card.specs.Card.{CardState}
use Rattle.jc_packages.specs.Objects.{is_object_address}
use Rattle.law_code.specs.PinChanges.{IsChanged}
use Rattle.law_code.proofs.AtomicEffects.{due_begun}
use Rattle.law_soundness.specs.MachineLaws.Commands.{IsServed}
use Rattle.law_soundness.specs.MemoryLaws.State.{IsSoundMemory}
use Rattle.law_theorems.specs.Cards.{IsOwnCard}
use Rattle.law_theorems.specs.Outcomes.{memory_at}
use Rattle.law_soundness.specs.LoadedPackages.{AreBytes}
use Rattle.law_theorems.specs.Tries.{is_owner_pin, tries_in}
use Rattle.law_theorems.proofs.Sessions.{linked_known}
use Rattle.law_theorems.specs.SessionTheorems.Cuts.{IsBehind, IsHeapCutAt, KeepWhatWasDone, LeaveTheChangesBeforeThem, SetNoTries}
use Rattle.law_theorems.proofs.CardsAtRest.{comes_own}
use Rattle.law_theorems.proofs.Complete.{behind_complete}
use Rattle.law_theorems.proofs.CountedTries.{HoldsInBoth, behind_all, counted_in_both, none_before, tries_of}
use Rattle.law_theorems.proofs.Fuse.{at_count, by_fuse}
use Rattle.law_theorems.proofs.Prefixes.{behind_both, due_after}
use Rattle.law_theorems.proofs.ServedEffects.{AddsPackage, IsFine, commands_fine, sound_behind}
use Rattle.law_theorems.proofs.TakenBack.{left_of, resets}

-- ---- a try that was counted

module _ (t : Tokens) (card : CardState) (own : IsOwnCard t card) (bytes : List ℕ) (are : AreBytes bytes) (k q v : ℕ) (h : HeapState)
    (c : IsHeapCutAt card bytes k h) (before after : List Effect) where
  abbrev counted : List Effect
  counted = before ++ (HeapMove (WriteNonAtomic (counter q) v) ∷ [])

  module _ (is : c.effects ≡ counted ++ after) (done : IsBehind card counted after h) where
    due : (P : Effect → MemoryState → Type 0) → AllEffectsDue P c.effects card.memory → AllEffectsDue P (counted ++ after) card.memory
    due P all = subst (λ es. AllEffectsDue P es card.memory) is all

    stays_served : AllEffectsDue (IsServed card.packages) (counted ++ after) card.memory → is_owner_pin card.packages (memory_at card before).heap.durable q ≡ true
        → (IsChanged (memory_at card before) q → ⊥) → SetNoTries q after (memory_at card counted) → tries_in h q ≡ v
    stays_served all pin unchanged none =
        let p = card.packages in
        let known = linked_known card.packages own.linked in
        let first = due_before (IsServed p) counted after card.memory all in
        let sound : IsSoundMemory p (memory_at card before) = sound_behind p before card.memory
        (due_before (IsServed p) before (HeapMove (WriteNonAtomic (counter q) v) ∷ []) card.memory first) own.ready.sound in
        let f = facts (memory_at card before).heap.durable q in
        let here : HoldsInBoth q v f (memory_at card counted) = subst (HoldsInBoth q v f)
        (sym (behind_both before (HeapMove (WriteNonAtomic (counter q) v) ∷ []) card.memory))
        (counted_in_both p known (memory_at card before) sound q v pin (false_from_ne_true _ unchanged)) in
        let front = done.0 in
        let served = due_before (IsServed p) front done.1 (memory_at card counted)
        (subst (λ es. AllEffectsDue (IsServed p) es (memory_at card counted)) done.2 (due_after (IsServed p) counted after card.memory all)) in
        let held = behind_all p known q v f (and_parts (is_object_address (memory_at card before).heap.durable q) _ pin).1 front (memory_at card counted) served
        (sound_behind p counted card.memory first own.ready.sound)
        (none_before q front done.1 (memory_at card counted) (subst (λ es. SetNoTries q es (memory_at card counted)) done.2 none)) here in
        ap (λ (x : HeapState). tries_in x q) (done.3 ∙ ap (λ (m : MemoryState). m.heap.durable) (behind_both counted front card.memory))
        ∙ tries_of q v f (apply_effects front (memory_at card counted)).heap.durable held.1

    pub stays_counted : is_owner_pin card.packages (memory_at card before).heap.durable q ≡ true → (IsChanged (memory_at card before) q → ⊥)
        → SetNoTries q after (memory_at card counted) → tries_in h q ≡ v
    stays_counted pin unchanged none = by (commands_fine t card own bytes are)
      where
        by : IsFine card.packages (exchange bytes card) card.memory → tries_in h q ≡ v
        by (inl served) = stays_served (due (IsServed card.packages)
            (due_begun (IsServed card.packages) (exchange bytes card) card.memory c.effects served c.begins)) pin unchanged none
        by (inr adds) = absurd (due_after AddsPackage before (HeapMove (WriteNonAtomic (counter q) v) ∷ []) card.memory
            (due_before AddsPackage counted after card.memory (due AddsPackage
            (due_begun AddsPackage (exchange bytes card) card.memory c.effects adds c.begins)))).0

-- ---- the laws

pub cuts_leave : LeaveTheChangesBeforeThem
cuts_leave = record {
  cut = λ card next bytes off requests replies down answers run small.
      let p = lost_by (exchange bytes card) card.memory off.passed off.durable answers.1.0 in
      let x : IsExactCut (moves_of (p.0 ∷ p.1)) card.memory.heap off.passed off.durable =
      exact (moves_of (p.0 ∷ p.1)) card.memory.heap off.passed off.durable small p.3 in
      let rest = resets requests replies card.budget.left off next down run in
      let now : next.memory.heap.now ≡ off.durable = ap (λ (v : HeapView). v.now) rest.2.heap ∙ rest.1 in (
        x.0,
        x.1,
        record { effects = p.0 ∷ p.1; begins = p.2; within = x.2; is = now ∙ x.3 },
      );
  stopped = λ card bytes off ahead answers fuse small same. at_count off.passed (card.memory.heap.passed + ahead) card.memory.heap.refusals.fuse fuse
      (by_fuse off.passed card.memory.heap.refusals off.refusals answers.1.2 small same);
}

pub done_stays : KeepWhatWasDone
done_stays = record {
  complete = behind_complete;
  committed = λ card bytes k h c before after are le. behind_complete card bytes k h c (before ++ (HeapMove Commit ∷ [])) after are le;
  counted = λ t card bytes k q v h c before after comes are is le pin unchanged none.
      let counts = before ++ (HeapMove (WriteNonAtomic (counter q) v) ∷ []) in
      stays_counted t card (comes_own t _ comes) bytes are k q v h c before after is (behind_complete card bytes k h c counts after is le) pin unchanged none;
  left = λ t card bytes effects h comes are begins is. left_of t card comes bytes effects h are begins is;
}
