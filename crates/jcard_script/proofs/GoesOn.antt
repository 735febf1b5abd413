-- A card that has carried out the first lines of a script, and goes on.
use Rattle.std.proofs.Common.{◌≡◌, ◌∙◌, ℕ, true, false, List, [], ◌∷◌, ◌++◌, Result, Ok, Err, ap, length, refl, sym, subst, inr, append_assoc, append-nil}
use Rattle.std.specs.Str.Lines.{lines, strip_carriage_return}
use Rattle.jc_words.specs.Count.{saturating_count}
use Rattle.jc_words.specs.Refusals.{with_fuse_at}
use Rattle.jc_words.specs.Store.{FuseStoreValue}
use Rattle.jc_words.specs.declared.store.StoreDown.{StoreDown}
use Rattle.jc_commit.specs.Image.{IsGoodLog, recovered_of}
use Rattle.jc_commit.proofs.InPlace.{length-recovered}
use Rattle.jc_heap.specs.Heap.{HeapView, heap_of}
use Rattle.jc_heap.specs.Image.{IsWellFormed}
use Rattle.jc_heap.specs.Heap.Store.{HoldsHeap}
use Rattle.jc_memory.specs.Programs.{Executes}
use Rattle.jc_card.specs.Answers.{after_exchange, answered, exchange}
use Rattle.jc_card.specs.Card.{CardState}
use Rattle.jc_card.specs.State.Power.{Up, Off, armed_card}
use Rattle.jc_card.specs.Session.Requests.{Armed, ArmFuse, Down, Response}
use Rattle.jcard_script.specs.Begun.{AnswersLeaving, EndsLeaving, ForEachAlike, HasBegun, IsCommandLine, IsStopLine, LeavesCut}
use Rattle.jcard_script.specs.Script.{AreCarriedOut, Asks, EndsWithin, IsWrittenFor, armed_text, ended_lines, form_of, text_of_reply}
use Rattle.jc_card.specs.State.{with_fuse}
use Rattle.jcard_script.specs.ScriptStates.{IsStoreOf, ScriptState}
use Rattle.jcard_script.specs.Session.{unfinished_line}
use Rattle.jcard_script.proofs.LineRuns.{carried_more}
use Rattle.jcard_script.proofs.LongCommands.{answered_line}
use Rattle.jcard_script.proofs.Parts.{last_line, line_ended, lines_whole}

-- between two commands that is all that arming does
pub armed_at_rest : (k : ℕ) (old new : CardState) → new ≡ armed_card k old → old.memory.heap.down ≡ false → old.memory.heap.durable ≡ old.memory.heap.now
    → old.memory.heap.begun ≡ false → old.memory.heap.touched ≡ [] → Up new ≡ with_fuse k (Up old)
armed_at_rest k old new e up settled outside none =
    let heap : HeapView = old.memory.heap in
    ap (λ (c : CardState). Up c) e ∙ (λ i. Up (record old {
      memory = record old.memory {
        heap = record {
          now = sym settled i;
          durable = heap.durable;
          begun = outside i;
          touched = none i;
          down = up i;
          passed = heap.passed;
          refusals = with_fuse_at (saturating_count heap.passed k) heap.refusals;
          size = heap.size;
        };
      };
    }))

-- the store of a heap might have other words that a recovery makes the same of
store_alike : (heap : HeapView) (store : FuseStoreValue) (words : List ℕ) → HoldsHeap store.words store.down store.passed store.refusals heap → IsGoodLog words
    → recovered_of words ≡ recovered_of store.words → IsStoreOf heap (record store { words = words })
store_alike heap store words holds good same = record {
  good = good;
  laid = subst IsWellFormed (sym same) holds.laid;
  durable = ap heap_of same ∙ holds.durable;
  size = sym (length-recovered words) ∙ ap (λ (w : List ℕ). length w) same ∙ length-recovered store.words ∙ holds.size;
  down = holds.down;
  passed = holds.passed;
  refusals = holds.refusals;
}

-- what a card leaves that carries a command out, or is cut within it
pub left_by : (r : Result Unit StoreDown) (card next : CardState) (command response : List ℕ) (store : FuseStoreValue)
    → Executes (exchange command card) card.memory (after_exchange (answered r response) next)
    → HoldsHeap store.words store.down store.passed store.refusals next.memory.heap → ForEachAlike (AnswersLeaving card command) store
left_by (Ok done) card next command response store did holds = λ words good same.
    (Response response, Up next, did, store_alike next.memory.heap store words holds good same)
left_by (Err e) card next command response store did holds = λ words good same.
    let left : FuseStoreValue = record store { words = words } in
    (Down, Off card.budget.left left, (refl, (next.memory.heap, did, store_alike next.memory.heap store words holds good same)), refl)

-- ---- two lines more

module _ (k budget : ℕ) (card fused : CardState) (stop command script line : List ℕ) (before store : FuseStoreValue) (stops : IsStopLine k stop)
    (fuses : Up fused ≡ with_fuse k (Up card)) (begun : HasBegun budget before script card) (spelt : IsCommandLine command line)
    (answer : AnswersLeaving fused command store) where
  one : List ℕ
  one = script ++ stop ++ 10 ∷ []

  -- the fuse is armed
  at_stop : AreCarriedOut (ended_lines one) begun.first (Up fused) (begun.text ++ armed_text k)
  unfolding one
  at_stop =
      let form : form_of (strip_carriage_return (unfinished_line script ++ stop)) ≡ Asks (ArmFuse k) =
      ap (λ l. form_of (strip_carriage_return (l ++ stop))) begun.whole ∙ stops.1 in
      let written = subst (λ f. IsWrittenFor f (Up card) (Up fused) (armed_text k)) (sym form) (Armed k, (refl, fuses), refl) in
      subst (λ all. AreCarriedOut all begun.first (Up fused) (begun.text ++ armed_text k)) (sym (line_ended script stop stops.0).0)
      (carried_more (ended_lines script) (strip_carriage_return (unfinished_line script ++ stop)) begun.text (armed_text k) begun.first (Up card) (Up fused)
      begun.carried written)

  none_unfinished : unfinished_line one ≡ []
  unfolding one
  none_unfinished = (line_ended script stop stops.0).1

  printed : List ℕ
  printed = (begun.text ++ armed_text k) ++ text_of_reply answer.0

  whole : List ℕ
  whole = one ++ spelt.0 ++ 10 ∷ []

  -- the command is answered
  at_end : AreCarriedOut (lines whole) begun.first answer.1 printed
  unfolding whole printed
  at_end =
      let last : List ℕ = text_of_reply answer.0 in
      let written = answered_line (Up fused) answer.1 (strip_carriage_return spelt.0) command last spelt.3 (answer.0, answer.2, refl) in
      let here = subst (λ l. IsWrittenFor (form_of (strip_carriage_return (l ++ spelt.0))) (Up fused) answer.1 last) (sym none_unfinished) written in
      let ended = line_ended one spelt.0 spelt.2 in
      let carried = subst (λ all. AreCarriedOut all begun.first answer.1 ((begun.text ++ armed_text k) ++ last)) (sym ended.0)
      (carried_more (ended_lines one) (strip_carriage_return (unfinished_line one ++ spelt.0)) (begun.text ++ armed_text k) last begun.first (Up fused) answer.1
      at_stop here) in
      let all : lines (one ++ spelt.0 ++ 10 ∷ []) ≡ ended_lines (one ++ spelt.0 ++ 10 ∷ []) = lines_whole (one ++ spelt.0 ++ 10 ∷ [])
      ∙ ap (λ l. ended_lines (one ++ spelt.0 ++ 10 ∷ []) ++ last_line l) ended.1 ∙ append-nil (ended_lines (one ++ spelt.0 ++ 10 ∷ [])) in
      subst (λ all. AreCarriedOut all begun.first answer.1 ((begun.text ++ armed_text k) ++ last)) (sym all) carried

  whole_is : whole ≡ script ++ (stop ++ 10 ∷ []) ++ line
  unfolding whole one
  whole_is = append_assoc (script ++ stop ++ 10 ∷ []) spelt.0 (10 ∷ []) ∙ ap (λ l. (script ++ stop ++ 10 ∷ []) ++ l) (sym spelt.1)
      ∙ ap (λ l. l ++ line) (append_assoc script stop (10 ∷ []))

  two_more : EndsLeaving budget before (script ++ (stop ++ 10 ∷ []) ++ line) store
  two_more = (printed, subst (λ s. EndsWithin budget (Ok tt) before store true s printed) whole_is (inr (begun.first, answer.1, begun.powers, answer.3, (refl, at_end))))

-- a script goes on where its first lines led to
pub goes_on : (k : ℕ) (card fused : CardState) (stop command : List ℕ) (store : FuseStoreValue) → IsStopLine k stop → Up fused ≡ with_fuse k (Up card)
    → ForEachAlike (AnswersLeaving fused command) store → LeavesCut card stop command store
goes_on k card fused stop command store stops fuses left = λ budget before script line begun spelt words good same.
    two_more k budget card fused stop command script line before (record store { words = words }) stops fuses begun spelt (left words good same)
