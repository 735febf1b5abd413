-- Scripts that begin with the lines that have led to a card.
use Rattle.std.proofs.Common.{◌≡◌, ◌∙◌, ℕ, true, List, [], ◌∷◌, ◌++◌, Ok, ap, append_assoc, append-nil, inr, refl, subst, sym}
use Rattle.std.specs.Str.Lines.{lines, strip_carriage_return}
use Rattle.jc_words.specs.Store.{FuseStoreValue}
use Rattle.jc_card.specs.Card.{CardState}
use Rattle.jc_card.specs.State.Power.{Up}
use Rattle.jcard_script.specs.Begun.{AnswersLines, HasBegun}
use Rattle.jcard_script.specs.Script.{AreCarriedOut, EndsWithin, IsWrittenFor, ended_lines, form_of}
use Rattle.jcard_script.specs.ScriptStates.{IsSessionStore, ScriptState}
use Rattle.jcard_script.specs.Session.{IsUnbroken, unfinished_line}
use Rattle.jcard_script.proofs.LineRuns.{carried_more}
use Rattle.jcard_script.proofs.Parts.{last_line, line_ended, lines_whole}
use Rattle.jcard_attack.proofs.Joins.{lines_joined}

-- lines are carried out after others
carried_all : (all more : List (List ℕ)) (text rest : List ℕ) (s t u : ScriptState) → AreCarriedOut all s t text → AreCarriedOut more t u rest
    → AreCarriedOut (all ++ more) s u (text ++ rest)
carried_all [] more text rest s t u h k =
    subst (λ (x : ScriptState). AreCarriedOut more x u (text ++ rest)) h.0 (subst (λ (x : List ℕ). AreCarriedOut more t u (x ++ rest)) (sym h.1) k)
carried_all (x ∷ all) more text rest s t u h k =
    (h.0, h.1 ++ rest, h.2, ap (λ l. l ++ rest) h.3 ∙ append_assoc h.0 h.1 rest, h.4, carried_all all more h.1 rest h.2 t u h.5 k)

-- a card, and what was written for the lines that have led to it
abbrev pub HasPrinted : ℕ → FuseStoreValue → List ℕ → CardState → List ℕ → Type 0
HasPrinted budget before script card text = (begun : HasBegun budget before script card) × (begun.text ≡ text)

module _ (budget : ℕ) (before : FuseStoreValue) (script : List ℕ) (card : CardState) (printed : List ℕ) (begun : HasPrinted budget before script card printed) where
  -- one line more leaves the card up
  pub begun_more : (line text : List ℕ) (next : CardState) → IsUnbroken line
      → IsWrittenFor (form_of (strip_carriage_return line)) (Up card) (Up next) text
      → HasPrinted budget before (script ++ line ++ 10 ∷ []) next (printed ++ text)
  begun_more line text next unbroken written =
      let b = begun.0 in
      let ended = line_ended script line unbroken in
      let here = subst (λ (l : List ℕ). IsWrittenFor (form_of (strip_carriage_return (l ++ line))) (Up card) (Up next) text) (sym b.whole) written in
      let carried = carried_more (ended_lines script) (strip_carriage_return (unfinished_line script ++ line)) b.text text b.first (Up card) (Up next) b.carried here in (
        record {
          first = b.first;
          text = b.text ++ text;
          powers = b.powers;
          carried = subst (λ (all : List (List ℕ)). AreCarriedOut all b.first (Up next) (b.text ++ text)) (sym ended.0) carried;
          whole = ended.1;
        },
        ap (λ l. l ++ text) begun.1,
      )

  -- more lines come to their end
  pub begun_ends : (more text : List ℕ) (store : FuseStoreValue) → AnswersLines card more text store
      → EndsWithin budget (Ok tt) before store true (script ++ more) (printed ++ text)
  begun_ends more text store answers =
      let b = begun.0 in
      let carried = carried_all (ended_lines script) (lines more) b.text text b.first (Up card) answers.0 b.carried answers.1.1 in
      let all = subst (λ (ls : List (List ℕ)). AreCarriedOut ls b.first answers.0 (b.text ++ text)) (sym (lines_joined script more b.whole)) carried in
      let told = subst (λ (t : List ℕ). AreCarriedOut (lines (script ++ more)) b.first answers.0 (t ++ text)) begun.1 all in
      inr (b.first, answers.0, b.powers, answers.2, (answers.1.0, told))

  -- so did these lines themselves
  pub begun_ended : (store : FuseStoreValue) → IsSessionStore (Up card) store → EndsWithin budget (Ok tt) before store true script printed
  begun_ended store is =
      let b = begun.0 in
      let all : lines script ≡ ended_lines script = lines_whole script ∙ ap (λ l. ended_lines script ++ last_line l) b.whole
      ∙ append-nil (ended_lines script) in
      let carried = subst (λ (ls : List (List ℕ)). AreCarriedOut ls b.first (Up card) b.text) (sym all) b.carried in
      let told = subst (λ (t : List ℕ). AreCarriedOut (lines script) b.first (Up card) t) begun.1 carried in
      inr (b.first, Up card, b.powers, is, (refl, told))
