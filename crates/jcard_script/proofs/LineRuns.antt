-- Lines that are carried out one after another.
use Rattle.std.proofs.Common.{◌≡◌, ℕ, ◌+◌, List, [], ◌∷◌, ◌++◌, length, refl, sym, ◌∙◌, ap, subst, append_assoc, append-nil}
use Rattle.jcard_texts.specs.Texts.{IsCutOf}
use Rattle.jc_card.specs.declared.power_up.PowerFault.{PowerFault}
use Rattle.jc_card.specs.Session.Requests.{Reset}
use Rattle.jcard_script.specs.ScriptStates.{ScriptState, FailsReset}
use Rattle.jcard_script.specs.Script.{Bad, Asks, form_of, IsWrittenFor, AreCarriedOut, FailsAtBadLine, FailsAtReset, EndsInsideLine}

-- one more line is carried out
pub carried_more : (all : List (List ℕ)) (line text more : List ℕ) (s t u : ScriptState) → AreCarriedOut all s t text → IsWrittenFor (form_of line) t u more
    → AreCarriedOut (all ++ line ∷ []) s u (text ++ more)
carried_more [] line text more s t u h k =
    (more, [], u, ap (λ l. l ++ more) h.1 ∙ sym (append-nil more), subst (λ x. IsWrittenFor (form_of line) x u more) h.0 k, (refl, refl))
carried_more (x ∷ all) line text more s t u h k =
    (h.0, h.1 ++ more, h.2, ap (λ l. l ++ more) h.3 ∙ append_assoc h.0 h.1 more, h.4, carried_more all line h.1 more h.2 t u h.5 k)

-- a line without form after those that were carried out
pub bad_more : (n : ℕ) (all : List (List ℕ)) (line text : List ℕ) (s t : ScriptState) → AreCarriedOut all s t text → form_of line ≡ Bad → n ≡ length all + 1
    → FailsAtBadLine n (all ++ line ∷ []) s t text
bad_more n all line text s t h bad number = (all, line, [], refl, number, bad, h)

-- a reset that found a fault after those that were carried out
pub reset_more : (fault : PowerFault) (all : List (List ℕ)) (line text : List ℕ) (s t u : ScriptState) → AreCarriedOut all s t text → form_of line ≡ Asks Reset
    → FailsReset fault t u
    → FailsAtReset fault (all ++ line ∷ []) s u text
reset_more fault all line text s t u h reset fails = (all, line, [], refl, reset, (t, h, fails))

-- a line whose answer is cut after those that were carried out
pub cut_more : (all : List (List ℕ)) (line text answer part : List ℕ) (s t u : ScriptState) → AreCarriedOut all s t text
    → IsWrittenFor (form_of line) t u answer → IsCutOf answer part
    → EndsInsideLine (all ++ line ∷ []) s u (text ++ part)
cut_more all line text answer part s t u h k cut = (all, line, [], refl, (text, answer, part, t, refl, h, k, cut))

-- more lines follow
pub bad_then : (n : ℕ) (all rest : List (List ℕ)) (text : List ℕ) (s t : ScriptState) → FailsAtBadLine n all s t text → FailsAtBadLine n (all ++ rest) s t text
bad_then n all rest text s t h = (h.0, h.1, h.2 ++ rest, ap (λ l. l ++ rest) h.3 ∙ append_assoc h.0 (h.1 ∷ h.2) rest, h.4, h.5, h.6)

pub reset_then : (fault : PowerFault) (all rest : List (List ℕ)) (text : List ℕ) (s t : ScriptState) → FailsAtReset fault all s t text
    → FailsAtReset fault (all ++ rest) s t text
reset_then fault all rest text s t h = (h.0, h.1, h.2 ++ rest, ap (λ l. l ++ rest) h.3 ∙ append_assoc h.0 (h.1 ∷ h.2) rest, h.4, h.5)

pub cut_then : (all rest : List (List ℕ)) (text : List ℕ) (s t : ScriptState) → EndsInsideLine all s t text → EndsInsideLine (all ++ rest) s t text
cut_then all rest text s t h = (h.0, h.1, h.2 ++ rest, ap (λ l. l ++ rest) h.3 ∙ append_assoc h.0 (h.1 ∷ h.2) rest, h.4)
