-- How lines and scripts end.
use Rattle.std.proofs.Common.{◌≡◌, ℕ, ◌+◌, ◌<◌, Bool, inl, inr, true, false, List, [], ◌∷◌, ◌++◌, length, take, Result, Ok, Err, refl, sym, ◌∙◌, ap, subst, arith, append_assoc}
use Rattle.std.proofs.Common.{append-nil, length-append, slice_index, ◌==◌, drop, take-append-drop}
use Rattle.std.proofs.lemmas.List.{take_more}
use Rattle.std.specs.Prelude.{OnOk, Option}
use Rattle.std.specs.Io.KnownBytes.{Appends}
use Rattle.std.specs.Str.Lines.{lines}
use Rattle.jc_words.specs.Store.{FuseStoreValue}
use Rattle.jcard_script.specs.ScriptStates.{ScriptState}
use Rattle.jcard_script.specs.Script.{Form, form_of, AreCarriedOut, FailsAtBadLine, FailsAtReset, EndsInsideLine, EndsFrom, EndsSelecting, EndsWithin, IsWrittenFor, ended_lines, bound}
use Rattle.jcard_script.specs.Session.{LineEnds, LineFails, LinesEnd, IsWrittenOut, unfinished_line}
use Rattle.jcard_script.specs.declared.script.ScriptFault.{ScriptFault}
use Rattle.jcard_script.specs.declared.script.ScriptFault.TheVariants.{ReadFailed, WriteFailed, BadLine, TooLong, PowerFault}
use Rattle.jcard_script.proofs.LineRuns.{carried_more, bad_more, reset_more, cut_more, bad_then, reset_then, cut_then}
use Rattle.jcard_script.proofs.Parts.{last_line, lines_whole, ended_more}

-- what was written for a reply, or a beginning of it, ends its line
pub written_line : (r : Result Unit ScriptFault) (n : ℕ) (form : Form) (s t : ScriptState) (before after : Option (List ℕ)) (text : List ℕ)
    → IsWrittenFor form s t text → IsWrittenOut r before after text
    → (more : List ℕ) × Appends before after more × LineEnds r n form s t more
written_line (Ok done) n form s t before after text h w = (text, w, h)
written_line (Err WriteFailed) n form s t before after text h w = (w.0, w.1, (text, h, w.2))
written_line (Err (BadLine k)) n form s t before after text h w = absurd w
written_line (Err (PowerFault fault)) n form s t before after text h w = absurd w
written_line (Err ReadFailed) n form s t before after text h w = absurd w
written_line (Err TooLong) n form s t before after text h w = absurd w

-- one more line after those that were carried out
pub line_done : (r : Result Unit ScriptFault) (n : ℕ) (all : List (List ℕ)) (line text more : List ℕ) (s t u : ScriptState) → AreCarriedOut all s t text
    → n ≡ length all + 1
    → LineEnds r n (form_of line) t u more → LinesEnd r (all ++ line ∷ []) s u (text ++ more)
line_done (Ok done) n all line text more s t u h number k = carried_more all line text more s t u h k
line_done (Err (BadLine b)) n all line text more s t u h number k =
    let same : text ++ more ≡ text = ap (λ l. text ++ l) k.3 ∙ append-nil text in
    subst (λ x. FailsAtBadLine b (all ++ line ∷ []) s x (text ++ more)) (sym k.2)
    (subst (FailsAtBadLine b (all ++ line ∷ []) s t) (sym same) (bad_more b all line text s t h k.0 (k.1 ∙ number)))
line_done (Err (PowerFault f)) n all line text more s t u h number k =
    let same : text ++ more ≡ text = ap (λ l. text ++ l) k.2 ∙ append-nil text in
    subst (FailsAtReset f (all ++ line ∷ []) s u) (sym same) (reset_more f all line text s t u h k.0 k.1)
line_done (Err WriteFailed) n all line text more s t u h number k = cut_more all line text k.0 more s t u h k.1 k.2
line_done (Err ReadFailed) n all line text more s t u h number k = absurd k
line_done (Err TooLong) n all line text more s t u h number k = absurd k

-- the end of a script ends its last line, if it has a byte
pub script_done : (r : Result Unit ScriptFault) (n : ℕ) (script text more : List ℕ) (s t u : ScriptState) → AreCarriedOut (ended_lines script) s t text
    → n ≡ length (ended_lines script) + 1
    → LineEnds r n (form_of (unfinished_line script)) t u more → LinesEnd r (lines script) s u (text ++ more)
script_done r n script text more s t u h number k =
    subst (λ all. LinesEnd r all s u (text ++ more)) (sym (lines_whole script)) (last_done r n (unfinished_line script)
    (ended_lines script) text more s t u h number k)
  where
    none_done : (r : Result Unit ScriptFault) (n : ℕ) (all : List (List ℕ)) (text more : List ℕ) (s t u : ScriptState) → AreCarriedOut all s t text
        → LineEnds r n (form_of []) t u more → LinesEnd r (all ++ []) s u (text ++ more)
    none_done (Ok done) n all text more s t u h k =
        let same : text ++ more ≡ text = ap (λ l. text ++ l) k.1 ∙ append-nil text in
        subst (λ all'. AreCarriedOut all' s u (text ++ more)) (sym (append-nil all))
        (subst (λ x. AreCarriedOut all s x (text ++ more)) (sym k.0) (subst (AreCarriedOut all s t) (sym same) h))
    none_done (Err (BadLine b)) n all text more s t u h k = cc k.0
    none_done (Err (PowerFault f)) n all text more s t u h k = cc k.0
    none_done (Err WriteFailed) n all text more s t u h k =
        let none : k.0 ≡ [] = k.1.1 in
        let cut : k.0 ≡ more ++ k.2.0 = k.2.1 in
        let some : 0 < length k.2.0 = k.2.2 in
        absurd (omega (arith, ap length (sym none ∙ cut), length-append more k.2.0, some))
    none_done (Err ReadFailed) n all text more s t u h k = absurd k
    none_done (Err TooLong) n all text more s t u h k = absurd k

    last_done : (r : Result Unit ScriptFault) (n : ℕ) (begun : List ℕ) (all : List (List ℕ)) (text more : List ℕ) (s t u : ScriptState)
        → AreCarriedOut all s t text → n ≡ length all + 1
        → LineEnds r n (form_of begun) t u more → LinesEnd r (all ++ last_line begun) s u (text ++ more)
    last_done r n [] all text more s t u h number k = none_done r n all text more s t u h k
    last_done r n (b ∷ begun) all text more s t u h number k = line_done r n all (b ∷ begun) text more s t u h number k

-- lines that were not all carried out, and more lines
pub ended_then : (fault : ScriptFault) (script rest text : List ℕ) (s t : ScriptState) → LinesEnd (Err fault) (ended_lines script) s t text
    → LinesEnd (Err fault) (ended_lines (script ++ rest)) s t text
ended_then (BadLine n) script rest text s t h =
    let more = ended_more script rest in subst (λ all. FailsAtBadLine n all s t text) (sym more.1) (bad_then n (ended_lines script) more.0 text s t h)
ended_then (PowerFault f) script rest text s t h =
    let more = ended_more script rest in subst (λ all. FailsAtReset f all s t text) (sym more.1) (reset_then f (ended_lines script) more.0 text s t h)
ended_then WriteFailed script rest text s t h =
    let more = ended_more script rest in subst (λ all. EndsInsideLine all s t text) (sym more.1) (cut_then (ended_lines script) more.0 text s t h)
ended_then ReadFailed script rest text s t h = absurd h
ended_then TooLong script rest text s t h = absurd h

-- the end of the script
pub ends_at_end : (r : Result Unit ScriptFault) (script text : List ℕ) (s t : ScriptState) → LinesEnd r (lines script) s t text
    → EndsFrom r true script s t text
ends_at_end (Ok done) script text s t k = (refl, k)
ends_at_end (Err (BadLine n)) script text s t k = k
ends_at_end (Err (PowerFault f)) script text s t k = k
ends_at_end (Err WriteFailed) script text s t k = k
ends_at_end (Err ReadFailed) script text s t k = absurd k
ends_at_end (Err TooLong) script text s t k = absurd k

-- before the end
pub ends_before : (fault : ScriptFault) (script text : List ℕ) (s t : ScriptState) → LinesEnd (Err fault) (ended_lines (take bound script)) s t text
    → EndsFrom (Err fault) false script s t text
ends_before (BadLine n) script text s t k = k
ends_before (PowerFault f) script text s t k = k
ends_before WriteFailed script text s t k = k
ends_before ReadFailed script text s t k = absurd k
ends_before TooLong script text s t k = absurd k

-- where all lines were carried out
pub if_carried : (r : Result Unit ScriptFault) (all : List (List ℕ)) (text : List ℕ) (s t : ScriptState) (P : Type 0) → LinesEnd r all s t text
    → (AreCarriedOut all s t text → P) → OnOk r P
if_carried (Ok done) all text s t P h f = f h
if_carried (Err fault) all text s t P h f = tt

-- what came of a piece, the bytes before a line feed, it, and the rest of the piece
pub piece_whole : (script done rest piece : List ℕ) (n : ℕ) → piece ≡ done ++ rest → n < length rest → (slice_index rest n == 10) ≡ true
    → (((script ++ done) ++ take n rest) ++ 10 ∷ []) ++ drop (n + 1) rest ≡ script ++ piece
piece_whole script done rest piece n h lt feed =
    let ten : slice_index rest n ≡ 10 = is_ten (slice_index rest n) feed in
    let one : take (n + 1) rest ≡ take n rest ++ 10 ∷ [] = take_more rest n 0 lt ∙ ap (λ b. take n rest ++ b ∷ []) ten in
    ap (λ l. l ++ drop (n + 1) rest) (append_assoc (script ++ done) (take n rest) (10 ∷ []) ∙ ap (λ l. (script ++ done) ++ l) (sym one))
    ∙ append_assoc (script ++ done) (take (n + 1) rest) (drop (n + 1) rest) ∙ ap (λ l. (script ++ done) ++ l) (take-append-drop (n + 1) rest)
    ∙ append_assoc script done rest ∙ ap (λ l. script ++ l) (sym h)
  where
    is_ten : (b : ℕ) → (b == 10) ≡ true → b ≡ 10
    is_ten b h = grind arith

-- a fault at a line within a piece
pub fault_inside : (fault : ScriptFault) (script text piece more next ended rest : List ℕ) (s t : ScriptState) → ended ++ rest ≡ script ++ piece
    → LinesEnd (Err fault) (ended_lines ended) s t ((text ++ more) ++ next)
    → LinesEnd (Err fault) (ended_lines (script ++ piece)) s t (text ++ (more ++ next))
fault_inside fault script text piece more next ended rest s t e k =
    let all = ended_then fault ended rest ((text ++ more) ++ next) s t k in
    subst (λ x. LinesEnd (Err fault) (ended_lines (script ++ piece)) s t x) (append_assoc text more next)
    (subst (λ x. LinesEnd (Err fault) (ended_lines x) s t ((text ++ more) ++ next)) e all)

-- a line for which nothing is written
pub failed_line : (fault : ScriptFault) (n : ℕ) (form : Form) (s t : ScriptState) → LineFails fault n form s t → LineEnds (Err fault) n form s t []
failed_line (BadLine b) n form s t h = (h.0, h.1, h.2, refl)
failed_line (PowerFault f) n form s t h = (h.0, h.1, refl)
failed_line ReadFailed n form s t h = absurd h
failed_line WriteFailed n form s t h = absurd h
failed_line TooLong n form s t h = absurd h

-- a script of which it is known what is selected at its end has ended so
pub ends_within : (budget : ℕ) (r : Result Unit ScriptFault) (before after : FuseStoreValue) (at_end : Bool) (script text : List ℕ) (selected : Option (List ℕ))
    → EndsSelecting budget r before after at_end script text selected → EndsWithin budget r before after at_end script text
ends_within budget r before after at_end script text selected (inl f) = inl f.0
ends_within budget r before after at_end script text selected (inr e) = inr (e.0, e.1, e.2, e.3, e.4)
