-- A script that is being carried out.
use Rattle.std.specs.Prelude.{ℕ, ◌≡◌, ◌<◌, ◌==◌, false, List, [], ◌∷◌, ◌++◌, length, slice_index, Option, Result, Ok, Err, OnOk}
use Rattle.std.specs.List.{slice_split}
use Rattle.std.specs.Io.KnownBytes.{Appends}
use Rattle.std.specs.Str.Lines.{strip_carriage_return}
use Rattle.jc_card.specs.Session.Requests.{Reset}
use Rattle.jcard_script.specs.HeldCard.{state_of_held}
use Rattle.jcard_script.specs.Line.{IsLineOf, ends_in_return}
use Rattle.jcard_script.specs.ScriptStates.{ScriptState, FailsReset}
use Rattle.jcard_script.specs.Script.{Form, Asks, Bad, IsWrittenFor, AreCarriedOut, FailsAtBadLine, FailsAtReset, EndsInsideLine, ended_lines}
use Rattle.jcard_texts.specs.Texts.{AppendsCut, IsCutOf}
use Rattle.jcard_script.specs.Word.{IsWordOf}
use Rattle.jcard_script.specs.declared.line.Line.{Line}
use Rattle.jcard_script.specs.declared.session.Session.{Session}
use Rattle.jcard_script.specs.declared.script.ScriptFault.{ScriptFault}
use Rattle.jcard_script.specs.declared.script.ScriptFault.TheVariants.{ReadFailed, WriteFailed, BadLine, TooLong, PowerFault}

-- the last part, or nothing
abbrev pub last_part : List (List ℕ) → List ℕ
last_part [] = []
last_part (x ∷ []) = x
last_part (x ∷ y ∷ more) = last_part (y ∷ more)

-- what stands after the last line feed
abbrev pub unfinished_line : List ℕ → List ℕ
unfinished_line text = last_part (slice_split (λ b. b == 10) text)

-- no byte is a line feed
abbrev pub IsUnbroken : List ℕ → Type 0
IsUnbroken line = (k : ℕ) → k < length line → (slice_index line k == 10) ≡ false

-- what is kept of a line of which these bytes have come
abbrev pub IsKeptOf : Line → List ℕ → Type 0
IsKeptOf kept line = (kept.carriage_return ≡ ends_in_return line) × IsLineOf kept.content.kind kept.content.digits.items kept.content.is_odd
    (strip_carriage_return line) × IsWordOf kept.word (strip_carriage_return line)

-- these bytes of the script have come since the session stood so, and this text was written for their lines
abbrev pub StandsAt : {S : Type 0} → Session S → ScriptState → List ℕ → List ℕ → Type 0
StandsAt s first script text = IsKeptOf s.line (unfinished_line script) × (s.number ≡ length (ended_lines script))
    × AreCarriedOut (ended_lines script) first (state_of_held s.held) text

-- why nothing is written for line n: it has no form, or it is a reset that found a fault
abbrev pub LineFails : ScriptFault → ℕ → Form → ScriptState → ScriptState → Type 0
LineFails (BadLine k) n form s t = (form ≡ Bad) × (k ≡ n) × (t ≡ s)
LineFails (PowerFault fault) n form s t = (form ≡ Asks Reset) × FailsReset fault s t
LineFails ReadFailed n form s t = ⊥
LineFails WriteFailed n form s t = ⊥
LineFails TooLong n form s t = ⊥

-- how carrying out line n ended
abbrev pub LineEnds : Result Unit ScriptFault → ℕ → Form → ScriptState → ScriptState → List ℕ → Type 0
LineEnds (Ok done) n form s t text = IsWrittenFor form s t text
LineEnds (Err (BadLine k)) n form s t text = (form ≡ Bad) × (k ≡ n) × (t ≡ s) × (text ≡ [])
LineEnds (Err (PowerFault fault)) n form s t text = (form ≡ Asks Reset) × FailsReset fault s t × (text ≡ [])
LineEnds (Err WriteFailed) n form s t text = (answer : List ℕ) × IsWrittenFor form s t answer × IsCutOf answer text
LineEnds (Err ReadFailed) n form s t text = ⊥
LineEnds (Err TooLong) n form s t text = ⊥

-- a text was written, or only a beginning of it
abbrev pub IsWrittenOut : Result Unit ScriptFault → Option (List ℕ) → Option (List ℕ) → List ℕ → Type 0
IsWrittenOut (Ok done) before after text = Appends before after text
IsWrittenOut (Err WriteFailed) before after text = AppendsCut before after text
IsWrittenOut (Err (BadLine k)) before after text = ⊥
IsWrittenOut (Err (PowerFault fault)) before after text = ⊥
IsWrittenOut (Err ReadFailed) before after text = ⊥
IsWrittenOut (Err TooLong) before after text = ⊥

-- how carrying out some lines ended
abbrev pub LinesEnd : Result Unit ScriptFault → List (List ℕ) → ScriptState → ScriptState → List ℕ → Type 0
LinesEnd (Ok done) all s t text = AreCarriedOut all s t text
LinesEnd (Err (BadLine n)) all s t text = FailsAtBadLine n all s t text
LinesEnd (Err (PowerFault fault)) all s t text = FailsAtReset fault all s t text
LinesEnd (Err WriteFailed) all s t text = EndsInsideLine all s t text
LinesEnd (Err ReadFailed) all s t text = ⊥
LinesEnd (Err TooLong) all s t text = ⊥

-- after any part of a script with which the session stood so, the line that these bytes and a line feed end is carried out
abbrev pub EndsLine : {S : Type 0} → Result Unit ScriptFault → Session S → Session S → Option (List ℕ) → Option (List ℕ) → List ℕ → Type 0
EndsLine result old new before after bytes = (script text : List ℕ) → (first : ScriptState) → StandsAt old first script text
    → (more : List ℕ) × Appends before after more × OnOk result (StandsAt new first (script ++ bytes ++ 10 ∷ []) (text ++ more))
    × LinesEnd result (ended_lines (script ++ bytes ++ 10 ∷ [])) first (state_of_held new.held) (text ++ more)
