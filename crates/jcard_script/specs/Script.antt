-- Scripts: their lines, what the lines ask for, and what is written for them.
use Rattle.std.specs.Prelude.{ℕ, ◌+◌, ◌≡◌, ◌≤◌, ◌<◌, ◌==◌, Bool, true, false, not, if◌then◌else◌, IsTrue, List, [], ◌∷◌, ◌++◌, length, take, drop, filter}
use Rattle.std.specs.Prelude.{nat_le, nat_lt, nat_eq, ◌&&◌, ◌⊎◌, codes, decimal, min, position, unwrap_or, ◌-◌, Option, Some, None, Result, Ok, Err}
use Rattle.std.specs.Io.KnownBytes.{IsAtEnd}
use Rattle.std.specs.List.{slice_split, starts_with}
use Rattle.std.specs.Option.{option_map}
use Rattle.std.specs.Str.{bytes_eq, all_ascii_digits}
use Rattle.std.specs.Str.Parse.{digits_value}
use Rattle.std.specs.Str.Lines.{lines, strip_carriage_return}
use Rattle.hex.specs.Hex.{decode_of, encode_upper}
use Rattle.hex.specs.declared.error.FromHexError.{FromHexError}
use Rattle.jc_words.specs.Store.{FuseStoreValue}
use Rattle.jc_card.specs.Dispatching.{usual_budget}
use Rattle.jc_card.specs.declared.power_up.PowerFault.{PowerFault as Fault}
use Rattle.jc_interp.specs.declared.attacks.FaultModel.{FaultModel}
use Rattle.jc_interp.specs.declared.attacks.FaultModel.TheVariants.{Skip, Turn, Zero}
use Rattle.jc_card.specs.declared.planned_fault.PlannedFault.{PlannedFault}
use Rattle.jc_card.specs.declared.planned_fault.SecondFault.{SecondFault}
use Rattle.jc_card.specs.Session.Requests.{Request, Command, Reset, ArmFuse, PlanFault, Reply, Response, Ready, Down, Armed, Planned}
use Rattle.jc_card.specs.Session.Serving.{ServesOver}
use Rattle.jcard_script.specs.ScriptStates.{ScriptState, IsSessionStore, PowersUp, FailsUp, FailsReset, fuse_kind, selected_in}
use Rattle.jcard_texts.specs.Texts.{IsCutOf}
use Rattle.jcard_script.specs.declared.script.ScriptFault.{ScriptFault}
use Rattle.jcard_script.specs.declared.script.ScriptFault.TheVariants.{ReadFailed, WriteFailed, BadLine, TooLong, PowerFault}

-- ---- lines

-- the most bytes of a script that are carried out
abbrev pub bound : ℕ
bound = 16777216

-- the parts between line feeds that a line feed follows, each without the carriage return at its end, if it has one
abbrev pub ended_parts : List (List ℕ) → List (List ℕ)
ended_parts [] = []
ended_parts (x ∷ []) = []
ended_parts (x ∷ y ∷ more) = strip_carriage_return x ∷ ended_parts (y ∷ more)

-- the lines of a text that a line feed ends
abbrev pub ended_lines : List ℕ → List (List ℕ)
ended_lines text = ended_parts (slice_split (λ b. b == 10) text)

-- this is a whole script: nothing is left to read, and it isn't longer than the bound
abbrev pub IsWholeScript : Option (List ℕ) → List ℕ → Type 0
IsWholeScript left script = IsAtEnd left × (length script ≤ bound)

-- the lines that count when so much of a script was read: at its end all, before it those that a line feed ended within the bound
abbrev pub lines_so_far : Bool → List ℕ → List (List ℕ)
lines_so_far at_end script = if at_end then lines script else ended_lines (take bound script)

-- ---- what a line asks for

-- what a line asks for: nothing, a request, or it has no form
pub data Form : Type 0 where
  Skipped : Form
  Asks : Request → Form
  Bad : Form

-- a line without its spaces
abbrev pub without_spaces : List ℕ → List ℕ
without_spaces line = filter (λ c. not (c == 32)) line

-- what hexadecimal text asks for
abbrev pub form_of_decoded : Result (List ℕ) FromHexError → Form
form_of_decoded (Ok bytes) = Asks (Command bytes)
form_of_decoded (Err e) = Bad

-- what a line asks for that is no word: nothing if it is empty or begins with '#', else the command that its digits spell
abbrev pub plain_form_of : List ℕ → Form
plain_form_of [] = Skipped
plain_form_of (first ∷ rest) = if first == 35 then Skipped else form_of_decoded (decode_of (without_spaces (first ∷ rest)))

-- one or more decimal digits, of a number up to 65535
abbrev pub is_number : List ℕ → Bool
is_number digits = nat_lt 0 (length digits) && (all_ascii_digits digits && nat_le (digits_value 10 digits) 65535)

-- Script line stop K: K, in decimal digits
abbrev pub fuse_form_of : List ℕ → Form
fuse_form_of digits = if is_number digits then Asks (ArmFuse (digits_value 10 digits)) else Bad

-- one to ten decimal digits, of a number up to 4294967295
abbrev pub is_instruction_number : List ℕ → Bool
is_instruction_number digits = nat_lt 0 (length digits) && (nat_le (length digits) 10 && (all_ascii_digits digits && nat_le (digits_value 10 digits) 4294967295))

-- what a fault does, by the word for it and the space before that
abbrev pub model_named : List ℕ → Option FaultModel
model_named text = if bytes_eq text (codes " skip") then Some Skip else (if bytes_eq text (codes " turn") then Some Turn
    else (if bytes_eq text (codes " zero") then Some Zero else None))

-- the number that these digits spell, and a model
abbrev pub numbered : Option FaultModel → List ℕ → Option (ℕ × FaultModel)
numbered None digits = None
numbered (Some model) digits = if is_instruction_number digits then Some (digits_value 10 digits, model) else None

-- K MODEL: K, in decimal digits, and one of three words, which have a space and four letters
abbrev pub fault_named : List ℕ → Option (ℕ × FaultModel)
fault_named text = numbered (model_named (drop (length text - 5) text)) (take (length text - 5) text)

-- a second fault comes at the first instruction after the first fault, or later
abbrev pub counted : Option (ℕ × FaultModel) → Option SecondFault
counted None = None
counted (Some fault) = if fault.0 == 0 then None else Some (record { number = fault.0; model = fault.1 })

-- the second fault that a space and N MODEL plan, or that no text plans none
abbrev pub second_named : List ℕ → Option (Option SecondFault)
second_named [] = Some None
second_named (byte ∷ rest) = if byte == 32 then option_map Some (counted (fault_named rest)) else None

-- where the first space stands
abbrev pub first_space : List ℕ → Option ℕ
first_space text = position (λ byte. byte == 32) text

-- how many bytes K MODEL has at the front of a text: up to the first space, and five, as far as there are as many
abbrev pub first_length : List ℕ → ℕ
first_length text = min (unwrap_or (first_space text) (length text) + 5) (length text)

-- both faults, where both are named
abbrev pub both_named : Option (ℕ × FaultModel) → Option (Option SecondFault) → Option PlannedFault
both_named None second = None
both_named (Some first) None = None
both_named (Some first) (Some second) = Some (record { instruction = first.0; model = first.1; second = second })

-- K MODEL, or K MODEL N MODEL
unfoldable pub faults_named : List ℕ → Option PlannedFault
faults_named text = both_named (fault_named (take (first_length text) text)) (second_named (drop (first_length text) text))

-- a fault is planned, if one is named
abbrev pub plan_form_of : Option PlannedFault → Form
plan_form_of None = Bad
plan_form_of (Some fault) = Asks (PlanFault (Some fault))

-- Script lines glitch K MODEL, glitch K MODEL N MODEL and glitch none
abbrev pub glitch_form_of : List ℕ → Form
glitch_form_of text = if bytes_eq text (codes "none") then Asks (PlanFault None) else plan_form_of (faults_named text)

-- what a line asks for: "reset", and what begins with "stop " or "glitch ", are words, any other line is plain
abbrev pub form_of : List ℕ → Form
form_of line = if bytes_eq line (codes "reset") then Asks Reset else (if starts_with nat_eq line (codes "stop ") then fuse_form_of
    (drop 5 line) else (if starts_with nat_eq line (codes "glitch ") then glitch_form_of (drop 7 line) else plain_form_of line))

-- ---- what is written

-- the text of an answer: its bytes in hexadecimal, and a line feed
abbrev pub text_of : List ℕ → List ℕ
text_of answer = encode_upper answer ++ 10 ∷ []

abbrev pub ready_text : List ℕ
ready_text = codes "ready\n"

abbrev pub down_text : List ℕ
down_text = codes "down\n"

-- the number without leading zeros
abbrev pub armed_text : ℕ → List ℕ
armed_text k = codes "armed " ++ decimal k ++ codes "\n"

-- the word for what a fault does, and the space before it
abbrev pub model_word : FaultModel → List ℕ
model_word Skip = codes " skip"
model_word Turn = codes " turn"
model_word Zero = codes " zero"

-- a space, the number without leading zeros, and the word; nothing where there is no second fault
abbrev pub second_text : Option SecondFault → List ℕ
second_text None = []
second_text (Some second) = codes " " ++ decimal second.number ++ model_word second.model

-- what a line glitch says of the faults that it plans
abbrev pub faults_text : PlannedFault → List ℕ
faults_text fault = decimal fault.instruction ++ model_word fault.model ++ second_text fault.second

abbrev pub planned_text : Option PlannedFault → List ℕ
planned_text None = codes "planned none\n"
planned_text (Some fault) = codes "planned " ++ faults_text fault ++ codes "\n"

-- the line of a reply
abbrev pub text_of_reply : Reply → List ℕ
text_of_reply (Response response) = text_of response
text_of_reply Ready = ready_text
text_of_reply Down = down_text
text_of_reply (Armed k) = armed_text k
text_of_reply (Planned fault) = planned_text fault

-- what is written for a request: the line of its reply; and how the session stands before and after it
abbrev pub IsAnswered : Request → ScriptState → ScriptState → List ℕ → Type 0
IsAnswered request s t text = (reply : Reply) × ServesOver fuse_kind s request reply t × (text ≡ text_of_reply reply)

-- what is written for a line, and how the session stands before and after it
abbrev pub IsWrittenFor : Form → ScriptState → ScriptState → List ℕ → Type 0
IsWrittenFor Skipped s t text = (t ≡ s) × (text ≡ [])
IsWrittenFor (Asks request) s t text = IsAnswered request s t text
IsWrittenFor Bad s t text = ⊥

-- the lines are carried out one after another, from one standing to the other, and this is what is written for them
abbrev pub AreCarriedOut : List (List ℕ) → ScriptState → ScriptState → List ℕ → Type 0
AreCarriedOut [] s t text = (t ≡ s) × (text ≡ [])
AreCarriedOut (line ∷ more) s t text = (first rest : List ℕ) × (between : ScriptState) × (text ≡ first ++ rest) × IsWrittenFor (form_of line) s between first
    × AreCarriedOut more between t rest

-- line n, counted from 1, has no form, and those before it were carried out
abbrev pub FailsAtBadLine : ℕ → List (List ℕ) → ScriptState → ScriptState → List ℕ → Type 0
FailsAtBadLine n all s t text = (before : List (List ℕ)) × (line : List ℕ) × (after : List (List ℕ)) × (all ≡ before ++ line ∷ after) × (n ≡ length before + 1)
    × (form_of line ≡ Bad) × AreCarriedOut before s t text

-- a reset found this fault, and the lines before it were carried out
abbrev pub FailsAtReset : Fault → List (List ℕ) → ScriptState → ScriptState → List ℕ → Type 0
FailsAtReset fault all s t text = (before : List (List ℕ)) × (line : List ℕ) × (after : List (List ℕ)) × (all ≡ before ++ line ∷ after)
    × (form_of line ≡ Asks Reset)
    × ((u : ScriptState) × AreCarriedOut before s u text × FailsReset fault u t)

-- some first lines were carried out, and of what is to be written for the next only a beginning was written
abbrev pub EndsInsideLine : List (List ℕ) → ScriptState → ScriptState → List ℕ → Type 0
EndsInsideLine all s t text = (before : List (List ℕ)) × (line : List ℕ) × (after : List (List ℕ)) × (all ≡ before ++ line ∷ after)
    × ((whole answer part : List ℕ) × (between : ScriptState) × (text ≡ whole ++ part) × AreCarriedOut before s between whole
    × IsWrittenFor (form_of line) between t answer × IsCutOf answer part)

-- ---- how a script ends

-- these bytes of a script were read, the whole of it or not, this text was written, and so it ended, from one standing to the other
abbrev pub EndsFrom : Result Unit ScriptFault → Bool → List ℕ → ScriptState → ScriptState → List ℕ → Type 0
EndsFrom (Ok done) at_end script s t text = IsTrue at_end × AreCarriedOut (lines script) s t text
EndsFrom (Err (BadLine n)) at_end script s t text = FailsAtBadLine n (lines_so_far at_end script) s t text
EndsFrom (Err (PowerFault fault)) at_end script s t text = FailsAtReset fault (lines_so_far at_end script) s t text
EndsFrom (Err TooLong) at_end script s t text = (bound < length script) × AreCarriedOut (lines_so_far false script) s t text
EndsFrom (Err ReadFailed) at_end script s t text = (length script ≤ bound) × AreCarriedOut (lines_so_far false script) s t text
EndsFrom (Err WriteFailed) at_end script s t text = EndsInsideLine (lines_so_far at_end script) s t text

-- the first power up found a fault: nothing was read or written
abbrev pub FailsAtOnce : Result Unit ScriptFault → FuseStoreValue → FuseStoreValue → List ℕ → List ℕ → Type 0
FailsAtOnce (Err (PowerFault fault)) before after script text = FailsUp before fault after × (script ≡ []) × (text ≡ [])
FailsAtOnce _ before after script text = ⊥

-- a script on a store that was so before and is so after, with a card of this budget: it failed at once, or it was carried out from a power up on
abbrev pub EndsWithin : ℕ → Result Unit ScriptFault → FuseStoreValue → FuseStoreValue → Bool → List ℕ → List ℕ → Type 0
EndsWithin budget result before after at_end script text =
    FailsAtOnce result before after script text ⊎ ((first last : ScriptState) × PowersUp budget before first × IsSessionStore last after
    × EndsFrom result at_end script first last text)

-- it did so, and at its end this applet is selected, by its AID, if one is
abbrev pub EndsSelecting : ℕ → Result Unit ScriptFault → FuseStoreValue → FuseStoreValue → Bool → List ℕ → List ℕ → Option (List ℕ) → Type 0
EndsSelecting budget result before after at_end script text selected = (FailsAtOnce result before after script text × (selected ≡ None))
    ⊎ ((first last : ScriptState) × PowersUp budget before first × IsSessionStore last after × EndsFrom result at_end script first last text
    × (selected ≡ selected_in last))

-- the same with the usual budget
abbrev pub Ends : Result Unit ScriptFault → FuseStoreValue → FuseStoreValue → Bool → List ℕ → List ℕ → Type 0
Ends result before after at_end script text = EndsWithin usual_budget result before after at_end script text

-- whether a read failed
abbrev pub is_read_failed : Result Unit ScriptFault → Bool
is_read_failed (Err ReadFailed) = true
is_read_failed _ = false

-- whether a write failed
abbrev pub is_write_failed : Result Unit ScriptFault → Bool
is_write_failed (Err WriteFailed) = true
is_write_failed _ = false
