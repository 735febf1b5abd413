-- Scripts as sessions.
use Rattle.std.specs.Prelude.{ℕ, ◌≡◌, ◌≢◌, ◌+◌, ◌⊎◌, List, [], ◌∷◌, ◌++◌, length, Bool, false, Result, Ok, Err}
use Rattle.std.specs.List.{flat_map}
use Rattle.std.specs.Str.Lines.{lines}
use Rattle.jc_words.specs.Store.{FuseStoreValue}
use Rattle.jc_card.specs.declared.session.SessionFault.{SessionFault}
use Rattle.jc_card.specs.declared.session.SessionFault.TheVariants.{PowerFault as NotPoweredUp}
use Rattle.jc_card.specs.Session.Requests.{Request, Reset, Reply}
use Rattle.jc_card.specs.State.Power.{PowerState, StoreState, IsStoreOf}
use Rattle.jc_card.specs.Session.{IsSession, SessionEnds, IsWholeSession, RefusesNone}
use Rattle.jc_card.specs.Session.Starting.{FailsToReset, FailsToStart}
use Rattle.jcard_script.specs.declared.script.ScriptFault.{ScriptFault}
use Rattle.jcard_script.specs.declared.script.ScriptFault.TheVariants.{ReadFailed, WriteFailed, BadLine, TooLong, PowerFault}
use Rattle.jcard_script.specs.Script.{EndsWithin, Form, Skipped, Asks, Bad, form_of, lines_so_far, text_of_reply}
use Rattle.jcard_texts.specs.Texts.{IsCutOf}
use Rattle.law_theorems.specs.Cards.{AreOfBytes}

-- what a session sees of a store with a fuse
abbrev pub state_of : FuseStoreValue → StoreState
state_of store = record { words = store.words; down = store.down; passed = store.passed; refusals = store.refusals }

-- what a line that asks for this asks in a session: nothing, where it is skipped
abbrev pub asked_by_form : Form → List Request
asked_by_form Skipped = []
asked_by_form (Asks request) = request ∷ []
asked_by_form Bad = []

-- what these lines ask, one after another
abbrev pub asked_by : List (List ℕ) → List Request
asked_by carried = flat_map (λ line. asked_by_form (form_of line)) carried

-- the lines of replies
abbrev pub text_of_replies : List Reply → List ℕ
text_of_replies replies = flat_map text_of_reply replies

-- each of these lines has a form
abbrev pub HaveForm : List (List ℕ) → Type 0
HaveForm [] = Unit {0}
HaveForm (line ∷ more) = (form_of line ≢ Bad) × HaveForm more

-- a session over a store, with this budget, that is asked what these lines ask; its replies are this text, and it leads there
abbrev pub IsSessionOfScript : ℕ → FuseStoreValue → List (List ℕ) → List ℕ → PowerState → Type 0
IsSessionOfScript budget before carried text last = (replies : List Reply) × IsSession budget (state_of before) (asked_by carried) replies last
    × (text ≡ text_of_replies replies) × HaveForm carried

-- they were carried out as a session, which leads to such a state
abbrev pub AreSessionsOfScript : ℕ → FuseStoreValue → List (List ℕ) → List ℕ → (PowerState → Type 0) → Type 0
AreSessionsOfScript budget before carried text leads = (last : PowerState) × IsSessionOfScript budget before carried text last × leads last

-- the store is the one of such a state
abbrev pub Leaves : FuseStoreValue → PowerState → Type 0
Leaves after last = IsStoreOf last (state_of after)

-- some lines were carried out, and then came this line
abbrev pub ComesBehind : List (List ℕ) → List (List ℕ) → List ℕ → Type 0
ComesBehind all carried line = (after : List (List ℕ)) × (all ≡ carried ++ line ∷ after)

-- how a script ended, as a session over its store: all its lines were carried out, those before a bad line, or those that were read
-- before it became too long or the reader failed; a power up found a fault, at the beginning or at a reset; or of what a line is to
-- be answered only a beginning was written
abbrev pub EndsAsSession : ℕ → Result Unit ScriptFault → FuseStoreValue → FuseStoreValue → Bool → List ℕ → List ℕ → Type 0
EndsAsSession budget (Ok done) before after at_end script text = AreSessionsOfScript budget before (lines script) text (Leaves after)
EndsAsSession budget (Err TooLong) before after at_end script text = AreSessionsOfScript budget before (lines_so_far false script) text (Leaves after)
EndsAsSession budget (Err ReadFailed) before after at_end script text = AreSessionsOfScript budget before (lines_so_far false script) text (Leaves after)
EndsAsSession budget (Err (BadLine n)) before after at_end script text =
    (carried : List (List ℕ)) × (line : List ℕ) × ComesBehind (lines_so_far at_end script) carried line × (form_of line ≡ Bad) × (n ≡ length carried + 1)
    × AreSessionsOfScript budget before carried text (Leaves after)
EndsAsSession budget (Err (PowerFault fault)) before after at_end script text =
    (FailsToStart fault (state_of before) (state_of after) × (text ≡ [])) ⊎
    ((carried : List (List ℕ)) × (line : List ℕ) × ComesBehind (lines_so_far at_end script) carried line × (form_of line ≡ Asks Reset)
    × AreSessionsOfScript budget before carried text (λ last. FailsToReset fault last (state_of after)))
EndsAsSession budget (Err WriteFailed) before after at_end script text =
    (carried : List (List ℕ)) × (line : List ℕ) × ComesBehind (lines_so_far at_end script) carried line ×
    ((whole : List ℕ) × IsCutOf whole text × AreSessionsOfScript budget before (carried ++ line ∷ []) whole (Leaves after))

-- so ends every script
abbrev pub AreSessions : Type 0
AreSessions = (budget : ℕ) (result : Result Unit ScriptFault) (before after : FuseStoreValue) (at_end : Bool) (script text : List ℕ)
    → EndsWithin budget result before after at_end script text → EndsAsSession budget result before after at_end script text

-- whatever lines ask, commands are of bytes
abbrev pub AskBytes : Type 0
AskBytes = (carried : List (List ℕ)) → AreOfBytes (asked_by carried)

-- a session ends by the fault of a power up where a script does, and else it comes to its end
abbrev pub IsSameEnd : Result Unit ScriptFault → Result (List Reply) SessionFault → Type 0
IsSameEnd (Err (PowerFault fault)) ended = ended ≡ Err (NotPoweredUp fault)
IsSameEnd result ended = (replies : List Reply) × (ended ≡ Ok replies)

-- so what is said of the ends of all sessions, whose commands are of bytes, is so of scripts
abbrev pub EndAsSessions : Type 0
EndAsSessions = (budget : ℕ) (result : Result Unit ScriptFault) (before after : FuseStoreValue) (at_end : Bool) (script text : List ℕ)
    → EndsWithin budget result before after at_end script text → (requests : List Request) × (ended : Result (List Reply) SessionFault) × AreOfBytes requests
    × IsSameEnd result ended × SessionEnds budget ended (state_of before) requests (state_of after)

-- and where the store refused no write, a script that was carried out to its end is a session of a card that keeps whole copies of its heap
abbrev pub AreWholeSessions : Type 0
AreWholeSessions = (budget : ℕ) (before after : FuseStoreValue) (at_end : Bool) (script text : List ℕ) → EndsWithin budget (Ok tt) before after at_end script text
    → RefusesNone before.refusals.count after.refusals.count
    → (replies : List Reply) × IsWholeSession budget (state_of before) (asked_by (lines script)) replies (state_of after) × (text ≡ text_of_replies replies)
