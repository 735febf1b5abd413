-- A card that has carried out the first lines of a script, from which copies of it go on.
use Rattle.std.specs.Prelude.{ℕ, ◌≡◌, true, List, [], ◌∷◌, ◌++◌, Option, None, Ok}
use Rattle.std.specs.Str.Lines.{strip_carriage_return}
use Rattle.jc_words.specs.Store.{FuseStoreValue}
use Rattle.jc_commit.specs.Image.{IsGoodLog, recovered_of}
use Rattle.jc_card.specs.Card.{CardState}
use Rattle.jc_card.specs.State.Power.{Up, planned_card}
use Rattle.jc_card.specs.Session.Requests.{ArmFuse, PlanFault, Reply, Response}
use Rattle.jc_card.specs.declared.planned_fault.PlannedFault.{PlannedFault}
use Rattle.jc_card.specs.Session.Serving.{AnswersCommandOver}
use Rattle.jcard_script.specs.Line.{IsCommandOf}
use Rattle.jcard_script.specs.Script.{AreCarriedOut, Asks, EndsFrom, EndsWithin, ended_lines, form_of}
use Rattle.jcard_script.specs.ScriptStates.{PowersUp, ScriptState, IsSessionStore, fuse_kind}
use Rattle.jcard_script.specs.Session.{IsUnbroken, unfinished_line}

-- a card powered up over a store that was so, with this budget, and has carried out all lines of the script, the last of which a line feed ends
pub record HasBegun (budget : ℕ) (before : FuseStoreValue) (script : List ℕ) (card : CardState) : Type 0 where
  pub first : ScriptState
  pub text : List ℕ
  pub powers : PowersUp budget before first
  pub carried : AreCarriedOut (ended_lines script) first (Up card) text
  pub whole : unfinished_line script ≡ []

-- a line, with its line feed, that is a command, of which these are the first 65,545 bytes
abbrev pub IsCommandLine : List ℕ → List ℕ → Type 0
IsCommandLine command line = (bytes : List ℕ) × (line ≡ bytes ++ 10 ∷ []) × IsUnbroken bytes × IsCommandOf command (form_of (strip_carriage_return bytes))

-- a line `stop K` with this number, without its line feed
abbrev pub IsStopLine : ℕ → List ℕ → Type 0
IsStopLine k line = IsUnbroken line × (form_of (strip_carriage_return line) ≡ Asks (ArmFuse k))

-- a store is left so, and might as well have other words that a recovery makes the same of
abbrev pub ForEachAlike : (FuseStoreValue → Type 0) → FuseStoreValue → Type 0
ForEachAlike Holds store = (words : List ℕ) → IsGoodLog words → recovered_of words ≡ recovered_of store.words → Holds (record store { words = words })

-- a card answers a command, if it is not cut within it, and leaves this store
abbrev pub AnswersLeaving : CardState → List ℕ → FuseStoreValue → Type 0
AnswersLeaving card command store = (reply : Reply) × (next : ScriptState) × AnswersCommandOver fuse_kind (Up card) command reply next
    × IsSessionStore next store

-- a script comes to its end over a store that was so, and leaves this one
abbrev pub EndsLeaving : ℕ → FuseStoreValue → List ℕ → FuseStoreValue → Type 0
EndsLeaving budget before script store = (text : List ℕ) × EndsWithin budget (Ok tt) before store true script text

-- whatever script has led to this card, with these two lines after it, a `stop K` and a command, it comes to its end and leaves such a store
abbrev pub LeavesCut : CardState → List ℕ → List ℕ → FuseStoreValue → Type 0
LeavesCut card stop command store = (budget : ℕ) (before : FuseStoreValue) (script line : List ℕ) → HasBegun budget before script card
    → IsCommandLine command line → ForEachAlike (EndsLeaving budget before (script ++ (stop ++ 10 ∷ []) ++ line)) store

-- a line `glitch ..` that plans this fault, or none, without its line feed
abbrev pub IsGlitchLine : Option PlannedFault → List ℕ → Type 0
IsGlitchLine fault line = IsUnbroken line × (form_of (strip_carriage_return line) ≡ Asks (PlanFault fault))

-- a card in which this fault comes, or none, answers a command so; then no fault comes any more, and it is this card
abbrev pub AnswersWith : Option PlannedFault → CardState → List ℕ → List ℕ → CardState → Type 0
AnswersWith fault card command response next = (end : CardState)
    × AnswersCommandOver fuse_kind (Up (planned_card fault card)) command (Response response) (Up end) × (next ≡ planned_card None end)

-- with a line `glitch ..`, a command and `glitch none` a card answers the command so, and is then this one
abbrev pub AnswersGlitched : CardState → List ℕ → List ℕ → List ℕ → CardState → Type 0
AnswersGlitched card glitch command response next = (fault : Option PlannedFault) × IsGlitchLine fault glitch × AnswersWith fault card command response next

-- a card carries out the lines of this script to its end, this text is written for them, and this store is left
abbrev pub AnswersLines : CardState → List ℕ → List ℕ → FuseStoreValue → Type 0
AnswersLines card script text store = (last : ScriptState) × EndsFrom (Ok tt) true script (Up card) last text × IsSessionStore last store
