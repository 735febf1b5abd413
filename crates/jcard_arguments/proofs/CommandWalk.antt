-- The walk over the words of one of the program's commands.
use Rattle.std.proofs.Common.{◌≡◌, ◌∙◌, false, List, [], ◌∷◌, Option, Some, refl, sym, ap₂, is_some}
use Rattle.std.specs.Prelude.{fold, option_and_then}
use Rattle.clap.specs.Words.{Kinds, Row, Text}
use Rattle.clap.specs.Kinds.{or_else}
use Rattle.clap.specs.Walk.{Held, Walk, finished, nothing_held, settled, walk_from, walked}
use Rattle.clap.specs.Simple.{App, Shape, built, entered, names_of}
use Rattle.clap.specs.Faults.{check_fault, defaults_fault, entered_fault, settle_fault, turn_fault, walk_fault}
use Rattle.clap.proofs.WalkLemmas.{walk_stopped}
use Rattle.clap.proofs.FaultLemmas.{stopped_fault}
use Rattle.jcard_arguments.specs.CommandLine.{CommandLineRequest, request_of, unless_faulty}
use Rattle.jcard_arguments.specs.Grammar.{program_grammar}

abbrev pub whole : App
whole = built program_grammar

-- where the walk stands after the command's name
abbrev pub met : Text → List Text → Walk
met command words = record (walk_from nothing_held) { stopped = Some (command, words) }

-- what the words are taken for, from where the walk over them ends and what it refused
unfoldable pub as_ended : Walk → Kinds → Option CommandLineRequest
as_ended w refused = unless_faulty (or_else refused (or_else (entered_fault whole w.stopped)
    (or_else (settle_fault whole.top.rules whole.top.args_override_self w.held) (or_else (defaults_fault (settled whole.top.rules w.held).rows whole.top.rules)
    (check_fault whole.top (finished whole.top.rules w.held) (is_some (entered whole w.stopped)))))))
    (option_and_then request_of (entered whole w.stopped))

pub none_more : (causes : Kinds) (asked : Option CommandLineRequest) → unless_faulty (or_else causes []) asked ≡ unless_faulty causes asked
none_more [] asked = refl
none_more (cause ∷ causes) asked = refl

-- the command of this shape, and what its rows are taken for
module _ (shape : Shape) (taken : List Row → Option CommandLineRequest) where
  -- what is refused after the last word
  abbrev pub at_end : Held → Kinds
  at_end end = or_else (settle_fault shape.rules shape.args_override_self end)
      (or_else (defaults_fault (settled shape.rules end).rows shape.rules) (check_fault shape (finished shape.rules end) false))

  abbrev pub causes_of : Walk → List Text → Kinds
  causes_of w words = or_else (walk_fault shape [] w words) (at_end (fold (walked shape.rules []) w words).held)

  -- what the words are taken for, from here on
  unfoldable pub request_after : Walk → List Text → Option CommandLineRequest
  request_after w words = unless_faulty (causes_of w words) (taken (finished shape.rules (fold (walked shape.rules []) w words).held))

  -- the words before those of the command are gone through, as the name and the build of the command show
  pub opened_by : (command : Text) (request : Option CommandLineRequest) (words : List Text)
      → request ≡ as_ended (fold (walked whole.top.rules (names_of whole)) (met command []) words) (walk_fault whole.top (names_of whole) (met command []) words)
      → as_ended (met command words) [] ≡ request_after (walk_from nothing_held) words → request ≡ request_after (walk_from nothing_held) words
  opened_by command request words by_walk by_command = by_walk
      ∙ (ap₂ as_ended (sym (walk_stopped whole.top.rules (names_of whole) (walk_from nothing_held) command [] words))
      (stopped_fault whole.top (names_of whole) (walk_from nothing_held) (command, []) words)
      ∙ by_command)

  -- one word more
  pub after_next : (w next : Walk) (word : Text) (words : List Text) → turn_fault shape [] w word ≡ [] → walked shape.rules [] w word ≡ next
      → request_after w (word ∷ words) ≡ request_after next words
  unfolding request_after walk_fault
  after_next w next word words fault same = ap₂ (λ (k : Kinds) (v : Walk). unless_faulty
      (or_else (or_else k (walk_fault shape [] v words)) (at_end (fold (walked shape.rules []) v words).held))
      (taken (finished shape.rules (fold (walked shape.rules []) v words).held))) fault same
