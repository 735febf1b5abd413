-- A plain line of the command `run`.
use Rattle.std.proofs.Common.{◌≡◌, ◌∙◌, ℕ, false, List, [], ◌∷◌, Option, Some, None, refl, codes}
use Rattle.std.specs.Prelude.{fold}
use Rattle.clap.specs.Words.{Row, Text}
use Rattle.clap.specs.Walk.{Walk, finished, idle, nothing_held, settled, walk_from, walked}
use Rattle.clap.specs.Simple.{Shape, built_leaf, inherited, marked_built, names_of, on_top, with_leaf_noted}
use Rattle.clap.specs.Faults.{defaults_fault, turn_fault, walk_fault}
use Rattle.clap.proofs.OnLiterals.{clap_on_literals}
use Rattle.jcard_arguments.proofs.CommandWalk.{after_next, as_ended, causes_of, met, none_more, opened_by, request_after, whole}
use Rattle.jcard_arguments.proofs.Hyphens.{no_hyphen}
use Rattle.jcard_arguments.specs.CommandLine.{CommandLineRequest, ToRun, request_of_words, run_of}
use Rattle.jcard_arguments.specs.Grammar.{program_grammar, run_grammar}
use Rattle.jcard_arguments.specs.Arguments.{IsNoFlag, TakesRuns, plain_run}

-- the command, as the build leaves it
abbrev shape : Shape
shape = built_leaf (inherited (on_top with_leaf_noted (on_top marked_built program_grammar)).top run_grammar.top)

-- what the words are taken for, from here on
abbrev after : Walk → List Text → Option CommandLineRequest
after w words = request_after shape run_of w words

-- ---- the words before those of the command

by_walk : (name : Text) (words : List Text) → request_of_words (name ∷ codes "run" ∷ words)
    ≡ as_ended (fold (walked whole.top.rules (names_of whole)) (met (codes "run") []) words) (walk_fault whole.top (names_of whole) (met (codes "run") []) words)
unfolding request_of_words as_ended walked walk_fault
by_walk name words = refl

by_command : (words : List Text) → as_ended (met (codes "run") words) [] ≡ after (walk_from nothing_held) words
unfolding as_ended request_after defaults_fault
by_command words = none_more (causes_of shape run_of (walk_from nothing_held) words)
    (run_of (finished shape.rules (fold (walked shape.rules []) (walk_from nothing_held) words).held))

opened : (name : Text) (words : List Text) → request_of_words (name ∷ codes "run" ∷ words) ≡ after (walk_from nothing_held) words
opened name words = opened_by shape run_of (codes "run") (request_of_words (name ∷ codes "run" ∷ words)) words (by_walk name words) (by_command words)

-- ---- the words

-- with this value of an operand that is being read, before the operand at this position
abbrev reading : ℕ → List Row → Text → Text → Walk
reading position rows id value = record {
  held = record { rows = rows; pending = Some (id, value ∷ []); skip = 0 };
  waiting = idle;
  position = position;
  is_trailing = false;
  stopped = None;
}

-- a word is no fault, and the walk then stands there
record Goes (w : Walk) (word : Text) (next : Walk) : Type 0 where
  fault : turn_fault shape [] w word ≡ []
  walk : walked shape.rules [] w word ≡ next

step : {w next : Walk} {word : Text} → Goes w word next → (words : List Text) → after w (word ∷ words) ≡ after next words
step {w = w} {next = next} {word = word} goes words = after_next shape run_of w next word words goes.fault goes.walk

abbrev at_image : Text → Walk
at_image image = reading 2 [] (codes "image") image

image_next : (image : Text) → IsNoFlag image → Goes (walk_from nothing_held) image (at_image image)
unfolding clap_on_literals
image_next [] h = record { fault = refl; walk = refl }
image_next (x ∷ xs) h = record { fault = simp (no_hyphen x xs h); walk = simp (no_hyphen x xs h) }

abbrev at_script : Text → Text → Walk
at_script image script = reading 3 (settled shape.rules (at_image image).held).rows (codes "script") script

script_next : (image script : Text) → IsNoFlag script → Goes (at_image image) script (at_script image script)
unfolding clap_on_literals
script_next image [] h = record { fault = refl; walk = refl }
script_next image (x ∷ xs) h = record { fault = simp (no_hyphen x xs h); walk = simp (no_hyphen x xs h) }

last_word : (image script : Text) → after (at_script image script) [] ≡ Some (ToRun image script plain_run)
unfolding request_after clap_on_literals
last_word image script = refl

pub runs : TakesRuns
runs name image script hi hs = opened name (image ∷ script ∷ [])
    ∙ (step (image_next image hi) (script ∷ []) ∙ (step (script_next image script hs) [] ∙ last_word image script))
