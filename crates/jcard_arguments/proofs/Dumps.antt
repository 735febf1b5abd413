-- Plain lines of the command `dump`.
use Rattle.std.proofs.Common.{◌≡◌, ◌∙◌, ℕ, false, true, List, [], ◌∷◌, Option, Some, None, refl, codes}
use Rattle.std.specs.Prelude.{fold}
use Rattle.clap.specs.Words.{Row, Text}
use Rattle.clap.specs.Walk.{Walk, finished, idle, nothing_held, walk_from, walked}
use Rattle.clap.specs.Simple.{Shape, built_leaf, inherited, marked_built, names_of, on_top, with_leaf_noted}
use Rattle.clap.specs.Faults.{defaults_fault, turn_fault, walk_fault}
use Rattle.clap.proofs.OnLiterals.{clap_on_literals}
use Rattle.jcard_arguments.proofs.CommandWalk.{after_next, as_ended, causes_of, met, none_more, opened_by, request_after, whole}
use Rattle.jcard_arguments.proofs.Hyphens.{no_hyphen}
use Rattle.jcard_arguments.specs.CommandLine.{CommandLineRequest, ToList, ToListObjects, dump_of, request_of_words}
use Rattle.jcard_arguments.specs.Grammar.{dump_grammar, program_grammar}
use Rattle.jcard_arguments.specs.Arguments.{IsNoFlag, TakesDumps}

-- the command, as the build leaves it
abbrev shape : Shape
shape = built_leaf (inherited (on_top with_leaf_noted (on_top marked_built program_grammar)).top dump_grammar.top)

-- what the words are taken for, from here on
abbrev after : Walk → List Text → Option CommandLineRequest
after w words = request_after shape dump_of w words

-- ---- the words before those of the command

by_walk : (name : Text) (words : List Text) → request_of_words (name ∷ codes "dump" ∷ words)
    ≡ as_ended (fold (walked whole.top.rules (names_of whole)) (met (codes "dump") []) words) (walk_fault whole.top (names_of whole) (met (codes "dump") []) words)
unfolding request_of_words as_ended walked walk_fault
by_walk name words = refl

by_command : (words : List Text) → as_ended (met (codes "dump") words) [] ≡ after (walk_from nothing_held) words
unfolding as_ended request_after defaults_fault
by_command words = none_more (causes_of shape dump_of (walk_from nothing_held) words)
    (dump_of (finished shape.rules (fold (walked shape.rules []) (walk_from nothing_held) words).held))

opened : (name : Text) (words : List Text) → request_of_words (name ∷ codes "dump" ∷ words) ≡ after (walk_from nothing_held) words
opened name words = opened_by shape dump_of (codes "dump") (request_of_words (name ∷ codes "dump" ∷ words)) words (by_walk name words) (by_command words)

-- ---- the words

-- with this value of an operand that is being read, before the operand at this position
abbrev reading : ℕ → List Row → Text → Text → Walk
reading position rows id value = record {
  held = record { rows = rows; pending = Some (id, value ∷ []); skip = 0 };
  waiting = idle;
  position = position;
  is_trailing = false;
  stopped = None;
}

-- a word is no fault, and the walk then stands there
record Goes (w : Walk) (word : Text) (next : Walk) : Type 0 where
  fault : turn_fault shape [] w word ≡ []
  walk : walked shape.rules [] w word ≡ next

step : {w next : Walk} {word : Text} → Goes w word next → (words : List Text) → after w (word ∷ words) ≡ after next words
step {w = w} {next = next} {word = word} goes words = after_next shape dump_of w next word words goes.fault goes.walk

abbrev at_image : Text → Walk
at_image image = reading 2 [] (codes "image") image

image_next : (image : Text) → IsNoFlag image → Goes (walk_from nothing_held) image (at_image image)
unfolding clap_on_literals
image_next [] h = record { fault = refl; walk = refl }
image_next (x ∷ xs) h = record { fault = simp (no_hyphen x xs h); walk = simp (no_hyphen x xs h) }

-- after the flag of objects, and after that of all, or of secrets
with_objects : Walk → Walk
with_objects w = walked shape.rules [] w (codes "--objects")

with_all : Walk → Walk
with_all w = walked shape.rules [] w (codes "--all")

with_secrets : Walk → Walk
with_secrets w = walked shape.rules [] w (codes "--secrets")

objects_next : (image : Text) → Goes (at_image image) (codes "--objects") (with_objects (at_image image))
unfolding clap_on_literals with_objects
objects_next image = record { fault = refl; walk = refl }

all_next : (image : Text) → Goes (with_objects (at_image image)) (codes "--all") (with_all (with_objects (at_image image)))
unfolding clap_on_literals with_objects with_all
all_next image = record { fault = refl; walk = refl }

secrets_next : (image : Text) → Goes (with_objects (at_image image)) (codes "--secrets") (with_secrets (with_objects (at_image image)))
unfolding clap_on_literals with_objects with_secrets
secrets_next image = record { fault = refl; walk = refl }

image_last : (image : Text) → after (at_image image) [] ≡ Some (ToList image)
unfolding request_after clap_on_literals
image_last image = refl

objects_last : (image : Text) → after (with_objects (at_image image)) [] ≡ Some (ToListObjects image false false None)
unfolding request_after clap_on_literals with_objects
objects_last image = refl

all_last : (image : Text) → after (with_all (with_objects (at_image image))) [] ≡ Some (ToListObjects image true false None)
unfolding request_after clap_on_literals with_objects with_all
all_last image = refl

secrets_last : (image : Text) → after (with_secrets (with_objects (at_image image))) [] ≡ Some (ToListObjects image false true None)
unfolding request_after clap_on_literals with_objects with_secrets
secrets_last image = refl

pub dumps : TakesDumps
dumps name image hi = (
  opened name (image ∷ []) ∙ (step (image_next image hi) [] ∙ image_last image),
  opened name (image ∷ codes "--objects" ∷ []) ∙ (step (image_next image hi) (codes "--objects" ∷ [])
      ∙ (step (objects_next image) [] ∙ objects_last image)),
  opened name (image ∷ codes "--objects" ∷ codes "--all" ∷ []) ∙ (step (image_next image hi) (codes "--objects" ∷ codes "--all" ∷ [])
      ∙ (step (objects_next image) (codes "--all" ∷ []) ∙ (step (all_next image) [] ∙ all_last image))),
  opened name (image ∷ codes "--objects" ∷ codes "--secrets" ∷ []) ∙ (step (image_next image hi) (codes "--objects" ∷ codes "--secrets" ∷ [])
      ∙ (step (objects_next image) (codes "--secrets" ∷ []) ∙ (step (secrets_next image) [] ∙ secrets_last image))),
)
