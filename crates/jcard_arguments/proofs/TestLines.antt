-- Plain lines of the command `test`, which takes one operand or more, and the option `--junit`.
use Rattle.std.proofs.Common.{◌≡◌, ◌∙◌, false, List, [], ◌∷◌, ◌++◌, Option, Some, None, ap, refl, codes, append_assoc}
use Rattle.std.specs.Prelude.{All, fold}
use Rattle.std.proofs.lemmas.List.Elements.{All-head, All-tail}
use Rattle.clap.specs.Words.{Row, Text}
use Rattle.clap.specs.Walk.{Waiting, Walk, finished, idle, nothing_held, option, positional, reading_by, walk_from, walked}
use Rattle.clap.specs.Simple.{Shape, built_leaf, inherited, marked_built, names_of, on_top, with_leaf_noted}
use Rattle.clap.specs.Faults.{defaults_fault, turn_fault, walk_fault}
use Rattle.clap.specs.declared.parser.matches.ValueSource.TheVariants.{CommandLine}
use Rattle.clap.proofs.OnLiterals.{clap_on_literals}
use Rattle.jcard_arguments.proofs.Hyphens.{no_hyphen}
use Rattle.jcard_arguments.proofs.CommandWalk.{after_next, as_ended, causes_of, met, none_more, opened_by, request_after, whole}
use Rattle.jcard_arguments.specs.CommandLine.{CommandLineRequest, ToTest, request_of_words, test_of}
use Rattle.jcard_arguments.specs.Grammar.{operands, program_grammar, test_grammar}
use Rattle.jcard_arguments.specs.Arguments.{IsNoFlag, TakesTests, plain_test}

-- the command, as the build leaves it
abbrev shape : Shape
shape = built_leaf (inherited (on_top with_leaf_noted (on_top marked_built program_grammar)).top test_grammar.top)

-- what the words are taken for, from here on
abbrev after : Walk → List Text → Option CommandLineRequest
after w words = request_after shape test_of w words

-- ---- the words before those of the command

by_walk : (name : Text) (words : List Text) → request_of_words (name ∷ codes "test" ∷ words)
    ≡ as_ended (fold (walked whole.top.rules (names_of whole)) (met (codes "test") []) words) (walk_fault whole.top (names_of whole) (met (codes "test") []) words)
unfolding request_of_words as_ended walked walk_fault
by_walk name words = refl

by_command : (words : List Text) → as_ended (met (codes "test") words) [] ≡ after (walk_from nothing_held) words
unfolding as_ended request_after defaults_fault
by_command words = none_more (causes_of shape test_of (walk_from nothing_held) words)
    (test_of (finished shape.rules (fold (walked shape.rules []) (walk_from nothing_held) words).held))

opened : (name : Text) (words : List Text) → request_of_words (name ∷ codes "test" ∷ words) ≡ after (walk_from nothing_held) words
opened name words = opened_by shape test_of (codes "test") (request_of_words (name ∷ codes "test" ∷ words)) words (by_walk name words) (by_command words)

-- ---- the words

-- the row of these files
abbrev rows : List Text → List Row
rows [] = []
rows (file ∷ files) = record {
  id = codes "file";
  values = file ∷ files;
  count = None;
  source = Some CommandLine;
  reading = reading_by (operands (codes "file"));
} ∷ []

-- with this value of an argument that is being read, after these files
abbrev reading : List Row → Text → List Text → Waiting → Walk
reading rs id values waiting = record {
  held = record { rows = rs; pending = Some (id, values); skip = 0 };
  waiting = waiting;
  position = 1;
  is_trailing = false;
  stopped = None;
}

-- after these files and one more
abbrev at_file : List Text → Text → Walk
at_file files last = reading (rows files) (codes "file") (last ∷ []) positional

-- after the name of the option, and after its value
abbrev at_junit : List Text → Walk
at_junit files = reading (rows files) (codes "junit") [] (option (codes "junit"))

abbrev behind_junit : List Text → Text → Walk
behind_junit files junit = reading (rows files) (codes "junit") (junit ∷ []) idle

-- a word is no fault, and the walk then stands there
record Goes (w : Walk) (word : Text) (next : Walk) : Type 0 where
  fault : turn_fault shape [] w word ≡ []
  walk : walked shape.rules [] w word ≡ next

step : {w next : Walk} {word : Text} → Goes w word next → (words : List Text) → after w (word ∷ words) ≡ after next words
step {w = w} {next = next} {word = word} goes words = after_next shape test_of w next word words goes.fault goes.walk

first_file : (file : Text) → IsNoFlag file → Goes (walk_from nothing_held) file (at_file [] file)
unfolding clap_on_literals
first_file [] h = record { fault = refl; walk = refl }
first_file (x ∷ xs) h = record { fault = simp (no_hyphen x xs h); walk = simp (no_hyphen x xs h) }

next_file : (files : List Text) (last file : Text) → IsNoFlag file → Goes (at_file files last) file (at_file (files ++ last ∷ []) file)
unfolding clap_on_literals
next_file [] last [] h = record { fault = refl; walk = refl }
next_file [] last (x ∷ xs) h = record { fault = simp (no_hyphen x xs h); walk = simp (no_hyphen x xs h) }
next_file (f ∷ fs) last [] h = record { fault = refl; walk = refl }
next_file (f ∷ fs) last (x ∷ xs) h = record { fault = simp (no_hyphen x xs h); walk = simp (no_hyphen x xs h) }

junit_named : (files : List Text) (last : Text) → Goes (at_file files last) (codes "--junit") (at_junit (files ++ last ∷ []))
unfolding clap_on_literals
junit_named [] last = record { fault = refl; walk = refl }
junit_named (f ∷ fs) last = record { fault = refl; walk = refl }

junit_given : (file : Text) (files : List Text) (junit : Text) → IsNoFlag junit → Goes (at_junit (file ∷ files)) junit (behind_junit (file ∷ files) junit)
unfolding clap_on_literals
junit_given file files [] h = record { fault = refl; walk = refl }
junit_given file files (x ∷ xs) h = record { fault = simp (no_hyphen x xs h); walk = simp (no_hyphen x xs h) }

-- the last word
last_file : (files : List Text) (last : Text) → after (at_file files last) [] ≡ Some (ToTest (files ++ last ∷ []) plain_test)
unfolding request_after clap_on_literals
last_file [] last = refl
last_file (f ∷ fs) last = refl

last_junit : (file : Text) (files : List Text) (junit : Text) → after (behind_junit (file ∷ files) junit) [] ≡ Some (ToTest (file ∷ files) (record plain_test { junit = Some junit }))
unfolding request_after clap_on_literals
last_junit file files junit = refl

-- ---- the lines

-- the report after these files
junit_behind : (files : List Text) (last junit : Text) → IsNoFlag junit
    → after (at_file files last) (codes "--junit" ∷ junit ∷ []) ≡ Some (ToTest (files ++ last ∷ []) (record plain_test { junit = Some junit }))
junit_behind [] last junit h = step (junit_named [] last) (junit ∷ []) ∙ (step (junit_given last [] junit h) [] ∙ last_junit last [] junit)
junit_behind (f ∷ fs) last junit h = step (junit_named (f ∷ fs) last) (junit ∷ [])
    ∙ (step (junit_given f (fs ++ last ∷ []) junit h) [] ∙ last_junit f (fs ++ last ∷ []) junit)

-- more files
files_more : (files : List Text) (last : Text) (more : List Text) → All IsNoFlag more
    → after (at_file files last) more ≡ Some (ToTest (files ++ last ∷ more) plain_test)
files_more files last [] all = last_file files last
files_more files last (f ∷ fs) all = step (next_file files last f (All-head IsNoFlag f fs all)) fs
    ∙ (files_more (files ++ last ∷ []) f fs (All-tail IsNoFlag f fs all)
    ∙ ap (λ (l : List Text). Some (ToTest l plain_test)) (append_assoc files (last ∷ []) (f ∷ fs)))

files_and_junit : (files : List Text) (last : Text) (more : List Text) (junit : Text) → All IsNoFlag more → IsNoFlag junit
    → after (at_file files last) (more ++ codes "--junit" ∷ junit ∷ []) ≡ Some (ToTest (files ++ last ∷ more) (record plain_test { junit = Some junit }))
files_and_junit files last [] junit all h = junit_behind files last junit h
files_and_junit files last (f ∷ fs) junit all h = step (next_file files last f (All-head IsNoFlag f fs all)) (fs ++ codes "--junit" ∷ junit ∷ [])
    ∙ (files_and_junit (files ++ last ∷ []) f fs junit (All-tail IsNoFlag f fs all) h
    ∙ ap (λ (l : List Text). Some (ToTest l (record plain_test { junit = Some junit }))) (append_assoc files (last ∷ []) (f ∷ fs)))

pub tests : TakesTests
tests name file junit files hf all hj = (
  opened name (file ∷ files) ∙ (step (first_file file hf) files ∙ files_more [] file files all),
  opened name (file ∷ (files ++ codes "--junit" ∷ junit ∷ [])) ∙ (step (first_file file hf) (files ++ codes "--junit" ∷ junit ∷ [])
      ∙ files_and_junit [] file files junit all hj),
)
