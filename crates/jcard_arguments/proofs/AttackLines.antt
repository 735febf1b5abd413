-- Plain lines of the command `attack`: an image, a script and options, or files to join.
use Rattle.std.proofs.Common.{◌≡◌, ◌∙◌, ℕ, false, true, List, [], ◌∷◌, ◌++◌, Option, Some, None, ap, refl, codes, append_assoc}
use Rattle.std.specs.Prelude.{All, fold, option_map}
use Rattle.std.proofs.lemmas.List.Elements.{All-head, All-tail}
use Rattle.clap.specs.Words.{Row, Text}
use Rattle.clap.specs.Walk.{Waiting, Walk, finished, idle, nothing_held, option, positional, reading_by, settled, walk_from, walked}
use Rattle.clap.specs.Simple.{Shape, built_leaf, inherited, marked_built, names_of, on_top, with_leaf_noted}
use Rattle.clap.specs.Faults.{defaults_fault, turn_fault, walk_fault}
use Rattle.clap.specs.declared.parser.matches.ValueSource.TheVariants.{CommandLine}
use Rattle.clap.proofs.OnLiterals.{clap_on_literals}
use Rattle.jcard_arguments.proofs.CommandWalk.{after_next, as_ended, causes_of, met, none_more, opened_by, request_after, whole}
use Rattle.jcard_arguments.proofs.Hyphens.{no_hyphen}
use Rattle.jcard_outcomes.specs.Models.{all_models}
use Rattle.jcard_arguments.specs.Attacks.{within_of}
use Rattle.jcard_arguments.specs.CommandLine.{CommandLineRequest, ToAttack, ToJoin, attack_by, attack_of, attack_with, request_of_words}
use Rattle.jcard_arguments.specs.Grammar.{attack_grammar, operands, program_grammar}
use Rattle.jcard_arguments.specs.Arguments.{IsNoFlag, TakesAttackJoins, TakesAttacks, plain_attack}

-- the command, as the build leaves it
abbrev shape : Shape
shape = built_leaf (inherited (on_top with_leaf_noted (on_top marked_built program_grammar)).top attack_grammar.top)

-- what the words are taken for, from here on
abbrev after : Walk → List Text → Option CommandLineRequest
after w words = request_after shape attack_of w words

-- ---- the words before those of the command

by_walk : (name : Text) (words : List Text) → request_of_words (name ∷ codes "attack" ∷ words)
    ≡ as_ended (fold (walked whole.top.rules (names_of whole)) (met (codes "attack") []) words) (walk_fault whole.top (names_of whole) (met (codes "attack") []) words)
unfolding request_of_words as_ended walked walk_fault
by_walk name words = refl

by_command : (words : List Text) → as_ended (met (codes "attack") words) [] ≡ after (walk_from nothing_held) words
unfolding as_ended request_after defaults_fault
by_command words = none_more (causes_of shape attack_of (walk_from nothing_held) words)
    (attack_of (finished shape.rules (fold (walked shape.rules []) (walk_from nothing_held) words).held))

opened : (name : Text) (words : List Text) → request_of_words (name ∷ codes "attack" ∷ words) ≡ after (walk_from nothing_held) words
opened name words = opened_by shape attack_of (codes "attack") (request_of_words (name ∷ codes "attack" ∷ words)) words (by_walk name words) (by_command words)

-- ---- the words

-- the row of these files
abbrev rows : List Text → List Row
rows [] = []
rows (file ∷ files) = record {
  id = codes "file";
  values = file ∷ files;
  count = None;
  source = Some CommandLine;
  reading = reading_by (operands (codes "file"));
} ∷ []

-- with these values of an argument that is being read
abbrev reading : List Row → Text → List Text → Waiting → Walk
reading rs id values waiting = record {
  held = record { rows = rs; pending = Some (id, values); skip = 0 };
  waiting = waiting;
  position = 1;
  is_trailing = false;
  stopped = None;
}

-- after these files and one more
abbrev at_file : List Text → Text → Walk
at_file files last = reading (rows files) (codes "file") (last ∷ []) positional

-- after both operands
abbrev at_options : Text → Text → Walk
at_options image script = at_file (image ∷ []) script

abbrev operands_read : Text → Text → List Row
operands_read image script = rows (image ∷ script ∷ [])

-- after the name of an option
abbrev named : List Row → Text → Walk
named rs id = reading rs id [] (option id)

-- after a value
abbrev given : List Row → Text → Text → Walk
given rs id value = reading rs id (value ∷ []) idle

-- a word is no fault, and the walk then stands there
record Goes (w : Walk) (word : Text) (next : Walk) : Type 0 where
  fault : turn_fault shape [] w word ≡ []
  walk : walked shape.rules [] w word ≡ next

step : {w next : Walk} {word : Text} → Goes w word next → (words : List Text) → after w (word ∷ words) ≡ after next words
step {w = w} {next = next} {word = word} goes words = after_next shape attack_of w next word words goes.fault goes.walk

first_file : (file : Text) → IsNoFlag file → Goes (walk_from nothing_held) file (at_file [] file)
unfolding clap_on_literals
first_file [] h = record { fault = refl; walk = refl }
first_file (x ∷ xs) h = record { fault = simp (no_hyphen x xs h); walk = simp (no_hyphen x xs h) }

next_file : (last file : Text) → IsNoFlag file → Goes (at_file [] last) file (at_file (last ∷ []) file)
unfolding clap_on_literals
next_file last [] h = record { fault = refl; walk = refl }
next_file last (x ∷ xs) h = record { fault = simp (no_hyphen x xs h); walk = simp (no_hyphen x xs h) }

-- the number of instructions within which a second fault comes
twice_first : (image script : Text) → Goes (at_options image script) (codes "--twice") (named (operands_read image script) (codes "twice"))
unfolding clap_on_literals
twice_first image script = record { fault = refl; walk = refl }

at_twice : (rs : List Row) (value : Text) → IsNoFlag value → Goes (named rs (codes "twice")) value (given rs (codes "twice") value)
unfolding clap_on_literals
at_twice rs [] h = record { fault = refl; walk = refl }
at_twice rs (x ∷ xs) h = record { fault = simp (no_hyphen x xs h); walk = simp (no_hyphen x xs h) }

-- what is asked for with such a number
abbrev by_within : Text → Text → Option ℕ → Option CommandLineRequest
by_within image script within = option_map (λ n. ToAttack image script (record plain_attack { within = n })) within

struck_twice : (image script : Text) (within : Option ℕ)
    → attack_by (Some (image, script)) (attack_with false (Some all_models) (Some (codes "9000")) within false None None None None (Some None)) ≡ by_within image script within
struck_twice image script None = refl
struck_twice image script (Some within) = refl

twice_last : (image script value : Text) → after (given (operands_read image script) (codes "twice") value) [] ≡ by_within image script (within_of value)
unfolding request_after clap_on_literals
twice_last image script value = struck_twice image script (within_of value)

-- with objects
with_objects : Walk → Walk
with_objects w = walked shape.rules [] w (codes "--objects")

objects_first : (image script : Text) → Goes (at_options image script) (codes "--objects") (with_objects (at_options image script))
unfolding clap_on_literals with_objects
objects_first image script = record { fault = refl; walk = refl }

objects_last : (image script : Text) → after (with_objects (at_options image script)) [] ≡ Some (ToAttack image script (record plain_attack { objects = true }))
unfolding request_after clap_on_literals with_objects
objects_last image script = refl

-- a part of the faults
part_first : (image script : Text) → Goes (at_options image script) (codes "--part") (named (operands_read image script) (codes "part"))
unfolding clap_on_literals
part_first image script = record { fault = refl; walk = refl }

part_alone : (image script part : Text) → after (given (operands_read image script) (codes "part") part) []
    ≡ Some (ToAttack image script (record plain_attack { part = Some part }))
unfolding request_after clap_on_literals
part_alone image script part = refl

-- a part of each command
with_each : Walk → Walk
with_each w = walked shape.rules [] w (codes "--each")

each_first : (image script : Text) → Goes (at_options image script) (codes "--each") (with_each (at_options image script))
unfolding clap_on_literals with_each
each_first image script = record { fault = refl; walk = refl }

-- the rows after the flag
abbrev each_read : Text → Text → List Row
each_read image script = (settled shape.rules (with_each (at_options image script)).held).rows

part_second : (image script : Text) → Goes (with_each (at_options image script)) (codes "--part") (named (each_read image script) (codes "part"))
unfolding clap_on_literals with_each
part_second image script = record { fault = refl; walk = refl }

at_part : (rs : List Row) (value : Text) → IsNoFlag value → Goes (named rs (codes "part")) value (given rs (codes "part") value)
unfolding clap_on_literals
at_part rs [] h = record { fault = refl; walk = refl }
at_part rs (x ∷ xs) h = record { fault = simp (no_hyphen x xs h); walk = simp (no_hyphen x xs h) }

part_last : (image script part : Text) → after (given (each_read image script) (codes "part") part) []
    ≡ Some (ToAttack image script (record plain_attack { each = true; part = Some part }))
unfolding request_after clap_on_literals with_each
part_last image script part = refl

-- the last word
operands_last : (image script : Text) → after (at_options image script) [] ≡ Some (ToAttack image script plain_attack)
unfolding request_after clap_on_literals
operands_last image script = refl

-- ---- the lines

at_operands : (name image script : Text) (words : List Text) → IsNoFlag image → IsNoFlag script
    → request_of_words (name ∷ codes "attack" ∷ image ∷ script ∷ words) ≡ after (at_options image script) words
at_operands name image script words hi hs = opened name (image ∷ script ∷ words)
    ∙ (step (first_file image hi) (script ∷ words) ∙ step (next_file image script hs) words)

pub attacks : TakesAttacks
attacks name image script value hi hs hv = (
  at_operands name image script [] hi hs ∙ operands_last image script,
  λ within is. at_operands name image script (codes "--twice" ∷ value ∷ []) hi hs
      ∙ (step (twice_first image script) (value ∷ [])
      ∙ (step (at_twice (operands_read image script) value hv) []
      ∙ (twice_last image script value
      ∙ ap (by_within image script) is))),
  at_operands name image script (codes "--objects" ∷ []) hi hs ∙ (step (objects_first image script) [] ∙ objects_last image script),
  at_operands name image script (codes "--part" ∷ value ∷ []) hi hs
      ∙ (step (part_first image script) (value ∷ [])
      ∙ (step (at_part (operands_read image script) value hv) []
      ∙ part_alone image script value)),
  at_operands name image script (codes "--each" ∷ codes "--part" ∷ value ∷ []) hi hs
      ∙ (step (each_first image script) (codes "--part" ∷ value ∷ [])
      ∙ (step (part_second image script) (value ∷ [])
      ∙ (step (at_part (each_read image script) value hv) []
      ∙ part_last image script value))),
)

-- ---- files to join

-- the flag
with_join : Walk → Walk
with_join w = walked shape.rules [] w (codes "--join")

-- after it, these files and one more
joined_file : List Text → Text → Walk
joined_file files last = reading ((with_join (walk_from nothing_held)).held.rows ++ rows files) (codes "file") (last ∷ []) positional

join_first : Goes (walk_from nothing_held) (codes "--join") (with_join (walk_from nothing_held))
unfolding clap_on_literals with_join
join_first = record { fault = refl; walk = refl }

first_joined : (file : Text) → IsNoFlag file → Goes (with_join (walk_from nothing_held)) file (joined_file [] file)
unfolding clap_on_literals with_join joined_file
first_joined [] h = record { fault = refl; walk = refl }
first_joined (x ∷ xs) h = record { fault = simp (no_hyphen x xs h); walk = simp (no_hyphen x xs h) }

next_joined : (files : List Text) (last file : Text) → IsNoFlag file → Goes (joined_file files last) file (joined_file (files ++ last ∷ []) file)
unfolding clap_on_literals with_join joined_file
next_joined [] last [] h = record { fault = refl; walk = refl }
next_joined [] last (x ∷ xs) h = record { fault = simp (no_hyphen x xs h); walk = simp (no_hyphen x xs h) }
next_joined (f ∷ fs) last [] h = record { fault = refl; walk = refl }
next_joined (f ∷ fs) last (x ∷ xs) h = record { fault = simp (no_hyphen x xs h); walk = simp (no_hyphen x xs h) }

last_joined : (files : List Text) (last : Text) → after (joined_file files last) [] ≡ Some (ToJoin (files ++ last ∷ []))
unfolding request_after clap_on_literals with_join joined_file
last_joined [] last = refl
last_joined (f ∷ fs) last = refl

-- more files
more_joined : (files : List Text) (last : Text) (more : List Text) → All IsNoFlag more → after (joined_file files last) more ≡ Some (ToJoin (files ++ last ∷ more))
more_joined files last [] all = last_joined files last
more_joined files last (f ∷ fs) all = step (next_joined files last f (All-head IsNoFlag f fs all)) fs
    ∙ (more_joined (files ++ last ∷ []) f fs (All-tail IsNoFlag f fs all)
    ∙ ap (λ (l : List Text). Some (ToJoin l)) (append_assoc files (last ∷ []) (f ∷ fs)))

pub attack_joins : TakesAttackJoins
attack_joins name file files hf all = opened name (codes "--join" ∷ file ∷ files)
    ∙ (step join_first (file ∷ files) ∙ (step (first_joined file hf) files ∙ more_joined [] file files all))
