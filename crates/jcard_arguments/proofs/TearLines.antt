-- Plain lines of the command `tear`: an image, a script and options, or files to join.
use Rattle.std.proofs.Common.{◌≡◌, ◌∙◌, false, true, List, [], ◌∷◌, ◌++◌, Option, Some, None, ap, refl, codes, append_assoc}
use Rattle.std.specs.Prelude.{All, fold, option_map}
use Rattle.std.proofs.lemmas.List.Elements.{All-head, All-tail}
use Rattle.clap.specs.Words.{Row, Text}
use Rattle.clap.specs.Walk.{Waiting, Walk, finished, idle, nothing_held, option, positional, reading_by, settled, walk_from, walked}
use Rattle.clap.specs.Simple.{Shape, built_leaf, inherited, marked_built, names_of, on_top, with_leaf_noted}
use Rattle.clap.specs.Faults.{defaults_fault, turn_fault, walk_fault}
use Rattle.clap.specs.declared.parser.matches.ValueSource.TheVariants.{CommandLine}
use Rattle.clap.proofs.OnLiterals.{clap_on_literals}
use Rattle.jcard_arguments.proofs.Hyphens.{no_hyphen}
use Rattle.jcard_arguments.proofs.CommandWalk.{after_next, as_ended, causes_of, met, none_more, opened_by, request_after, whole}
use Rattle.jcard_outcomes.specs.declared.recoveries.Depth.{Depth}
use Rattle.jcard_arguments.specs.CommandLine.{CommandLineRequest, ToJoin, ToTear, depth_of, request_of_words, tear_by, tear_of, tear_with}
use Rattle.jcard_arguments.specs.Grammar.{operands, program_grammar, tear_grammar}
use Rattle.jcard_arguments.specs.Arguments.{IsNoFlag, TakesJoins, TakesTears, plain_tear}

-- the command, as the build leaves it
abbrev shape : Shape
shape = built_leaf (inherited (on_top with_leaf_noted (on_top marked_built program_grammar)).top tear_grammar.top)

-- what the words are taken for, from here on
abbrev after : Walk → List Text → Option CommandLineRequest
after w words = request_after shape tear_of w words

-- ---- the words before those of the command

by_walk : (name : Text) (words : List Text) → request_of_words (name ∷ codes "tear" ∷ words)
    ≡ as_ended (fold (walked whole.top.rules (names_of whole)) (met (codes "tear") []) words) (walk_fault whole.top (names_of whole) (met (codes "tear") []) words)
unfolding request_of_words as_ended walked walk_fault
by_walk name words = refl

by_command : (words : List Text) → as_ended (met (codes "tear") words) [] ≡ after (walk_from nothing_held) words
unfolding as_ended request_after defaults_fault
by_command words = none_more (causes_of shape tear_of (walk_from nothing_held) words)
    (tear_of (finished shape.rules (fold (walked shape.rules []) (walk_from nothing_held) words).held))

opened : (name : Text) (words : List Text) → request_of_words (name ∷ codes "tear" ∷ words) ≡ after (walk_from nothing_held) words
opened name words = opened_by shape tear_of (codes "tear") (request_of_words (name ∷ codes "tear" ∷ words)) words (by_walk name words) (by_command words)

-- ---- the words

-- the row of these files
abbrev rows : List Text → List Row
rows [] = []
rows (file ∷ files) = record {
  id = codes "file";
  values = file ∷ files;
  count = None;
  source = Some CommandLine;
  reading = reading_by (operands (codes "file"));
} ∷ []

-- with these values of an argument that is being read
abbrev reading : List Row → Text → List Text → Waiting → Walk
reading rs id values waiting = record {
  held = record { rows = rs; pending = Some (id, values); skip = 0 };
  waiting = waiting;
  position = 1;
  is_trailing = false;
  stopped = None;
}

-- after these files and one more
abbrev at_file : List Text → Text → Walk
at_file files last = reading (rows files) (codes "file") (last ∷ []) positional

-- after both operands
abbrev at_options : Text → Text → Walk
at_options image script = at_file (image ∷ []) script

abbrev operands_read : Text → Text → List Row
operands_read image script = rows (image ∷ script ∷ [])

-- the rows after an option was read
abbrev read : List Row → Text → Text → List Row
read rs id value = (settled shape.rules (record { rows = rs; pending = Some (id, value ∷ []); skip = 0 })).rows

-- after the name of an option
abbrev named : List Row → Text → Walk
named rs id = reading rs id [] (option id)

-- after a value
abbrev given : List Row → Text → Text → Walk
given rs id value = reading rs id (value ∷ []) idle

-- a word is no fault, and the walk then stands there
record Goes (w : Walk) (word : Text) (next : Walk) : Type 0 where
  fault : turn_fault shape [] w word ≡ []
  walk : walked shape.rules [] w word ≡ next

step : {w next : Walk} {word : Text} → Goes w word next → (words : List Text) → after w (word ∷ words) ≡ after next words
step {w = w} {next = next} {word = word} goes words = after_next shape tear_of w next word words goes.fault goes.walk

first_file : (file : Text) → IsNoFlag file → Goes (walk_from nothing_held) file (at_file [] file)
unfolding clap_on_literals
first_file [] h = record { fault = refl; walk = refl }
first_file (x ∷ xs) h = record { fault = simp (no_hyphen x xs h); walk = simp (no_hyphen x xs h) }

next_file : (files : List Text) (last file : Text) → IsNoFlag file → Goes (at_file files last) file (at_file (files ++ last ∷ []) file)
unfolding clap_on_literals
next_file [] last [] h = record { fault = refl; walk = refl }
next_file [] last (x ∷ xs) h = record { fault = simp (no_hyphen x xs h); walk = simp (no_hyphen x xs h) }
next_file (f ∷ fs) last [] h = record { fault = refl; walk = refl }
next_file (f ∷ fs) last (x ∷ xs) h = record { fault = simp (no_hyphen x xs h); walk = simp (no_hyphen x xs h) }

at_probe : (rs : List Row) (value : Text) → IsNoFlag value → Goes (named rs (codes "probe")) value (given rs (codes "probe") value)
unfolding clap_on_literals
at_probe rs [] h = record { fault = refl; walk = refl }
at_probe rs (x ∷ xs) h = record { fault = simp (no_hyphen x xs h); walk = simp (no_hyphen x xs h) }

at_line : (rs : List Row) (value : Text) → IsNoFlag value → Goes (named rs (codes "line")) value (given rs (codes "line") value)
unfolding clap_on_literals
at_line rs [] h = record { fault = refl; walk = refl }
at_line rs (x ∷ xs) h = record { fault = simp (no_hyphen x xs h); walk = simp (no_hyphen x xs h) }

-- the name of an option after the operands, and after the other option
probe_first : (image script : Text) → Goes (at_options image script) (codes "--probe") (named (operands_read image script) (codes "probe"))
unfolding clap_on_literals
probe_first image script = record { fault = refl; walk = refl }

line_first : (image script : Text) → Goes (at_options image script) (codes "--line") (named (operands_read image script) (codes "line"))
unfolding clap_on_literals
line_first image script = record { fault = refl; walk = refl }

line_second : (image script probe : Text) → Goes (given (operands_read image script) (codes "probe") probe) (codes "--line")
    (named (read (operands_read image script) (codes "probe") probe) (codes "line"))
unfolding clap_on_literals
line_second image script probe = record { fault = refl; walk = refl }

-- the last word
operands_last : (image script : Text) → after (at_options image script) [] ≡ Some (ToTear image script plain_tear)
unfolding request_after clap_on_literals
operands_last image script = refl

probe_last : (image script probe : Text)
    → after (given (operands_read image script) (codes "probe") probe) [] ≡ Some (ToTear image script (record plain_tear { probe = Some probe }))
unfolding request_after clap_on_literals
probe_last image script probe = refl

line_last : (image script line : Text) → after (given (operands_read image script) (codes "line") line) [] ≡ Some (ToTear image script (record plain_tear { line = Some line }))
unfolding request_after clap_on_literals
line_last image script line = refl

both_last : (image script probe line : Text) → after (given (read (operands_read image script) (codes "probe") probe) (codes "line") line) []
    ≡ Some (ToTear image script (record plain_tear { probe = Some probe; line = Some line }))
unfolding request_after clap_on_literals
both_last image script probe line = refl

-- the option that says how many recoveries are cut, after the operands
recovery_first : (image script : Text) → Goes (at_options image script) (codes "--recovery") (named (operands_read image script) (codes "recovery"))
unfolding clap_on_literals
recovery_first image script = record { fault = refl; walk = refl }

at_recovery : (rs : List Row) (value : Text) → IsNoFlag value → Goes (named rs (codes "recovery")) value (given rs (codes "recovery") value)
unfolding clap_on_literals
at_recovery rs [] h = record { fault = refl; walk = refl }
at_recovery rs (x ∷ xs) h = record { fault = simp (no_hyphen x xs h); walk = simp (no_hyphen x xs h) }

-- what is asked for with this number of recoveries
abbrev by_depth : Text → Text → Option Depth → Option CommandLineRequest
by_depth image script depth = option_map (λ d. ToTear image script (record plain_tear { depth = d })) depth

recovered : (image script : Text) (depth : Option Depth)
    → tear_by (Some (image, script)) (tear_with false false false None None None depth None (Some None)) ≡ by_depth image script depth
recovered image script None = refl
recovered image script (Some depth) = refl

recovery_last : (image script recovery : Text) → after (given (operands_read image script) (codes "recovery") recovery) []
    ≡ by_depth image script (depth_of (Some recovery))
unfolding request_after clap_on_literals
recovery_last image script recovery = recovered image script (depth_of (Some recovery))

-- the flag, after the operands, and after the probe
with_each : Walk → Walk
with_each w = walked shape.rules [] w (codes "--each")

each_first : (image script : Text) → Goes (at_options image script) (codes "--each") (with_each (at_options image script))
unfolding clap_on_literals with_each
each_first image script = record { fault = refl; walk = refl }

each_second : (image script probe : Text) → Goes (given (operands_read image script) (codes "probe") probe) (codes "--each")
    (with_each (given (operands_read image script) (codes "probe") probe))
unfolding clap_on_literals with_each
each_second image script probe = record { fault = refl; walk = refl }

each_last : (image script : Text) → after (with_each (at_options image script)) [] ≡ Some (ToTear image script (record plain_tear { each = true }))
unfolding request_after clap_on_literals with_each
each_last image script = refl

each_behind_probe : (image script probe : Text)
    → after (with_each (given (operands_read image script) (codes "probe") probe)) [] ≡ Some (ToTear image script (record plain_tear { probe = Some probe; each = true }))
unfolding request_after clap_on_literals with_each
each_behind_probe image script probe = refl

-- a part, after the operands
at_part : (rs : List Row) (value : Text) → IsNoFlag value → Goes (named rs (codes "part")) value (given rs (codes "part") value)
unfolding clap_on_literals
at_part rs [] h = record { fault = refl; walk = refl }
at_part rs (x ∷ xs) h = record { fault = simp (no_hyphen x xs h); walk = simp (no_hyphen x xs h) }

part_first : (image script : Text) → Goes (at_options image script) (codes "--part") (named (operands_read image script) (codes "part"))
unfolding clap_on_literals
part_first image script = record { fault = refl; walk = refl }

part_last : (image script part : Text)
    → after (given (operands_read image script) (codes "part") part) [] ≡ Some (ToTear image script (record plain_tear { part = Some part }))
unfolding request_after clap_on_literals
part_last image script part = refl

-- the flag of objects, after the operands, and after the probe
with_objects : Walk → Walk
with_objects w = walked shape.rules [] w (codes "--objects")

objects_first : (image script : Text) → Goes (at_options image script) (codes "--objects") (with_objects (at_options image script))
unfolding clap_on_literals with_objects
objects_first image script = record { fault = refl; walk = refl }

objects_second : (image script probe : Text) → Goes (given (operands_read image script) (codes "probe") probe) (codes "--objects")
    (with_objects (given (operands_read image script) (codes "probe") probe))
unfolding clap_on_literals with_objects
objects_second image script probe = record { fault = refl; walk = refl }

objects_last : (image script : Text) → after (with_objects (at_options image script)) [] ≡ Some (ToTear image script (record plain_tear { objects = true }))
unfolding request_after clap_on_literals with_objects
objects_last image script = refl

objects_behind_probe : (image script probe : Text) → after (with_objects (given (operands_read image script) (codes "probe") probe)) []
    ≡ Some (ToTear image script (record plain_tear { probe = Some probe; objects = true }))
unfolding request_after clap_on_literals with_objects
objects_behind_probe image script probe = refl

-- ---- the lines

at_operands : (name image script : Text) (words : List Text) → IsNoFlag image → IsNoFlag script
    → request_of_words (name ∷ codes "tear" ∷ image ∷ script ∷ words) ≡ after (at_options image script) words
at_operands name image script words hi hs = opened name (image ∷ script ∷ words)
    ∙ (step (first_file image hi) (script ∷ words) ∙ step (next_file [] image script hs) words)

pub tears : TakesTears
tears name image script probe line recovery hi hs hp hl hr = (
  at_operands name image script [] hi hs ∙ operands_last image script,
  at_operands name image script (codes "--probe" ∷ probe ∷ []) hi hs
      ∙ (step (probe_first image script) (probe ∷ [])
      ∙ (step (at_probe (operands_read image script) probe hp) []
      ∙ probe_last image script probe)),
  at_operands name image script (codes "--line" ∷ line ∷ []) hi hs
      ∙ (step (line_first image script) (line ∷ [])
      ∙ (step (at_line (operands_read image script) line hl) []
      ∙ line_last image script line)),
  at_operands name image script (codes "--probe" ∷ probe ∷ codes "--line" ∷ line ∷ []) hi hs
      ∙ (step (probe_first image script) (probe ∷ codes "--line" ∷ line ∷ [])
      ∙ (step (at_probe (operands_read image script) probe hp) (codes "--line" ∷ line ∷ [])
      ∙ (step (line_second image script probe) (line ∷ [])
      ∙ (step (at_line (read (operands_read image script) (codes "probe") probe) line hl) []
      ∙ both_last image script probe line)))),
  at_operands name image script (codes "--each" ∷ []) hi hs
      ∙ (step (each_first image script) []
      ∙ each_last image script),
  at_operands name image script (codes "--probe" ∷ probe ∷ codes "--each" ∷ []) hi hs
      ∙ (step (probe_first image script) (probe ∷ codes "--each" ∷ [])
      ∙ (step (at_probe (operands_read image script) probe hp) (codes "--each" ∷ [])
      ∙ (step (each_second image script probe) []
      ∙ each_behind_probe image script probe))),
  λ depth is. at_operands name image script (codes "--recovery" ∷ recovery ∷ []) hi hs
      ∙ (step (recovery_first image script) (recovery ∷ [])
      ∙ (step (at_recovery (operands_read image script) recovery hr) []
      ∙ (recovery_last image script recovery
      ∙ ap (by_depth image script) is))),
  at_operands name image script (codes "--part" ∷ line ∷ []) hi hs
      ∙ (step (part_first image script) (line ∷ [])
      ∙ (step (at_part (operands_read image script) line hl) []
      ∙ part_last image script line)),
  at_operands name image script (codes "--objects" ∷ []) hi hs
      ∙ (step (objects_first image script) []
      ∙ objects_last image script),
  at_operands name image script (codes "--probe" ∷ probe ∷ codes "--objects" ∷ []) hi hs
      ∙ (step (probe_first image script) (probe ∷ codes "--objects" ∷ [])
      ∙ (step (at_probe (operands_read image script) probe hp) (codes "--objects" ∷ [])
      ∙ (step (objects_second image script probe) []
      ∙ objects_behind_probe image script probe))),
)

-- ---- files to join

-- the flag
with_join : Walk → Walk
with_join w = walked shape.rules [] w (codes "--join")

-- after it, these files and one more
joined_file : List Text → Text → Walk
joined_file files last = reading ((with_join (walk_from nothing_held)).held.rows ++ rows files) (codes "file") (last ∷ []) positional

join_first : Goes (walk_from nothing_held) (codes "--join") (with_join (walk_from nothing_held))
unfolding clap_on_literals with_join
join_first = record { fault = refl; walk = refl }

first_joined : (file : Text) → IsNoFlag file → Goes (with_join (walk_from nothing_held)) file (joined_file [] file)
unfolding clap_on_literals with_join joined_file
first_joined [] h = record { fault = refl; walk = refl }
first_joined (x ∷ xs) h = record { fault = simp (no_hyphen x xs h); walk = simp (no_hyphen x xs h) }

next_joined : (files : List Text) (last file : Text) → IsNoFlag file → Goes (joined_file files last) file (joined_file (files ++ last ∷ []) file)
unfolding clap_on_literals with_join joined_file
next_joined [] last [] h = record { fault = refl; walk = refl }
next_joined [] last (x ∷ xs) h = record { fault = simp (no_hyphen x xs h); walk = simp (no_hyphen x xs h) }
next_joined (f ∷ fs) last [] h = record { fault = refl; walk = refl }
next_joined (f ∷ fs) last (x ∷ xs) h = record { fault = simp (no_hyphen x xs h); walk = simp (no_hyphen x xs h) }

last_joined : (files : List Text) (last : Text) → after (joined_file files last) [] ≡ Some (ToJoin (files ++ last ∷ []))
unfolding request_after clap_on_literals with_join joined_file
last_joined [] last = refl
last_joined (f ∷ fs) last = refl

join_last : (files : List Text) (last : Text) → Goes (at_file files last) (codes "--join") (with_join (at_file files last))
unfolding clap_on_literals with_join
join_last [] last = record { fault = refl; walk = refl }
join_last (f ∷ fs) last = record { fault = refl; walk = refl }

join_behind : (files : List Text) (last : Text) → after (with_join (at_file files last)) [] ≡ Some (ToJoin (files ++ last ∷ []))
unfolding request_after clap_on_literals with_join
join_behind [] last = refl
join_behind (f ∷ fs) last = refl

-- more files
more_joined : (files : List Text) (last : Text) (more : List Text) → All IsNoFlag more → after (joined_file files last) more ≡ Some (ToJoin (files ++ last ∷ more))
more_joined files last [] all = last_joined files last
more_joined files last (f ∷ fs) all = step (next_joined files last f (All-head IsNoFlag f fs all)) fs
    ∙ (more_joined (files ++ last ∷ []) f fs (All-tail IsNoFlag f fs all)
    ∙ ap (λ (l : List Text). Some (ToJoin l)) (append_assoc files (last ∷ []) (f ∷ fs)))

more_before : (files : List Text) (last : Text) (more : List Text) → All IsNoFlag more
    → after (at_file files last) (more ++ codes "--join" ∷ []) ≡ Some (ToJoin (files ++ last ∷ more))
more_before files last [] all = step (join_last files last) [] ∙ join_behind files last
more_before files last (f ∷ fs) all = step (next_file files last f (All-head IsNoFlag f fs all)) (fs ++ codes "--join" ∷ [])
    ∙ (more_before (files ++ last ∷ []) f fs (All-tail IsNoFlag f fs all)
    ∙ ap (λ (l : List Text). Some (ToJoin l)) (append_assoc files (last ∷ []) (f ∷ fs)))

pub joins : TakesJoins
joins name file files hf all = (
  opened name (codes "--join" ∷ file ∷ files) ∙ (step join_first (file ∷ files) ∙ (step (first_joined file hf) files ∙ more_joined [] file files all)),
  opened name (file ∷ (files ++ codes "--join" ∷ [])) ∙ (step (first_file file hf) (files ++ codes "--join" ∷ []) ∙ more_before [] file files all),
)
