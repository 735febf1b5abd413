-- What a command line asks for.
use Rattle.std.specs.Prelude.{map, ◌≡◌, ◌⊎◌, ◌&&◌, ◌||◌, not, ℕ, Bool, true, false, is_some, List, [], ◌∷◌, codes, Option, Some, None}
use Rattle.std.specs.Prelude.{if◌then◌else◌, option_map, option_and_then, Result, Ok, Err}
use Rattle.std.specs.Option.{unwrap_or}
use Rattle.std.specs.Str.{bytes_eq}
use Rattle.std.specs.Borrow.{Bor}
use Rattle.clap.specs.Words.{IsAmong, Kinds, Row, Text, all_of, fault_of, first_of, subcommand_of}
use Rattle.clap.specs.declared.error.kind.ErrorKind.{ErrorKind}
use Rattle.clap.specs.declared.error.kind.ErrorKind.TheVariants.{DisplayHelp, OutOfMemory}
use Rattle.jcard_outcomes.specs.declared.recoveries.Depth.{Depth}
use Rattle.jcard_outcomes.specs.declared.recoveries.Depth.TheVariants.{Zero, One, Two, Three}
use Rattle.jcard_outcomes.specs.declared.models.Models.{Models}
use Rattle.jcard_arguments.specs.Attacks.{accepted_given, models_given, within_given}
use Rattle.jcard_arguments.specs.Grammar.{program_grammar}
use Rattle.jcard_arguments.specs.Numbers.{budget_given, lines_given}
use Rattle.jcard_arguments.specs.declared.options.Lines.{Lines}
use Rattle.jcard_arguments.specs.declared.options.AttackOptions.{AttackOptions}
use Rattle.jcard_arguments.specs.declared.options.RunOptions.{RunOptions}
use Rattle.jcard_arguments.specs.declared.options.SizeOptions.{SizeOptions}
use Rattle.jcard_arguments.specs.declared.options.TearOptions.{TearOptions}
use Rattle.jcard_arguments.specs.declared.options.TestOptions.{TestOptions}
use Rattle.jcard_arguments.specs.declared.arguments.Action.{Action}
use Rattle.jcard_arguments.specs.declared.arguments.Action.TheVariants.{New, Run, Dump, DumpObjects, Compare, Try, Tear, Attack, Join, Test}
use Rattle.jcard_arguments.specs.declared.arguments.NoAction.{NoAction}
use Rattle.jcard_arguments.specs.declared.arguments.NoAction.TheVariants.{Help, Refused, Misused, NoMemory}

-- what a run is asked for besides its answers
pub record RunAsked : Type 0 where
  pub why : Bool
  pub trace : Bool
  pub expect : Bool
  pub lines : Option Lines
  pub map : Option Text
  pub stops : Option Text
  pub cover : Option Text
  pub instructions : Option ℕ

-- which commands of a script are cut, and what is done after a cut
pub record TearAsked : Type 0 where
  pub each : Bool
  pub objects : Bool
  pub why : Bool
  pub map : Option Text
  pub probe : Option Text
  pub line : Option Text
  pub depth : Depth
  pub part : Option Text
  pub instructions : Option ℕ

-- which command of a script is attacked, by which faults, the end of an answer that none may get, within how many instructions after a fault a second
-- one comes, if it is not 0, whether objects are reported, and what is asked after each
pub record AttackAsked : Type 0 where
  pub each : Bool
  pub models : Models
  pub accepted : Text
  pub within : ℕ
  pub objects : Bool
  pub map : Option Text
  pub probe : Option Text
  pub line : Option Text
  pub part : Option Text
  pub instructions : Option ℕ

-- how large a new card is: its words, the entries of its journal, and the cells for the transient objects of each event and the bytes of the APDU
-- buffer, or as many as are usual
pub record SizeAsked : Type 0 where
  pub words : Text
  pub journal : Text
  pub cells : Option Text
  pub buffer : Option Text

-- the cards that answer rows, and the report
pub record TestAsked : Type 0 where
  pub junit : Option Text
  pub table : Option Text
  pub size : SizeAsked
  pub instructions : Option ℕ

-- what a command line asks for
pub data CommandLineRequest : Type 0 where
  -- an image with this name is made, of this size, with the platform table with the last name or the usual one
  ToMake : Text → SizeAsked → Option Text → CommandLineRequest
  -- the script of the second name is carried out, on the card of the image of the first
  ToRun : Text → Text → RunAsked → CommandLineRequest
  -- what the image with this name holds is listed
  ToList : Text → CommandLineRequest
  -- and its objects, all or those of packages, with the bytes of keys or without them, with what a map names
  ToListObjects : Text → Bool → Bool → Option Text → CommandLineRequest
  -- the two images are compared, in all objects or those of packages, with the bytes of keys or without them, with what a map names
  ToCompare : Text → Text → Bool → Bool → Option Text → CommandLineRequest
  -- the script is carried out on a new card in memory of this size, with the platform table with the last name or the usual one, and at most this
  -- many instructions a command
  ToTry : Text → SizeAsked → Option Text → Option ℕ → CommandLineRequest
  -- commands of the script of the second name are cut, over the words of the image of the first
  ToTear : Text → Text → TearAsked → CommandLineRequest
  -- a command of the script of the second name is attacked, over the words of the image of the first
  ToAttack : Text → Text → AttackAsked → CommandLineRequest
  -- the parts of a sweep in these files are joined
  ToJoin : List Text → CommandLineRequest
  -- the rows of these files are answered by new cards in memory
  ToTest : List Text → TestAsked → CommandLineRequest

-- ---- what values of operands and options ask for

-- a flag is given where its value is `true`
abbrev pub is_given : Option Text → Bool
is_given (Some value) = bytes_eq value (codes "true")
is_given None = false

abbrev pub new_by : Option Text → SizeAsked → Option Text → Option CommandLineRequest
new_by (Some image) size table = Some (ToMake image size table)
new_by None size table = None

-- `--map` goes with `--why`, `--trace` or `--break`, `--lines` with `--trace`, `--break` with `--map`
abbrev pub are_together : Bool → Bool → Option Text → Option Text → Option Text → Bool
are_together why trace lines map stops =
    (not (is_some map) || (why || (trace || is_some stops))) && ((not (is_some lines) || trace) && (not (is_some stops) || is_some map))

abbrev pub run_with : Bool → Bool → Bool → Option (Option Lines) → Option Text → Option Text → Option Text → Option (Option ℕ) → Option RunAsked
run_with why trace expect (Some lines) map stops cover (Some instructions) = Some (record {
  why = why;
  trace = trace;
  expect = expect;
  lines = lines;
  map = map;
  stops = stops;
  cover = cover;
  instructions = instructions;
})
run_with why trace expect lines map stops cover instructions = None

abbrev pub run_asked : List Row → Option RunAsked
run_asked rows =
    if are_together (is_given (first_of (codes "why") rows)) (is_given (first_of (codes "trace") rows)) (first_of (codes "lines") rows) (first_of (codes "map") rows)
    (first_of (codes "break") rows)
    then run_with (is_given (first_of (codes "why") rows)) (is_given (first_of (codes "trace") rows)) (is_given (first_of (codes "expect") rows))
    (lines_given (first_of (codes "lines") rows)) (first_of (codes "map") rows) (first_of (codes "break") rows) (first_of (codes "cover") rows)
    (budget_given (first_of (codes "instructions") rows))
    else None

abbrev pub run_by : Option Text → Option Text → Option RunAsked → Option CommandLineRequest
run_by (Some image) (Some script) (Some asked) = Some (ToRun image script asked)
run_by image script asked = None

-- objects are listed or compared, not both, and all of them, with the bytes of keys, and with a map, only there
abbrev pub dump_by : Option Text → Bool → Option Text → Bool → Bool → Option Text → Option CommandLineRequest
dump_by (Some image) false None false false None = Some (ToList image)
dump_by (Some image) true None all secrets map = Some (ToListObjects image all secrets map)
dump_by (Some image) false (Some other) all secrets map = Some (ToCompare image other all secrets map)
dump_by image objects against all secrets map = None

abbrev pub try_by : Option Text → SizeAsked → Option Text → Option (Option ℕ) → Option CommandLineRequest
try_by (Some script) size table (Some instructions) = Some (ToTry script size table instructions)
try_by script size table instructions = None

-- how many recoveries are cut: none where nothing is said, else a number from 1 to 3
abbrev pub depth_of : Option Text → Option Depth
depth_of None = Some Zero
depth_of (Some text) = if bytes_eq text (codes "1") then Some One
    else (if bytes_eq text (codes "2") then Some Two
    else (if bytes_eq text (codes "3") then Some Three else None))

abbrev pub tear_with : Bool → Bool → Bool → Option Text → Option Text → Option Text → Option Depth → Option Text → Option (Option ℕ) → Option TearAsked
tear_with each objects why map probe line (Some depth) part (Some instructions) = Some (record {
  each = each;
  objects = objects;
  why = why;
  map = map;
  probe = probe;
  line = line;
  depth = depth;
  part = part;
  instructions = instructions;
})
tear_with each objects why map probe line depth part instructions = None

-- a line and each command together are nothing, nor is a map without what prints names
abbrev pub are_apart : Bool → Option Text → Bool → Bool → Option Text → Bool
are_apart each line objects why map = (each && is_some line) || (is_some map && not (objects || why))

abbrev pub tear_asked : List Row → Option TearAsked
tear_asked rows = if are_apart (is_given (first_of (codes "each") rows)) (first_of (codes "line") rows) (is_given (first_of (codes "objects") rows))
    (is_given (first_of (codes "why") rows)) (first_of (codes "map") rows) then None
    else tear_with (is_given (first_of (codes "each") rows)) (is_given (first_of (codes "objects") rows)) (is_given (first_of (codes "why") rows))
    (first_of (codes "map") rows) (first_of (codes "probe") rows) (first_of (codes "line") rows) (depth_of (first_of (codes "recovery") rows)) (first_of (codes "part") rows)
    (budget_given (first_of (codes "instructions") rows))

-- what a sweep is to show is given: each command, objects, the writes, a map
abbrev pub shows_more : List Row → Bool
shows_more rows = is_given (first_of (codes "each") rows) || is_given (first_of (codes "objects") rows) || is_given (first_of (codes "why") rows)
    || is_some (first_of (codes "map") rows)

-- and what it is to cut, and with which probe
abbrev pub chooses_cuts : List Row → Bool
chooses_cuts rows = is_some (first_of (codes "probe") rows) || is_some (first_of (codes "line") rows) || is_some (first_of (codes "recovery") rows)
    || is_some (first_of (codes "part") rows) || is_some (first_of (codes "instructions") rows)

-- no option of a sweep is given
abbrev pub is_bare : List Row → Bool
is_bare rows = not (shows_more rows || chooses_cuts rows)

abbrev pub join_by : Bool → Option (List Text) → Option CommandLineRequest
join_by true (Some files) = Some (ToJoin files)
join_by bare files = None

-- texts that are two
abbrev pub two_of : Option (List Text) → Option (Text × Text)
two_of None = None
two_of (Some []) = None
two_of (Some (first ∷ [])) = None
two_of (Some (first ∷ second ∷ [])) = Some (first, second)
two_of (Some (first ∷ second ∷ third ∷ more)) = None

abbrev pub tear_by : Option (Text × Text) → Option TearAsked → Option CommandLineRequest
tear_by (Some two) (Some asked) = Some (ToTear two.0 two.1 asked)
tear_by two asked = None

abbrev pub attack_with : Bool → Option Models → Option Text → Option ℕ → Bool → Option Text → Option Text → Option Text → Option Text → Option (Option ℕ)
    → Option AttackAsked
attack_with each (Some models) (Some accepted) (Some within) objects map probe line part (Some instructions) = Some (record {
  each = each;
  models = models;
  accepted = accepted;
  within = within;
  objects = objects;
  map = map;
  probe = probe;
  line = line;
  part = part;
  instructions = instructions;
})
attack_with each models accepted within objects map probe line part instructions = None

-- a line and each command together are nothing
abbrev pub is_no_attack : Bool → Option Text → Bool
is_no_attack each line = is_some line && each

abbrev pub attack_asked : List Row → Option AttackAsked
attack_asked rows = if is_no_attack (is_given (first_of (codes "each") rows)) (first_of (codes "line") rows) then None
    else attack_with (is_given (first_of (codes "each") rows)) (models_given (first_of (codes "model") rows)) (accepted_given (first_of (codes "accept") rows))
    (within_given (first_of (codes "twice") rows)) (is_given (first_of (codes "objects") rows)) (first_of (codes "map") rows) (first_of (codes "probe") rows)
    (first_of (codes "line") rows) (first_of (codes "part") rows) (budget_given (first_of (codes "instructions") rows))

-- which faults a sweep is to try, or what is to be reported of them, is given
abbrev pub chooses_faults : List Row → Bool
chooses_faults rows = is_some (first_of (codes "model") rows) || is_some (first_of (codes "accept") rows) || is_some (first_of (codes "twice") rows)
    || is_given (first_of (codes "objects") rows) || is_some (first_of (codes "map") rows)

-- and which commands it is to attack, and with which probe
abbrev pub chooses_attacked : List Row → Bool
chooses_attacked rows = is_some (first_of (codes "probe") rows) || is_some (first_of (codes "line") rows) || is_given (first_of (codes "each") rows)
    || is_some (first_of (codes "part") rows) || is_some (first_of (codes "instructions") rows)

-- no option of an attack is given
abbrev pub is_bare_attack : List Row → Bool
is_bare_attack rows = not (chooses_faults rows || chooses_attacked rows)

abbrev pub attack_by : Option (Text × Text) → Option AttackAsked → Option CommandLineRequest
attack_by (Some two) (Some asked) = Some (ToAttack two.0 two.1 asked)
attack_by two asked = None

abbrev pub test_by : Option (List Text) → Option Text → Option Text → SizeAsked → Option (Option ℕ) → Option CommandLineRequest
test_by (Some files) junit table size (Some instructions) = Some (ToTest files (record {
  junit = junit;
  table = table;
  size = size;
  instructions = instructions;
}))
test_by files junit table size instructions = None

-- ---- the same, with these values of all operands and options

abbrev pub size_asked : List Row → SizeAsked
size_asked rows = record {
  words = unwrap_or (first_of (codes "words") rows) (codes "8192");
  journal = unwrap_or (first_of (codes "journal") rows) (codes "256");
  cells = first_of (codes "transient") rows;
  buffer = first_of (codes "apdu") rows;
}

abbrev pub new_of : List Row → Option CommandLineRequest
new_of rows = new_by (first_of (codes "image") rows) (size_asked rows) (first_of (codes "table") rows)

abbrev pub run_of : List Row → Option CommandLineRequest
run_of rows = run_by (first_of (codes "image") rows) (first_of (codes "script") rows) (run_asked rows)

abbrev pub dump_of : List Row → Option CommandLineRequest
dump_of rows = dump_by (first_of (codes "image") rows) (is_given (first_of (codes "objects") rows)) (first_of (codes "against") rows)
    (is_given (first_of (codes "all") rows)) (is_given (first_of (codes "secrets") rows)) (first_of (codes "map") rows)

abbrev pub try_of : List Row → Option CommandLineRequest
try_of rows = try_by (first_of (codes "script") rows) (size_asked rows) (first_of (codes "table") rows) (budget_given (first_of (codes "instructions") rows))

abbrev pub tear_of : List Row → Option CommandLineRequest
tear_of rows = if is_given (first_of (codes "join") rows) then join_by (is_bare rows) (all_of (codes "file") rows)
    else tear_by (two_of (all_of (codes "file") rows)) (tear_asked rows)

abbrev pub attack_of : List Row → Option CommandLineRequest
attack_of rows = if is_given (first_of (codes "join") rows) then join_by (is_bare_attack rows) (all_of (codes "file") rows)
    else attack_by (two_of (all_of (codes "file") rows)) (attack_asked rows)

abbrev pub test_of : List Row → Option CommandLineRequest
test_of rows = test_by (all_of (codes "file") rows) (first_of (codes "junit") rows) (first_of (codes "table") rows) (size_asked rows)
    (budget_given (first_of (codes "instructions") rows))

-- what the command with this name asks for, with these values of its operands
abbrev pub request_of : Text × List Row → Option CommandLineRequest
request_of named =
    if bytes_eq named.0 (codes "new") then new_of named.1
    else (if bytes_eq named.0 (codes "run") then run_of named.1
    else (if bytes_eq named.0 (codes "dump") then dump_of named.1
    else (if bytes_eq named.0 (codes "try") then try_of named.1
    else (if bytes_eq named.0 (codes "tear") then tear_of named.1
    else (if bytes_eq named.0 (codes "attack") then attack_of named.1
    else (if bytes_eq named.0 (codes "test") then test_of named.1 else None))))))

-- ---- what the words are taken for

-- nothing where the words are refused for a cause
abbrev pub unless_faulty : Kinds → Option CommandLineRequest → Option CommandLineRequest
unless_faulty [] asked = asked
unless_faulty (cause ∷ causes) asked = None

-- what the words are taken for, the program's name among them as the first; nothing where they do not fit the grammar or name no
-- command
unfoldable pub request_of_words : List Text → Option CommandLineRequest
request_of_words words = unless_faulty (fault_of program_grammar words) (option_and_then request_of (subcommand_of program_grammar words))

-- they ask for help
abbrev pub AskForHelp : List Text → Type 0
AskForHelp words = IsAmong DisplayHelp (fault_of program_grammar words)

-- they ask for nothing: they do not fit the grammar, for a cause other than that they ask for help; or they fit it, and their values ask
-- for nothing
abbrev pub AskForNothing : List Text → Type 0
AskForNothing words = ((kind : ErrorKind) × (kind ≡ DisplayHelp → ⊥) × IsAmong kind (fault_of program_grammar words))
    ⊎ ((fault_of program_grammar words ≡ []) × (request_of_words words ≡ None))

-- ---- the parse

-- texts by their borrows
abbrev pub texts_of : List (Bor Text) → List Text
texts_of texts = map (λ (t : Bor Text). t.now) texts

abbrev pub text_of : Option (Bor Text) → Option Text
text_of text = option_map (λ (t : Bor Text). t.now) text

-- what these options ask for
abbrev pub run_asked_by : RunOptions → RunAsked
run_asked_by o = record {
  why = o.why;
  trace = o.trace;
  expect = o.expect;
  lines = o.lines;
  map = text_of o.map;
  stops = text_of o.stops;
  cover = text_of o.cover;
  instructions = o.instructions;
}

abbrev pub tear_asked_by : TearOptions → TearAsked
tear_asked_by o = record {
  each = o.each;
  objects = o.objects;
  why = o.why;
  map = text_of o.map;
  probe = text_of o.probe;
  line = text_of o.line;
  depth = o.depth;
  part = text_of o.part;
  instructions = o.instructions;
}

abbrev pub attack_asked_by : AttackOptions → AttackAsked
attack_asked_by o = record {
  each = o.each;
  models = o.models;
  accepted = o.accepted.now;
  within = o.within;
  objects = o.objects;
  map = text_of o.map;
  probe = text_of o.probe;
  line = text_of o.line;
  part = text_of o.part;
  instructions = o.instructions;
}

abbrev pub size_asked_by : SizeOptions → SizeAsked
size_asked_by o = record { words = o.words.now; journal = o.journal.now; cells = text_of o.cells; buffer = text_of o.buffer }

abbrev pub test_asked_by : TestOptions → TestAsked
test_asked_by o = record {
  junit = text_of o.junit;
  table = text_of o.table;
  size = size_asked_by o.size;
  instructions = o.instructions;
}

-- what the action does
abbrev pub request_by : Action → CommandLineRequest
request_by (New image size table) = ToMake image.now (size_asked_by size) (text_of table)
request_by (Run image script options) = ToRun image.now script.now (run_asked_by options)
request_by (Dump image) = ToList image.now
request_by (DumpObjects image all secrets map) = ToListObjects image.now all secrets (text_of map)
request_by (Compare image other all secrets map) = ToCompare image.now other.now all secrets (text_of map)
request_by (Try script size table instructions) = ToTry script.now (size_asked_by size) (text_of table) instructions
request_by (Tear image script options) = ToTear image.now script.now (tear_asked_by options)
request_by (Attack image script options) = ToAttack image.now script.now (attack_asked_by options)
request_by (Join files) = ToJoin (texts_of files.items)
request_by (Test files options) = ToTest (texts_of files.items) (test_asked_by options)

-- the action is the one that is asked for; or help is; or nothing is; or memory was refused
abbrev pub IsTakenAs : List Text → Result Action NoAction → Type 0
IsTakenAs words (Ok action) = request_of_words words ≡ Some (request_by action)
IsTakenAs words (Err (Help text)) = AskForHelp words
IsTakenAs words (Err (Refused text)) = AskForNothing words
IsTakenAs words (Err (Misused why)) = AskForNothing words
IsTakenAs words (Err NoMemory) = Unit {0}

-- the same of what the values of a command ask for
abbrev pub IsReadAs : Option CommandLineRequest → Result Action NoAction → Type 0
IsReadAs asked (Ok action) = asked ≡ Some (request_by action)
IsReadAs asked (Err (Misused why)) = asked ≡ None
IsReadAs asked (Err NoMemory) = Unit {0}
IsReadAs asked (Err other) = ⊥

-- that clap refuses the words for this cause is reported so
abbrev pub IsToldFor : ErrorKind → NoAction → Type 0
IsToldFor kind (Help text) = kind ≡ DisplayHelp
IsToldFor kind (Refused text) = (kind ≡ DisplayHelp → ⊥) × (kind ≡ OutOfMemory → ⊥)
IsToldFor kind (Misused why) = ⊥
IsToldFor kind NoMemory = (kind ≡ DisplayHelp → ⊥) → kind ≡ OutOfMemory
