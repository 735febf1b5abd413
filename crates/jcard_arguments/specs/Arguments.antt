-- Plain command lines, and what they ask for: the options of a command after its operands.
use Rattle.std.specs.Prelude.{ℕ, All, ◌≡◌, false, true, List, [], ◌∷◌, ◌++◌, codes, slice_get, Some, None}
use Rattle.clap.specs.Words.{Text}
use Rattle.jcard_outcomes.specs.declared.recoveries.Depth.{Depth}
use Rattle.jcard_outcomes.specs.declared.recoveries.Depth.TheVariants.{Zero}
use Rattle.jcard_outcomes.specs.Models.{all_models}
use Rattle.jcard_arguments.specs.Attacks.{within_of}
use Rattle.jcard_arguments.specs.CommandLine.{AttackAsked, RunAsked, SizeAsked, TearAsked, TestAsked, depth_of, request_of_words}
use Rattle.jcard_arguments.specs.CommandLine.{ToAttack, ToJoin, ToList, ToListObjects, ToMake, ToRun, ToTear, ToTest, ToTry}

-- the word is no flag: it does not begin with a hyphen (45)
abbrev pub IsNoFlag : Text → Type 0
IsNoFlag word = slice_get word 0 ≡ Some 45 → ⊥

-- a run that is asked for its answers alone
abbrev pub plain_run : RunAsked
plain_run = record { why = false; trace = false; expect = false; lines = None; map = None; stops = None; cover = None; instructions = None }

-- the last command is cut, and no recovery
abbrev pub plain_tear : TearAsked
plain_tear = record { each = false; objects = false; why = false; map = None; probe = None; line = None; depth = Zero; part = None; instructions = None }

-- all faults of the last command are tried, none of which may get 9000
abbrev pub plain_attack : AttackAsked
plain_attack = record {
  each = false;
  models = all_models;
  accepted = codes "9000";
  within = 0;
  objects = false;
  map = None;
  probe = None;
  line = None;
  part = None;
  instructions = None;
}

-- a card of the usual size
abbrev pub plain_size : SizeAsked
plain_size = record { words = codes "8192"; journal = codes "256"; cells = None; buffer = None }

-- cards of the usual size, and no report
abbrev pub plain_test : TestAsked
plain_test = record { junit = None; table = None; size = plain_size; instructions = None }

-- `NAME run IMAGE SCRIPT` asks to run, with exactly these words
abbrev pub TakesRuns : Type 0
TakesRuns = (name image script : Text) → IsNoFlag image → IsNoFlag script
    → request_of_words (name ∷ codes "run" ∷ image ∷ script ∷ []) ≡ Some (ToRun image script plain_run)

-- `NAME dump IMAGE` asks to list what exactly this image holds; with `--objects`, its objects too; with `--all` after it, all of them; with
-- `--secrets` after it, the bytes of keys too
abbrev pub TakesDumps : Type 0
TakesDumps = (name image : Text) → IsNoFlag image
    → (request_of_words (name ∷ codes "dump" ∷ image ∷ []) ≡ Some (ToList image))
    × (request_of_words (name ∷ codes "dump" ∷ image ∷ codes "--objects" ∷ []) ≡ Some (ToListObjects image false false None))
    × (request_of_words (name ∷ codes "dump" ∷ image ∷ codes "--objects" ∷ codes "--all" ∷ []) ≡ Some (ToListObjects image true false None))
    × (request_of_words (name ∷ codes "dump" ∷ image ∷ codes "--objects" ∷ codes "--secrets" ∷ []) ≡ Some (ToListObjects image false true None))

-- in which order the options of `new` stand
pub data NewOrder : Type 0 where
  WordsTableJournal : NewOrder
  WordsJournalTable : NewOrder
  TableWordsJournal : NewOrder
  TableJournalWords : NewOrder
  JournalWordsTable : NewOrder
  JournalTableWords : NewOrder

-- the words of these options in this order
abbrev pub in_order : NewOrder → Text → Text → Text → List Text
in_order WordsTableJournal words table journal = codes "--words" ∷ words ∷ codes "--table" ∷ table ∷ codes "--journal" ∷ journal ∷ []
in_order WordsJournalTable words table journal = codes "--words" ∷ words ∷ codes "--journal" ∷ journal ∷ codes "--table" ∷ table ∷ []
in_order TableWordsJournal words table journal = codes "--table" ∷ table ∷ codes "--words" ∷ words ∷ codes "--journal" ∷ journal ∷ []
in_order TableJournalWords words table journal = codes "--table" ∷ table ∷ codes "--journal" ∷ journal ∷ codes "--words" ∷ words ∷ []
in_order JournalWordsTable words table journal = codes "--journal" ∷ journal ∷ codes "--words" ∷ words ∷ codes "--table" ∷ table ∷ []
in_order JournalTableWords words table journal = codes "--journal" ∷ journal ∷ codes "--table" ∷ table ∷ codes "--words" ∷ words ∷ []

-- `NAME new IMAGE` asks to make exactly this image, of 8192 words, with a journal of 256 entries and the usual table; with `--words N` and
-- `--table FILE`, of N words and with this table; with `--journal C`, with a journal of C entries; in any order of the options;
-- with `--transient T`, with T cells for the transient objects of each event; with `--apdu B`, with an APDU buffer of B bytes
abbrev pub TakesNews : Type 0
TakesNews = (name image words table journal cells buffer : Text) → IsNoFlag image → IsNoFlag words → IsNoFlag table → IsNoFlag journal → IsNoFlag cells
    → IsNoFlag buffer
    → (request_of_words (name ∷ codes "new" ∷ image ∷ []) ≡ Some (ToMake image plain_size None))
    × (request_of_words (name ∷ codes "new" ∷ image ∷ codes "--words" ∷ words ∷ codes "--table" ∷ table ∷ [])
    ≡ Some (ToMake image (record plain_size { words = words }) (Some table)))
    × (request_of_words (name ∷ codes "new" ∷ image ∷ codes "--table" ∷ table ∷ codes "--words" ∷ words ∷ [])
    ≡ Some (ToMake image (record plain_size { words = words }) (Some table)))
    × ((order : NewOrder) → request_of_words (name ∷ codes "new" ∷ image ∷ in_order order words table journal) ≡ Some (ToMake image (record plain_size { words = words; journal = journal }) (Some table)))
    × (request_of_words (name ∷ codes "new" ∷ image ∷ codes "--transient" ∷ cells ∷ []) ≡ Some (ToMake image (record plain_size { cells = Some cells }) None))
    × (request_of_words (name ∷ codes "new" ∷ image ∷ codes "--apdu" ∷ buffer ∷ []) ≡ Some (ToMake image (record plain_size { buffer = Some buffer }) None))

-- `NAME try SCRIPT` asks to try exactly this script on a card of 8192 words with the usual table; with `--table FILE`, with this table;
-- with `--words N`, in either order of the options, on one of N words; with `--transient T`, on one with T cells for the transient objects of each
-- event; with `--apdu B`, on one with an APDU buffer of B bytes
abbrev pub TakesTries : Type 0
TakesTries = (name script words table cells buffer : Text) → IsNoFlag script → IsNoFlag words → IsNoFlag table → IsNoFlag cells → IsNoFlag buffer
    → (request_of_words (name ∷ codes "try" ∷ script ∷ []) ≡ Some (ToTry script plain_size None None))
    × (request_of_words (name ∷ codes "try" ∷ script ∷ codes "--table" ∷ table ∷ []) ≡ Some (ToTry script plain_size (Some table) None))
    × (request_of_words (name ∷ codes "try" ∷ script ∷ codes "--table" ∷ table ∷ codes "--words" ∷ words ∷ []) ≡ Some (ToTry script (record plain_size { words = words }) (Some table) None))
    × (request_of_words (name ∷ codes "try" ∷ script ∷ codes "--words" ∷ words ∷ codes "--table" ∷ table ∷ []) ≡ Some (ToTry script (record plain_size { words = words }) (Some table) None))
    × (request_of_words (name ∷ codes "try" ∷ script ∷ codes "--transient" ∷ cells ∷ []) ≡ Some (ToTry script (record plain_size { cells = Some cells }) None None))
    × (request_of_words (name ∷ codes "try" ∷ script ∷ codes "--apdu" ∷ buffer ∷ []) ≡ Some (ToTry script (record plain_size { buffer = Some buffer }) None None))

-- `NAME tear IMAGE SCRIPT` asks to cut the last command of exactly this script over this image; with `--probe FILE`, `--line N` or both,
-- in this order, with this probe, and the command in this line; with `--each`, after a probe or without one, each command; with
-- `--recovery D`, where D is a number from 1 to 3, with D recoveries cut; with `--part I/N`, in this part, of each command too; with
-- `--objects`, after a probe or without one, listing the cells that changed
abbrev pub TakesTears : Type 0
TakesTears = (name image script probe line recovery : Text) → IsNoFlag image → IsNoFlag script → IsNoFlag probe → IsNoFlag line → IsNoFlag recovery
    → (request_of_words (name ∷ codes "tear" ∷ image ∷ script ∷ []) ≡ Some (ToTear image script plain_tear))
    × (request_of_words (name ∷ codes "tear" ∷ image ∷ script ∷ codes "--probe" ∷ probe ∷ []) ≡ Some (ToTear image script (record plain_tear { probe = Some probe })))
    × (request_of_words (name ∷ codes "tear" ∷ image ∷ script ∷ codes "--line" ∷ line ∷ []) ≡ Some (ToTear image script (record plain_tear { line = Some line })))
    × (request_of_words (name ∷ codes "tear" ∷ image ∷ script ∷ codes "--probe" ∷ probe ∷ codes "--line" ∷ line ∷ [])
    ≡ Some (ToTear image script (record plain_tear { probe = Some probe; line = Some line })))
    × (request_of_words (name ∷ codes "tear" ∷ image ∷ script ∷ codes "--each" ∷ []) ≡ Some (ToTear image script (record plain_tear { each = true })))
    × (request_of_words (name ∷ codes "tear" ∷ image ∷ script ∷ codes "--probe" ∷ probe ∷ codes "--each" ∷ [])
    ≡ Some (ToTear image script (record plain_tear { probe = Some probe; each = true })))
    × ((depth : Depth) → depth_of (Some recovery) ≡ Some depth
    → request_of_words (name ∷ codes "tear" ∷ image ∷ script ∷ codes "--recovery" ∷ recovery ∷ []) ≡ Some (ToTear image script (record plain_tear { depth = depth })))
    × (request_of_words (name ∷ codes "tear" ∷ image ∷ script ∷ codes "--part" ∷ line ∷ []) ≡ Some (ToTear image script (record plain_tear { part = Some line })))
    × (request_of_words (name ∷ codes "tear" ∷ image ∷ script ∷ codes "--objects" ∷ []) ≡ Some (ToTear image script (record plain_tear { objects = true })))
    × (request_of_words (name ∷ codes "tear" ∷ image ∷ script ∷ codes "--probe" ∷ probe ∷ codes "--objects" ∷ [])
    ≡ Some (ToTear image script (record plain_tear { probe = Some probe; objects = true })))

-- `NAME tear --join FILE..` and `NAME tear FILE.. --join` ask to join exactly these files, in this order
abbrev pub TakesJoins : Type 0
TakesJoins = (name file : Text) (files : List Text) → IsNoFlag file → All IsNoFlag files
    → (request_of_words (name ∷ codes "tear" ∷ codes "--join" ∷ file ∷ files) ≡ Some (ToJoin (file ∷ files)))
    × (request_of_words (name ∷ codes "tear" ∷ file ∷ (files ++ codes "--join" ∷ [])) ≡ Some (ToJoin (file ∷ files)))

-- `NAME attack IMAGE SCRIPT` asks to attack the last command of exactly this script over this image; with `--twice W`, where W is a number from 1 to 64,
-- by two faults too, the second within W instructions after the first; with `--objects`, and report cells that changed; with `--part I/N`, by this part of
-- the faults; with `--each --part I/N`, each command of this part of them
abbrev pub TakesAttacks : Type 0
TakesAttacks = (name image script value : Text) → IsNoFlag image → IsNoFlag script → IsNoFlag value
    → (request_of_words (name ∷ codes "attack" ∷ image ∷ script ∷ []) ≡ Some (ToAttack image script plain_attack))
    × ((within : ℕ) → within_of value ≡ Some within
    → request_of_words (name ∷ codes "attack" ∷ image ∷ script ∷ codes "--twice" ∷ value ∷ []) ≡ Some (ToAttack image script (record plain_attack { within = within })))
    × (request_of_words (name ∷ codes "attack" ∷ image ∷ script ∷ codes "--objects" ∷ []) ≡ Some (ToAttack image script (record plain_attack { objects = true })))
    × (request_of_words (name ∷ codes "attack" ∷ image ∷ script ∷ codes "--part" ∷ value ∷ []) ≡ Some (ToAttack image script (record plain_attack { part = Some value })))
    × (request_of_words (name ∷ codes "attack" ∷ image ∷ script ∷ codes "--each" ∷ codes "--part" ∷ value ∷ [])
    ≡ Some (ToAttack image script (record plain_attack { each = true; part = Some value })))

-- `NAME attack --join FILE..` asks to join exactly these files, in this order
abbrev pub TakesAttackJoins : Type 0
TakesAttackJoins = (name file : Text) (files : List Text) → IsNoFlag file → All IsNoFlag files
    → request_of_words (name ∷ codes "attack" ∷ codes "--join" ∷ file ∷ files) ≡ Some (ToJoin (file ∷ files))

-- `NAME test FILE..` asks to answer the rows of exactly these files, in this order; with `--junit REPORT` after them, with a report of
-- this name
abbrev pub TakesTests : Type 0
TakesTests = (name file junit : Text) (files : List Text) → IsNoFlag file → All IsNoFlag files → IsNoFlag junit
    → (request_of_words (name ∷ codes "test" ∷ file ∷ files) ≡ Some (ToTest (file ∷ files) plain_test))
    × (request_of_words (name ∷ codes "test" ∷ file ∷ (files ++ codes "--junit" ∷ junit ∷ [])) ≡ Some (ToTest (file ∷ files) (record plain_test { junit = Some junit })))

-- the plain lines of every command
abbrev pub TakesPlainLines : Type 0
TakesPlainLines = TakesRuns × TakesDumps × TakesNews × TakesTries × TakesTears × TakesJoins × TakesAttacks × TakesAttackJoins × TakesTests
