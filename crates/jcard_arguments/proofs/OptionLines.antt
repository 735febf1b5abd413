-- Plain lines of the commands `new` and `try`, which take one operand and the options `--words`, `--table`, `--transient` and `--apdu`, `new` also
-- `--journal`.
use Rattle.std.proofs.Common.{◌≡◌, ◌∙◌, ap, false, List, [], ◌∷◌, Option, Some, None, refl, codes}
use Rattle.std.specs.Prelude.{fold}
use Rattle.clap.specs.Words.{App, Row, Text}
use Rattle.clap.specs.Walk.{Waiting, Walk, finished, idle, nothing_held, option, settled, walk_from, walked}
use Rattle.clap.specs.Simple.{Shape, built_leaf, inherited, marked_built, names_of, on_top, with_leaf_noted}
use Rattle.clap.specs.Faults.{defaults_fault, turn_fault, walk_fault}
use Rattle.clap.proofs.OnLiterals.{clap_on_literals}
use Rattle.jcard_arguments.proofs.Hyphens.{no_hyphen}
use Rattle.jcard_arguments.proofs.CommandWalk.{after_next, as_ended, causes_of, met, none_more, opened_by, request_after, whole}
use Rattle.jcard_arguments.specs.CommandLine.{CommandLineRequest, SizeAsked, ToMake, ToTry, new_of, request_of_words, try_of}
use Rattle.jcard_arguments.specs.Grammar.{new_grammar, program_grammar, try_grammar}
use Rattle.jcard_arguments.specs.Arguments.{IsNoFlag, JournalTableWords, JournalWordsTable, NewOrder, TableJournalWords, TableWordsJournal, TakesNews}
use Rattle.jcard_arguments.specs.Arguments.{TakesTries, WordsJournalTable, WordsTableJournal, in_order, plain_size}

data OptionCommand : Type 0 where
  NewCommand : OptionCommand
  TryCommand : OptionCommand

abbrev name_of : OptionCommand → Text
name_of NewCommand = codes "new"
name_of TryCommand = codes "try"

abbrev operand_of : OptionCommand → Text
operand_of NewCommand = codes "image"
operand_of TryCommand = codes "script"

abbrev grammar_of : OptionCommand → App
grammar_of NewCommand = new_grammar
grammar_of TryCommand = try_grammar

abbrev taken_by : OptionCommand → List Row → Option CommandLineRequest
taken_by NewCommand rows = new_of rows
taken_by TryCommand rows = try_of rows

-- what it asks for, with this operand, these words, this table and no other option
abbrev request_by : OptionCommand → Text → Text → Text → CommandLineRequest
request_by NewCommand operand words table = ToMake operand (record plain_size { words = words }) (Some table)
request_by TryCommand operand words table = ToTry operand (record plain_size { words = words }) (Some table) None

-- with this operand and no option
abbrev alone_by : OptionCommand → Text → CommandLineRequest
alone_by NewCommand operand = ToMake operand plain_size None
alone_by TryCommand operand = ToTry operand plain_size None None

-- the command, as the build leaves it
abbrev shape_of : OptionCommand → Shape
shape_of c = built_leaf (inherited (on_top with_leaf_noted (on_top marked_built program_grammar)).top (grammar_of c).top)

-- what the words are taken for, from here on
abbrev after : OptionCommand → Walk → List Text → Option CommandLineRequest
after c w words = request_after (shape_of c) (taken_by c) w words

-- ---- the words before those of the command

by_walk : (c : OptionCommand) (name : Text) (words : List Text) → request_of_words (name ∷ name_of c ∷ words)
    ≡ as_ended (fold (walked whole.top.rules (names_of whole)) (met (name_of c) []) words) (walk_fault whole.top (names_of whole) (met (name_of c) []) words)
unfolding request_of_words as_ended walked walk_fault
by_walk NewCommand name words = refl
by_walk TryCommand name words = refl

by_command : (c : OptionCommand) (words : List Text) → as_ended (met (name_of c) words) [] ≡ after c (walk_from nothing_held) words
unfolding as_ended request_after defaults_fault
by_command NewCommand words = none_more (causes_of (shape_of NewCommand) new_of (walk_from nothing_held) words)
    (new_of (finished (shape_of NewCommand).rules (fold (walked (shape_of NewCommand).rules []) (walk_from nothing_held) words).held))
by_command TryCommand words = none_more (causes_of (shape_of TryCommand) try_of (walk_from nothing_held) words)
    (try_of (finished (shape_of TryCommand).rules (fold (walked (shape_of TryCommand).rules []) (walk_from nothing_held) words).held))

opened : (c : OptionCommand) (name : Text) (words : List Text) → request_of_words (name ∷ name_of c ∷ words) ≡ after c (walk_from nothing_held) words
opened c name words = opened_by (shape_of c) (taken_by c) (name_of c) (request_of_words (name ∷ name_of c ∷ words)) words
    (by_walk c name words) (by_command c words)

-- ---- the words

-- with these values of an argument that is being read
abbrev reading : List Row → Text → List Text → Waiting → Walk
reading rows id values waiting = record {
  held = record { rows = rows; pending = Some (id, values); skip = 0 };
  waiting = waiting;
  position = 2;
  is_trailing = false;
  stopped = None;
}

-- the rows after an argument was read
abbrev read : OptionCommand → List Row → Text → Text → List Row
read c rows id value = (settled (shape_of c).rules (record { rows = rows; pending = Some (id, value ∷ []); skip = 0 })).rows

abbrev operand_read : OptionCommand → Text → List Row
operand_read c operand = read c [] (operand_of c) operand

-- after the name of an option
abbrev named : List Row → Text → Walk
named rows id = reading rows id [] (option id)

-- after a value
abbrev given : List Row → Text → Text → Walk
given rows id value = reading rows id (value ∷ []) idle

-- a word is no fault, and the walk then stands there
record Goes (c : OptionCommand) (w : Walk) (word : Text) (next : Walk) : Type 0 where
  fault : turn_fault (shape_of c) [] w word ≡ []
  walk : walked (shape_of c).rules [] w word ≡ next

step : {c : OptionCommand} {w next : Walk} {word : Text} → Goes c w word next → (words : List Text) → after c w (word ∷ words) ≡ after c next words
step {c = c} {w = w} {next = next} {word = word} goes words = after_next (shape_of c) (taken_by c) w next word words goes.fault goes.walk

at_operand : (c : OptionCommand) (operand : Text) → IsNoFlag operand → Goes c (walk_from nothing_held) operand (given [] (operand_of c) operand)
unfolding clap_on_literals
at_operand NewCommand [] h = record { fault = refl; walk = refl }
at_operand NewCommand (x ∷ xs) h = record { fault = simp (no_hyphen x xs h); walk = simp (no_hyphen x xs h) }
at_operand TryCommand [] h = record { fault = refl; walk = refl }
at_operand TryCommand (x ∷ xs) h = record { fault = simp (no_hyphen x xs h); walk = simp (no_hyphen x xs h) }

at_words : (c : OptionCommand) (rows : List Row) (value : Text) → IsNoFlag value → Goes c (named rows (codes "words")) value (given rows (codes "words") value)
unfolding clap_on_literals
at_words NewCommand rows [] h = record { fault = refl; walk = refl }
at_words NewCommand rows (x ∷ xs) h = record { fault = simp (no_hyphen x xs h); walk = simp (no_hyphen x xs h) }
at_words TryCommand rows [] h = record { fault = refl; walk = refl }
at_words TryCommand rows (x ∷ xs) h = record { fault = simp (no_hyphen x xs h); walk = simp (no_hyphen x xs h) }

at_table : (c : OptionCommand) (rows : List Row) (value : Text) → IsNoFlag value → Goes c (named rows (codes "table")) value (given rows (codes "table") value)
unfolding clap_on_literals
at_table NewCommand rows [] h = record { fault = refl; walk = refl }
at_table NewCommand rows (x ∷ xs) h = record { fault = simp (no_hyphen x xs h); walk = simp (no_hyphen x xs h) }
at_table TryCommand rows [] h = record { fault = refl; walk = refl }
at_table TryCommand rows (x ∷ xs) h = record { fault = simp (no_hyphen x xs h); walk = simp (no_hyphen x xs h) }

-- the name of an option after the operand, and after the other option
words_first : (c : OptionCommand) (operand : Text)
    → Goes c (given [] (operand_of c) operand) (codes "--words") (named (operand_read c operand) (codes "words"))
unfolding clap_on_literals
words_first NewCommand operand = record { fault = refl; walk = refl }
words_first TryCommand operand = record { fault = refl; walk = refl }

table_first : (c : OptionCommand) (operand : Text)
    → Goes c (given [] (operand_of c) operand) (codes "--table") (named (operand_read c operand) (codes "table"))
unfolding clap_on_literals
table_first NewCommand operand = record { fault = refl; walk = refl }
table_first TryCommand operand = record { fault = refl; walk = refl }

table_second : (c : OptionCommand) (operand words : Text) → Goes c (given (operand_read c operand) (codes "words") words) (codes "--table")
    (named (read c (operand_read c operand) (codes "words") words) (codes "table"))
unfolding clap_on_literals
table_second NewCommand operand words = record { fault = refl; walk = refl }
table_second TryCommand operand words = record { fault = refl; walk = refl }

words_second : (c : OptionCommand) (operand table : Text) → Goes c (given (operand_read c operand) (codes "table") table) (codes "--words")
    (named (read c (operand_read c operand) (codes "table") table) (codes "words"))
unfolding clap_on_literals
words_second NewCommand operand table = record { fault = refl; walk = refl }
words_second TryCommand operand table = record { fault = refl; walk = refl }

-- the last word
table_last : (c : OptionCommand) (operand words table : Text)
    → after c (given (read c (operand_read c operand) (codes "words") words) (codes "table") table) [] ≡ Some (request_by c operand words table)
unfolding request_after clap_on_literals
table_last NewCommand operand words table = refl
table_last TryCommand operand words table = refl

words_last : (c : OptionCommand) (operand words table : Text)
    → after c (given (read c (operand_read c operand) (codes "table") table) (codes "words") words) [] ≡ Some (request_by c operand words table)
unfolding request_after clap_on_literals
words_last NewCommand operand words table = refl
words_last TryCommand operand words table = refl

table_alone : (script table : Text)
    → after TryCommand (given (operand_read TryCommand script) (codes "table") table) [] ≡ Some (ToTry script plain_size (Some table) None)
unfolding request_after clap_on_literals
table_alone script table = refl

operand_alone : (c : OptionCommand) (operand : Text) → after c (given [] (operand_of c) operand) [] ≡ Some (alone_by c operand)
unfolding request_after clap_on_literals
operand_alone NewCommand operand = refl
operand_alone TryCommand operand = refl

-- ---- the lines

no_option : (c : OptionCommand) (name operand : Text) → IsNoFlag operand → request_of_words (name ∷ name_of c ∷ operand ∷ []) ≡ Some (alone_by c operand)
no_option c name operand ho = opened c name (operand ∷ []) ∙ (step (at_operand c operand ho) [] ∙ operand_alone c operand)

words_before_table : (c : OptionCommand) (name operand words table : Text) → IsNoFlag operand → IsNoFlag words → IsNoFlag table
    → request_of_words (name ∷ name_of c ∷ operand ∷ codes "--words" ∷ words ∷ codes "--table" ∷ table ∷ []) ≡ Some (request_by c operand words table)
words_before_table c name operand words table ho hw ht =
    opened c name (operand ∷ codes "--words" ∷ words ∷ codes "--table" ∷ table ∷ [])
    ∙ (step (at_operand c operand ho) (codes "--words" ∷ words ∷ codes "--table" ∷ table ∷ [])
    ∙ (step (words_first c operand) (words ∷ codes "--table" ∷ table ∷ [])
    ∙ (step (at_words c (operand_read c operand) words hw) (codes "--table" ∷ table ∷ [])
    ∙ (step (table_second c operand words) (table ∷ [])
    ∙ (step (at_table c (read c (operand_read c operand) (codes "words") words) table ht) []
    ∙ table_last c operand words table)))))

table_before_words : (c : OptionCommand) (name operand words table : Text) → IsNoFlag operand → IsNoFlag words → IsNoFlag table
    → request_of_words (name ∷ name_of c ∷ operand ∷ codes "--table" ∷ table ∷ codes "--words" ∷ words ∷ []) ≡ Some (request_by c operand words table)
table_before_words c name operand words table ho hw ht =
    opened c name (operand ∷ codes "--table" ∷ table ∷ codes "--words" ∷ words ∷ [])
    ∙ (step (at_operand c operand ho) (codes "--table" ∷ table ∷ codes "--words" ∷ words ∷ [])
    ∙ (step (table_first c operand) (table ∷ codes "--words" ∷ words ∷ [])
    ∙ (step (at_table c (operand_read c operand) table ht) (codes "--words" ∷ words ∷ [])
    ∙ (step (words_second c operand table) (words ∷ [])
    ∙ (step (at_words c (read c (operand_read c operand) (codes "table") table) words hw) []
    ∙ words_last c operand words table)))))

-- ---- the options of `new` with `--journal`

data NewOption : Type 0 where
  Words : NewOption
  Table : NewOption
  Journal : NewOption

abbrev id_of : NewOption → Text
id_of Words = codes "words"
id_of Table = codes "table"
id_of Journal = codes "journal"

abbrev flag_of : NewOption → Text
flag_of Words = codes "--words"
flag_of Table = codes "--table"
flag_of Journal = codes "--journal"

abbrev first : NewOrder → NewOption
first WordsTableJournal = Words
first WordsJournalTable = Words
first TableWordsJournal = Table
first TableJournalWords = Table
first JournalWordsTable = Journal
first JournalTableWords = Journal

abbrev second : NewOrder → NewOption
second WordsTableJournal = Table
second WordsJournalTable = Journal
second TableWordsJournal = Words
second TableJournalWords = Journal
second JournalWordsTable = Words
second JournalTableWords = Table

abbrev third : NewOrder → NewOption
third WordsTableJournal = Journal
third WordsJournalTable = Table
third TableWordsJournal = Journal
third TableJournalWords = Words
third JournalWordsTable = Table
third JournalTableWords = Words

-- the value of an option, of these words, this table and this journal
abbrev value_of : Text → Text → Text → NewOption → Text
value_of words table journal Words = words
value_of words table journal Table = table
value_of words table journal Journal = journal

-- the rows after the first option, and after the second
abbrev first_read : NewOrder → Text → Text → List Row
first_read o image value = read NewCommand (operand_read NewCommand image) (id_of (first o)) value

abbrev second_read : NewOrder → Text → Text → Text → List Row
second_read o image value next = read NewCommand (first_read o image value) (id_of (second o)) next

first_name : (o : NewOrder) (image : Text)
    → Goes NewCommand (given [] (codes "image") image) (flag_of (first o)) (named (operand_read NewCommand image) (id_of (first o)))
unfolding clap_on_literals
first_name WordsTableJournal image = record { fault = refl; walk = refl }
first_name WordsJournalTable image = record { fault = refl; walk = refl }
first_name TableWordsJournal image = record { fault = refl; walk = refl }
first_name TableJournalWords image = record { fault = refl; walk = refl }
first_name JournalWordsTable image = record { fault = refl; walk = refl }
first_name JournalTableWords image = record { fault = refl; walk = refl }

second_name : (o : NewOrder) (image value : Text)
    → Goes NewCommand (given (operand_read NewCommand image) (id_of (first o)) value) (flag_of (second o)) (named (first_read o image value) (id_of (second o)))
unfolding clap_on_literals
second_name WordsTableJournal image value = record { fault = refl; walk = refl }
second_name WordsJournalTable image value = record { fault = refl; walk = refl }
second_name TableWordsJournal image value = record { fault = refl; walk = refl }
second_name TableJournalWords image value = record { fault = refl; walk = refl }
second_name JournalWordsTable image value = record { fault = refl; walk = refl }
second_name JournalTableWords image value = record { fault = refl; walk = refl }

third_name : (o : NewOrder) (image value next : Text) → Goes NewCommand (given (first_read o image value) (id_of (second o)) next) (flag_of (third o))
    (named (second_read o image value next) (id_of (third o)))
unfolding clap_on_literals
third_name WordsTableJournal image value next = record { fault = refl; walk = refl }
third_name WordsJournalTable image value next = record { fault = refl; walk = refl }
third_name TableWordsJournal image value next = record { fault = refl; walk = refl }
third_name TableJournalWords image value next = record { fault = refl; walk = refl }
third_name JournalWordsTable image value next = record { fault = refl; walk = refl }
third_name JournalTableWords image value next = record { fault = refl; walk = refl }

at_value : (option : NewOption) (rows : List Row) (value : Text) → IsNoFlag value
    → Goes NewCommand (named rows (id_of option)) value (given rows (id_of option) value)
unfolding clap_on_literals
at_value Words rows value h = at_words NewCommand rows value h
at_value Table rows value h = at_table NewCommand rows value h
at_value Journal rows [] h = record { fault = refl; walk = refl }
at_value Journal rows (x ∷ xs) h = record { fault = simp (no_hyphen x xs h); walk = simp (no_hyphen x xs h) }

-- the last word
order_last : (o : NewOrder) (image words table journal : Text) → after NewCommand
    (given (second_read o image (value_of words table journal (first o)) (value_of words table journal (second o))) (id_of (third o))
    (value_of words table journal (third o))) [] ≡ Some (ToMake image (record plain_size { words = words; journal = journal }) (Some table))
unfolding request_after clap_on_literals
order_last WordsTableJournal image words table journal = refl
order_last WordsJournalTable image words table journal = refl
order_last TableWordsJournal image words table journal = refl
order_last TableJournalWords image words table journal = refl
order_last JournalWordsTable image words table journal = refl
order_last JournalTableWords image words table journal = refl

ordered : (o : NewOrder) (words table journal : Text) → in_order o words table journal
    ≡ flag_of (first o) ∷ value_of words table journal (first o) ∷ flag_of (second o) ∷ value_of words table journal (second o)
    ∷ flag_of (third o) ∷ value_of words table journal (third o) ∷ []
ordered WordsTableJournal words table journal = refl
ordered WordsJournalTable words table journal = refl
ordered TableWordsJournal words table journal = refl
ordered TableJournalWords words table journal = refl
ordered JournalWordsTable words table journal = refl
ordered JournalTableWords words table journal = refl

no_flags : (option : NewOption) (words table journal : Text) → IsNoFlag words → IsNoFlag table → IsNoFlag journal
    → IsNoFlag (value_of words table journal option)
no_flags Words words table journal hw ht hj = hw
no_flags Table words table journal hw ht hj = ht
no_flags Journal words table journal hw ht hj = hj

in_any_order : (name image words table journal : Text) → IsNoFlag image → IsNoFlag words → IsNoFlag table → IsNoFlag journal → (o : NewOrder)
    → request_of_words (name ∷ codes "new" ∷ image ∷ in_order o words table journal) ≡ Some (ToMake image (record plain_size { words = words; journal = journal }) (Some table))
in_any_order name image words table journal hi hw ht hj o =
    let value = value_of words table journal in
    let first_value = value (first o) in
    let second_value = value (second o) in
    let third_value = value (third o) in
    let is_value = λ (option : NewOption). no_flags option words table journal hw ht hj in
    ap (λ (rest : List Text). request_of_words (name ∷ codes "new" ∷ image ∷ rest)) (ordered o words table journal)
    ∙ (opened NewCommand name (image ∷ flag_of (first o) ∷ first_value ∷ flag_of (second o) ∷ second_value ∷ flag_of (third o) ∷ third_value ∷ [])
    ∙ (step (at_operand NewCommand image hi) (flag_of (first o) ∷ first_value ∷ flag_of (second o) ∷ second_value ∷ flag_of (third o) ∷ third_value ∷ [])
    ∙ (step (first_name o image) (first_value ∷ flag_of (second o) ∷ second_value ∷ flag_of (third o) ∷ third_value ∷ [])
    ∙ (step (at_value (first o) (operand_read NewCommand image) first_value (is_value (first o)))
    (flag_of (second o) ∷ second_value ∷ flag_of (third o) ∷ third_value ∷ [])
    ∙ (step (second_name o image first_value) (second_value ∷ flag_of (third o) ∷ third_value ∷ [])
    ∙ (step (at_value (second o) (first_read o image first_value) second_value (is_value (second o))) (flag_of (third o) ∷ third_value ∷ [])
    ∙ (step (third_name o image first_value second_value) (third_value ∷ [])
    ∙ (step (at_value (third o) (second_read o image first_value second_value) third_value (is_value (third o))) []
    ∙ order_last o image words table journal))))))))

-- ---- `--transient` alone, and `--apdu` alone

data LastOption : Type 0 where
  Cells : LastOption
  Buffer : LastOption

abbrev id_by : LastOption → Text
id_by Cells = codes "transient"
id_by Buffer = codes "apdu"

abbrev flag_by : LastOption → Text
flag_by Cells = codes "--transient"
flag_by Buffer = codes "--apdu"

abbrev size_by : LastOption → Text → SizeAsked
size_by Cells value = record plain_size { cells = Some value }
size_by Buffer value = record plain_size { buffer = Some value }

-- what it asks for, with this operand, this value and no other option
abbrev with_by : OptionCommand → LastOption → Text → Text → CommandLineRequest
with_by NewCommand o operand value = ToMake operand (size_by o value) None
with_by TryCommand o operand value = ToTry operand (size_by o value) None None

last_name : (c : OptionCommand) (o : LastOption) (operand : Text)
    → Goes c (given [] (operand_of c) operand) (flag_by o) (named (operand_read c operand) (id_by o))
unfolding clap_on_literals
last_name NewCommand Cells operand = record { fault = refl; walk = refl }
last_name NewCommand Buffer operand = record { fault = refl; walk = refl }
last_name TryCommand Cells operand = record { fault = refl; walk = refl }
last_name TryCommand Buffer operand = record { fault = refl; walk = refl }

at_last : (c : OptionCommand) (o : LastOption) (rows : List Row) (value : Text) → IsNoFlag value
    → Goes c (named rows (id_by o)) value (given rows (id_by o) value)
unfolding clap_on_literals
at_last NewCommand Cells rows [] h = record { fault = refl; walk = refl }
at_last NewCommand Cells rows (x ∷ xs) h = record { fault = simp (no_hyphen x xs h); walk = simp (no_hyphen x xs h) }
at_last NewCommand Buffer rows [] h = record { fault = refl; walk = refl }
at_last NewCommand Buffer rows (x ∷ xs) h = record { fault = simp (no_hyphen x xs h); walk = simp (no_hyphen x xs h) }
at_last TryCommand Cells rows [] h = record { fault = refl; walk = refl }
at_last TryCommand Cells rows (x ∷ xs) h = record { fault = simp (no_hyphen x xs h); walk = simp (no_hyphen x xs h) }
at_last TryCommand Buffer rows [] h = record { fault = refl; walk = refl }
at_last TryCommand Buffer rows (x ∷ xs) h = record { fault = simp (no_hyphen x xs h); walk = simp (no_hyphen x xs h) }

last_read : (c : OptionCommand) (o : LastOption) (operand value : Text)
    → after c (given (operand_read c operand) (id_by o) value) [] ≡ Some (with_by c o operand value)
unfolding request_after clap_on_literals
last_read NewCommand Cells operand value = refl
last_read NewCommand Buffer operand value = refl
last_read TryCommand Cells operand value = refl
last_read TryCommand Buffer operand value = refl

with_last : (c : OptionCommand) (o : LastOption) (name operand value : Text) → IsNoFlag operand → IsNoFlag value
    → request_of_words (name ∷ name_of c ∷ operand ∷ flag_by o ∷ value ∷ []) ≡ Some (with_by c o operand value)
with_last c o name operand value ho hv =
    opened c name (operand ∷ flag_by o ∷ value ∷ [])
    ∙ (step (at_operand c operand ho) (flag_by o ∷ value ∷ [])
    ∙ (step (last_name c o operand) (value ∷ [])
    ∙ (step (at_last c o (operand_read c operand) value hv) []
    ∙ last_read c o operand value)))

pub news : TakesNews
news name image words table journal cells buffer hi hw ht hj hc hb = (
  no_option NewCommand name image hi,
  words_before_table NewCommand name image words table hi hw ht,
  table_before_words NewCommand name image words table hi hw ht,
  in_any_order name image words table journal hi hw ht hj,
  with_last NewCommand Cells name image cells hi hc,
  with_last NewCommand Buffer name image buffer hi hb,
)

pub tries : TakesTries
tries name script words table cells buffer hs hw ht hc hb = (
  no_option TryCommand name script hs,
  opened TryCommand name (script ∷ codes "--table" ∷ table ∷ [])
      ∙ (step (at_operand TryCommand script hs) (codes "--table" ∷ table ∷ [])
      ∙ (step (table_first TryCommand script) (table ∷ [])
      ∙ (step (at_table TryCommand (operand_read TryCommand script) table ht) []
      ∙ table_alone script table))),
  table_before_words TryCommand name script words table hs hw ht,
  words_before_table TryCommand name script words table hs hw ht,
  with_last TryCommand Cells name script cells hs hc,
  with_last TryCommand Buffer name script buffer hs hb,
)
