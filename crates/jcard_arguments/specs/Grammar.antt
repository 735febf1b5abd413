-- The grammar of the command line, in clap's terms.
use Rattle.std.specs.Prelude.{true, codes, List, [], ◌∷◌, map, Some}
use Rattle.clap.specs.Words.{App, Rule, Text, new_app, new_rule, with_rule, with_subcommand}
use Rattle.clap.specs.Simple.{on_top}
use Rattle.clap.specs.declared.builder.action.ArgAction.TheVariants.{Append, Set, SetTrue}
use Rattle.jcard_arguments.specs.declared.grammar.Kind.{Kind}
use Rattle.jcard_arguments.specs.declared.grammar.Kind.TheVariants.{Operand, Operands, Value, Flag}
use Rattle.jcard_arguments.specs.declared.grammar.Entry.{Entry}
use Rattle.jcard_arguments.specs.declared.grammar.Usage.{Usage}

-- a word that must stand there
abbrev pub operand : Text → Rule
operand name = record (new_rule name) { required = true; action = Some Set }

-- one word or more that must stand there
abbrev pub operands : Text → Rule
operands name = record (new_rule name) { required = true; action = Some Append }

-- an option that may be given, once and with one value
abbrev pub value_option : Text → Rule
value_option name = record (new_rule name) { action = Some Set; long = Some name }

-- a flag that may be given, once
abbrev pub flag : Text → Rule
flag name = record (new_rule name) { action = Some SetTrue; long = Some name }

-- a command with these rules
abbrev pub with_rules : App → List Rule → App
with_rules command [] = command
with_rules command (rule ∷ rules) = with_rules (with_rule command rule) rules

-- the rule of an entry of the program's list
abbrev pub rule_by : Kind → Text → Rule
rule_by Operand name = operand name
rule_by Operands name = operands name
rule_by Value name = value_option name
rule_by Flag name = flag name

abbrev pub rules_of : List Entry → List Rule
rules_of entries = map (λ (e : Entry). rule_by e.kind e.name.now) entries

-- the grammar of a command by its entries, and those of commands
abbrev pub grammar_of : Usage → App
grammar_of usage = with_rules (new_app usage.name.now) (rules_of usage.entries.now)

abbrev pub grammars_of : List Usage → List App
grammars_of usages = map grammar_of usages

-- a program with these commands more
abbrev pub with_commands : App → List App → App
with_commands program [] = program
with_commands program (command ∷ commands) = with_commands (with_subcommand program command.top) commands

-- `new IMAGE [--words N] [--table FILE] [--journal C] [--transient T] [--apdu B]`
abbrev pub new_grammar : App
new_grammar = with_rules (new_app (codes "new")) (operand (codes "image") ∷ value_option (codes "words") ∷ value_option (codes "table")
    ∷ value_option (codes "journal") ∷ value_option (codes "transient") ∷ value_option (codes "apdu") ∷ [])

-- `run IMAGE SCRIPT [--why] [--trace] [--expect] [--lines N] [--map FILE] [--break PLACE] [--cover FILE] [--instructions N]`
abbrev pub run_grammar : App
run_grammar = with_rules (new_app (codes "run")) (operand (codes "image") ∷ operand (codes "script") ∷ flag (codes "why") ∷ flag (codes "trace")
    ∷ flag (codes "expect") ∷ value_option (codes "lines") ∷ value_option (codes "map") ∷ value_option (codes "break")
    ∷ value_option (codes "cover") ∷ value_option (codes "instructions") ∷ [])

-- `dump IMAGE [--objects | --against OTHER] [--all] [--secrets] [--map FILE]`
abbrev pub dump_grammar : App
dump_grammar = with_rules (new_app (codes "dump")) (operand (codes "image") ∷ flag (codes "objects") ∷ value_option (codes "against")
    ∷ flag (codes "all") ∷ flag (codes "secrets") ∷ value_option (codes "map") ∷ [])

-- `try SCRIPT [--words N] [--table FILE] [--journal C] [--transient T] [--apdu B] [--instructions N]`
abbrev pub try_grammar : App
try_grammar = with_rules (new_app (codes "try")) (operand (codes "script") ∷ value_option (codes "words") ∷ value_option (codes "table")
    ∷ value_option (codes "journal") ∷ value_option (codes "transient") ∷ value_option (codes "apdu") ∷ value_option (codes "instructions") ∷ [])

-- `tear IMAGE SCRIPT [--probe FILE] [--line N | --each] [--recovery D] [--part I/N] [--objects] [--why] [--map FILE] [--instructions N]`, `tear --join FILE..`
abbrev pub tear_grammar : App
tear_grammar = with_rules (new_app (codes "tear")) (operands (codes "file") ∷ flag (codes "join") ∷ flag (codes "each") ∷ flag (codes "objects")
    ∷ flag (codes "why") ∷ value_option (codes "map") ∷ value_option (codes "probe") ∷ value_option (codes "line") ∷ value_option (codes "recovery") ∷ value_option (codes "part")
    ∷ value_option (codes "instructions") ∷ [])

-- `attack IMAGE SCRIPT [--model MODELS] [--accept END] [--twice W] [--objects] [--map FILE] [--probe FILE] [--line N | --each] [--part I/N] [--instructions N]`,
-- `attack --join FILE..`
abbrev pub attack_grammar : App
attack_grammar = with_rules (new_app (codes "attack")) (operands (codes "file") ∷ flag (codes "join") ∷ value_option (codes "model")
    ∷ value_option (codes "accept") ∷ value_option (codes "twice") ∷ flag (codes "objects") ∷ value_option (codes "map") ∷ value_option (codes "probe")
    ∷ value_option (codes "line") ∷ flag (codes "each") ∷ value_option (codes "part") ∷ value_option (codes "instructions") ∷ [])

-- `test FILE.. [--junit FILE] [--table FILE] [--words N] [--journal C] [--transient T] [--apdu B] [--instructions N]`
abbrev pub test_grammar : App
test_grammar = with_rules (new_app (codes "test")) (operands (codes "file") ∷ value_option (codes "junit") ∷ value_option (codes "table")
    ∷ value_option (codes "words") ∷ value_option (codes "journal") ∷ value_option (codes "transient") ∷ value_option (codes "apdu") ∷ value_option (codes "instructions") ∷ [])

-- the program's name alone, of whose commands none is `help`
abbrev pub program_alone : App
program_alone = on_top (λ s. record s { disable_help_subcommand = true }) (new_app (codes "jcard"))

-- the program's name and one of its commands
abbrev pub program_grammar : App
program_grammar = with_subcommand (with_subcommand (with_subcommand (with_subcommand (with_subcommand (with_subcommand (with_subcommand program_alone
    new_grammar.top) run_grammar.top) dump_grammar.top) try_grammar.top) tear_grammar.top) attack_grammar.top) test_grammar.top
