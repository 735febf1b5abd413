-- What the words of a command line are taken for, from what clap says of a parse.
use Rattle.std.proofs.Common.{◌≡◌, ◌⊎◌, ◌∙◌, true, List, [], Option, Result, Ok, Err, refl, sym, subst, ap, inl, inr}
use Rattle.std.specs.Prelude.{option_and_then}
use Rattle.clap.specs.Words.{App, HasMatchesOf, IsAmong, Kinds, Row, Text, fault_of, is_simple, is_simple_and_free, subcommand_of, subcommand_rows_of}
use Rattle.clap.specs.declared.error.kind.ErrorKind.{ErrorKind}
use Rattle.clap.specs.declared.error.kind.ErrorKind.TheVariants.{DisplayHelp, OutOfMemory}
use Rattle.clap.specs.declared.parser.matches.ArgMatches.{ArgMatches}
use Rattle.clap.proofs.OnLiterals.{clap_on_literals}
use Rattle.jcard_arguments.specs.CommandLine.{IsReadAs, IsTakenAs, IsToldFor, request_of, request_of_words, unless_faulty}
use Rattle.jcard_arguments.specs.Grammar.{program_grammar}
use Rattle.jcard_arguments.specs.declared.arguments.Action.{Action}
use Rattle.jcard_arguments.specs.declared.arguments.NoAction.{NoAction}
use Rattle.jcard_arguments.specs.declared.arguments.NoAction.TheVariants.{Help, Refused, Misused, NoMemory}

-- what clap asks of a command of which it knows all
is_told : is_simple program_grammar ≡ true
unfolding clap_on_literals
is_told = refl

is_told_whole : is_simple_and_free program_grammar ≡ true
unfolding clap_on_literals
is_told_whole = refl

-- a parse that succeeds finds no fault, and the command of the words
pub found : (command : App) (words : List Text) (m : ArgMatches) → command ≡ program_grammar → HasMatchesOf command words m
    → (is_simple_and_free command ≡ true → fault_of command words ≡ [])
    → (fault_of program_grammar words ≡ []) × (subcommand_rows_of m ≡ subcommand_of program_grammar words)
found command words m same matches passes = (
  ap (λ (a : App). fault_of a words) (sym same) ∙ passes (ap is_simple_and_free same ∙ is_told_whole),
  (matches (ap is_simple same ∙ is_told)).1 ∙ ap (λ (a : App). subcommand_of a words) same,
)

-- a parse that fails does so for memory, or for a fault of the words
pub refused : (command : App) (words : List Text) (kind : ErrorKind) → command ≡ program_grammar
    → (is_simple_and_free command ≡ true → (kind ≡ OutOfMemory) ⊎ IsAmong kind (fault_of command words))
    → (kind ≡ OutOfMemory) ⊎ IsAmong kind (fault_of program_grammar words)
refused command words kind same fails =
    subst (λ (a : App). (kind ≡ OutOfMemory) ⊎ IsAmong kind (fault_of a words)) same (fails (ap is_simple_and_free same ∙ is_told_whole))

accepted : (causes : Kinds) (named rows : Option (Text × List Row)) → causes ≡ [] → rows ≡ named
    → unless_faulty causes (option_and_then request_of named) ≡ option_and_then request_of rows
accepted causes named rows none same = rw (none, same) refl

by_rows : (words : List Text) (rows : Option (Text × List Row)) → fault_of program_grammar words ≡ [] → rows ≡ subcommand_of program_grammar words
    → request_of_words words ≡ option_and_then request_of rows
unfolding request_of_words
by_rows words rows none same = accepted (fault_of program_grammar words) (subcommand_of program_grammar words) rows none same

-- what the rows of the command ask for is what the words do
pub taken : (words : List Text) (rows : Option (Text × List Row)) (r : Result Action NoAction) → fault_of program_grammar words ≡ []
    → rows ≡ subcommand_of program_grammar words → IsReadAs (option_and_then request_of rows) r → IsTakenAs words r
taken words rows (Ok action) none same h = by_rows words rows none same ∙ h
taken words rows (Err (Help text)) none same h = absurd h
taken words rows (Err (Refused text)) none same h = absurd h
taken words rows (Err (Misused why)) none same h = inr (none, by_rows words rows none same ∙ h)
taken words rows (Err NoMemory) none same h = tt

-- what is reported for a fault
pub told : (words : List Text) (kind : ErrorKind) (a : NoAction) → (kind ≡ OutOfMemory) ⊎ IsAmong kind (fault_of program_grammar words) → IsToldFor kind a
    → IsTakenAs words (Err a)
told words kind (Help text) (inl memory) h =
    let bad : DisplayHelp ≡ OutOfMemory = sym h ∙ memory in
    cc
told words kind (Help text) (inr among) h = subst (λ (k : ErrorKind). IsAmong k (fault_of program_grammar words)) h among
told words kind (Refused text) (inl memory) h = absurd (h.1 memory)
told words kind (Refused text) (inr among) h = inl (kind, h.0, among)
told words kind (Misused why) fails h = absurd h
told words kind NoMemory fails h = tt
