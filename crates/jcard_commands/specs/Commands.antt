-- What the program does for the words of its command line.
use Rattle.std.specs.Prelude.{ℕ, ◌≡◌, ◌⊎◌, List, [], ◌∷◌, ◌++◌, codes, Result, Ok, Err, Option, Some}
use Rattle.std.specs.Option.{unwrap_or}
use Rattle.jcard_arguments.specs.CommandLine.{AskForHelp, AskForNothing, CommandLineRequest, RunAsked, SizeAsked, TestAsked, request_of_words, text_of}
use Rattle.jcard_arguments.specs.CommandLine.{ToAttack, ToCompare, ToJoin, ToList, ToListObjects, ToMake, ToRun, ToTear, ToTest, ToTry}
use Rattle.jcard_arguments.specs.declared.arguments.NoAction.{NoAction}
use Rattle.jcard_arguments.specs.declared.arguments.NoAction.TheVariants.{Help, Refused, Misused, NoMemory as NoRoom}
use Rattle.jcard_dump.specs.Inventory.{IsDump}
use Rattle.jcard_files.specs.Effects.{Says, Tells}
use Rattle.jcard_files.specs.FileDeeds.{FileDeed}
use Rattle.jcard_attack.specs.PartFiles.{IsJoining}
use Rattle.jc_card.specs.Dispatching.{usual_budget}
use Rattle.jcard_files.specs.NewImage.{IsNew}
use Rattle.jcard_files.specs.declared.image_size.ImageSize.{ImageSize}
use Rattle.jcard_dump.specs.Comparison.{IsComparison}
use Rattle.jcard_dump.specs.Dump.{IsObjectsDump}
use Rattle.jcard_test.specs.Tests.{IsTest}
use Rattle.jcard_test.specs.declared.request.Asked.{Asked}
use Rattle.jcard_files.specs.declared.fault.Fault.{Fault}
use Rattle.jcard_files.specs.declared.fault.Fault.TheVariants.{BadCommandLine, NoMemory, CannotRead, WriteFailed}
use Rattle.jcard_commands.specs.Listing.{IsAttackWith, IsTearWith, IsToldBy}
use Rattle.jcard_commands.specs.ScriptRun.{IsRun}
use Rattle.jcard_commands.specs.RunOptions.{AreNamesRead, AreNamesUnread, AreOperands, IsCompared, IsCoverBegun, IsCovered}
use Rattle.jcard_files.specs.declared.operand.Operand.{Operand}
use Rattle.jcard_commands.specs.Trial.{IsTrial}

-- this number of instructions, or the usual one
abbrev pub budget_of : Option ℕ → ℕ
budget_of instructions = unwrap_or instructions usual_budget

-- a script was carried out, its answers were compared with those that are expected, and then the cover was written; or nothing was done, where
-- the file of the cover was refused
abbrev pub IsRunAfter : List ℕ → List ℕ → RunAsked → List Operand → Result Unit Fault → Tells
IsRunAfter image script asked operands (Err fault) ended text deeds = (ended ≡ Err fault) × (text ≡ []) × (deeds ≡ [])
IsRunAfter image script asked operands (Ok done) ended text deeds = (ran compared : Result Unit Fault) × (others writes : List FileDeed)
    × IsRun (budget_of asked.instructions) image script ran text others × IsCompared asked.expect ran compared
    × IsCovered operands asked.cover compared ended writes × (deeds ≡ others ++ writes)

-- a run with options: its map was not read, and nothing was begun; or after that the file of its cover was emptied, if one is named,
-- and then the script was carried out
abbrev pub IsRunWith : List ℕ → List ℕ → RunAsked → Tells
IsRunWith image script asked ended text deeds =
    ((fault : Fault) × (ended ≡ Err fault) × (text ≡ []) × AreNamesUnread asked.map fault deeds)
    ⊎ ((begun : Result Unit Fault) × (reads begins more : List FileDeed) × (operands : List Operand) × AreNamesRead asked.map reads
    × AreOperands image script asked.map operands × IsCoverBegun operands asked.cover begun begins
    × IsRunAfter image script asked operands begun ended text more × (deeds ≡ reads ++ (begins ++ more)))

-- the size that these texts say
abbrev pub size_by : ImageSize → SizeAsked
size_by size = record { words = size.words.now; journal = size.journal.now; cells = text_of size.cells; buffer = text_of size.buffer }

-- the cards and the report that a test is asked for
abbrev pub IsAskedAs : TestAsked → Asked → Type 0
IsAskedAs asked a = (text_of a.junit ≡ asked.junit) × (text_of a.table ≡ asked.table) × (size_by a.size ≡ asked.size)
    × (a.budget ≡ budget_of asked.instructions)

-- the rows of files were answered by such cards
abbrev pub IsTestWith : List (List ℕ) → TestAsked → Tells
IsTestWith files asked ended text deeds = (cards : Asked) × IsAskedAs asked cards × IsTest files cards ended text deeds

-- nothing was done with files, and nothing was written, with this end
abbrev pub IsRefused : Fault → Tells
IsRefused fault ended text deeds = (ended ≡ Err fault) × (text ≡ []) × (deeds ≡ [])

-- what is asked for was done to this end, this text was written, and this was done with files; no files are not joined
abbrev pub IsDone : CommandLineRequest → Tells
IsDone (ToMake image size table) ended text deeds = IsNew image size.words size.journal size.cells size.buffer table ended deeds × (text ≡ [])
IsDone (ToRun image script asked) ended text deeds = IsRunWith image script asked ended text deeds
IsDone (ToList image) ended text deeds = IsDump image ended text deeds
IsDone (ToListObjects image all secrets map) ended text deeds = IsToldBy map (IsObjectsDump image (record { all = all; secrets = secrets })) ended text deeds
IsDone (ToCompare image other all secrets map) ended text deeds = IsToldBy map (IsComparison image other (record { all = all; secrets = secrets })) ended text deeds
IsDone (ToTry script size table instructions) ended text deeds =
    IsTrial (budget_of instructions) script size.words size.journal size.cells size.buffer table ended text deeds
IsDone (ToTear image script asked) ended text deeds = IsToldBy asked.map (IsTearWith image script asked) ended text deeds
IsDone (ToAttack image script asked) ended text deeds = IsToldBy asked.map (IsAttackWith image script asked) ended text deeds
IsDone (ToJoin []) ended text deeds = IsRefused BadCommandLine ended text deeds
IsDone (ToJoin (file ∷ files)) ended text deeds = IsJoining (file ∷ files) ended text deeds
IsDone (ToTest files asked) ended text deeds = IsTestWith files asked ended text deeds

-- a text of help was written, or could not be
abbrev pub IsHelped : Result Unit Fault → Type 0
IsHelped ended = (ended ≡ Ok tt) ⊎ (ended ≡ Err WriteFailed)

-- where no action is asked for, the program ends so, and writes this text
abbrev pub IsAnswered : NoAction → Says
IsAnswered (Help help) ended text = IsHelped ended
IsAnswered (Refused why) ended text = (ended ≡ Err BadCommandLine) × (text ≡ [])
IsAnswered (Misused why) ended text = (ended ≡ Err BadCommandLine) × (text ≡ [])
IsAnswered NoRoom ended text = (ended ≡ Err NoMemory) × (text ≡ [])

-- on these words the program came to this end, wrote this text and did this with files: memory was refused before anything was done; or
-- they ask for help, for nothing, or for what was done
abbrev pub IsPerformed : List (List ℕ) → Tells
IsPerformed words ended text deeds = IsRefused NoMemory ended text deeds
    ⊎ (AskForHelp words × IsHelped ended × (deeds ≡ []))
    ⊎ (AskForNothing words × IsRefused BadCommandLine ended text deeds)
    ⊎ ((request : CommandLineRequest) × (request_of_words words ≡ Some request) × IsDone request ended text deeds)

-- why nothing was begun: memory was refused, an argument is no text, or the folder that closed standard streams are opened on cannot be
abbrev pub IsUnbegun : Result Unit Fault → Type 0
IsUnbegun (Err NoMemory) = Unit {0}
IsUnbegun (Err BadCommandLine) = Unit {0}
IsUnbegun (Err (CannotRead path)) = path.now ≡ codes "/"
IsUnbegun other = ⊥

-- on the program's arguments it came to this end and wrote this text: they are texts, and it did what they ask for; or nothing was begun
abbrev pub IsStarted : Tells
IsStarted ended text deeds = ((words : List (List ℕ)) × IsPerformed words ended text deeds)
    ⊎ (IsUnbegun ended × (text ≡ []) × (deeds ≡ []))
