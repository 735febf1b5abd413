-- `jcard test`: what is read, which cards are given it, and what is reported of them.
use Rattle.std.specs.Prelude.{ℕ, ◌≡◌, map, ◌==◌, if◌then◌else◌, option_map, ◌≤◌, ◌<◌, ◌⊎◌, ◌+◌, Any, All, Bool, true, false, List, [], ◌∷◌, ◌++◌, codes, length, min, Option, Some, None, IfSome}
use Rattle.std.specs.Prelude.{Result, Ok, Err, slice_index_or, take, unwrap_or}
use Rattle.std.specs.Str.{IsUtf8}
use Rattle.std.specs.String.{string_bytes}
use Rattle.std.specs.Borrow.{Bor}
use Rattle.jc_platform.specs.Table.{Reads}
use Rattle.jc_platform.specs.declared.fault.TableFault.TheVariants.{BadTable as BadLine}
use Rattle.jc_card.specs.declared.power_up.PowerFault.TheVariants as power
use Rattle.jc_words.specs.Store.{FuseStoreValue}
use Rattle.jcard_script.specs.Script.{EndsWithin}
use Rattle.jcard_texts.specs.Texts.{IsCutOf}
use Rattle.jcard_script.specs.declared.script.ScriptFault.{ScriptFault}
use Rattle.jcard_script.specs.declared.script.ScriptFault.TheVariants.{PowerFault as NotPoweredUp, WriteFailed as NotWritten}
use Rattle.jcard_test.specs.Cards.{AreCardsOf}
use Rattle.jcard_test.specs.JunitFile.{IsBegun, IsKept}
use Rattle.jcard_test.specs.Lines.{Says}
use Rattle.jcard_outcomes.specs.Failure.{AllAnswered, IsFirstFailure}
use Rattle.jcard_outcomes.specs.RowReport.{report_text}
use Rattle.jcard_test.specs.Sources.{AreSpared, IsReading, name_of, paths_read}
use Rattle.jcard_outcomes.specs.Row.{script_text}
use Rattle.jcard_test.specs.RowSweep.{IsToldOfSweep}
use Rattle.jcard_test.specs.NamedTable.{IsNamed, IsUnnamed}
use Rattle.jcard_test.specs.TextLines.{AreLinesOf, IsBeside, IsLineOf, IsUnrolled}
use Rattle.jcard_outcomes.specs.declared.card_rows.CardRows.{CardRows}
use Rattle.jcard_test.specs.declared.line.Line.{Line as RowLine}
use Rattle.jcard_test.specs.declared.line.Line.TheVariants.{Include}
use Rattle.jcard_test.specs.declared.numbered_line.Numbered.{Numbered}
use Rattle.jcard_outcomes.specs.declared.tested.Failure.{Failure}
use Rattle.jcard_outcomes.specs.declared.tested.Outcome.{Outcome}
use Rattle.jcard_outcomes.specs.declared.tested.Outcome.TheVariants.{NoRow, Held, Failed}
use Rattle.jcard_outcomes.specs.declared.tested.Tested.{Tested}
use Rattle.jcard_outcomes.specs.declared.row.Row.{Row}
use Rattle.jcard_test.specs.declared.rows_file.NamedFile.{NamedFile}
use Rattle.jcard_test.specs.declared.rows_file.RowFile.{RowFile}
use Rattle.jcard_test.specs.declared.table_line.TableLine.{TableLine}
use Rattle.jcard_files.specs.Effects.{Tells}
use Rattle.jcard_files.specs.declared.operand.Operand.{Operand}
use Rattle.jcard_files.specs.FileDeeds.{FileDeed, ReadsText, fresh_store}
use Rattle.jcard_files.specs.Reading.{IsRead, IsScriptRead, IsUnread}
use Rattle.jcard_files.specs.NewImage.{IsNewImageOf}
use Rattle.jcard_files.specs.declared.fault.FileKind.TheVariants.{Rows, Table}
use Rattle.jcard_files.specs.declared.fault.Fault.{Fault}
use Rattle.jcard_test.specs.Planning.{IsPlanned, IsUnplanned, table_asked}
use Rattle.jcard_test.specs.declared.request.Asked.{Asked}
use Rattle.jcard_test.specs.declared.plan.Plan.{Plan}
use Rattle.jcard_files.specs.declared.fault.Fault.TheVariants.{BadTable, CannotInclude, CannotRead, ImageTooSmall, NoMemory, ScriptTooLong}
use Rattle.jcard_files.specs.declared.fault.Fault.TheVariants.{WriteFailed}

-- ---- files

-- the whole text was read from the file with this name
abbrev pub IsRowsText : List ℕ → List ℕ → List FileDeed → Type 0
IsRowsText name text deeds = (known : Option (List ℕ)) × IfSome known (λ bytes. text ≡ bytes) × (deeds ≡ ReadsText name (Ok known) ∷ [])

-- the lines of a file that a line of this number includes: it is looked for beside the file with this name
abbrev pub IsFilePlace : List ℕ → List ℕ → ℕ → List Numbered → List FileDeed → Type 0
IsFilePlace name file number here deeds = (path text : List ℕ) × IsBeside name file path × IsRowsText path text deeds × AreLinesOf number text here

-- in the place of a line that includes a file stand the lines of that; any other stays as it is
abbrev pub IsPlaceOf : List ℕ → Numbered → RowLine → List Numbered → List FileDeed → Type 0
IsPlaceOf name line (Include file) here deeds = IsFilePlace name file.now line.number here deeds
IsPlaceOf name line other here deeds = (same : Numbered) × IsLineOf line.number (string_bytes line.text) same × (here ≡ same ∷ []) × (deeds ≡ [])

abbrev pub IsPlace : List ℕ → Numbered → List Numbered → List FileDeed → Type 0
IsPlace name line here deeds = (said : RowLine) × Says (string_bytes line.text) said × IsPlaceOf name line said here deeds

-- so it is with each of these lines of that file
unfoldable pub AreIncluded : List ℕ → List Numbered → List Numbered → List FileDeed → Type 0
AreIncluded name [] lines deeds = (lines ≡ []) × (deeds ≡ [])
AreIncluded name (line ∷ own) lines deeds = (here rest : List Numbered) × (first more : List FileDeed) × IsPlace name line here first
    × AreIncluded name own rest more × (lines ≡ here ++ rest) × (deeds ≡ first ++ more)

-- this text of a platform table was read: it is looked for by that name beside the file of the first name
abbrev pub IsTableBeside : List ℕ → List ℕ → List ℕ → List FileDeed → Type 0
IsTableBeside name file text deeds = (path : List ℕ) × IsBeside name file path × IsRead path text deeds

-- after the line that names a platform table, its text was read, and then these are the lines, with those of the files that are included
abbrev pub IsFileBehind : List ℕ → TableLine → Option (List ℕ) → List Numbered → List FileDeed → Type 0
IsFileBehind name line None lines deeds = ⊥
IsFileBehind name line (Some table) lines deeds = (first more : List FileDeed) × IsTableBeside name line.name.now table first
    × AreIncluded name line.rest.now lines more × (deeds ≡ first ++ more)

-- so it is with the lines of a file that names one, or names none
abbrev pub IsFileOf : List ℕ → List Numbered → Option (List ℕ) → List Numbered → List FileDeed → Type 0
IsFileOf name own None lines deeds = IsUnnamed own × AreIncluded name own lines deeds
IsFileOf name own (Some table) lines deeds = (line : TableLine) × IsNamed own line × IsFileBehind name line (Some table) lines deeds

-- this platform table is named in the file with this name, and these are its lines, with those of the files that it includes
abbrev pub IsFile : List ℕ → Option (List ℕ) → List Numbered → List FileDeed → Type 0
IsFile name table lines deeds = (text : List ℕ) × (own : List Numbered) × (first more : List FileDeed) × IsRowsText name text first
    × IsUnrolled text own × IsFileOf name own table lines more × (deeds ≡ first ++ more)

-- ---- cards

-- a script came to this end for want of memory: for its answers, or to power a card up
abbrev pub lacked_memory : Result Unit ScriptFault → Bool
lacked_memory (Err NotWritten) = true
lacked_memory (Err (NotPoweredUp power.NoMemory)) = true
lacked_memory other = false

-- these are this many words of a new card as planned
abbrev pub IsNewCard : Plan → ℕ → List ℕ → Type 0
IsNewCard p words w = IsNewImageOf words p.extent.room p.table.items w

-- on a new card of this many words a script was carried out, up to its end or to a line that ended it, and printed this text
abbrev pub IsPrinted : Plan → ℕ → List ℕ → List ℕ → Type 0
IsPrinted p words script text = (w read rest : List ℕ) × (carried : Result Unit ScriptFault) × (at_end : Bool) × (after : FuseStoreValue)
    × IsNewCard p words w × (script ≡ read ++ rest) × EndsWithin p.budget carried (fresh_store w) after at_end read text × (lacked_memory carried ≡ false)

-- ---- rows that are swept

-- over a new card of this many words each cut of the row after these left what was before or what comes after, or no fault of it was accepted
abbrev pub IsSweptWell : Plan → ℕ → List Row → Row → Type 0
IsSweptWell p words before r = (w : List ℕ) × IsNewCard p words w × IsToldOfSweep p.budget w before r None

-- one did not, or was, and that is reported; or it could not be swept
abbrev pub IsSweptBadly : Plan → ℕ → List Row → Row → List ℕ → Type 0
IsSweptBadly p words before r told = (w : List ℕ) × IsNewCard p words w × IsToldOfSweep p.budget w before r (Some told)

-- of a row that is swept this is reported; of any other nothing
abbrev pub IsToldOf : Plan → ℕ → List Row → Row → Option (List ℕ) → Type 0
IsToldOf p words before r None = r.swept ≡ true → IsSweptWell p words before r
IsToldOf p words before r (Some told) = (r.swept ≡ true) × IsSweptBadly p words before r told

-- those of these rows among the first n that are swept were well
abbrev pub AreSweptWell : Plan → ℕ → List Row → ℕ → Type 0
AreSweptWell p words rows n = (k : ℕ) (r : Row) → k < n → r ≡ slice_index_or rows k r → r.swept ≡ true → IsSweptWell p words (take k rows) r

-- what a sweep is to show: that no fault is accepted, or that each cut is all or nothing
abbrev pub wanted_of : Row → List ℕ
wanted_of r = if r.attacked then codes "none accepted" else codes "all or nothing"

-- a row was swept badly, after this many that hold, and this was reported
pub record IsSweptFailure (r : Row) (passed : ℕ) (told : List ℕ) (f : Failure) : Type 0 where
  pub behind : f.passed ≡ passed
  pub number : f.number ≡ r.number
  pub command : string_bytes f.command ≡ string_bytes r.command
  pub wanted : string_bytes f.wanted ≡ wanted_of r
  pub told_so : f.told.items ≡ told

-- this failure is of the first of these rows that was swept badly, after this many more that hold; as far as 64 bits count
abbrev pub IsFirstSwept : Plan → ℕ → List Row → ℕ → Failure → Type 0
IsFirstSwept p words rows passed f = (k : ℕ) × (r : Row) × (told : List ℕ) × AreSweptWell p words rows k × (k < length rows) × (r ≡ slice_index_or rows k r)
    × (r.swept ≡ true) × IsSweptBadly p words (take k rows) r told × IsSweptFailure r (min (passed + k) 18446744073709551615) told f

-- the rows were swept well, or this failure is of the first that was not
abbrev pub AreSwept : Plan → ℕ → List Row → ℕ → Option Failure → Type 0
AreSwept p words rows passed None = AreSweptWell p words rows (length rows)
AreSwept p words rows passed (Some f) = IsFirstSwept p words rows passed f

-- what came of the rows of a card that printed this text: all are answered as they say, and were swept well; or this is the first that is not
-- answered so, or else the first that was swept badly
abbrev pub IsCardEnd : Plan → CardRows → List ℕ → ℕ → Option Failure → Type 0
IsCardEnd p card text passed None = AllAnswered card.rows.items text × AreSweptWell p card.words card.rows.items (length card.rows.items)
IsCardEnd p card text passed (Some f) = IsFirstFailure card.rows.items text passed f
    ⊎ (AllAnswered card.rows.items text × IsFirstSwept p card.words card.rows.items passed f)

-- so it came of the rows of a new card
abbrev pub EndsOn : Plan → CardRows → ℕ → Option Failure → Type 0
EndsOn p card passed failure = (text : List ℕ) × IsPrinted p card.words (script_text card.rows.items) text × IsCardEnd p card text passed failure

-- what came of the rows of these cards, after this many rows that hold, counted up to 2^64 - 1: those of each hold, or not
unfoldable pub AreAnsweredOn : Plan → List CardRows → ℕ → Outcome → Type 0
AreAnsweredOn p [] passed outcome = outcome ≡ Held passed
AreAnsweredOn p (card ∷ cards) passed outcome =
    (EndsOn p card passed None × AreAnsweredOn p cards (min (passed + length card.rows.items) 18446744073709551615) outcome)
    ⊎ ((failure : Failure) × (outcome ≡ Failed failure) × EndsOn p card passed (Some failure))

-- that no row is there is a failure
abbrev pub with_a_row : Outcome → Outcome
with_a_row NoRow = NoRow
with_a_row (Held rows) = if rows == 0 then NoRow else Held rows
with_a_row (Failed failure) = Failed failure

-- what came of the rows of these cards
abbrev pub IsOutcome : Plan → List CardRows → Outcome → Type 0
IsOutcome p cards outcome = (all : Outcome) × AreAnsweredOn p cards 0 all × (outcome ≡ with_a_row all)

-- ---- the command

-- the rows of these lines were answered so
abbrev pub AreAnswered : Plan → List Numbered → Tested → Type 0
AreAnswered p lines t = AreCardsOf p.extent.count lines t.cards.items × IsOutcome p t.cards.items t.outcome

-- the cards of a file are as planned, but for the platform table that it names
abbrev pub IsPlanFor : Plan → Option (List ℕ) → Plan → Type 0
IsPlanFor p table q = (q.table.items ≡ unwrap_or table p.table.items) × (q.extent ≡ p.extent) × (q.budget ≡ p.budget)

-- the text of the platform table that a file names
abbrev pub table_of : RowFile → Option (List ℕ)
table_of f = option_map (λ text. text.items) f.table

-- the file of rows with this name was read so
abbrev pub IsFileRead : List ℕ → NamedFile → List FileDeed → Type 0
IsFileRead name f deeds = (f.name.now ≡ name) × IsFile name (table_of f.file) f.file.lines.items deeds

-- those with these names were, one after the other
unfoldable pub AreFilesRead : List (List ℕ) → List NamedFile → List FileDeed → Type 0
AreFilesRead [] [] deeds = deeds ≡ []
AreFilesRead (name ∷ names) (f ∷ fs) deeds = (first more : List FileDeed) × IsFileRead name f first × AreFilesRead names fs more × (deeds ≡ first ++ more)
AreFilesRead names fs deeds = ⊥

-- the rows of a file that was read were answered so
abbrev pub IsTested : Plan → NamedFile → Tested → Type 0
IsTested p f t = (t.name.now ≡ f.name.now) × (q : Plan) × IsPlanFor p (table_of f.file) q × AreAnswered q f.file.lines.items t

-- those of each of these files were
unfoldable pub AreTested : Plan → List NamedFile → List Tested → Type 0
AreTested p [] [] = Unit {0}
AreTested p (f ∷ fs) (t ∷ ts) = IsTested p f t × AreTested p fs ts
AreTested p fs ts = ⊥

-- why the rows of cards were not answered: memory was refused, or the platform table is none, or does not fit
abbrev pub IsUnanswered : Plan → Fault → Type 0
IsUnanswered p NoMemory = Unit {0}
IsUnanswered p (BadTable line) = Reads p.table.items (Err (BadLine line))
IsUnanswered p ImageTooSmall = Unit {0}
IsUnanswered p other = ⊥

-- so those of a file were not, by some cards
abbrev pub IsUntested : Fault → Type 0
IsUntested fault = (q : Plan) × IsUnanswered q fault

-- why the bytes of the file with this name are no text of rows: they are more than a script may have; or they are not, and are no text
abbrev pub IsNoText : List ℕ → List ℕ → Fault → Type 0
IsNoText name bytes ScriptTooLong = 16777216 < length bytes
IsNoText name bytes (CannotRead path) = (path.now ≡ name) × (length bytes ≤ 16777216) × (IsUtf8 bytes → ⊥)
IsNoText name bytes other = ⊥

-- why no text of rows was read from the file with this name: it was not read; or its bytes, as far as they were, are none
abbrev pub IsNoRowsText : List ℕ → Fault → List FileDeed → Type 0
IsNoRowsText name fault deeds = IsUnread name fault deeds ⊎ ((bytes : List ℕ) × IsScriptRead name bytes deeds × IsNoText name bytes fault)

-- why not all lines of a text in the file with this name came: memory was refused, or a file that one includes was not read
abbrev pub IsNotIncluded : List ℕ → Fault → Type 0
IsNotIncluded name NoMemory = Unit {0}
IsNotIncluded name (CannotInclude path number) = path.now ≡ name
IsNotIncluded name other = ⊥

-- why the lines of the file with this name did not come
abbrev pub AreNoFileLines : List ℕ → Fault → List FileDeed → Type 0
AreNoFileLines name fault deeds = IsNoRowsText name fault deeds ⊎ IsNotIncluded name fault

-- those of one of these files did not, and it was the last that was read
abbrev pub IsOneUnread : List (List ℕ) → Fault → List FileDeed → Type 0
IsOneUnread names fault reads = (earlier last : List FileDeed) × (reads ≡ earlier ++ last) × Any (λ name. AreNoFileLines name fault last) names

-- what is reported where the file that the line of this number includes in the file with this name was not read: want of memory as such
abbrev pub IsIncludeFault : List ℕ → ℕ → Fault → Fault → Type 0
IsIncludeFault name number NoMemory told = told ≡ NoMemory
IsIncludeFault name number fault told = (path : Bor (List ℕ)) × (told ≡ CannotInclude path number) × (path.now ≡ name)

-- the report over these was written; or memory was refused for it, or a write failed within it
abbrev pub IsReported : List Tested → Result Unit Fault → List ℕ → Type 0
IsReported ts (Ok done) text = text ≡ report_text ts
IsReported ts (Err NoMemory) text = text ≡ []
IsReported ts (Err WriteFailed) text = IsCutOf (report_text ts) text
IsReported ts (Err other) text = ⊥

-- after it that for build servers was written to the file that is named for it, which is none of these; where it was not, the command ended so
abbrev pub IsKeptAfter : List Operand → Option (List ℕ) → List Tested → Result Unit Fault → Result Unit Fault → List FileDeed → Type 0
IsKeptAfter operands junit ts (Ok done) ended deeds = IsKept operands junit ts ended deeds
IsKeptAfter operands junit ts (Err fault) ended deeds = (ended ≡ Err fault) × (deeds ≡ [])

-- both were
abbrev pub IsTold : List Operand → Option (List ℕ) → List Tested → Tells
IsTold operands junit ts ended text deeds = (told : Result Unit Fault) × IsReported ts told text × IsKeptAfter operands junit ts told ended deeds

-- the rows of these files were answered by cards as planned, and that was reported; or those of one were not, and nothing was written
abbrev pub IsTestOn : Plan → List NamedFile → List Operand → Option (List ℕ) → Tells
IsTestOn p files operands junit ended text deeds = ((fault : Fault) × (ended ≡ Err fault) × IsUntested fault × (text ≡ []) × (deeds ≡ []))
    ⊎ ((ts : List Tested) × AreTested p files ts × IsTold operands junit ts ended text deeds)

-- so they were after the file of the report for build servers was emptied; or nothing was done, where it could not be
abbrev pub IsTestAfter : Plan → List NamedFile → List Operand → Option (List ℕ) → Result Unit Fault → Tells
IsTestAfter p files operands junit (Ok done) ended text deeds = IsTestOn p files operands junit ended text deeds
IsTestAfter p files operands junit (Err fault) ended text deeds = (ended ≡ Err fault) × (text ≡ []) × (deeds ≡ [])

-- that file was emptied, if one was asked for, which is none of these, and then the rows were answered
abbrev pub IsTestBeside : Plan → List NamedFile → List Operand → Option (List ℕ) → Tells
IsTestBeside p files operands junit ended text deeds = (begun : Result Unit Fault) × (begins more : List FileDeed) × (deeds ≡ begins ++ more)
    × IsBegun operands junit begun begins × IsTestAfter p files operands junit begun ended text more

-- so they were, after these files were read from these paths: the report for build servers is none of the files that the command names, and none
-- that was read. Or memory was refused, and nothing was done
abbrev pub IsTestOfRead : Plan → List (List ℕ) → List NamedFile → List (List ℕ) → Asked → Tells
IsTestOfRead p names files paths a ended text deeds = ((ended ≡ Err NoMemory) × (text ≡ []) × (deeds ≡ []))
    ⊎ ((operands : List Operand) × AreSpared names (table_asked a) paths operands
    × IsTestBeside p files operands (name_of a.junit) ended text deeds)

-- all files with these names were read, with what they include and name, before one was written, and then their rows were answered; or one was
-- not read, and nothing was written
abbrev pub IsTestBy : Plan → List (List ℕ) → Asked → Tells
IsTestBy p names a ended text deeds = (reads more : List FileDeed) × (deeds ≡ reads ++ more) × All IsReading reads
    × (((fault : Fault) × (ended ≡ Err fault) × IsOneUnread names fault reads × (text ≡ []) × (more ≡ []))
    ⊎ ((files : List NamedFile) × AreFilesRead names files reads × IsTestOfRead p names files (paths_read reads) a ended text more))

-- so they were by the cards that were asked for; or no card can be as it was asked for, and nothing was written
abbrev pub IsTest : List (List ℕ) → Asked → Tells
IsTest names a ended text deeds = ((fault : Fault) × (ended ≡ Err fault) × IsUnplanned a fault deeds × (text ≡ []))
    ⊎ ((p : Plan) × (first more : List FileDeed) × (deeds ≡ first ++ more) × IsPlanned a p first × IsTestBy p names a ended text more)

-- a file of rows, as a file that the command names
abbrev pub rows_operand : Bor (List ℕ) → Operand
rows_operand name = record { name = name; kind = Rows }

-- these files, and a platform table, if there is one, as files that the command names
abbrev pub operands_named : List (Bor (List ℕ)) → Option (Bor (List ℕ)) → List Operand
operands_named files None = map rows_operand files
operands_named files (Some table) = map rows_operand files ++ record { name = table; kind = Table } ∷ []
