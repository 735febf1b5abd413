-- How the program ends: its exit status and its last line.
use Rattle.std.specs.Prelude.{ℕ, Bool, true, false, ◌≡◌, ◌+◌, List, [], ◌++◌, codes, decimal, min, Result, Ok, Err}
use Rattle.std.specs.Prelude.{MatchBool}
use Rattle.jc_words.specs.Count.{failures_after}
use Rattle.jcard_texts.specs.Texts.{IsCutOf}
use Rattle.jcard_files.specs.declared.fault.Damage.{Damage}
use Rattle.jcard_files.specs.declared.fault.Damage.TheVariants.{Magic, Version, Size, Log, Table, Package}
use Rattle.jcard_files.specs.declared.fault.FileKind.{FileKind}
use Rattle.jcard_files.specs.declared.fault.FileKind.TheVariants as kind
use Rattle.jcard_files.specs.declared.fault.Fault.{Fault}
use Rattle.jcard_files.specs.declared.fault.Fault.TheVariants.{BadCommandLine, NoMemory, BadWords, BadTable, ImageTooSmall, CannotRead, CannotOpenToWrite}
use Rattle.jcard_files.specs.declared.fault.Fault.TheVariants.{CannotWrite, NotReplaced, ImageInUse, BadImage, BadCommand, ScriptTooLong, WriteFailed}
use Rattle.jcard_files.specs.declared.fault.Fault.TheVariants.{Down, NoCommand, TooManyCuts, NotAllOrNothing, TooManyInstructions, FaultAccepted}
use Rattle.jcard_files.specs.declared.fault.Fault.TheVariants.{CannotInclude, RowsFailed, OtherAnswer, NothingExpected}
use Rattle.jcard_files.specs.declared.fault.Fault.TheVariants.{BadApdu, BadCut, BadJournal, BadTransient, BadProbeCommand, ProbeTooLong, BadPart, CutMissing, CutTwice, OtherPart, OtherSweep, ShareMissing, ShareTwice, BadShare}
use Rattle.jcard_files.specs.declared.fault.LastLine.{LastLine}
use Rattle.jcard_files.specs.declared.fault.LastLine.TheVariants.{Fixed, Named, Numbered, Unincluded}

-- the exit status
abbrev pub status_of : Result Unit Fault → ℕ
status_of (Ok done) = 0
status_of (Err BadCommandLine) = 2
status_of (Err NoMemory) = 1
status_of (Err BadWords) = 1
status_of (Err BadJournal) = 1
status_of (Err BadTransient) = 1
status_of (Err BadApdu) = 1
status_of (Err (BadTable line)) = 1
status_of (Err ImageTooSmall) = 1
status_of (Err (CannotRead path)) = 1
status_of (Err (CannotOpenToWrite path)) = 1
status_of (Err (CannotWrite path)) = 1
status_of (Err (NotReplaced path what)) = 1
status_of (Err ImageInUse) = 1
status_of (Err (BadImage damage)) = 1
status_of (Err (BadCommand n)) = 1
status_of (Err ScriptTooLong) = 1
status_of (Err (BadProbeCommand n)) = 1
status_of (Err ProbeTooLong) = 1
status_of (Err WriteFailed) = 1
status_of (Err Down) = 1
status_of (Err NoCommand) = 1
status_of (Err TooManyCuts) = 1
status_of (Err NotAllOrNothing) = 3
status_of (Err TooManyInstructions) = 1
status_of (Err FaultAccepted) = 3
status_of (Err (CannotInclude path number)) = 1
status_of (Err RowsFailed) = 4
status_of (Err (OtherAnswer line)) = 4
status_of (Err NothingExpected) = 4
status_of (Err BadPart) = 1
status_of (Err (CutMissing k)) = 1
status_of (Err (CutTwice k)) = 1
status_of (Err (BadCut k)) = 1
status_of (Err (OtherSweep k)) = 1
status_of (Err (ShareMissing k)) = 1
status_of (Err (ShareTwice k)) = 1
status_of (Err (BadShare k)) = 1
status_of (Err (OtherPart path)) = 1

-- the number of the check that finds a damage
abbrev pub check_of : Damage → ℕ
check_of Magic = 1
check_of Version = 2
check_of Size = 3
check_of Log = 4
check_of Table = 5
check_of Package = 6

-- the line that says that the file with this name cannot be read
abbrev pub unread_text : List ℕ → List ℕ
unread_text path = codes "jcard: cannot read " ++ path ++ codes "\n"

-- the line that says that a file cannot be read that this line of a file includes
abbrev pub unincluded_text : List ℕ → ℕ → List ℕ
unincluded_text path number = (codes "jcard: " ++ path ++ codes ": line ") ++ (decimal number ++ codes ": cannot read the file that is included" ++ codes "\n")

-- the line that says what is wrong with what parts report of a cut
abbrev pub cut_line : ℕ → List ℕ → List ℕ
cut_line k wrong = codes "jcard: cut " ++ decimal k ++ wrong

-- the line that says what is wrong with what the part of this number says
abbrev pub part_line : ℕ → List ℕ → List ℕ
part_line n wrong = codes "jcard: part " ++ decimal n ++ wrong

-- the number of a share, counted from 1
abbrev pub share_number : ℕ → ℕ
share_number k = min (k + 1) 18446744073709551615

-- the line that says what is wrong with what parts report of a share
abbrev pub share_line : ℕ → List ℕ → List ℕ
share_line k wrong = part_line (share_number k) wrong

-- the end of the line that says what a file is
abbrev pub ending_of : FileKind → List ℕ
ending_of kind.Image = codes " is an image\n"
ending_of kind.Script = codes " is a script\n"
ending_of kind.Rows = codes " is a row file\n"
ending_of kind.Map = codes " is a map\n"
ending_of kind.Table = codes " is a platform table\n"

-- the line that states a fault; none states a failed write, and a cut that was not all or nothing, a fault that was accepted, or a row that failed,
-- is reported by the report
abbrev pub line_of : Fault → List ℕ
line_of BadCommandLine = codes "jcard: bad command line\n"
line_of NoMemory = codes "jcard: no memory\n"
line_of BadWords = codes "jcard: words must be 4096 to 65535\n"
line_of BadJournal = codes "jcard: journal must be 16 to 1024\n"
line_of BadTransient = codes "jcard: transient must be 2048 to 16384\n"
line_of BadApdu = codes "jcard: apdu must be 261 to 32767\n"
line_of (BadTable line) = codes "jcard: bad table line " ++ decimal line ++ codes "\n"
line_of ImageTooSmall = codes "jcard: image too small\n"
line_of (CannotRead path) = unread_text path.now
line_of (CannotOpenToWrite path) = unread_text path.now
line_of (CannotWrite path) = codes "jcard: cannot write " ++ path.now ++ codes "\n"
line_of (NotReplaced path what) = codes "jcard: " ++ path.now ++ ending_of what
line_of ImageInUse = codes "jcard: image in use\n"
line_of (BadImage damage) = codes "jcard: bad image " ++ decimal (check_of damage) ++ codes "\n"
line_of (BadCommand n) = codes "jcard: line " ++ decimal n ++ codes ": bad command\n"
line_of ScriptTooLong = codes "jcard: script too long\n"
line_of (BadProbeCommand n) = codes "jcard: probe line " ++ decimal n ++ codes ": bad command\n"
line_of ProbeTooLong = codes "jcard: probe too long\n"
line_of WriteFailed = []
line_of Down = codes "jcard: the card is down at the command\n"
line_of NoCommand = codes "jcard: no command to cut\n"
line_of TooManyCuts = codes "jcard: more than 65535 cuts\n"
line_of NotAllOrNothing = []
line_of TooManyInstructions = codes "jcard: more than 1000000 instructions\n"
line_of FaultAccepted = []
line_of (CannotInclude path number) = unincluded_text path.now number
line_of RowsFailed = []
line_of (OtherAnswer line) = codes "jcard: line " ++ decimal line ++ codes ": another answer than expected\n"
line_of NothingExpected = codes "jcard: no answer is expected\n"
line_of BadPart = codes "jcard: part must be 1/N to N/N\n"
line_of (CutMissing k) = cut_line k (codes " is missing\n")
line_of (CutTwice k) = cut_line k (codes " stands twice\n")
line_of (BadCut k) = cut_line k (codes " is told in no known form\n")
line_of (OtherSweep k) = cut_line k (codes " is of another sweep\n")
line_of (ShareMissing k) = share_line k (codes " is missing\n")
line_of (ShareTwice k) = share_line k (codes " stands twice\n")
line_of (BadShare k) = share_line k (codes " is told in no known form\n")
line_of (OtherPart path) = codes "jcard: " ++ path.now ++ codes " is of another sweep\n"

-- the text of a last line
abbrev pub text_of : LastLine → List ℕ
text_of (Fixed text) = text.now
text_of (Named start name end) = start.now ++ name.now ++ end.now
text_of (Numbered start number end) = start.now ++ decimal number ++ end.now
text_of (Unincluded path number) = unincluded_text path.now number

-- whether a write of what was asked for failed
abbrev pub is_unwritten : Result Unit Fault → Bool
is_unwritten (Err WriteFailed) = true
is_unwritten _ = false

-- the last line after the program ended so, whole, or a beginning of it where a write of it failed
abbrev pub IsLastLine : Result Unit Fault → Bool → List ℕ → Type 0
IsLastLine (Ok done) failed text = (failed ≡ false) × (text ≡ [])
IsLastLine (Err fault) failed text = MatchBool failed (IsCutOf (line_of fault) text) (text ≡ line_of fault)

-- a writer's count of failures rises by one for each of these
abbrev pub failures_of : ℕ → Result Unit Fault → Bool → ℕ
failures_of count ended failed = failures_after (failures_after count (is_unwritten ended)) failed
