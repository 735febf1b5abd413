-- What the texts of all parts of a sweep are joined to.
use Rattle.std.specs.Prelude.{ℕ, ◌≡◌, ◌⊎◌, ◌+◌, ◌*◌, ◌%◌, ◌<◌, ◌≤◌, false, List, [], ◌∷◌, ◌++◌, All, map, length, codes, Option, Some, None, Result, Ok, Err, slice_get, slice_set, IfErr, IfOk, MatchResult}
use Rattle.std.specs.List.{slice_index_or}
use Rattle.std.specs.Borrow.{Bor}
use Rattle.jcard_outcomes.specs.Order.{AreInOrder, ArePlaces, AreUnplaced}
use Rattle.jcard_outcomes.specs.Part.{AreDealt, IsCutOfWords, IsReadCut, body_text, cut_label, dealt, has, line_text, part_text, told_cut, told_sweep, told_uncut}
use Rattle.jcard_outcomes.specs.Report.{are_whole, report_text, rows_text, verdict_text}
use Rattle.jcard_outcomes.specs.declared.join_fault.JoinFault.{JoinFault}
use Rattle.jcard_outcomes.specs.declared.join_fault.JoinFault.TheVariants.{BadLine, Missing, NoMemory, OtherSweep, Twice}
use Rattle.jcard_outcomes.specs.declared.join.Joined.{Joined}
use Rattle.jcard_outcomes.specs.declared.part.Part.{Part}
use Rattle.jcard_outcomes.specs.Recoveries.{recoveries_text}
use Rattle.jcard_outcomes.specs.declared.recoveries.Depth.{Depth}
use Rattle.jcard_outcomes.specs.declared.report.Sweep.{Sweep}
use Rattle.jcard_outcomes.specs.declared.standing.Cut.{Cut}

-- ---- lines in their order

-- the texts state these lines, in parts
abbrev pub AreOrdered : List (List ℕ) → List (List ℕ) → Type 0
AreOrdered texts lines = AreDealt texts lines × All (λ told. has 10 told ≡ false) lines

-- a text does not begin with the line about k writes, which some text of n has: the one that the text had before it stands there
-- again; or it does not, and the line is missing
abbrev pub IsHeadFault : ℕ → ℕ → List ℕ → JoinFault → Type 0
IsHeadFault n k text NoMemory = Unit {0}
IsHeadFault n k text (Missing m) = (m ≡ k) × ((i : ℕ) (told rest : List ℕ) → i + n ≡ k → text ≡ line_text i told ++ rest → ⊥)
IsHeadFault n k text (Twice m) = (m + n ≡ k) × (told rest : List ℕ) × (text ≡ line_text m told ++ rest)
IsHeadFault n k text other = ⊥

-- the next line of all, the one about k writes, was read from what was left of the texts; or none is left of the text that has it;
-- or that text does not begin with it
abbrev pub IsNextLine : ℕ → List (List ℕ) → List (List ℕ) → Result (Option (Bor (List ℕ))) JoinFault → Type 0
IsNextLine k rests left (Ok None) = (slice_index_or rests (k % length rests) [] ≡ []) × (left ≡ rests)
IsNextLine k rests left (Ok (Some told)) = (rest : List ℕ) × (slice_index_or rests (k % length rests) [] ≡ line_text k told.now ++ rest)
    × (has 10 told.now ≡ false) × (left ≡ slice_set rests (k % length rests) rest)
IsNextLine k rests left (Err NoMemory) = Unit {0}
IsNextLine k rests left (Err fault) = IsHeadFault (length rests) k (slice_index_or rests (k % length rests) []) fault
    × (slice_index_or rests (k % length rests) [] ≡ [] → ⊥)
    × ((told rest : List ℕ) → slice_index_or rests (k % length rests) [] ≡ line_text k told ++ rest → ⊥)

-- ---- what they say

-- a line reports a number that does not cut
abbrev pub IsUncutTold : List ℕ → Type 0
IsUncutTold told = (rest : List ℕ) × (told ≡ codes "no cut, answer " ++ rest)

-- it states this answer, in which no colon stands
abbrev pub IsAnswerTold : List ℕ → List ℕ → Type 0
IsAnswerTold answer told = (rest : List ℕ) × (told ≡ codes "no cut, answer " ++ (answer ++ 58 ∷ rest)) × (has 58 answer ≡ false)

-- the lines state these cuts, and then of a number that does not cut, if of any
abbrev pub TellCuts : List (List ℕ) → List Cut → Type 0
TellCuts lines cuts = (rest : List (List ℕ)) × (lines ≡ map told_cut cuts ++ rest)
    × ((told : List ℕ) (more : List (List ℕ)) → rest ≡ told ∷ more → IsUncutTold told) × All IsReadCut cuts

-- the lines state these cuts, and this of n numbers that do not cut
abbrev pub AreTold : List Cut → List ℕ → ℕ → List (List ℕ) → Type 0
AreTold cuts uncut n lines = (0 < n) × (lines ≡ told_sweep n cuts uncut) × IsUncutTold uncut × All IsCutOfWords cuts

-- the report of these cuts, after which as many recoveries were cut, with this line of the command that is not cut, which states this answer
abbrev pub joined_text : Depth → List Cut → List ℕ → List ℕ → List ℕ
joined_text depth cuts answer uncut = rows_text cuts ++ uncut ++ codes "\n" ++ verdict_text answer cuts ++ recoveries_text depth cuts

-- that is the report, and says whether each cut was all or nothing, and no recovery made a difference
abbrev pub IsReportOf : Depth → List Cut → List ℕ → Joined → Type 0
IsReportOf depth cuts uncut joined = (answer : List ℕ) × IsAnswerTold answer uncut × (joined.text.items ≡ joined_text depth cuts answer uncut)
    × (joined.is_all_or_nothing ≡ are_whole cuts)

-- these texts, which have no heads, state a sweep in parts, from the first on, and this is its report
abbrev pub AreJoinedInOrder : Depth → List (List ℕ) → Joined → Type 0
AreJoinedInOrder depth texts joined = (cuts : List Cut) × (uncut : List ℕ) × AreDealt texts (told_sweep (length texts) cuts uncut)
    × IsReportOf depth cuts uncut joined

-- these texts, in the order of the lines with which they begin, do so
abbrev pub AreJoined : Depth → List (List ℕ) → Joined → Type 0
AreJoined depth texts joined = (ordered : List (List ℕ)) × AreInOrder cut_label texts ordered × AreJoinedInOrder depth ordered joined

-- the line of the command that is not cut states no answer; or memory was refused
abbrev pub IsNoReport : List Cut → List ℕ → JoinFault → Type 0
IsNoReport cuts uncut NoMemory = Unit {0}
IsNoReport cuts uncut (BadLine m) = (m ≡ length cuts) × ((answer : List ℕ) → IsAnswerTold answer uncut → ⊥)
IsNoReport cuts uncut other = ⊥

-- this line reports neither a cut nor an answer
abbrev pub IsBadLine : List (List ℕ) → ℕ → Type 0
IsBadLine lines m = (m < length lines) × ((c : Cut) → IsCutOfWords c → slice_index_or lines m [] ≡ told_cut c → ⊥)
    × ((answer : List ℕ) → IsAnswerTold answer (slice_index_or lines m []) → ⊥)

-- this line stands after one that reports no cut, and is another, or is one more than there are parts
abbrev pub IsOtherLine : ℕ → List (List ℕ) → ℕ → Type 0
IsOtherLine n lines m = (first : ℕ) × IsUncutTold (slice_index_or lines first []) × (first ≤ m) × (m < length lines)
    × ((first + n ≤ m) ⊎ (slice_index_or lines m [] ≡ slice_index_or lines first [] → ⊥))

-- why the lines of n parts are not those of a sweep: one more is missing, one has no form, or one is another; or memory was refused
abbrev pub IsLinesFault : ℕ → List (List ℕ) → JoinFault → Type 0
IsLinesFault n lines NoMemory = Unit {0}
IsLinesFault n lines (Missing m) = m ≡ length lines
IsLinesFault n lines (Twice m) = ⊥
IsLinesFault n lines (BadLine m) = IsBadLine lines m
IsLinesFault n lines (OtherSweep m) = IsOtherLine n lines m

-- a line reports no cut, and of no command that is not cut; or memory was refused
abbrev pub IsNoCut : List (List ℕ) → JoinFault → Type 0
IsNoCut lines NoMemory = Unit {0}
IsNoCut lines (BadLine m) = IsBadLine lines m
IsNoCut lines other = ⊥

-- the lines after this many are not n that are the same: there are fewer; or one is another, or one more than n
abbrev pub IsNoEnd : ℕ → ℕ → List (List ℕ) → JoinFault → Type 0
IsNoEnd n count lines (Missing m) = (m ≡ length lines) × (length lines < count + n)
IsNoEnd n count lines (OtherSweep m) = (count ≤ m) × (m < length lines)
    × ((count + n ≤ m) ⊎ (slice_index_or lines m [] ≡ slice_index_or lines count [] → ⊥))
IsNoEnd n count lines other = ⊥

-- the lines about fewer than k writes were read, and this is left of the texts
pub record IsReadTo (texts rests : List (List ℕ)) (k : ℕ) : Type 0 where
  pub read : (lines : List (List ℕ)) × (length lines ≡ k) × ((j : ℕ) → j < length texts
      → slice_index_or texts j [] ≡ dealt j (length texts) 0 lines ++ slice_index_or rests j [])
  pub all : length rests ≡ length texts

-- the text that has the next line does not begin with it
abbrev pub IsNextFault : List (List ℕ) → JoinFault → Type 0
IsNextFault texts fault = (rests : List (List ℕ)) × (k : ℕ) × IsReadTo texts rests k
    × IsHeadFault (length texts) k (slice_index_or rests (k % length texts) []) fault

-- why texts that begin in their order are not joined
abbrev pub IsUnjoined : List (List ℕ) → JoinFault → Type 0
IsUnjoined texts fault = IsNextFault texts fault ⊎ ((lines : List (List ℕ)) × AreOrdered texts lines × IsLinesFault (length texts) lines fault)

-- why texts are not joined: the order of their beginnings has a gap, or two of them begin so; or they begin in their order
abbrev pub IsJoinFault : List (List ℕ) → JoinFault → Type 0
IsJoinFault texts fault = AreUnplaced cut_label texts fault ⊎ ((ordered : List (List ℕ)) × AreInOrder cut_label texts ordered × IsUnjoined ordered fault)

-- a sweep is reported in lines: its differences are of words, its recoveries are counted, its answer is of one line and has no colon, and recoveries
-- were cut as deep as this
abbrev pub IsTellable : Depth → Sweep → Type 0
IsTellable depth s = All IsCutOfWords s.cuts.items × (has 10 s.answer.items ≡ false) × (has 58 s.answer.items ≡ false) × (s.depth ≡ depth)

-- the lines of n parts state a sweep, and this is its report; where they are those of a sweep, it is that of the sweep
pub record IsJoinOf (depth : Depth) (n : ℕ) (lines : List (List ℕ)) (result : Result Joined JoinFault) : Type 0 where
  pub fault : IfErr result (λ f. IsLinesFault n lines f)
  pub joined : IfOk result (λ j. (cuts : List Cut) × (uncut : List ℕ) × (lines ≡ told_sweep n cuts uncut)
      × IsReportOf depth cuts uncut j)
  pub whole : (s : Sweep) → IsTellable depth s → lines ≡ told_sweep n s.cuts.items (told_uncut s.answer.items s.after.answers.items)
      → MatchResult result (λ j. (j.text.items ≡ report_text s) × (j.is_all_or_nothing ≡ are_whole s.cuts.items)) (λ fault. fault ≡ NoMemory)

-- the same of lines that state these cuts
pub record IsJoinOfCuts (depth : Depth) (n : ℕ) (lines : List (List ℕ)) (cuts : List Cut) (result : Result Joined JoinFault) : Type 0 where
  pub fault : IfErr result (λ f. IsLinesFault n lines f)
  pub joined : IfOk result (λ j. (uncut : List ℕ) × (lines ≡ told_sweep n cuts uncut)
      × IsReportOf depth cuts uncut j)
  pub whole : (s : Sweep) → IsTellable depth s → lines ≡ told_sweep n s.cuts.items (told_uncut s.answer.items s.after.answers.items)
      → map told_cut cuts ≡ map told_cut s.cuts.items
      → MatchResult result (λ j. (j.text.items ≡ report_text s) × (j.is_all_or_nothing ≡ are_whole s.cuts.items)) (λ fault. fault ≡ NoMemory)

-- part holds each n-th of these cuts, from this place on
abbrev pub IsEvery : ℕ → ℕ → List Cut → List Cut → Type 0
IsEvery first n whole part = (i : ℕ) → slice_get part i ≡ slice_get whole (first + i * n)

-- of n parts of a sweep, the one whose cuts begin at this place
pub record IsPartOf (s : Sweep) (n first : ℕ) (p : Part) : Type 0 where
  pub first_is : p.first ≡ first
  pub step_is : p.step ≡ n
  pub answer : p.sweep.answer.items ≡ s.answer.items
  pub answers : p.sweep.after.answers.items ≡ s.after.answers.items
  pub cuts : IsEvery first n s.cuts.items p.sweep.cuts.items

-- the texts are those of all parts of a sweep without their heads, from the first on
abbrev pub AreBodiesInOrder : Sweep → List (List ℕ) → Type 0
AreBodiesInOrder s texts = (j : ℕ) → j < length texts → (p : Part) × IsPartOf s (length texts) j p × (slice_index_or texts j [] ≡ body_text p)

-- they are those, in any order: each part has the text at a place of its own
abbrev pub AreBodiesOf : Sweep → List (List ℕ) → Type 0
AreBodiesOf s texts = (place : ℕ → ℕ) × ArePlaces (length texts) place
    × ((j : ℕ) → j < length texts → (p : Part) × IsPartOf s (length texts) j p × (slice_index_or texts (place j) [] ≡ body_text p))

-- the texts are those of all parts of a sweep with this name, in any order
abbrev pub ArePartsOf : Sweep → List ℕ → List (List ℕ) → Type 0
ArePartsOf s name texts = (place : ℕ → ℕ) × ArePlaces (length texts) place
    × ((j : ℕ) → j < length texts
    → (p : Part) × IsPartOf s (length texts) j p × (p.name.items ≡ name) × (slice_index_or texts (place j) [] ≡ part_text p))
