-- Parts of a sweep: what each says, and what all of them say together.
use Rattle.std.specs.Prelude.{ℕ, ◌≡◌, ◌+◌, ◌%◌, ◌<◌, ◌^◌, ◌==◌, ◌&&◌, Bool, false, List, [], ◌∷◌, ◌++◌, map, replicate, length, codes, decimal, Option, Some, None, IfSome, is_none, if◌then◌else◌}
use Rattle.std.specs.List.{list_any, slice_index_or}
use Rattle.jcard_outcomes.specs.Report.{in_line, standing_text, words_lost_text}
use Rattle.jcard_outcomes.specs.declared.heaps.Difference.{Difference}
use Rattle.jcard_outcomes.specs.declared.part.Part.{Part}
use Rattle.jcard_outcomes.specs.declared.part.Share.{Share}
use Rattle.jcard_outcomes.specs.declared.recoveries.Recoveries.{Recoveries}
use Rattle.jcard_outcomes.specs.declared.standing.Cut.{Cut}
use Rattle.jcard_outcomes.specs.declared.standing.Standing.{Standing}
use Rattle.jcard_outcomes.specs.declared.standing.Standing.TheVariants.{Changed, ChangedByCalls}

-- ---- lines

-- a text has this byte
abbrev pub has : ℕ → List ℕ → Bool
has byte text = list_any (λ x. x == byte) text

-- how a line begins that is about number k of what the label says
unfoldable pub numbered : List ℕ → ℕ → List ℕ
numbered label k = label ++ decimal k ++ codes ": "

-- the label of lines about cuts
abbrev pub cut_label : List ℕ
cut_label = codes "cut after "

-- how the line begins about the power cut after k writes
abbrev pub line_start : ℕ → List ℕ
line_start k = numbered cut_label k

-- that line, which states this
abbrev pub line_text : ℕ → List ℕ → List ℕ
line_text k told = line_start k ++ (told ++ codes "\n")

-- after how many writes the last of the recoveries was cut that made a difference, if any did
abbrev pub difference_told : Option ℕ → List ℕ
difference_told None = codes "alike"
difference_told (Some n) = decimal n

-- recoveries were tried in one way, which made no difference, as where none is cut
abbrev pub is_one_way : Recoveries → Bool
is_one_way r = (r.ways == 1) && is_none r.difference

-- what a line reports of the recoveries that were cut after a cut, unless they are such: in how many ways, and of a difference
abbrev pub recovered_told : Recoveries → List ℕ
recovered_told r = if is_one_way r then [] else codes "recoveries " ++ (decimal r.ways ++ 32 ∷ (difference_told r.difference ++ 44 ∷ codes " "))

-- what it reports of what a cut left: how that stands, how many words are lost, and the answers
unfoldable pub told_left : Cut → List ℕ
told_left c = standing_text c.standing ++ codes ", " ++ words_lost_text c.lost ++ codes ", answers " ++ in_line c.answers.items

-- what it reports of a cut
abbrev pub told_cut : Cut → List ℕ
told_cut c = recovered_told c.recoveries ++ told_left c

-- what stands after the first comma of it
abbrev pub cut_tail : ℕ → List ℕ → List ℕ
cut_tail lost answers = codes " " ++ (decimal lost ++ 32 ∷ (codes "words lost, answers " ++ answers))

-- what it says where the command is not cut: its answer, and those after it
unfoldable pub told_uncut : List ℕ → List ℕ → List ℕ
told_uncut answer answers = codes "no cut, answer " ++ (answer ++ codes ": " ++ in_line answers ++ codes "as after")

-- the lines of these cuts, which are the one after k writes and each n-th after it, and of the first such number that does not cut
unfoldable pub lines_text : ℕ → ℕ → List Cut → List ℕ → List ℕ
lines_text k n [] uncut = line_text k uncut
lines_text k n (c ∷ cuts) uncut = line_text k (told_cut c) ++ lines_text (k + n) n cuts uncut

-- the head of a part's text, which names its sweep
abbrev pub head_text : List ℕ → List ℕ
head_text name = codes "sweep " ++ (name ++ codes "\n")

-- what a part says after its head
abbrev pub body_text : Part → List ℕ
body_text p = lines_text p.first p.step p.sweep.cuts.items (told_uncut p.sweep.answer.items p.sweep.after.answers.items)

-- what a part says: of which sweep it is, and its lines
unfoldable pub part_text : Part → List ℕ
part_text p = head_text p.name.items ++ body_text p

-- ---- all parts

-- of these lines, which are the one about k writes and those after it: those that part j + 1 of n has, to which each number belongs
-- whose remainder by n is j
unfoldable pub dealt : ℕ → ℕ → ℕ → List (List ℕ) → List ℕ
dealt j n k [] = []
dealt j n k (told ∷ more) = (if k % n == j then line_text k told else []) ++ dealt j n (k + 1) more

-- a text states the lines of one part of n, in their order
abbrev pub AreDealt : List (List ℕ) → List (List ℕ) → Type 0
AreDealt texts lines = (j : ℕ) → j < length texts → slice_index_or texts j [] ≡ dealt j (length texts) 0 lines

-- what all lines of a sweep in n parts say: each cut, and n numbers that do not cut
abbrev pub told_sweep : ℕ → List Cut → List ℕ → List (List ℕ)
told_sweep n cuts uncut = map told_cut cuts ++ replicate n uncut

-- a difference is one of words
abbrev pub AreWords : Difference → Type 0
AreWords d = (d.address < 65536) × (d.before < 65536) × (d.now < 65536)

abbrev pub IsOfWords : Standing → Type 0
IsOfWords (Changed d) = AreWords d
IsOfWords (ChangedByCalls d) = AreWords d
IsOfWords other = Unit {0}

-- a text reports no recoveries at its beginning
abbrev pub IsUnrecovered : List ℕ → Type 0
IsUnrecovered text = (more : List ℕ) → text ≡ codes "recoveries " ++ more → ⊥

-- so are those of what a cut left, and the words that it lost are as many as an image may have
abbrev pub IsLeftOfWords : Cut → Type 0
IsLeftOfWords c = IsOfWords c.standing × (c.lost < 65536)

-- recoveries are counted: their ways by a u64, and the writes of one by a word
abbrev pub AreCounted : Recoveries → Type 0
AreCounted r = (r.ways < 2 ^ 64) × IfSome r.difference (λ n. n < 65536)

-- a cut left words, and the recoveries after it are counted
abbrev pub IsCutOfWords : Cut → Type 0
IsCutOfWords c = IsLeftOfWords c × AreCounted c.recoveries

-- a cut that a line says
abbrev pub IsReadCut : Cut → Type 0
IsReadCut c = (has 44 (standing_text c.standing) ≡ false) × IsCutOfWords c

-- ---- the name of a part

-- the text `I/N` names part I of N: its first cut lets I - 1 writes pass, and each N-th number after it belongs to it
abbrev pub IsShareText : List ℕ → Share → Type 0
IsShareText text s = (text ≡ decimal (s.first + 1) ++ 47 ∷ decimal s.step) × (s.first < s.step) × (s.step < 65536)
