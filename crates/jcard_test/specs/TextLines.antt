-- The lines of a text of rows.
use Rattle.std.specs.Prelude.{ℕ, zero, suc, ◌≡◌, ◌≢◌, ◌==◌, ◌<◌, ◌≤◌, ◌⊎◌, ◌+◌, ◌-◌, ◌/◌, ◌%◌, List, [], ◌∷◌, ◌++◌, codes, decimal, min}
use Rattle.std.specs.Borrow.{Bor}
use Rattle.std.specs.Str.{NoCharPasses}
use Rattle.std.specs.Str.Lines.{lines}
use Rattle.std.specs.Str.Pattern.{FindsText}
use Rattle.std.specs.Str.Replace.{ReplacesMatches}
use Rattle.std.specs.String.{string_bytes}
use Rattle.hex.specs.Hex.{encode_upper}
use Rattle.jcard_test.specs.Lines.{Says}
use Rattle.jcard_test.specs.declared.line.Line.{Line}
use Rattle.jcard_test.specs.declared.line.Line.TheVariants.{For, End}
use Rattle.jcard_test.specs.declared.loops.Loop.{Loop}
use Rattle.jcard_test.specs.declared.numbered_line.Numbered.{Numbered}

-- a line with this number and text
abbrev pub IsLineOf : ℕ → List ℕ → Numbered → Type 0
IsLineOf n text line = (line.number ≡ n) × (string_bytes line.text ≡ text)

-- these texts, all with this number
unfoldable pub AreAllNumbered : ℕ → List (List ℕ) → List Numbered → Type 0
AreAllNumbered n [] [] = Unit {0}
AreAllNumbered n (text ∷ texts) (line ∷ more) = IsLineOf n text line × AreAllNumbered n texts more
AreAllNumbered n texts more = ⊥

-- the lines of a text, all with this number
abbrev pub AreLinesOf : ℕ → List ℕ → List Numbered → Type 0
AreLinesOf n text all = AreAllNumbered n (lines text) all

-- ---- loops

-- digits without a zero in front, where one stands there
abbrev pub IsShortened : List ℕ → List ℕ → Type 0
IsShortened digits text = (digits ≡ codes "0" ++ text) ⊎ ((text ≡ digits) × ((rest : List ℕ) → digits ≢ codes "0" ++ rest))

-- the digits of a number of 16 bits in upper case hexadecimal: two, or as many as it has
abbrev pub IsHexOf : ℕ → List ℕ → Type 0
IsHexOf k text = ((k < 256) × (text ≡ encode_upper (k ∷ []))) ⊎ ((256 ≤ k) × IsShortened (encode_upper (k / 256 ∷ k % 256 ∷ [])) text)

-- a text with this one in place of each mark
abbrev pub IsReplaced : List ℕ → List ℕ → List ℕ → List ℕ → Type 0
IsReplaced mark to text replaced = (m : Bor (List ℕ)) × (m.now ≡ mark) × (n : ℕ)
    × ReplacesMatches (λ (p : Bor (List ℕ)). FindsText p.now) (λ p q. q.now ≡ p.now) to n m text replaced

-- a line of a loop for a number: in place of the number's name, and of `h`, in braces stand its digits
abbrev pub IsCopy : List ℕ → ℕ → Numbered → Numbered → Type 0
IsCopy name k line copy = (copy.number ≡ line.number) × (hexadecimal named : List ℕ) × IsHexOf k hexadecimal
    × IsReplaced (codes "{" ++ name ++ codes "}") (decimal k) (string_bytes line.text) named
    × IsReplaced (codes "{h}") hexadecimal named (string_bytes copy.text)

-- the lines of a loop for a number
unfoldable pub AreCopies : List ℕ → ℕ → List Numbered → List Numbered → Type 0
AreCopies name k [] [] = Unit {0}
AreCopies name k (line ∷ body) (copy ∷ copies) = IsCopy name k line copy × AreCopies name k body copies
AreCopies name k body copies = ⊥

-- the same for n numbers, from k on
unfoldable pub AreRepeated : List ℕ → ℕ → ℕ → List Numbered → List Numbered → Type 0
AreRepeated name k zero body all = all ≡ []
AreRepeated name k (suc n) body all = (one more : List Numbered) × AreCopies name k body one × AreRepeated name (k + 1) n body more × (all ≡ one ++ more)

-- a loop that line n begins after these lines
pub record IsBegun (n : ℕ) (name : List ℕ) (first last : ℕ) (before : List Numbered) (l : Loop) : Type 0 where
  pub line : l.number ≡ n
  pub named : string_bytes l.name ≡ name
  pub from_first : l.first ≡ first
  pub to_last : l.last ≡ last
  pub behind : l.before.items ≡ before

-- ---- lines, one after the other

-- one more line
abbrev pub IsOneMore : ℕ → List ℕ → List Numbered → List Numbered → Type 0
IsOneMore n text before after = (line : Numbered) × IsLineOf n text line × (after ≡ before ++ line ∷ [])

-- these lines are those of the innermost loop: after what stood before it they stand once for each of its numbers
abbrev pub EndsInnermost : List Loop → List Loop → List Numbered → List Numbered → Type 0
EndsInnermost open_before open_after body after = (l : Loop) × (all : List Numbered) × (open_before ≡ open_after ++ l ∷ [])
    × AreRepeated (string_bytes l.name) l.first (l.last + 1 - l.first) body all × (after ≡ l.before.items ++ all)

-- line n, which says so, was taken, with these loops open and these lines after the beginning of the innermost of them: it begins one, ends
-- that one, or stands after those lines
abbrev pub IsTakenIn : ℕ → List ℕ → Line → List Loop → List Loop → List Numbered → List Numbered → Type 0
IsTakenIn n text (For name first last) open_before open_after before after = (l : Loop) × IsBegun n name.now first last before l
    × (open_after ≡ open_before ++ l ∷ []) × (after ≡ [])
IsTakenIn n text End open_before open_after before after = EndsInnermost open_before open_after before after
    ⊎ ((open_before ≡ []) × (open_after ≡ []) × IsOneMore n (codes "end without for") before after)
IsTakenIn n text other open_before open_after before after = (open_after ≡ open_before) × IsOneMore n text before after

-- these texts were taken, the first as line n, and no number is above 2^64 - 1
unfoldable pub AreTaken : ℕ → List (List ℕ) → List Loop → List Numbered → List Loop → List Numbered → Type 0
AreTaken n [] open_before before open_after after = (open_after ≡ open_before) × (after ≡ before)
AreTaken n (text ∷ texts) open_before before open_after after = (said : Line) × (between : List Loop) × (lines : List Numbered) × Says text said
    × IsTakenIn (min n 18446744073709551615) text said open_before between before lines × AreTaken (n + 1) texts between lines open_after after

-- a text whose lines were taken so: where a loop is open, the lines before the outermost one, and one that says so
abbrev pub IsEnded : List Loop → List Numbered → List Numbered → Type 0
IsEnded [] lines all = all ≡ lines
IsEnded (outermost ∷ inner) lines all = IsOneMore outermost.number (codes "for without end") outermost.before.items all

-- the lines of a text, those of loops as often as they stand there
abbrev pub IsUnrolled : List ℕ → List Numbered → Type 0
IsUnrolled text all = (loops : List Loop) × (taken : List Numbered) × AreTaken 1 (lines text) [] [] loops taken × IsEnded loops taken all

-- a file with this name in the folder of the file of this path has that path: no slash (47) stands after the folder
abbrev pub IsBeside : List ℕ → List ℕ → List ℕ → Type 0
IsBeside path name beside = (folder file : List ℕ) × (path ≡ folder ++ file) × NoCharPasses (λ c. c == 47) file
    × ((folder ≡ []) ⊎ ((above : List ℕ) × (folder ≡ above ++ 47 ∷ []))) × (beside ≡ folder ++ name)
