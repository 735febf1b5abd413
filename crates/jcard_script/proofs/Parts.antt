-- The lines of a text that grows by a byte.
use Rattle.std.proofs.Common.{◌≡◌, ℕ, suc, take, slice_index, length-take, ◌<◌, ◌≤◌, ◌==◌, Bool, true, false, cond, List, [], ◌∷◌, ◌++◌, length, refl, sym, ◌∙◌, ap, arith, append_assoc, append-nil}
use Rattle.std.proofs.Common.{length-append}
use Rattle.std.specs.List.{slice_split, onto_first}
use Rattle.std.proofs.Common.{subst}
use Rattle.std.proofs.lemmas.Bool.{ne_eqb}
use Rattle.std.proofs.lemmas.List.{take_all}
use Rattle.std.specs.Str.Lines.{lines, lines_of_parts, strip_carriage_return}
use Rattle.jcard_script.specs.Script.{ended_lines, ended_parts}
use Rattle.memchr.specs.Find.{Nowhere, Passes, is_byte}
use Rattle.std.proofs.lemmas.Grind.{common_steps}
use Rattle.jcard_script.specs.Session.{unfinished_line, last_part, IsUnbroken}

-- the parts between line feeds
abbrev pub parts : List ℕ → List (List ℕ)
parts text = slice_split (λ b. b == 10) text

-- one more byte in the last part
abbrev grown : List (List ℕ) → ℕ → List (List ℕ)
grown [] b = (b ∷ []) ∷ []
grown (x ∷ []) b = (x ++ b ∷ []) ∷ []
grown (x ∷ y ∷ more) b = x ∷ grown (y ∷ more) b

onto_some : (x : ℕ) (ps : List (List ℕ)) → 0 < length (onto_first x ps)
onto_some x [] = omega arith
onto_some x (p ∷ ps) = omega arith

cond_some : (t : Bool) (ps qs : List (List ℕ)) → 0 < length ps → 0 < length qs → 0 < length (cond t ps qs)
cond_some true ps qs h k = h
cond_some false ps qs h k = k

-- there is a part
pub parts_some : (s : List ℕ) → 0 < length (parts s)
parts_some [] = omega arith
parts_some (c ∷ s) = cond_some (c == 10) ([] ∷ parts s) (onto_first c (parts s)) (omega arith) (onto_some c (parts s))

other_step : (t : Bool) (c b : ℕ) (ps qs : List (List ℕ)) → 0 < length ps → qs ≡ grown ps b
    → cond t ([] ∷ qs) (onto_first c qs) ≡ grown (cond t ([] ∷ ps) (onto_first c ps)) b
other_step t c b [] qs h e = absurd (omega arith)
other_step true c b (x ∷ ps) qs h e = rw e refl
other_step false c b (x ∷ []) qs h e = rw e refl
other_step false c b (x ∷ y ∷ ps) qs h e = rw e refl

-- a byte that is no line feed goes to the last part
pub parts_other : (s : List ℕ) (b : ℕ) → (b == 10) ≡ false → parts (s ++ b ∷ []) ≡ grown (parts s) b
parts_other [] b h = rw h refl
parts_other (c ∷ s) b h = other_step (c == 10) c b (parts s) (parts (s ++ b ∷ [])) (parts_some s) (parts_other s b h)

feed_step : (t : Bool) (c : ℕ) (ps qs : List (List ℕ)) → 0 < length ps → qs ≡ ps ++ [] ∷ []
    → cond t ([] ∷ qs) (onto_first c qs) ≡ cond t ([] ∷ ps) (onto_first c ps) ++ [] ∷ []
feed_step t c [] qs h e = absurd (omega arith)
feed_step true c (x ∷ ps) qs h e = rw e refl
feed_step false c (x ∷ ps) qs h e = rw e refl

-- a line feed begins another part
pub parts_feed : (s : List ℕ) → parts (s ++ 10 ∷ []) ≡ parts s ++ [] ∷ []
parts_feed [] = refl
parts_feed (c ∷ s) = feed_step (c == 10) c (parts s) (parts (s ++ 10 ∷ [])) (parts_some s) (parts_feed s)

ended_grown : (ps : List (List ℕ)) (b : ℕ) → ended_parts (grown ps b) ≡ ended_parts ps
ended_grown [] b = refl
ended_grown (x ∷ []) b = refl
ended_grown (x ∷ y ∷ []) b = refl
ended_grown (x ∷ y ∷ z ∷ ps) b = ap (λ l. strip_carriage_return x ∷ l) (ended_grown (y ∷ z ∷ ps) b)

last_grown : (ps : List (List ℕ)) (b : ℕ) → last_part (grown ps b) ≡ last_part ps ++ b ∷ []
last_grown [] b = refl
last_grown (x ∷ []) b = refl
last_grown (x ∷ y ∷ []) b = refl
last_grown (x ∷ y ∷ z ∷ ps) b = last_grown (y ∷ z ∷ ps) b

ended_next : (ps : List (List ℕ)) → 0 < length ps → ended_parts (ps ++ [] ∷ []) ≡ ended_parts ps ++ strip_carriage_return (last_part ps) ∷ []
ended_next [] h = absurd (omega arith)
ended_next (x ∷ []) h = refl
ended_next (x ∷ y ∷ ps) h = ap (λ l. strip_carriage_return x ∷ l) (ended_next (y ∷ ps) (omega arith))

last_next : (ps : List (List ℕ)) → last_part (ps ++ [] ∷ []) ≡ []
last_next [] = refl
last_next (x ∷ []) = refl
last_next (x ∷ y ∷ ps) = last_next (y ∷ ps)

-- ---- what a caller cites

pub ended_other : (s : List ℕ) (b : ℕ) → (b == 10) ≡ false → ended_lines (s ++ b ∷ []) ≡ ended_lines s
ended_other s b h = ap ended_parts (parts_other s b h) ∙ ended_grown (parts s) b

pub begun_other : (s : List ℕ) (b : ℕ) → (b == 10) ≡ false → unfinished_line (s ++ b ∷ []) ≡ unfinished_line s ++ b ∷ []
begun_other s b h = ap last_part (parts_other s b h) ∙ last_grown (parts s) b

pub ended_feed : (s : List ℕ) → ended_lines (s ++ 10 ∷ []) ≡ ended_lines s ++ strip_carriage_return (unfinished_line s) ∷ []
ended_feed s = ap ended_parts (parts_feed s) ∙ ended_next (parts s) (parts_some s)

pub begun_feed : (s : List ℕ) → unfinished_line (s ++ 10 ∷ []) ≡ []
begun_feed s = ap last_part (parts_feed s) ∙ last_next (parts s)

-- bytes without a line feed end no line
pub more_unbroken : (s bs : List ℕ) → IsUnbroken bs → (ended_lines (s ++ bs) ≡ ended_lines s) × (unfinished_line (s ++ bs) ≡ unfinished_line s ++ bs)
more_unbroken s [] h = (ap ended_lines (append-nil s), ap unfinished_line (append-nil s) ∙ sym (append-nil (unfinished_line s)))
more_unbroken s (b ∷ bs) h =
    let first = h 0 (omega arith) in
    let whole = sym (append_assoc s (b ∷ []) bs) in
    let rest = more_unbroken (s ++ b ∷ []) bs (λ k lt. h (suc k) (omega arith)) in (
      ap ended_lines whole ∙ rest.0 ∙ ended_other s b first,
      ap unfinished_line whole ∙ rest.1 ∙ ap (λ l. l ++ bs) (begun_other s b first) ∙ append_assoc (unfinished_line s) (b ∷ []) bs,
    )

-- bytes without a line feed and then one end the line that had begun
pub line_ended : (s bs : List ℕ) → IsUnbroken bs
    → (ended_lines (s ++ bs ++ 10 ∷ []) ≡ ended_lines s ++ strip_carriage_return (unfinished_line s ++ bs) ∷ [])
    × (unfinished_line (s ++ bs ++ 10 ∷ []) ≡ [])
line_ended s bs h =
    let more = more_unbroken s bs h in (
      ended_feed (s ++ bs) ∙ ap (λ l. l ++ strip_carriage_return (unfinished_line (s ++ bs)) ∷ []) more.0
          ∙ ap (λ l. ended_lines s ++ strip_carriage_return l ∷ []) more.1,
      begun_feed (s ++ bs),
    )

-- the bytes before the first line feed have none
pub unbroken_before : (bytes : List ℕ) (n : ℕ) → Nowhere (Passes (is_byte 10) bytes) 0 n → IsUnbroken (take n bytes)
unbroken_before bytes n none k h =
    let below : k < n = omega (arith, h, length-take n bytes) in
    ap (λ b. b == 10) (taken bytes n k below) ∙ no_feed (slice_index bytes k == 10) (none k (omega arith) below)
  where
    taken : (bytes : List ℕ) (n k : ℕ) → k < n → slice_index (take n bytes) k ≡ slice_index bytes k
    taken bytes n k h = grind (arith, common_steps)

    no_feed : (t : Bool) → (t ≡ true → ⊥) → t ≡ false
    no_feed true h = absurd (h refl)
    no_feed false h = refl

-- bytes among which there is no line feed
pub unbroken_whole : (bytes : List ℕ) → Nowhere (Passes (is_byte 10) bytes) 0 (length bytes) → IsUnbroken bytes
unbroken_whole bytes none = subst IsUnbroken (take_all (length bytes) bytes (omega arith)) (unbroken_before bytes (length bytes) none)

-- the line that the end of a text ends
abbrev pub last_line : List ℕ → List (List ℕ)
last_line [] = []
last_line (c ∷ line) = (c ∷ line) ∷ []

lines_last : (ps : List (List ℕ)) → lines_of_parts ps ≡ ended_parts ps ++ last_line (last_part ps)
lines_last [] = refl
lines_last ([] ∷ []) = refl
lines_last ((c ∷ x) ∷ []) = let some : (length (c ∷ x) == 0) ≡ false = ne_eqb (length (c ∷ x)) 0 (λ e. omega arith) in rw some refl
lines_last (x ∷ y ∷ ps) = ap (λ l. strip_carriage_return x ∷ l) (lines_last (y ∷ ps))

-- the lines are those that a line feed ends, and the last, if it has a byte
pub lines_whole : (s : List ℕ) → lines s ≡ ended_lines s ++ last_line (unfinished_line s)
lines_whole s = lines_last (parts s)

ended_byte : (s : List ℕ) (c : ℕ) (t : Bool) → (c == 10) ≡ t → (rest : List (List ℕ)) × (ended_lines (s ++ c ∷ []) ≡ ended_lines s ++ rest) × (length rest ≤ 1)
ended_byte s c true h =
    let e : c ≡ 10 = grind arith in
    (strip_carriage_return (unfinished_line s) ∷ [], rw e (ended_feed s), omega arith)
ended_byte s c false h = ([], ended_other s c h ∙ sym (append-nil (ended_lines s)), omega arith)

-- more bytes end more lines, at most one each
pub ended_more : (s t : List ℕ) → (rest : List (List ℕ)) × (ended_lines (s ++ t) ≡ ended_lines s ++ rest) × (length rest ≤ length t)
ended_more s [] = ([], ap ended_lines (append-nil s) ∙ sym (append-nil (ended_lines s)), omega arith)
ended_more s (c ∷ t) =
    let one = ended_byte s c (c == 10) refl in
    let all = ended_more (s ++ c ∷ []) t in
    let count : length (one.0 ++ all.0) ≤ length (c ∷ t) = omega (arith, one.2, all.2, length-append one.0 all.0) in
    (one.0 ++ all.0, ap ended_lines (sym (append_assoc s (c ∷ []) t)) ∙ all.1 ∙ ap (λ l. l ++ all.0) one.1 ∙ append_assoc (ended_lines s) one.0 all.0, count)

-- no more lines end than there are bytes
pub ended_few : (s : List ℕ) → length (ended_lines s) ≤ length s
ended_few s = let all = ended_more [] s in omega (arith, ap length all.1, all.2)
