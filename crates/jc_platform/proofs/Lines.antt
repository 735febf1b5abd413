-- The parts of a table, one after another.
use Rattle.std.proofs.Common.{◌≡◌, ◌+◌, ◌<◌, ◌≤◌, ℕ, true, false, cond, ◌==◌, List, [], ◌∷◌, ◌++◌, Option, Some, None, length, reverse, refl, ap, sym, subst}
use Rattle.std.proofs.Common.{◌∙◌, append_assoc, arith}
use Rattle.std.specs.List.{onto_first}
use Rattle.std.specs.Option.{MatchOption, is_some}
use Rattle.std.proofs.lemmas.Bool.{false≢true}
use Rattle.std.proofs.lemmas.List.{reverse-append}
use Rattle.jc_platform.specs.declared.row.Row.{Row}
use Rattle.jc_platform.specs.PackedEntry.{entries, is_packed, parts_of, row_in, row_of_entry}
use Rattle.jc_platform.specs.Rows.{Above, above, parts_at, row_of, row_of_line}
use Rattle.jc_platform.specs.Table.{Say, IsBad, IsFirstBad}

-- one more line at the end
pub reverse-cons : {A : Type 0} (x : A) (xs ys : List A) → reverse (x ∷ xs) ++ ys ≡ reverse xs ++ x ∷ ys
reverse-cons x xs ys = ap (λ zs. zs ++ ys) (reverse-append (x ∷ []) xs) ∙ append_assoc (reverse xs) (x ∷ []) ys

-- the parts of a list, of which there is one at least
pub record HasParts (parts : List (List ℕ)) : Type 0 where
  pub first : List ℕ
  pub more : List (List ℕ)
  pub are : parts ≡ first ∷ more

onto_first_part : (x : ℕ) (parts : List (List ℕ)) → HasParts (onto_first x parts)
onto_first_part x [] = record { first = x ∷ []; more = []; are = refl }
onto_first_part x (part ∷ parts) = record { first = x ∷ part; more = parts; are = refl }

pub has_parts : (c : ℕ) (bytes : List ℕ) → HasParts (parts_at c bytes)
has_parts c [] = record { first = []; more = []; are = refl }
has_parts c (x ∷ xs) =
    elim (x == c) as (λ b. HasParts (cond b ([] ∷ parts_at c xs) (onto_first x (parts_at c xs))))
    [ true ↦ record { first = []; more = parts_at c xs; are = refl } | false ↦ onto_first_part x (parts_at c xs) ]

-- a line of five words or more is no row
pub five_words : (a : Above) (line k r x s y z f g : List ℕ) → parts_at 32 line ≡ k ∷ parts_at 32 r → parts_at 32 r ≡ x ∷ parts_at 32 s
    → parts_at 32 s ≡ y ∷ parts_at 32 z → parts_at 32 z ≡ f ∷ parts_at 32 g → row_of_line a line ≡ None
five_words a line k r x s y z f g one two three four =
    let last = has_parts 32 g in
    let all : parts_at 32 line ≡ k ∷ x ∷ y ∷ f ∷ last.first ∷ last.more =
    one ∙ ap (λ (ps : List (List ℕ)). k ∷ ps) (two ∙ ap (λ (ps : List (List ℕ)). x ∷ ps)
    (three ∙ ap (λ (ps : List (List ℕ)). y ∷ ps) (four ∙ ap (λ (ps : List (List ℕ)). f ∷ ps) last.are))) in
    ap (row_of a) all

-- where the fourth word's end was found, there are more
pub more_words : {P : Type 0} (a : Above) (line k r x s y z : List ℕ) (X : Type 0) (f g : P → List ℕ) (o : Option P) → parts_at 32 line ≡ k ∷ parts_at 32 r
    → parts_at 32 r ≡ x ∷ parts_at 32 s → parts_at 32 s ≡ y ∷ parts_at 32 z → MatchOption o X (λ p. parts_at 32 z ≡ f p ∷ parts_at 32 (g p)) → is_some o ≡ true
    → row_of_line a line ≡ None
more_words a line k r x s y z X f g None one two three four h = absurd (false≢true h)
more_words a line k r x s y z X f g (Some p) one two three four h = five_words a line k r x s y z (f p) (g p) one two three four

-- a part that others follow is bad where it is no row
pub bad_row : (text : List ℕ) (a : Above) (part : List ℕ) (parts : List (List ℕ)) → HasParts parts → row_in text a part ≡ None → IsBad text a part parts
bad_row text a part parts s h = subst (λ (m : List (List ℕ)). IsBad text a part m) (sym s.are) h

-- this many parts of a table were read and say what is above, and these are to come, of the bytes that are left
pub record IsReadTo (text rest : List ℕ) (left : List (List ℕ)) (number : ℕ) (a : Above) : Type 0 where
  pub lines : List (List ℕ)
  pub rows : List Row
  pub parts : parts_of text ≡ reverse lines ++ left
  pub said : Say text lines rows
  pub above_is : a ≡ above rows
  pub number_is : number ≡ length lines
  pub room : number + length rest ≤ length text

-- before the first part
pub at_first : (text : List ℕ) (left : List (List ℕ)) (a : Above) → parts_of text ≡ left → a ≡ above [] → IsReadTo text text left 0 a
at_first text left a all e = record { lines = []; rows = []; parts = all; said = tt; above_is = e; number_is = refl; room = omega arith }

-- after one more part
pub after_part : (text rest more part : List ℕ) (left others : List (List ℕ)) (n : ℕ) (row : Row) (a b : Above) → IsReadTo text rest left n a
    → left ≡ part ∷ others → length more < length rest → row_in text a part ≡ Some row → ((rows : List Row) → a ≡ above rows → b ≡ above (row ∷ rows))
    → IsReadTo text more others (n + 1) b
after_part text rest more part left others n row a b s cut shorter is_row puts = record {
  lines = part ∷ s.lines;
  rows = row ∷ s.rows;
  parts = s.parts ∙ ap (λ ps. reverse s.lines ++ ps) cut ∙ sym (reverse-cons part s.lines others);
  said = (subst (λ (x : Above). row_in text x part ≡ Some row) s.above_is is_row, s.said);
  above_is = puts s.rows s.above_is;
  number_is = let e : n ≡ length s.lines = s.number_is in omega arith;
  room = let r : n + length rest ≤ length text = s.room in omega arith;
}

-- the part that comes is the first bad one
pub bad_part : (text rest part : List ℕ) (left others : List (List ℕ)) (n : ℕ) (a : Above) → IsReadTo text rest left n a → left ≡ part ∷ others
    → IsBad text a part others → IsFirstBad text (n + 1)
bad_part text rest part left others n a s cut bad = (
  s.lines,
  s.rows,
  part,
  others,
  s.parts ∙ ap (λ ps. reverse s.lines ++ ps) cut,
  s.said,
  (let e : n ≡ length s.lines = s.number_is in omega arith),
  subst (λ (x : Above). IsBad text x part others) s.above_is bad,
)

-- the parts of a table are entries where it is packed, and each of them is read so
pub are_entries : (text : List ℕ) → is_packed text ≡ true → parts_of text ≡ entries text
are_entries text e = ap (λ b. cond b (entries text) (parts_at 10 text)) e

pub read_as_entry : (text : List ℕ) (a : Above) (part : List ℕ) → is_packed text ≡ true → row_in text a part ≡ row_of_entry a part
read_as_entry text a part e = ap (λ b. cond b (row_of_entry a part) (row_of_line a part)) e

-- else lines
pub are_lines : (text : List ℕ) → is_packed text ≡ false → parts_of text ≡ parts_at 10 text
are_lines text e = ap (λ b. cond b (entries text) (parts_at 10 text)) e

pub read_as_line : (text : List ℕ) (a : Above) (part : List ℕ) → is_packed text ≡ false → row_in text a part ≡ row_of_line a part
read_as_line text a part e = ap (λ b. cond b (row_of_entry a part) (row_of_line a part)) e

-- there is an entry, or what is left of one
pub has_entries : (bytes : List ℕ) → HasParts (entries bytes)
has_entries [] = record { first = []; more = []; are = refl }
has_entries (a ∷ []) = record { first = a ∷ []; more = []; are = refl }
has_entries (a ∷ b ∷ []) = record { first = a ∷ b ∷ []; more = []; are = refl }
has_entries (a ∷ b ∷ c ∷ []) = record { first = a ∷ b ∷ c ∷ []; more = []; are = refl }
has_entries (a ∷ b ∷ c ∷ d ∷ more) = record { first = a ∷ b ∷ c ∷ d ∷ []; more = entries more; are = refl }
