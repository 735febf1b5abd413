-- The lines of a text, one after another.
use Rattle.std.proofs.Common.{◌≡◌, ◌+◌, ℕ, false, List, [], ◌∷◌, ◌++◌, Option, Some, None, length, reverse, refl, ap, sym, subst, ◌∙◌}
use Rattle.std.specs.Option.{MatchOption}
use Rattle.jc_platform.specs.declared.row.Row.{Row}
use Rattle.jc_platform.specs.PackedEntry.{is_packed, parts_of, row_in}
use Rattle.jc_platform.specs.Rows.{Above, above, parts_at, row_of_line}
use Rattle.jc_platform.specs.Table.{IsBad, IsFirstBad, Say, Spells}
use Rattle.jc_platform.proofs.Lines.{are_lines, bad_row, has_parts, read_as_line, reverse-cons}

-- lines of a text were read, and their rows are these, from the last one up; the rest is to come
pub record AreReadAs (text rest : List ℕ) (rows : List Row) (a : Above) : Type 0 where
  pub lines : List (List ℕ)
  pub parts : parts_of text ≡ reverse lines ++ parts_at 10 rest
  pub said : Say text lines rows
  pub above_is : a ≡ above rows

pub before_lines : (text : List ℕ) (rows : List Row) (a : Above) → is_packed text ≡ false → rows ≡ [] → a ≡ above [] → AreReadAs text text rows a
before_lines text rows a unpacked none e =
    subst (λ (x : List Row). AreReadAs text text x a) (sym none) (record { lines = []; parts = are_lines text unpacked; said = tt; above_is = e })

pub after_line : (text rest line more : List ℕ) (row : Row) (rows all : List Row) (a b : Above) → is_packed text ≡ false → AreReadAs text rest rows a
    → parts_at 10 rest ≡ line ∷ parts_at 10 more → row_of_line a line ≡ Some row → ((rows : List Row) → a ≡ above rows → b ≡ above (row ∷ rows))
    → all ≡ row ∷ rows → AreReadAs text more all b
after_line text rest line more row rows all a b unpacked s cut is_row puts is =
    subst (λ (x : List Row). AreReadAs text more x b) (sym is) (record {
      lines = line ∷ s.lines;
      parts = s.parts ∙ ap (λ ps. reverse s.lines ++ ps) cut ∙ sym (reverse-cons line s.lines (parts_at 10 more));
      said = (subst (λ (x : Above). row_in text x line ≡ Some row) s.above_is (read_as_line text a line unpacked ∙ is_row), s.said);
      above_is = puts rows s.above_is;
    })

-- the part that comes is the first bad one
first_bad : (text rest part : List ℕ) (others : List (List ℕ)) (rows : List Row) (a : Above) → AreReadAs text rest rows a → parts_at 10 rest ≡ part ∷ others
    → IsBad text a part others → (n : ℕ) × IsFirstBad text n
first_bad text rest part others rows a s cut bad = (
  length s.lines + 1,
  (
    s.lines,
    rows,
    part,
    others,
    s.parts ∙ ap (λ ps. reverse s.lines ++ ps) cut,
    s.said,
    refl,
    subst (λ (x : Above). IsBad text x part others) s.above_is bad,
  ),
)

pub bad_line : (text rest line more : List ℕ) (rows : List Row) (a : Above) → is_packed text ≡ false → AreReadAs text rest rows a
    → parts_at 10 rest ≡ line ∷ parts_at 10 more → row_of_line a line ≡ None → (n : ℕ) × IsFirstBad text n
bad_line text rest line more rows a unpacked s cut none =
    first_bad text rest line (parts_at 10 more) rows a s cut
    (bad_row text a line (parts_at 10 more) (has_parts 10 more) (read_as_line text a line unpacked ∙ none))

pub unended_line : (text rest : List ℕ) (rows : List Row) (a : Above) → AreReadAs text rest rows a → parts_at 10 rest ≡ rest ∷ [] → (rest ≡ [] → ⊥)
    → (n : ℕ) × IsFirstBad text n
unended_line text rest rows a s cut some = first_bad text rest rest [] rows a s cut some

pub after_all : (text rest : List ℕ) (rows : List Row) (a : Above) → AreReadAs text rest rows a → rest ≡ [] → Spells text rows
after_all text rest rows a s none = (s.lines, s.parts ∙ ap (λ (x : List ℕ). reverse s.lines ++ parts_at 10 x) none, s.said)

-- what is so where something is there, and where nothing is
pub none_so : {A : Type 0} (X : Type 0) (P : A → Type 0) (o : Option A) → MatchOption o X P → o ≡ None → X
none_so X P None is e = is
none_so X P (Some x) is e = absurd (let g : Some x ≡ None = e in cc)

pub some_so : {A : Type 0} (X : Type 0) (P : A → Type 0) (o : Option A) (x : A) → MatchOption o X P → o ≡ Some x → P x
some_so X P None x is e = absurd (let g : None ≡ Some x = e in cc)
some_so X P (Some y) x is e = let g : Some y ≡ Some x = e in let same : y ≡ x = cc in subst P same is
