-- What is kept of a table reads as the table.
use Rattle.std.proofs.Common.{◌≡◌, ℕ, true, false, List, [], ◌∷◌, ◌++◌, Option, Some, None, reverse, refl, ap, sym, subst, ◌∙◌, append_assoc, ⊎_elim, inl, inr}
use Rattle.std.specs.Prelude.{Ok, Err}
use Rattle.std.specs.Option.{option_and_then, option_map}
use Rattle.std.proofs.lemmas.Option.{same_Some}
use Rattle.std.proofs.lemmas.List.{reverse-append, reverse-reverse}
use Rattle.jc_platform.specs.declared.fault.TableFault.{TableFault}
use Rattle.jc_platform.specs.declared.fault.TableFault.TheVariants.{BadTable}
use Rattle.jc_platform.specs.declared.row.Row.{Row}
use Rattle.jc_platform.specs.PackedEntry.{entries, is_packed, row_in, row_of_entry}
use Rattle.jc_platform.specs.Rows.{above, row_of_line}
use Rattle.jc_platform.specs.Table.{IsFirstBad, Reads, Say, Spells}
use Rattle.jc_platform.specs.Tokens.{Tokens}
use Rattle.jc_platform.proofs.Fitting.{part_fits}
use Rattle.jc_platform.proofs.Lines.{are_entries, read_as_entry, read_as_line, reverse-cons}
use Rattle.jc_platform.proofs.OneAnswer.{no_fault}
use Rattle.jc_platform.specs.Packing.{IsPackedForm, ReadsAlike, entries_of, entry_of}
use Rattle.jc_platform.proofs.RowEntries.{Says, entry_says, line_byte}
use Rattle.jc_platform.proofs.Options.{map_some, then_some, there_so}

-- ---- a table spells one list of rows

ended : (l m : List (List ℕ)) → reverse l ++ [] ∷ [] ≡ reverse m ++ [] ∷ [] → l ≡ m
ended l m e =
    let first : reverse (reverse l ++ [] ∷ []) ≡ [] ∷ l = reverse-append (reverse l) ([] ∷ []) ∙ ap (λ (x : List (List ℕ)). [] ∷ x) (reverse-reverse l) in
    let second : reverse (reverse m ++ [] ∷ []) ≡ [] ∷ m = reverse-append (reverse m) ([] ∷ []) ∙ ap (λ (x : List (List ℕ)). [] ∷ x) (reverse-reverse m) in
    let both : [] ∷ l ≡ [] ∷ m = sym first ∙ ap reverse e ∙ second in
    cc

same_rows : (text : List ℕ) (lines : List (List ℕ)) (rs ss : List Row) → Say text lines rs → Say text lines ss → rs ≡ ss
same_rows text [] [] [] s t = refl
same_rows text [] [] (x ∷ ss) s t = absurd t
same_rows text [] (r ∷ rs) ss s t = absurd s
same_rows text (line ∷ lines) [] ss s t = absurd s
same_rows text (line ∷ lines) (r ∷ rs) [] s t = absurd t
same_rows text (line ∷ lines) (r ∷ rs) (x ∷ ss) s t =
    let below : rs ≡ ss = same_rows text lines rs ss s.1 t.1 in
    let both : Some r ≡ Some x = sym (subst (λ (rows : List Row). row_in text (above rows) line ≡ Some r) below s.0) ∙ t.0 in
    cc

pub spelt_once : (text : List ℕ) (rs ss : List Row) → Spells text rs → Spells text ss → rs ≡ ss
spelt_once text rs ss s t =
    let same : s.0 ≡ t.0 = ended s.0 t.0 (sym s.1 ∙ t.1) in
    same_rows text t.0 rs ss (subst (λ (x : List (List ℕ)). Say text x rs) same s.2) t.2

-- ---- entries spell the rows that lines spell

-- entries say these rows; entries and rows from the last one up
abbrev Tell : List (List ℕ) → List Row → Type 0
Tell [] [] = Unit {0}
Tell [] (row ∷ rows) = ⊥
Tell (entry ∷ more) [] = ⊥
Tell (entry ∷ more) (row ∷ rows) = (row_of_entry (above rows) entry ≡ Some row) × Tell more rows

-- bytes are these entries, whatever follows, and the entries say these rows
record AreEntries (bytes : List ℕ) (rows : List Row) : Type 0 where
  pub parts : List (List ℕ)
  pub cut : (more : List ℕ) → entries (bytes ++ more) ≡ reverse parts ++ entries more
  pub tell : Tell parts rows

one_more : (bytes entry : List ℕ) (row : Row) (rows : List Row) → AreEntries bytes rows → Says (above rows) row entry → AreEntries (bytes ++ entry) (row ∷ rows)
one_more bytes entry row rows are own =
    let four = own.kind ∷ own.x ∷ own.y ∷ own.z ∷ [] in
    subst (λ (e : List ℕ). AreEntries (bytes ++ e) (row ∷ rows)) (sym own.is) (record {
      parts = four ∷ are.parts;
      cut = λ more. ap entries (append_assoc bytes four more) ∙ are.cut (four ++ more) ∙ sym (reverse-cons four are.parts (entries more));
      tell = (own.says, are.tell);
    })

are_entries_of : (text : List ℕ) → is_packed text ≡ false → (lines : List (List ℕ)) (rows : List Row) → Say text lines rows → (bytes : List ℕ)
    → entries_of rows ≡ Some bytes → AreEntries bytes rows
are_entries_of text unpacked [] [] said bytes e =
    let none : [] ≡ bytes = same_Some [] bytes e in
    subst (λ (x : List ℕ). AreEntries x []) none (record { parts = []; cut = λ more. refl; tell = tt })
are_entries_of text unpacked [] (row ∷ rows) said bytes e = absurd said
are_entries_of text unpacked (line ∷ lines) [] said bytes e = absurd said
are_entries_of text unpacked (line ∷ lines) (row ∷ rows) said bytes e =
    let below = then_some (λ (b : List ℕ). option_map (λ entry. b ++ entry) (entry_of row)) (entries_of rows) bytes e in
    let own = map_some (λ (entry : List ℕ). below.0 ++ entry) (entry_of row) bytes below.2 in
    let is : row_of_line (above rows) line ≡ Some row = sym (read_as_line text (above rows) line unpacked) ∙ said.0 in
    let says = entry_says (above rows) row own.0 (part_fits text (above rows) line row said.0) (there_so _ (row_of_line (above rows) line) row is
    (line_byte (above rows) line)) own.1 in
    subst (λ (x : List ℕ). AreEntries x (row ∷ rows)) own.2
    (one_more below.0 own.0 row rows (are_entries_of text unpacked lines rows said.1 below.0 below.1) says)

said_of : (bytes : List ℕ) → is_packed bytes ≡ true → (parts : List (List ℕ)) (rows : List Row) → Tell parts rows → Say bytes parts rows
said_of bytes packed [] [] tell = tt
said_of bytes packed [] (row ∷ rows) tell = absurd tell
said_of bytes packed (entry ∷ more) [] tell = absurd tell
said_of bytes packed (entry ∷ more) (row ∷ rows) tell =
    (read_as_entry bytes (above rows) entry packed ∙ tell.0, said_of bytes packed more rows tell.1)

spelt_packed : (text bytes : List ℕ) (rows : List Row) → is_packed text ≡ false → Spells text rows → entries_of rows ≡ Some bytes → is_packed bytes ≡ true
    → Spells bytes rows
spelt_packed text bytes rows unpacked spells e packed =
    let are = are_entries_of text unpacked spells.0 rows spells.2 bytes e in
    (are.parts, are_entries bytes packed ∙ ap entries (sym (append-none bytes)) ∙ are.cut [], said_of bytes packed are.parts rows are.tell)
  where
    append-none : (xs : List ℕ) → xs ++ [] ≡ xs
    append-none [] = refl
    append-none (x ∷ xs) = ap (λ (ys : List ℕ). x ∷ ys) (append-none xs)

-- the packed form of a text reads as the table that the text reads as
pub reads_packed : (text bytes : List ℕ) (t : Tokens) → IsPackedForm text bytes → Reads text (Ok t) → Reads bytes (Ok t)
reads_packed text bytes t form read =
    let same : form.entries.0 ≡ read.1.0 = spelt_once text form.entries.0 read.1.0 form.entries.1 read.1.1 in
    let e : entries_of read.1.0 ≡ Some bytes = subst (λ (rows : List Row). entries_of rows ≡ Some bytes) same form.entries.2 in
    (form.short, (read.1.0, spelt_packed text bytes read.1.0 form.a_text read.1.1 e form.extended, read.1.2))

pub reads_alike : ReadsAlike
reads_alike text kept (Ok t) is read = ⊎_elim (λ form. reads_packed text kept t form read) (λ same. subst (λ (x : List ℕ). Reads x (Ok t)) (sym same.1) read) is
reads_alike text kept (Err fault) is read =
    ⊎_elim (λ form. absurd (no_fault text form.a_table.0 fault form.a_table.1 read)) (λ same. subst (λ (x : List ℕ). Reads x (Err fault)) (sym same.1) read) is

-- ---- a text has one packed form at most, and none where it cannot be made

-- where the rows of a text have no entries, it has no packed form
pub never_packed : (text bytes : List ℕ) (rows : List Row) → Spells text rows → entries_of rows ≡ None → IsPackedForm text bytes → ⊥
never_packed text bytes rows spells none form =
    let same : form.entries.0 ≡ rows = spelt_once text form.entries.0 rows form.entries.1 spells in
    let e : entries_of rows ≡ Some bytes = subst (λ (rs : List Row). entries_of rs ≡ Some bytes) same form.entries.2 in
    absurd (let g : None ≡ Some bytes = sym none ∙ e in cc)

-- where they have entries, these are its packed form, if it has one
pub packed_so : (text bytes others : List ℕ) (rows : List Row) → Spells text rows → entries_of rows ≡ Some bytes → IsPackedForm text others → bytes ≡ others
packed_so text bytes others rows spells e form =
    let same : form.entries.0 ≡ rows = spelt_once text form.entries.0 rows form.entries.1 spells in
    let f : entries_of rows ≡ Some others = subst (λ (rs : List Row). entries_of rs ≡ Some others) same form.entries.2 in
    same_Some bytes others (sym e ∙ f)

-- a text with a bad line has none
pub never_bad : (text bytes : List ℕ) (n : ℕ) → IsFirstBad text n → IsPackedForm text bytes → ⊥
never_bad text bytes n bad form =
    let table = form.a_table in
    no_fault text table.0 (BadTable n) table.1 (inr (inl (table.1.0, bad)))

-- nor has one that reads as no table
pub never_read : (text bytes : List ℕ) (fault : TableFault) → Reads text (Err fault) → IsPackedForm text bytes → ⊥
never_read text bytes fault read form = no_fault text form.a_table.0 fault form.a_table.1 read

-- ---- entries, row after row

lost : (xs ys : List Row) → entries_of ys ≡ None → entries_of (xs ++ ys) ≡ None
lost [] ys e = e
lost (x ∷ xs) ys e = ap (option_and_then (λ (bytes : List ℕ). option_map (λ entry. bytes ++ entry) (entry_of x))) (lost xs ys e)

first_lost : (o : Option (List ℕ)) (e : Option (List ℕ)) → e ≡ None → option_and_then (λ (bytes : List ℕ). option_map (λ (entry : List ℕ). bytes ++ entry) e) o ≡ None
first_lost None e none = refl
first_lost (Some bytes) e none = ap (option_map (λ (entry : List ℕ). bytes ++ entry)) none

-- where a row has no entry, no list of rows with it has any
pub no_entries : (all done more : List Row) (row : Row) → all ≡ reverse done ++ row ∷ more → entry_of row ≡ None → entries_of (reverse all) ≡ None
no_entries all done more row is none =
    let turned : reverse all ≡ reverse more ++ row ∷ done =
    ap reverse is ∙ reverse-append (reverse done) (row ∷ more) ∙ ap (λ (x : List Row). reverse (row ∷ more) ++ x) (reverse-reverse done)
    ∙ reverse-cons row more done in
    ap entries_of turned ∙ lost (reverse more) (row ∷ done) (first_lost (entries_of done) (entry_of row) none)

-- with one more row there is one more entry
pub next_entry : (done : List Row) (row : Row) (bytes entry : List ℕ) → entries_of done ≡ Some bytes → entry_of row ≡ Some entry
    → entries_of (row ∷ done) ≡ Some (bytes ++ entry)
next_entry done row bytes entry below own =
    ap (option_and_then (λ (b : List ℕ). option_map (λ (e : List ℕ). b ++ e) (entry_of row))) below
    ∙ ap (option_map (λ (e : List ℕ). bytes ++ e)) own
