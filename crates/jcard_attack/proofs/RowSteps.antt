-- Steps of the rows.
use Rattle.std.proofs.Common.{◌≡◌, ◌∙◌, ℕ, ◌+◌, ◌<◌, ◌≤◌, ◌++◌, ◌∷◌, true, false, if◌then◌else◌, List, [], length, get_or, drop, map, Option, Some, None, ap, refl, sym, append_assoc, append-nil}
use Rattle.std.proofs.lemmas.List.{drop_all, get_or_default}
use Rattle.jcard_texts.proofs.Items.{drop_at}
use Rattle.jcard_attack.specs.Report.{FaultRow, FaultTold, is_alike, longer_row, new_row, open_text, row_text, rows_after, rows_text}

-- a text and what rows still say, whatever faults follow
abbrev pub GoesOn : List ℕ → Option FaultRow → List ℕ → Option FaultRow → FaultTold → Type 0
GoesOn text row old before f = (more : List FaultTold) → text ++ rows_after row more ≡ old ++ rows_after before (f ∷ more)

-- the first fault of all begins a row
pub row_begins : (text : List ℕ) (f : FaultTold) (row : FaultRow) → row ≡ new_row f → GoesOn text (Some row) text None f
unfolding rows_after
row_begins text f row is more = ap (λ r. text ++ rows_after (Some r) more) is

-- a fault of the same kind that came to the same is one more of its row
pub row_grows : (text : List ℕ) (f : FaultTold) (before row : FaultRow) → row ≡ longer_row before f → is_alike before f ≡ true → GoesOn text (Some row) text (Some before) f
unfolding rows_after
row_grows text f before row is alike more = ap (λ r. text ++ rows_after (Some r) more) is
    ∙ ap (λ b. text ++ (if b then rows_after (Some (longer_row before f)) more else row_text before ++ rows_after (Some (new_row f)) more)) (sym alike)

-- any other begins the next row, after the text of the one that it ends
pub row_ends : (old text : List ℕ) (f : FaultTold) (before row : FaultRow) → row ≡ new_row f → is_alike before f ≡ false → text ≡ old ++ row_text before
    → GoesOn text (Some row) old (Some before) f
unfolding rows_after
row_ends old text f before row is other told more =
    ap (λ r. text ++ rows_after (Some r) more) is ∙ ap (λ t. t ++ rows_after (Some (new_row f)) more) told
    ∙ append_assoc old (row_text before) (rows_after (Some (new_row f)) more)
    ∙ ap (λ b. old ++ (if b then rows_after (Some (longer_row before f)) more else row_text before ++ rows_after (Some (new_row f)) more)) (sym other)

-- after the last fault the open row is reported
pub rows_last : (row : Option FaultRow) → rows_after row [] ≡ open_text row
unfolding rows_after
rows_last None = refl
rows_last (Some row) = refl

-- a loop over faults has come to the next one
pub rows_next : {S : Type 0} (f : S → FaultTold) (xs : List S) (i : ℕ) (x : S) (text old : List ℕ) (row before : Option FaultRow) → i < length xs → x ≡ get_or xs i x
    → GoesOn text row old before (f x) → text ++ rows_after row (map f (drop (i + 1) xs)) ≡ old ++ rows_after before (map f (drop i xs))
rows_next f xs i x text old row before h e on = on (map f (drop (i + 1) xs)) ∙ ap (λ l. old ++ rows_after before (map f l)) (sym (drop_at xs i x h e))

pub rows_next_read : {S : Type 0} (f : S → FaultTold) (xs : List S) (i : ℕ) (d : S) (text old : List ℕ) (row before : Option FaultRow) → i < length xs
    → GoesOn text row old before (f (get_or xs i d)) → text ++ rows_after row (map f (drop (i + 1) xs)) ≡ old ++ rows_after before (map f (drop i xs))
rows_next_read f xs i d text old row before h on = rows_next f xs i (get_or xs i d) text old row before h (get_or_default xs i d (get_or xs i d) h) on

-- and to the end
pub rows_done : {S : Type 0} (f : S → FaultTold) (xs : List S) (i : ℕ) (text : List ℕ) (row : Option FaultRow) → length xs ≤ i
    → text ++ rows_after row (map f (drop i xs)) ≡ text ++ open_text row
rows_done f xs i text row h = ap (λ l. text ++ rows_after row (map f l)) (drop_all i xs h) ∙ ap (λ l. text ++ l) (rows_last row)
