-- Steps of the rows.
use Rattle.std.proofs.Common.{◌≡◌, ◌∙◌, ℕ, ◌+◌, ◌<◌, ◌≤◌, ◌++◌, true, false, if◌then◌else◌, List, length, get_or, drop, ap, sym, append_assoc, Result, Ok, Err}
use Rattle.std.specs.Prelude.{OnOk}
use Rattle.std.proofs.lemmas.List.{drop_all}
use Rattle.std.specs.Str.{bytes_eq}
use Rattle.jcard_outcomes.specs.Report.{outcome_text, row_text, rows_from}
use Rattle.jcard_outcomes.specs.declared.standing.Cut.{Cut}
use Rattle.jcard_texts.proofs.Items.{drop_at}

-- a cut that left the same is one more of its row
pub rows_same : (cuts : List Cut) (i first last : ℕ) (outcome : List ℕ) (c : Cut) → i < length cuts → c ≡ get_or cuts i c
    → bytes_eq outcome (outcome_text c) ≡ true → rows_from first last outcome (drop i cuts) ≡ rows_from first (last + 1) outcome (drop (i + 1) cuts)
unfolding rows_from
rows_same cuts i first last outcome c h e same = ap (rows_from first last outcome) (drop_at cuts i c h e)
    ∙ ap (λ b. if b then rows_from first (last + 1) outcome (drop (i + 1) cuts)
    else row_text first last outcome ++ rows_from (last + 1) (last + 1) (outcome_text c) (drop (i + 1) cuts)) same

-- one that left something else begins the next row, after the text with the row that it ends
pub rows_other : (cuts : List Cut) (i first last : ℕ) (outcome : List ℕ) (c : Cut) (text next : List ℕ) → i < length cuts → c ≡ get_or cuts i c
    → bytes_eq outcome (outcome_text c) ≡ false → next ≡ text ++ row_text first last outcome
    → next ++ rows_from (last + 1) (last + 1) (outcome_text c) (drop (i + 1) cuts) ≡ text ++ rows_from first last outcome (drop i cuts)
unfolding rows_from
rows_other cuts i first last outcome c text next h e other told =
    let rest : List ℕ = rows_from (last + 1) (last + 1) (outcome_text c) (drop (i + 1) cuts) in
    ap (λ t. t ++ rest) told ∙ append_assoc text (row_text first last outcome) rest
    ∙ ap (λ t. text ++ t) (sym (ap (rows_from first last outcome) (drop_at cuts i c h e)
    ∙ ap (λ b. if b then rows_from first (last + 1) outcome (drop (i + 1) cuts) else row_text first last outcome ++ rest) other))

-- after the last cut the row is reported
pub rows_end : (cuts : List Cut) (i first last : ℕ) (outcome : List ℕ) → length cuts ≤ i
    → rows_from first last outcome (drop i cuts) ≡ row_text first last outcome
unfolding rows_from
rows_end cuts i first last outcome h = ap (rows_from first last outcome) (drop_all i cuts h)

-- the text is whole where the row that was begun is reported
pub rows_told : {E : Type 0} (r : Result Unit E) (text end start row : List ℕ) → text ++ row ≡ start → OnOk r (end ≡ text ++ row) → OnOk r (end ≡ start)
rows_told (Ok done) text end start row e p = p ∙ e
rows_told (Err fault) text end start row e p = tt
