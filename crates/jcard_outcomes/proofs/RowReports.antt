-- Steps of the report.
use Rattle.std.proofs.Common.{◌≡◌, ◌∙◌, ℕ, ◌+◌, ◌<◌, ◌≤◌, List, [], ◌∷◌, ◌++◌, length, get_or, drop, min, refl, ap, ap₂, sym, append-nil, append_assoc}
use Rattle.std.proofs.lemmas.List.{drop_all}
use Rattle.jcard_outcomes.specs.Junit.{cards_cases, case_text, rows_cases, suite_text, suites_text}
use Rattle.jcard_outcomes.specs.RowReport.{lines_text, passed_in, passed_of, tested_text}
use Rattle.jcard_outcomes.specs.Row.{line_text, script_text}
use Rattle.jcard_outcomes.specs.declared.card_rows.CardRows.{CardRows}
use Rattle.jcard_outcomes.specs.declared.tested.Tested.{Tested}
use Rattle.jcard_outcomes.specs.declared.row.Row.{Row}
use Rattle.jcard_texts.proofs.Items.{drop_at}

pub lines_none : lines_text [] ≡ []
unfolding lines_text
lines_none = refl

pub lines_more : (t : Tested) (ts : List Tested) → lines_text (t ∷ ts) ≡ tested_text t ++ lines_text ts
unfolding lines_text
lines_more t ts = refl

pub script_none : script_text [] ≡ []
unfolding script_text
script_none = refl

pub script_more : (r : Row) (rows : List Row) → script_text (r ∷ rows) ≡ line_text r ++ script_text rows
unfolding script_text
script_more r rows = refl

-- the rows of one file more
pub passed_more : (ts : List Tested) (i : ℕ) (t : Tested) → i < length ts → t ≡ get_or ts i t
    → passed_of (drop i ts) ≡ passed_in t.outcome + passed_of (drop (i + 1) ts)
unfolding passed_of
passed_more ts i t h e = ap passed_of (drop_at ts i t h e)

pub passed_end : (ts : List Tested) (i : ℕ) → length ts ≤ i → passed_of (drop i ts) ≡ 0
unfolding passed_of
passed_end ts i h = ap passed_of (drop_all i ts h)

pub suites_none : suites_text [] ≡ []
unfolding suites_text
suites_none = refl

pub suites_more : (t : Tested) (ts : List Tested) → suites_text (t ∷ ts) ≡ suite_text t ++ suites_text ts
unfolding suites_text
suites_more t ts = refl

-- the test case of one row more
pub case_more : (t : Tested) (first : ℕ) (rows : List Row) (i : ℕ) (r : Row) (start text next : List ℕ) → i < length rows → r ≡ get_or rows i r
    → next ≡ text ++ case_text t (min (first + i) 18446744073709551615) r → text ++ rows_cases t first i (drop i rows) ≡ start
    → next ++ rows_cases t first (i + 1) (drop (i + 1) rows) ≡ start
unfolding rows_cases
case_more t first rows i r start text next h e n all =
    let piece : List ℕ = case_text t (min (first + i) 18446744073709551615) r in
    ap (λ x. x ++ rows_cases t first (i + 1) (drop (i + 1) rows)) n ∙ append_assoc text piece (rows_cases t first (i + 1) (drop (i + 1) rows))
    ∙ ap (λ x. text ++ x) (sym (ap (rows_cases t first i) (drop_at rows i r h e))) ∙ all

pub case_whole : (t : Tested) (first : ℕ) (rows : List Row) (i : ℕ) (start text : List ℕ) → length rows ≤ i
    → text ++ rows_cases t first i (drop i rows) ≡ start → text ≡ start
unfolding rows_cases
case_whole t first rows i start text h all = sym (append-nil text) ∙ ap (λ x. text ++ x) (sym (ap (rows_cases t first i) (drop_all i rows h))) ∙ all

-- those of one card more
pub card_more : (t : Tested) (first next_first : ℕ) (cards : List CardRows) (i : ℕ) (card : CardRows) (start text next : List ℕ) → i < length cards
    → card ≡ get_or cards i card → next ≡ text ++ rows_cases t first 0 card.rows.items → next_first ≡ min (first + length card.rows.items) 18446744073709551615
    → text ++ cards_cases t first (drop i cards) ≡ start → next ++ cards_cases t next_first (drop (i + 1) cards) ≡ start
unfolding cards_cases
card_more t first next_first cards i card start text next h e n c all =
    let more : List ℕ = cards_cases t (min (first + length card.rows.items) 18446744073709551615) (drop (i + 1) cards) in
    ap₂ (λ (x : List ℕ) (k : ℕ). x ++ cards_cases t k (drop (i + 1) cards)) n c ∙ append_assoc text (rows_cases t first 0 card.rows.items) more
    ∙ ap (λ x. text ++ x) (sym (ap (cards_cases t first) (drop_at cards i card h e))) ∙ all

pub card_whole : (t : Tested) (first : ℕ) (cards : List CardRows) (i : ℕ) (start text : List ℕ) → length cards ≤ i
    → text ++ cards_cases t first (drop i cards) ≡ start → text ≡ start
unfolding cards_cases
card_whole t first cards i start text h all = sym (append-nil text) ∙ ap (λ x. text ++ x) (sym (ap (cards_cases t first) (drop_all i cards h))) ∙ all
