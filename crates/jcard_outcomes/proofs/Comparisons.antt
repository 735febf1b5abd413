-- Steps of the comparison of rows with a text.
use Rattle.std.proofs.Common.{◌≡◌, ◌∙◌, ℕ, ◌+◌, ◌<◌, ◌≤◌, List, [], ◌∷◌, ◌++◌, length, get_or, take, drop, refl, ap, sym, subst, arith}
use Rattle.std.specs.String.{string_bytes}
use Rattle.std.proofs.lemmas.List.{length-take-le, take-append-drop, take_all, take_more}
use Rattle.jcard_outcomes.specs.Answers.{FitsUnspaced}
use Rattle.jcard_outcomes.specs.Comparison.{AreAnswered, IsAnswered, IsFirstUnlike, IsLine, IsUnlike}
use Rattle.jcard_outcomes.specs.declared.row.Row.{Row}
use Rattle.jcard_texts.proofs.Items.{drop_at}

-- no row is answered by nothing
pub answered_none : (text : List ℕ) → AreAnswered [] text text
unfolding AreAnswered
answered_none text = refl

-- one row more
pub answered_more : (rows : List Row) (r : Row) (text between rest : List ℕ) → AreAnswered rows text between → IsAnswered r between rest
    → AreAnswered (rows ++ r ∷ []) text rest
unfolding AreAnswered
answered_more [] r text between rest e h = (rest, subst (λ t. IsAnswered r t rest) (sym e) h, refl)
answered_more (q ∷ rows) r text between rest a h = (a.0, a.1, answered_more rows r a.0 between rest a.2 h)

pub answered_next : (rows : List Row) (i : ℕ) (r : Row) (text rest told more : List ℕ) → i < length rows → r ≡ get_or rows i r
    → AreAnswered (take i rows) text rest → IsLine told → rest ≡ told ++ 10 ∷ more → FitsUnspaced (string_bytes r.wanted) told
    → AreAnswered (take (i + 1) rows) text more
answered_next rows i r text rest told more h e a line split fits =
    subst (λ l. AreAnswered l text more) (sym (take_more rows i r h ∙ ap (λ x. take i rows ++ x ∷ []) (sym e)))
    (answered_more (take i rows) r text rest more a (told, line, split, fits))

-- this row is the first that is not answered as it says
pub unlike_at : (rows : List Row) (i : ℕ) (r : Row) (text rest told : List ℕ) → i < length rows → r ≡ get_or rows i r
    → AreAnswered (take i rows) text rest → IsUnlike r rest told → IsFirstUnlike rows text i told
unlike_at rows i r text rest told h e a u = (
  take i rows,
  drop (i + 1) rows,
  r,
  rest,
  sym (take-append-drop i rows) ∙ ap (λ l. take i rows ++ l) (drop_at rows i r h e),
  length-take-le i rows (omega arith),
  a,
  u,
)

-- all rows are
pub answered_all : (rows : List Row) (i : ℕ) (text rest : List ℕ) → length rows ≤ i → AreAnswered (take i rows) text rest → AreAnswered rows text rest
answered_all rows i text rest h a = subst (λ l. AreAnswered l text rest) (take_all i rows h) a
