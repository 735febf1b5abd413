use Rattle.std.proofs.Common.{◌≡◌, ◌∙◌, ◌++◌, ◌∷◌, [], ℕ, List, IsTrue, nat_eq, ap, arith, subst, sym}
use Rattle.std.proofs.lemmas.Bool.Decides.{nat_tests}
use Rattle.jcard_script.specs.Session.{unfinished_line}
use Rattle.jcard_script.proofs.Parts.{begun_feed}
use Rattle.jcard_script.proofs.begun.ends_a_line.Goals as goal

line_feed : (b : ℕ) → IsTrue (nat_eq b 10) → b ≡ 10
line_feed b h = grind (arith, nat_tests)

pub returns-in-Some : goal.returns-in-Some
returns-in-Some c = λ is.
    let rest : List ℕ = c.in-Some.field-0-1.now in
    let whole = c.in-Some.ensures.cases.0 ∙ ap (λ (b : ℕ). rest ++ b ∷ []) (line_feed c.in-Some.last.now is) in
    subst (λ (s : List ℕ). unfinished_line s ≡ []) (sym whole) (begun_feed rest)
