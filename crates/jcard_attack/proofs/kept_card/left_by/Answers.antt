use Rattle.std.proofs.Common.{◌≡◌, ◌==◌, ◌∙◌, ℕ, List, [], ◌∷◌, true, arith, length, refl, subst, sym}
use Rattle.std.specs.Prelude.{IfSome}
use Rattle.std.proofs.lemmas.Bool.{eqb-true}
use Rattle.jcard_attack.specs.KeptCard.{Leaves}
use Rattle.jcard_attack.proofs.kept_card.left_by.Goals as goal

nothing : (bytes : List ℕ) → (length bytes == 0) ≡ true → bytes ≡ []
nothing [] h = refl
nothing (b ∷ bytes) h = absurd (omega (arith, eqb-true (length (b ∷ bytes)) 0 h))

pub returns-then-is_empty : goal.returns-then-is_empty
returns-then-is_empty c =
    let none = nothing c.args.probe.now (sym c.is_empty.ensures ∙ c.if-is_empty.true) in
    subst (λ probe. IfSome c.left_alone.result (λ left. Leaves c.args.card probe left)) (sym none) c.left_alone.ensures
