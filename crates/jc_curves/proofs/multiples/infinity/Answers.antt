use Rattle.std.proofs.Common.{◌≡◌, ◌∙◌, ◌*◌, ◌%◌, ℕ, refl, ap}
use Rattle.std.proofs.Math.Nat.{mod-eq_of_lt}
use Rattle.jc_numbers.specs.Numbers.{value}
use Rattle.jc_curves.specs.Elements.{residue_of}
use Rattle.jc_curves.proofs.Limbs.{one_in, one_value}
use Rattle.jc_curves.proofs.multiples.infinity.Goals as goal

pub element_of-one-requires-clause-residue : goal.element_of-one-requires-clause-residue
element_of-one-requires-clause-residue c = one_in c.args.field.now _ refl c.requires.field.1 c.requires.few

pub returns-clause-infinite : goal.returns-clause-infinite
returns-clause-infinite c =
    let one : residue_of c.args.field.now c.element_of-one.result.limbs ≡ 1 = c.element_of-one.ensures.residue ∙ one_value _ refl in
    record {
      infinite = refl;
      invertible = (1, ap (λ (z : ℕ). (z * 1) % value c.args.field.now) one ∙ mod-eq_of_lt c.requires.field.1);
    }
