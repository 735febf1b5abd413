use Rattle.std.proofs.Common.{ℕ, refl, sym, subst}
use Rattle.jc_numbers.specs.Inverses.{HasInverse, IsInverse}
use Rattle.jc_numbers.specs.Numbers.{value}
use Rattle.jc_curves.specs.Elements.{residue_of}
use Rattle.jc_curves.proofs.SignatureLaws.{has_inverse_mod, inverse_mod}
use Rattle.jc_curves.proofs.signatures.factors_of.Goals as goal

pub returns-in_default : goal.returns-in_default
returns-in_default c =
    λ has. c.in_default.ensures
    (subst (λ (k : ℕ). HasInverse (value c.args.order.now) k) (sym c.in_order-s_element.ensures.residue)
    (has_inverse_mod (value c.args.order.now) (value c.args.signature.now.s.limbs) has))

pub returns : goal.returns
returns c =
    let n : ℕ = value c.args.order.now in
    let v : ℕ = residue_of c.args.order.now c.in-Some.inverse.limbs in
    let inverse : IsInverse n (value c.args.signature.now.s.limbs) v =
    inverse_mod n (value c.args.signature.now.s.limbs) v (subst (λ (k : ℕ). IsInverse n k v) c.in_order-s_element.ensures.residue c.in-Some.ensures.1) in
    (record { inverse = v; inverted = inverse; u_is = c.product_in_order.ensures; v_is = c.product_in_order-2.ensures }, refl)
