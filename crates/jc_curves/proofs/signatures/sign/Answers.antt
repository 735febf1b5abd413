use Rattle.std.proofs.Common.{◌≡◌, ◌∙◌, ◌≤◌, ◌%◌, ◌^◌, ℕ, length, ap, arith}
use Rattle.jc_numbers.specs.Numbers.{value}
use Rattle.jc_curves.specs.Curves.{octets}
use Rattle.jc_curves.proofs.PointBytes.{held, whole_number}
use Rattle.jc_curves.proofs.signatures.sign.Goals as goal

pub returns-in_default : goal.returns-in_default
returns-in_default c =
    let below = rw (c.number_of-key.ensures.number, ← c.curve.view_is) at (c.is_in_order.ensures.0 c.if-not-is_in_order.false) in
    let none = rw (c.number_of-key.ensures.number, c.number_of_digest-e.ensures, c.number_of-k.ensures.number, ← c.curve.view_is) at c.in_default.ensures in
    rw (← c.curve.view_is) (below, λ nonce. none)

pub returns : goal.returns
returns c =
    let n : ℕ = value c.curve.inside.order in
    let size : ℕ = octets c.curve.inside.order_bits in
    let fits : n ≤ 256 ^ size = omega (arith, held n c.curve.inside.order_bits c.curve.invariant.order_counted) in
    let below = rw (c.number_of-key.ensures.number, ← c.curve.view_is) at (c.is_in_order.ensures.0 c.if-not-is_in_order.false) in
    let nonce = rw (c.number_of-k.ensures.number, ← c.curve.view_is) at (c.is_in_order-2.ensures.0 c.if-not-is_in_order-2.false) in
    let signed = rw (c.number_of-key.ensures.number, c.number_of_digest-e.ensures, c.number_of-k.ensures.number, ← c.curve.view_is) at c.in-Some.ensures in
    let long_r : length c.args.r.now ≡ size = rw (← c.curve.view_is) at c.requires.r in
    let long_s : length c.args.s.now ≡ size = rw (← c.curve.view_is) at c.requires.s in
    let r_is = whole_number _ _ n size (c.write.ensures ∙ ap (λ (k : ℕ). value c.in-Some.signature.r.limbs % 256 ^ k) long_r) signed.1 fits in
    let s_is = whole_number _ _ n size (c.write-2.ensures ∙ ap (λ (k : ℕ). value c.in-Some.signature.s.limbs % 256 ^ k) long_s) signed.2 fits in
    rw (← c.curve.view_is, r_is, s_is) (below, nonce, signed.0)
