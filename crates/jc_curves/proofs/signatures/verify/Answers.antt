use Rattle.std.proofs.Common.{ℕ, refl}
use Rattle.jc_numbers.specs.Numbers.{number_of_bytes, value}
use Rattle.jc_curves.specs.Calls.{digest_number}
use Rattle.jc_curves.specs.Curves.{CurveNumbers, numbers_of}
use Rattle.jc_curves.specs.Elements.{residue_of}
use Rattle.jc_curves.specs.PointValues.{point_of}
use Rattle.jc_curves.proofs.SignatureLaws.{no_sum_verified, verified_from, verified_to}
use Rattle.jc_curves.proofs.Standing.{true_false}
use Rattle.jc_curves.proofs.signatures.verify.Goals as goal

pub returns-in_default-sum_of_multiples : goal.returns-in_default-sum_of_multiples
returns-in_default-sum_of_multiples c =
    let numbers : CurveNumbers =
    numbers_of c.curve.inside.field c.curve.inside.order c.curve.inside.a c.curve.inside.b c.curve.inside.generator c.curve.inside.cofactor
    c.curve.inside.field_bits c.curve.inside.order_bits in
    let e : ℕ = digest_number c.curve.inside.order_bits c.args.digest.now in
    let r : ℕ = number_of_bytes c.args.r.now in
    let s : ℕ = number_of_bytes c.args.s.now in
    let f = c.in-Some-checked_factors.factors in
    let x : ℕ = residue_of c.curve.inside.field c.in-Some.key.x.limbs in
    let y : ℕ = residue_of c.curve.inside.field c.in-Some.key.y.limbs in
    let above = c.curve.invariant.order_is.1 in
    let point = rw (c.field_length-size.ensures.length, ← c.curve.view_is) at c.in-Some.ensures.1 in
    let checked = rw (← c.curve.view_is) at c.in-Some-checked_factors.ensures in
    rw (← c.curve.view_is) (
      λ holds. true_false _ holds refl,
      λ has. absurd (no_sum_verified numbers e r s (value f.generator.limbs) (value f.key.limbs) x y c.args.public.now above point checked.2
          c.in_default-sum_of_multiples.ensures.sum has),
    )

pub returns : goal.returns
returns c =
    let numbers : CurveNumbers =
    numbers_of c.curve.inside.field c.curve.inside.order c.curve.inside.a c.curve.inside.b c.curve.inside.generator c.curve.inside.cofactor
    c.curve.inside.field_bits c.curve.inside.order_bits in
    let e : ℕ = digest_number c.curve.inside.order_bits c.args.digest.now in
    let r : ℕ = number_of_bytes c.args.r.now in
    let s : ℕ = number_of_bytes c.args.s.now in
    let f = c.in-Some-checked_factors.factors in
    let x : ℕ = residue_of c.curve.inside.field c.in-Some.key.x.limbs in
    let y : ℕ = residue_of c.curve.inside.field c.in-Some.key.y.limbs in
    let above = c.curve.invariant.order_is.1 in
    let point = rw (c.field_length-size.ensures.length, ← c.curve.view_is) at c.in-Some.ensures.1 in
    let checked = rw (← c.curve.view_is) at c.in-Some-checked_factors.ensures in
    let at = point_of c.curve.inside.field c.in-Some-sum_of_multiples.point in
    rw (← c.curve.view_is) (
      λ holds. verified_to numbers e r s (value f.generator.limbs) (value f.key.limbs) (value f.r.limbs) x y c.args.public.now at point checked.0 checked.1
          checked.2 checked.3 c.in-Some-sum_of_multiples.ensures.sum (c.has_x.ensures.0 holds),
      λ has. c.has_x.ensures.1 (verified_from numbers e r s (value f.generator.limbs) (value f.key.limbs) (value f.r.limbs) x y c.args.public.now at above
          point checked.2 checked.3 c.in-Some-sum_of_multiples.ensures.sum has),
    )
