use Rattle.std.proofs.Common.{◌∙◌, ℕ, Option, length, sym, ap, arith}
use Rattle.jc_public_keys.specs.CurveKeys.{CurveKeyPair, pair_at}
use Rattle.jc_public_keys.proofs.Tries.{found_try, next_try, no_try}
use Rattle.jc_public_keys.proofs.curve_keys.put_first_pair.Goals as goal

pub returns-then-put_pair_at : goal.returns-then-put_pair_at
returns-then-put_pair_at c =
    let at : ℕ → ℕ → Option CurveKeyPair = λ n. pair_at n c.args.curve.now c.args.seed.now in
    let long = c.numbers.auto.private in
    sym (c.numbers.invariant
    ∙ found_try (at (length c.args.private.now)) 64 c.numbers.t _ c.numbers-test.true (c.if-put_pair_at.ensures ∙ ap (λ (n : ℕ). at n c.numbers.t) long))

pub numbers-preserved : goal.numbers-preserved
numbers-preserved c =
    let at : ℕ → ℕ → Option CurveKeyPair = λ n. pair_at n c.args.curve.now c.args.seed.now in
    let long = c.numbers.auto.private in
    c.numbers.invariant
    ∙ next_try (at (length c.args.private.now)) 64 c.numbers.t c.numbers-test.true (c.if-put_pair_at.ensures ∙ ap (λ (n : ℕ). at n c.numbers.t) long)

pub returns : goal.returns
returns c =
    sym (c.numbers.invariant
    ∙ no_try (pair_at (length c.args.private.now) c.args.curve.now c.args.seed.now) 64 c.numbers.t (omega (arith, c.numbers-test.false)))
