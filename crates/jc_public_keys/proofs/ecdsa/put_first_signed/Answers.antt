use Rattle.std.proofs.Common.{◌∙◌, sym, arith}
use Rattle.jc_numbers.specs.Numbers.{number_of_bytes}
use Rattle.jc_public_keys.specs.Ecdsa.{signed_at}
use Rattle.jc_public_keys.proofs.Tries.{found_try, next_try, no_try}
use Rattle.jc_public_keys.proofs.ecdsa.put_first_signed.Goals as goal

pub returns-in-Some-clause-signature : goal.returns-in-Some-clause-signature
returns-in-Some-clause-signature c =
    let at = signed_at c.args.curve.now (number_of_bytes c.args.private.now) c.args.digest.now c.args.seed.now in
    sym (c.numbers.invariant ∙ found_try at 64 c.numbers.t _ c.numbers-test.true c.in-Some.ensures.signature)

pub numbers-preserved : goal.numbers-preserved
numbers-preserved c =
    let at = signed_at c.args.curve.now (number_of_bytes c.args.private.now) c.args.digest.now c.args.seed.now in
    c.numbers.invariant ∙ next_try at 64 c.numbers.t c.numbers-test.true c.in_default.ensures.signature

pub returns-clause-signature : goal.returns-clause-signature
returns-clause-signature c =
    let at = signed_at c.args.curve.now (number_of_bytes c.args.private.now) c.args.digest.now c.args.seed.now in
    sym (c.numbers.invariant ∙ no_try at 64 c.numbers.t (omega (arith, c.numbers-test.false)))
