use Rattle.jc_curves.proofs.SignatureLaws.{sums_law}
use Rattle.jc_curves.proofs.signatures.sum_of_multiples.Goals as goal

pub returns-in_default-clause-sum : goal.returns-in_default-clause-sum
returns-in_default-clause-sum c = λ t sum. c.in_default.ensures.multiple sum.left sum.left_is

pub returns-in_default-multiple-clause-sum : goal.returns-in_default-multiple-clause-sum
returns-in_default-multiple-clause-sum c = λ t sum. c.in_default-multiple.ensures.multiple sum.right sum.right_is

pub returns-clause-sum : goal.returns-clause-sum
returns-clause-sum c =
    sums_law _ _ _ _ _ _ _ _ c.args.field.now c.sum.result c.in-Some.ensures.multiple c.in-Some-multiple.ensures.multiple c.sum.ensures.sum
