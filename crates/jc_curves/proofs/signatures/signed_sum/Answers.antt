use Rattle.jc_curves.proofs.SignatureLaws.{signed_law}
use Rattle.jc_curves.proofs.signatures.signed_sum.Goals as goal

pub returns-clause-sum : goal.returns-clause-sum
returns-clause-sum c =
    signed_law _ _ _ _ _ _ _ _ _ c.in_order-r_element.ensures.residue c.in_order-key_element.ensures.residue c.in_order-e_element.ensures.residue
    c.product-along.ensures.product c.sum.ensures.sum
