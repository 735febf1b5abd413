use Rattle.std.proofs.Common.{◌∙◌, sym}
use Rattle.jc_numbers.specs.Numbers.{value}
use Rattle.jc_curves.specs.Elements.{residue_of}
use Rattle.jc_curves.proofs.ElementLaws.{residue_mod}
use Rattle.jc_curves.proofs.SignatureLaws.{product_mod}
use Rattle.jc_curves.proofs.signatures.product_in_order.Goals as goal

pub returns : goal.returns
returns c =
    c.residue.ensures.value ∙ sym (residue_mod c.args.order.now c.product.result.limbs)
    ∙ product_mod (value c.args.order.now) (value c.args.number.now.limbs) (residue_of c.args.order.now c.args.by.now.limbs)
    (residue_of c.args.order.now c.in_order-element.result.limbs) (residue_of c.args.order.now c.product.result.limbs)
    c.in_order-element.ensures.residue c.product.ensures.product
