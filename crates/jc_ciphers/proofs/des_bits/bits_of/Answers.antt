use Rattle.std.proofs.Common.{◌∙◌, refl, sym, arith}
use Rattle.std.proofs.lemmas.List.{length-set}
use Rattle.jc_ciphers.specs.Des.{bit_of_bytes}
use Rattle.jc_ciphers.proofs.DesLists.{listed_all, listed_none, listed_step}
use Rattle.jc_ciphers.proofs.des_bits.bits_of.Goals as goal

pub bits-init : goal.bits-init
bits-init c = (sym (listed_none _), refl)

pub bits-preserved : goal.bits-preserved
bits-preserved c = (
  listed_step (bit_of_bytes c.args.bytes.now) _ _ _ (omega (arith, c.bits.invariant.1)) c.bits.invariant.0 refl,
  length-set _ _ _ ∙ c.bits.invariant.1,
)

pub returns : goal.returns
returns c = listed_all (bit_of_bytes c.args.bytes.now) _ _ _ c.bits.invariant.1 (omega arith) c.bits.invariant.0
