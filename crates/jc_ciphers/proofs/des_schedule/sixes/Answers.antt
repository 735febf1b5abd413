use Rattle.std.proofs.Common.{◌∙◌, refl, sym, arith}
use Rattle.std.proofs.lemmas.List.{length-set}
use Rattle.jc_ciphers.specs.DesNumbers.{six_of_bits}
use Rattle.jc_ciphers.proofs.DesLists.{listed_all, listed_none, listed_step}
use Rattle.jc_ciphers.proofs.des_schedule.sixes.Goals as goal

pub sixes-init : goal.sixes-init
sixes-init c = (sym (listed_none _), refl)

pub sixes-preserved : goal.sixes-preserved
sixes-preserved c = (
  listed_step (six_of_bits c.args.bits.now) _ _ _ (omega (arith, c.sixes.invariant.1)) c.sixes.invariant.0 refl,
  length-set _ _ _ ∙ c.sixes.invariant.1,
)

pub returns : goal.returns
returns c = listed_all (six_of_bits c.args.bits.now) _ _ _ c.sixes.invariant.1 (omega arith) c.sixes.invariant.0
