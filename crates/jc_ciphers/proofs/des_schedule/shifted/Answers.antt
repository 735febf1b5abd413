use Rattle.std.proofs.Common.{◌∙◌, ◌+◌, ◌*◌, ◌/◌, ◌%◌, ℕ, slice_index, refl, sym, ap, arith}
use Rattle.std.proofs.lemmas.List.{length-set}
use Rattle.jc_ciphers.specs.Des.{shifted_bit}
use Rattle.jc_ciphers.proofs.DesLists.{listed_all, listed_none, listed_step}
use Rattle.jc_ciphers.proofs.des_schedule.shifted.Goals as goal

pub bits-init : goal.bits-init
bits-init c = (sym (listed_none _), refl)

pub bits-preserved : goal.bits-preserved
bits-preserved c = (
  listed_step (shifted_bit c.args.halves.now c.args.s) _ _ _ (omega (arith, c.bits.invariant.1)) c.bits.invariant.0 (ap (λ (s : ℕ). slice_index c.args.halves.now (c.bits.i / 28 * 28 + (c.bits.i % 28 + s) % 28)) c.from.ensures),
  length-set _ _ _ ∙ c.bits.invariant.1,
)

pub returns : goal.returns
returns c = listed_all (shifted_bit c.args.halves.now c.args.s) _ _ _ c.bits.invariant.1 (omega arith) c.bits.invariant.0
