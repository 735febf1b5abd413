use Rattle.std.proofs.Common.{◌∙◌, ◌-◌, ℕ, slice_index, sym, ap, arith}
use Rattle.std.proofs.lemmas.List.{length-set}
use Rattle.jc_ciphers.specs.Des.{selected_bit}
use Rattle.jc_ciphers.proofs.DesLists.{listed_all, listed_none, listed_step}
use Rattle.jc_ciphers.proofs.des_bits.select.Goals as goal

pub bits-init : goal.bits-init
bits-init c = (sym (listed_none _), c.requires.room)

pub bits-preserved : goal.bits-preserved
bits-preserved c = (
  listed_step (selected_bit c.args.table.now c.args.from.now) _ _ _ (omega (arith, c.bits.invariant.1)) c.bits.invariant.0 (ap (λ (k : ℕ). slice_index c.args.from.now (k - 1)) c.from.ensures),
  length-set _ _ _ ∙ c.bits.invariant.1,
)

pub returns : goal.returns
returns c = listed_all (selected_bit c.args.table.now c.args.from.now) _ _ _ c.bits.invariant.1 (omega arith) c.bits.invariant.0
