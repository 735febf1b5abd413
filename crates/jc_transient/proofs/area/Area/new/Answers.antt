use Rattle.std.proofs.Common.{◌∙◌, ap, arith, map, pos, refl, subst, sym}
use Rattle.jc_transient.specs.Cell.{AreNumbers, default_value}
use Rattle.jc_transient.specs.declared.cell.CellValue.TheVariants.{Short}
use Rattle.jc_transient.proofs.Clearing.{zeros_in}
use Rattle.jc_transient.proofs.Zeros.{zeros_of}
use Rattle.jc_transient.proofs.Numbers.{numbers_replicate}
use Rattle.jc_transient.proofs.area.Area.new.Goals as goal

pub invariant_of-result : goal.invariant_of-result
invariant_of-result c = (
  omega arith,
  ap (map default_value) c.in_ok-zero_cells.ensures.all ∙ zeros_in c.args.count ∙ sym c.in_ok-zero_cells.ensures.all,
  λ e. subst AreNumbers (sym c.in_ok-zero_cells.ensures.all) (numbers_replicate c.args.count (Short (pos 0)) refl),
  zeros_of c.args.count _ c.in_ok-zero_cells.ensures.all,
)
