use Rattle.std.proofs.Common.{◌∙◌, ap, map, refl, subst, sym}
use Rattle.jc_transient.specs.Cell.{AreNumbers, AreZeros, default_value}
use Rattle.jc_transient.proofs.Clearing.{cleared_in, keeps_cleared, lent_done}
use Rattle.jc_transient.proofs.Numbers.{numbers_cleared}
use Rattle.jc_transient.proofs.Zeros.{zeros_map}
use Rattle.jc_transient.proofs.area.Area.clear.Goals as goal

pub invariant_of-self : goal.invariant_of-self
invariant_of-self c =
    let done = lent_done default_value keeps_cleared c.self.inside.used c.self.inside.cells.len c.self.inside.cells.items c.as_mut_slice.result.now
    c.clear_cells.new.cells c.self.inside.cells.ok.0 c.as_mut_slice.ensures.value c.clear_cells.ensures c.clear_cells.auto.cells
    (c.self.invariant.0, c.self.invariant.1) in
    let area = cleared_in c.self.inside.cells.items _ done.0 in (
      area.0,
      area.1,
      λ e. subst AreNumbers (sym done.0) (numbers_cleared c.self.inside.cells.items (c.self.invariant.2 e)),
      subst (AreZeros c.self.inside.zeros.start c.self.inside.zeros.end) (sym done.0)
          (zeros_map default_value refl c.self.inside.zeros.start c.self.inside.zeros.end c.self.inside.cells.items c.self.invariant.3),
    )

pub returns : goal.returns
returns c =
    (lent_done default_value keeps_cleared c.self.inside.used c.self.inside.cells.len c.self.inside.cells.items c.as_mut_slice.result.now
    c.clear_cells.new.cells c.self.inside.cells.ok.0 c.as_mut_slice.ensures.value c.clear_cells.ensures c.clear_cells.auto.cells (c.self.invariant.0, c.self.invariant.1)).0
    ∙ ap (map default_value) c.self.view_is
