use Rattle.std.proofs.Common.{◌∙◌, ap, map, refl, subst, sym}
use Rattle.jc_transient.specs.Cell.{AreNumbers, AreZeros, without_dead}
use Rattle.jc_transient.proofs.Clearing.{keeps_without_dead, lent_done}
use Rattle.jc_transient.proofs.Numbers.{numbers_same}
use Rattle.jc_transient.proofs.Zeros.{zeros_map}
use Rattle.jc_transient.proofs.area.Area.null_dead.Goals as goal

pub returns-then-self : goal.returns-then-self
returns-then-self c =
    (lent_done (without_dead c.args.top) (keeps_without_dead c.args.top) c.self.inside.used c.self.inside.cells.len c.self.inside.cells.items
    c.as_mut_slice.result.now c.null_dead_cells.new.cells c.self.inside.cells.ok.0 c.as_mut_slice.ensures.value c.null_dead_cells.ensures
    c.null_dead_cells.auto.cells (c.self.invariant.0, c.self.invariant.1)).0
    ∙ ap (map (without_dead c.args.top)) c.self.view_is

pub returns-else-self : goal.returns-else-self
returns-else-self c =
    sym c.self.view_is ∙ sym (numbers_same c.args.top c.self.inside.cells.items (c.self.invariant.2 c.if-self.false)) ∙ ap (map (without_dead c.args.top)) c.self.view_is

pub invariant_of-self : goal.invariant_of-self
invariant_of-self c =
    let done = lent_done (without_dead c.args.top) (keeps_without_dead c.args.top) c.self.inside.used c.self.inside.cells.len c.self.inside.cells.items
    c.as_mut_slice.result.now c.null_dead_cells.new.cells c.self.inside.cells.ok.0 c.as_mut_slice.ensures.value c.null_dead_cells.ensures
    c.null_dead_cells.auto.cells (c.self.invariant.0, c.self.invariant.1) in (
      done.1.0,
      done.1.1,
      λ e. subst AreNumbers (sym (done.0 ∙ numbers_same c.args.top c.self.inside.cells.items (c.self.invariant.2 e))) (c.self.invariant.2 e),
      subst (AreZeros c.self.inside.zeros.start c.self.inside.zeros.end) (sym done.0)
          (zeros_map (without_dead c.args.top) refl c.self.inside.zeros.start c.self.inside.zeros.end c.self.inside.cells.items c.self.invariant.3),
    )
