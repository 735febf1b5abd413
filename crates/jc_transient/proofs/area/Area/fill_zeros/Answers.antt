use Rattle.std.proofs.Common.{◌∙◌, ◌+◌, ◌-◌, ◌≤◌, length, ap, arith, max, refl, replicate, subst, sym}
use Rattle.std.proofs.lemmas.List.{length-replicate}
use Rattle.jc_transient.specs.Cell.{AreZeros}
use Rattle.jc_transient.specs.State.{with_cells}
use Rattle.jc_transient.proofs.Clearing.{lent_put}
use Rattle.jc_transient.proofs.Numbers.{lent_numbers, numbers_replicate}
use Rattle.jc_transient.proofs.Zeros.{lent_filled, nought, zeros_put}
use Rattle.jc_transient.proofs.area.Area.fill_zeros.Goals as goal

pub invariant_of-self : goal.invariant_of-self
invariant_of-self c =
    let w = c.first_of_tail-written.result - c.args.place in
    let first = c.first_of_tail-written.ensures.first in
    let last = c.first_of_tail-written.ensures.last in
    let fits : c.args.place + c.args.count ≤ length c.self.inside.cells.items = omega (arith, ap length c.self.view_is, c.requires) in
    let zeros : AreZeros (c.args.place + w) (c.args.place + c.args.count) c.self.inside.cells.items = λ k least most. (
    let is = c.first_of_tail-written.ensures.among k (omega (arith, least, first)) most in
    c.self.invariant.3 k is.0 is.1) in
    let whole = lent_filled c.args.place c.args.count w c.self.inside.cells.len c.self.inside.cells.items c.as_mut_slice.result.now c.fill_cells.new.cells
    c.self.inside.cells.ok.0 c.as_mut_slice.ensures.value c.fill_cells.ensures c.fill_cells.auto.cells (omega (arith, first, last)) fits zeros in
    let area = lent_put c.self.inside.used c.max-self-inside.result c.args.place c.self.inside.cells.len c.self.inside.cells.items c.as_mut_slice.result.now
    (replicate w nought) c.fill_cells.new.cells c.self.inside.cells.ok.0 c.as_mut_slice.ensures.value c.fill_cells.ensures c.fill_cells.auto.cells
    (omega (arith, length-replicate w nought, ap length c.as_mut_slice.ensures.value, fits, first, last))
    (c.max-self-inside.ensures ∙ ap (max c.self.inside.used) (omega (arith, length-replicate w nought, first))) (c.self.invariant.0, c.self.invariant.1) in (
      area.0,
      area.1,
      λ e. lent_numbers c.args.place c.self.inside.cells.len c.self.inside.cells.items c.as_mut_slice.result.now _ c.fill_cells.new.cells
          c.self.inside.cells.ok.0 c.as_mut_slice.ensures.value c.fill_cells.ensures c.fill_cells.auto.cells (numbers_replicate w nought refl) (c.self.invariant.2 e),
      subst (AreZeros c.args.place (c.args.place + c.args.count)) (sym whole) (zeros_put c.args.place c.args.count c.self.inside.cells.items fits),
    )

pub returns : goal.returns
returns c =
    let w = c.first_of_tail-written.result - c.args.place in
    let first = c.first_of_tail-written.ensures.first in
    let last = c.first_of_tail-written.ensures.last in
    let fits : c.args.place + c.args.count ≤ length c.self.inside.cells.items = omega (arith, ap length c.self.view_is, c.requires) in
    let zeros : AreZeros (c.args.place + w) (c.args.place + c.args.count) c.self.inside.cells.items = λ k least most. (
    let is = c.first_of_tail-written.ensures.among k (omega (arith, least, first)) most in
    c.self.invariant.3 k is.0 is.1) in
    let whole = lent_filled c.args.place c.args.count w c.self.inside.cells.len c.self.inside.cells.items c.as_mut_slice.result.now c.fill_cells.new.cells
    c.self.inside.cells.ok.0 c.as_mut_slice.ensures.value c.fill_cells.ensures c.fill_cells.auto.cells (omega (arith, first, last)) fits zeros in
    whole ∙ ap (λ zs. with_cells zs c.args.place (replicate c.args.count nought)) c.self.view_is
