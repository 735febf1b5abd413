use Rattle.std.proofs.Common.{◌∙◌, ◌+◌, length, ap, arith, max, sym}
use Rattle.std.proofs.lemmas.List.{length-replicate}
use Rattle.jc_transient.proofs.Clearing.{lent_put}
use Rattle.jc_transient.proofs.Numbers.{lent_numbers, numbers_replicate}
use Rattle.jc_transient.proofs.Zeros.{lent_zeros}
use Rattle.jc_transient.proofs.area.Area.fill.Goals as goal
use Rattle.jc_transient.proofs.area.Area.fill.Goals.{then-is_reference, else-is_reference}

pub invariant_of-self : goal.invariant_of-self
invariant_of-self c =
    let area =
    lent_put c.self.inside.used c.max-self-inside.result c.args.place c.self.inside.cells.len c.self.inside.cells.items c.as_mut_slice.result.now _
    c.fill_cells.new.cells c.self.inside.cells.ok.0 c.as_mut_slice.ensures.value c.fill_cells.ensures c.fill_cells.auto.cells
    (omega (arith, length-replicate c.args.count c.args.value, ap length c.as_mut_slice.ensures.value, ap length c.self.view_is, c.requires))
    (c.max-self-inside.ensures ∙ ap (λ k. max c.self.inside.used (c.args.place + k)) (sym (length-replicate c.args.count c.args.value))) (c.self.invariant.0, c.self.invariant.1) in (
      area.0,
      area.1,
      λ e. elim c.if-is_reference.branch [
        | then-is_reference w ↦ cc (sym w.self-is ∙ e)
        | else-is_reference w ↦ lent_numbers c.args.place c.self.inside.cells.len c.self.inside.cells.items c.as_mut_slice.result.now _ c.fill_cells.new.cells
            c.self.inside.cells.ok.0 c.as_mut_slice.ensures.value c.fill_cells.ensures c.fill_cells.auto.cells
            (numbers_replicate c.args.count c.args.value (sym c.is_reference.ensures ∙ w.if-is_reference.false)) (c.self.invariant.2 (sym w.self-is ∙ e))
      ],
      lent_zeros c.self.inside.zeros.start c.self.inside.zeros.end c.args.place (c.args.place + c.args.count) c.without-self-inside.result.start c.without-self-inside.result.end
          c.self.inside.cells.len c.self.inside.cells.items c.as_mut_slice.result.now _ c.fill_cells.new.cells c.self.inside.cells.ok.0 c.as_mut_slice.ensures.value
          c.fill_cells.ensures c.fill_cells.auto.cells
          (omega (arith, length-replicate c.args.count c.args.value, ap length c.as_mut_slice.ensures.value, ap length c.self.view_is, c.requires))
          (ap (λ k. c.args.place + k) (sym (length-replicate c.args.count c.args.value))) c.without-self-inside.ensures c.self.invariant.3,
    )
