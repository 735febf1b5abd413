use Rattle.std.proofs.Common.{◌∙◌, ap, arith, length, sym}
use Rattle.jc_transient.proofs.Clearing.{set_in}
use Rattle.jc_transient.proofs.Numbers.{numbers_set}
use Rattle.jc_transient.proofs.Zeros.{zeros_set}
use Rattle.jc_transient.proofs.area.Area.set.Goals as goal
use Rattle.jc_transient.proofs.area.Area.set.Goals.{then-is_reference, else-is_reference}

pub invariant_of-self : goal.invariant_of-self
invariant_of-self c =
    let area = set_in c.self.inside.used c.max-self-inside.result c.args.place c.self.inside.cells.items c.args.value
    (omega (arith, ap length c.self.view_is, c.requires)) c.max-self-inside.ensures (c.self.invariant.0, c.self.invariant.1) in (
      area.0,
      area.1,
      λ e. elim c.if-is_reference.branch [
        | then-is_reference w ↦ cc (sym w.self-is ∙ e)
        | else-is_reference w ↦ numbers_set c.args.place c.self.inside.cells.items c.args.value (sym c.is_reference.ensures ∙ w.if-is_reference.false)
            (c.self.invariant.2 (sym w.self-is ∙ e))
      ],
      zeros_set c.self.inside.zeros.start c.self.inside.zeros.end c.args.place c.without-self-inside.result.start c.without-self-inside.result.end c.self.inside.cells.items c.args.value
          c.without-self-inside.ensures c.self.invariant.3,
    )
