use Rattle.std.proofs.Common.{◌∙◌, sym, ap, is_some}
use Rattle.jc_linker.specs.Lookups.{entry_with_aid}
use Rattle.jc_dispatch.proofs.Searching.{find_next}
use Rattle.jc_dispatch.proofs.create.first_with_entry.Goals as goal

pub loop-number-preserved : goal.loop-number-preserved
loop-number-preserved c =
    find_next (λ q. is_some (entry_with_aid c.args.linked.now q c.args.aid.now)) c.loop-number.number _ c.loop-number-test.true
    (ap is_some (sym c.entry_with_aid.ensures) ∙ sym c.is_some.ensures ∙ c.if-is_some.false) ∙ c.loop-number.invariant
