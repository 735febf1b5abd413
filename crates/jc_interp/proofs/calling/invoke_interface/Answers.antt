use Rattle.std.proofs.Common.{ap, sym, ◌∙◌}
use Rattle.jc_linker.specs.Lookups.{target_at}
use Rattle.jc_interp.proofs.RunningCode.{has_pool}
use Rattle.jc_interp.proofs.calling.invoke_interface.Goals as goal

pub select_own_implementation-chosen-requires-clause-runs : goal.select_own_implementation-chosen-requires-clause-runs
select_own_implementation-chosen-requires-clause-runs g c = has_pool c.args.code.now c.args.linked.now c.args.frames.now c.in-Interface.index c.in-Some-Class.field-0.now c.requires.runs
    (ap (λ o. target_at c.args.linked.now o.package_number c.in-Interface.index) (sym c.origin.ensures) ∙ sym c.in-Some-Class.ensures)
