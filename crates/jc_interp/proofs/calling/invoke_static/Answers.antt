use Rattle.std.proofs.Common.{ap, sym, ◌∙◌}
use Rattle.jc_linker.specs.Lookups.{target_at}
use Rattle.jc_interp.proofs.RunningCode.{has_pool}
use Rattle.jc_interp.proofs.calling.invoke_static.Goals as goal

pub invoke_static_code-requires-clause-runs : goal.invoke_static_code-requires-clause-runs
invoke_static_code-requires-clause-runs g c = has_pool c.args.code.now c.args.linked.now c.args.frames.now c.args.index c.in-Some-StaticMethod-default-Code.field-0.now c.requires.runs
    (ap (λ o. target_at c.args.linked.now o.package_number c.args.index) (sym c.origin.ensures) ∙ sym c.in-Some-StaticMethod-default-Code.ensures)
