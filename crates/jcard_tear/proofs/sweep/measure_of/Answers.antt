use Rattle.std.proofs.Common.{◌∙◌, ◌++◌, ap, subst, sym}
use Rattle.jcard_sweeps.specs.Faults.{IsImageFault}
use Rattle.jcard_sweeps.proofs.RunFaults.{memory_imaged, passed_on}
use Rattle.jcard_tear.proofs.sweep.measure_of.Goals as goal

pub returns-clause-measured : goal.returns-clause-measured
returns-clause-measured c = (
  c.in_ok-spared.ensures,
  c.in_ok-lenient.ensures ∙ ap (λ l. l ++ c.args.by_calls.now) c.deref.ensures.value,
  c.in_ok-objects.ensures.asked,
)

pub returns-in_err-spared-clause-measured : goal.returns-in_err-spared-clause-measured
returns-in_err-spared-clause-measured c = passed_on _ _ c.from_residual.result c.from_residual.ensures.1
    (λ fault e. subst IsImageFault (sym e) c.in_err-spared.ensures)

pub returns-in_err-lenient-clause-measured : goal.returns-in_err-lenient-clause-measured
returns-in_err-lenient-clause-measured c = passed_on _ _ c.from_residual-in_err-lenient.result c.from_residual-in_err-lenient.ensures.1 memory_imaged

pub returns-in_err-objects-clause-measured : goal.returns-in_err-objects-clause-measured
returns-in_err-objects-clause-measured c = passed_on _ _ c.from_residual-in_err-objects.result c.from_residual-in_err-objects.ensures.1
    (λ fault e. subst IsImageFault (sym e) c.in_err-objects.ensures.asked)
