use Rattle.std.proofs.Common.{subst, sym}
use Rattle.jcard_tear.specs.Faults.{IsUncutFor}
use Rattle.jcard_sweeps.proofs.RunFaults.{passed_on}
use Rattle.jcard_tear.proofs.CutFaults.{memory_uncut}
use Rattle.jcard_tear.proofs.parts.tear_part.Goals as goal

pub returns-clause-swept : goal.returns-clause-swept
returns-clause-swept g c = record {
  first_is = c.from.ensures;
  step_is = c.from-2.ensures;
  name = c.in_ok-name.ensures;
  swept = c.in_ok-sweep.ensures.swept;
}

pub returns-in_err-sweep-clause-swept : goal.returns-in_err-sweep-clause-swept
returns-in_err-sweep-clause-swept g c = passed_on _ _ c.from_residual.result c.from_residual.ensures.1
    (λ fault e. subst (IsUncutFor c.args.words.now c.args.command c.args.share.step) (sym e) c.in_err-sweep.ensures.swept)

pub returns-in_err-name-clause-swept : goal.returns-in_err-name-clause-swept
returns-in_err-name-clause-swept g c = passed_on _ _ c.from_residual-in_err-name.result c.from_residual-in_err-name.ensures.1
    (λ fault e. memory_uncut c.args.words.now c.args.command c.args.share.step fault e)
