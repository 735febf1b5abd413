use Rattle.std.proofs.Common.{inl, refl, subst, sym}
use Rattle.jcard_tear.specs.Faults.{IsLineUncut}
use Rattle.jcard_sweeps.specs.ScriptLines.{line_of}
use Rattle.jcard_tear.specs.Sweep.{given_of}
use Rattle.jcard_sweeps.proofs.RunFaults.{passed_on}
use Rattle.jcard_tear.proofs.CutFaults.{memory_unbegun}
use Rattle.jcard_tear.proofs.each.line_told.Goals as goal

pub returns : goal.returns
returns g c = (refl, c.in_ok-command.ensures, c.in_ok-outcome.ensures)

pub returns-in_err-outcome : goal.returns-in_err-outcome
returns-in_err-outcome g c = passed_on _ _ c.from_residual.result c.from_residual.ensures.1
    (λ fault e. subst (IsLineUncut c.args.words.now (given_of c.args.follow_up) c.args.follow_up.behind (line_of c.args.line) 1) (sym e)
    c.in_err-outcome.ensures)

pub returns-in_err-command : goal.returns-in_err-command
returns-in_err-command g c = passed_on _ _ c.from_residual-in_err-command.result c.from_residual-in_err-command.ensures.1
    (λ fault e. inl (memory_unbegun c.args.follow_up.behind.instructions c.args.words.now c.args.line.before.now fault e))
