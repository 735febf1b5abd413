use Rattle.std.proofs.Common.{refl, inl, inr, subst, sym}
use Rattle.std.proofs.lemmas.Result.{MatchResult-weaker}
use Rattle.jcard_tear.specs.Sweep.{IsProbe, given_of}
use Rattle.jcard_sweeps.specs.declared.command.Command.{Command}
use Rattle.jcard_sweeps.proofs.RunFaults.{passed_on}
use Rattle.jcard_tear.proofs.CutFaults.{run_unbegun}
use Rattle.jcard_tear.proofs.parts.tear_line_part.Goals as goal

pub returns-clause-swept : goal.returns-clause-swept
returns-clause-swept g c =
    let command : Command = record { before = c.args.line.before; line = c.args.line.line; probe = c.deref.result; behind = c.args.follow_up.behind } in
    let probe = subst (IsProbe c.args.follow_up.behind.instructions c.args.words.now (given_of c.args.follow_up) c.args.line.before.now)
    (sym c.deref.ensures.value) c.in_ok-probe.ensures in
    MatchResult-weaker c.tear_part.result c.tear_part.ensures.swept (λ part is. (command, refl, refl, refl, probe, is))
    (λ fault is. inr (command, refl, refl, refl, probe, is))

pub returns-in_err-probe-clause-swept : goal.returns-in_err-probe-clause-swept
returns-in_err-probe-clause-swept g c = passed_on _ _ c.from_residual.result c.from_residual.ensures.1
    (λ fault e. inl (run_unbegun c.args.follow_up.behind.instructions c.args.words.now c.args.line.before.now c.in_err-probe.field-0.0 fault c.in_err-probe.ensures e))
