use Rattle.std.proofs.Common.{◌∙◌, sym, refl, inr, subst}
use Rattle.jcard_sweeps.specs.Faults.{IsProbeFault}
use Rattle.jcard_tear.specs.Faults.{IsCarriedOut}
use Rattle.jcard_tear.specs.Recoveries.{AreRecoveries}
use Rattle.jcard_sweeps.specs.Runs.{IsLeft, IsRunFault, Runs}
use Rattle.jcard_tear.specs.Sweep.{cut_script}
use Rattle.jcard_sweeps.proofs.RunFaults.{passed_on}
use Rattle.jcard_tear.proofs.CutFaults.{left_probed, memory_uncut, probe_uncut, run_uncut}
use Rattle.jcard_tear.proofs.cuts.cut_at.Goals as goal

pub recoveries-requires-clause-left : goal.recoveries-requires-clause-left
recoveries-requires-clause-left c = rw (c.deref-3.ensures.value, c.in_ok-torn.ensures.items, c.deref-2.ensures.value) c.in_ok-left.ensures

pub returns-in-Ok : goal.returns-in-Ok
returns-in-Ok c =
    let ran = c.in_ok-ran.ensures.ran in
    let runs = subst (λ s. Runs c.args.command.behind.instructions c.args.words.now s c.in_ok-ran.ran.text.items ran.0) (c.deref.ensures.value ∙ c.in_ok-script.ensures) ran.1 in
    let left = subst (λ w. IsLeft c.args.command.behind.instructions w c.args.command.probe.now c.in_ok-left.left) ran.2 c.in_ok-left.ensures in
    let torn = c.deref-3.ensures.value ∙ c.in_ok-torn.ensures.items ∙ c.deref-2.ensures.value ∙ ran.2 in
    let deep = subst (λ w. AreRecoveries c.args.command.behind.depth c.args.command.behind.instructions w c.args.command.probe.now c.in_ok-left.left c.in-Ok.recoveries) torn
    c.in-Ok.ensures in
    (c.in_ok-ran.ran.text.items, ran.0, runs, sym ran.3 ∙ c.if-not-ran.false, left, deep)

pub returns-in_err-script : goal.returns-in_err-script
returns-in_err-script c =
    passed_on _ _ c.from_residual.result c.from_residual.ensures.1 (λ fault e step. memory_uncut c.args.words.now c.args.command step fault e)

pub returns-in_err-ran : goal.returns-in_err-ran
returns-in_err-ran c =
    let is = subst (λ s. IsRunFault c.args.command.behind.instructions c.args.words.now s c.in_err-ran.field-0.0) (c.deref.ensures.value ∙ c.in_ok-script.ensures) c.in_err-ran.ensures.ran in
    passed_on _ _ c.from_residual-in_err-ran.result c.from_residual-in_err-ran.ensures.1
    (λ fault e step. run_uncut c.args.words.now c.args.command step _ c.in_err-ran.field-0.0 fault (inr (inr (c.args.number, refl))) is e)

pub returns-in_err-torn : goal.returns-in_err-torn
returns-in_err-torn c = passed_on _ _ c.from_residual-in_err-torn.result c.from_residual-in_err-torn.ensures.1
    (λ fault e step. memory_uncut c.args.words.now c.args.command step fault e)

pub returns-in_err-left : goal.returns-in_err-left
returns-in_err-left c =
    let ran = c.in_ok-ran.ensures.ran in
    let runs = subst (λ s. Runs c.args.command.behind.instructions c.args.words.now s c.in_ok-ran.ran.text.items ran.0) (c.deref.ensures.value ∙ c.in_ok-script.ensures) ran.1 in
    let carried : IsCarriedOut c.args.words.now c.args.command = (cut_script c.args.command c.args.number, c.in_ok-ran.ran.text.items, ran.0, inr (inr (c.args.number, refl)), runs) in
    passed_on _ _ c.from_residual-in_err-left.result c.from_residual-in_err-left.ensures.1
    (λ fault e step. probe_uncut c.args.words.now c.args.command step fault carried (subst (IsProbeFault c.args.command.behind.instructions c.args.command.probe.now) (sym e) c.in_err-left.ensures))

pub returns : goal.returns
returns c = λ step.
    let ran = c.in_ok-ran.ensures.ran in
    let runs = subst (λ s. Runs c.args.command.behind.instructions c.args.words.now s c.in_ok-ran.ran.text.items ran.0) (c.deref.ensures.value ∙ c.in_ok-script.ensures) ran.1 in
    let carried : IsCarriedOut c.args.words.now c.args.command = (cut_script c.args.command c.args.number, c.in_ok-ran.ran.text.items, ran.0, inr (inr (c.args.number, refl)), runs) in
    probe_uncut c.args.words.now c.args.command step c.probe_fault.result carried
    (left_probed c.args.command.behind.instructions c.args.command.probe.now c.in-Err.fault c.in-Err.ensures c.probe_fault.result c.probe_fault.ensures)
