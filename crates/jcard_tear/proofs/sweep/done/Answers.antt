use Rattle.std.proofs.Common.{◌∙◌, ◌++◌, ap, sym, refl, inl, inr, subst}
use Rattle.jcard_sweeps.specs.Faults.{IsProbeFault}
use Rattle.jcard_tear.specs.Faults.{IsCarriedOut}
use Rattle.jcard_sweeps.specs.Runs.{IsLeft, IsRunFault, Runs}
use Rattle.jcard_sweeps.specs.LastLine.{IsLastLine}
use Rattle.jcard_sweeps.proofs.RunFaults.{passed_on}
use Rattle.jcard_tear.proofs.CutFaults.{down_uncut, memory_uncut, probe_uncut, run_uncut}
use Rattle.jcard_tear.proofs.sweep.done.Goals as goal

pub returns : goal.returns
returns g c =
    let ran = c.in_ok-watched.ensures.ran in
    let script = c.deref.ensures.value ∙ c.in_ok-extend_from_slice.ensures.items ∙ ap (λ l. l ++ c.args.command.line.now) c.in_ok-script.ensures.items in
    let runs = subst (λ s. Runs c.args.command.behind.instructions c.args.words.now s c.in_ok-watched.watched.ran.text.items ran.0) script ran.1 in
    let last = subst (λ l. IsLastLine c.deref-2.result.now l) (sym c.in_ok-answer.ensures.items) c.last_line.ensures in
    let answer = subst (λ t. IsLastLine t c.in_ok-answer.answer.items) c.deref-2.ensures.value last in
    let left = subst (λ w. IsLeft c.args.command.behind.instructions w c.args.command.probe.now c.in_ok-left.left) ran.2 c.in_ok-left.ensures in
    (c.in_ok-watched.watched.ran.text.items, ran.0, runs, sym ran.3 ∙ c.if-ran.false, answer, left)

pub returns-in_err-script : goal.returns-in_err-script
returns-in_err-script g c =
    passed_on _ _ c.from_residual.result c.from_residual.ensures.1 (λ fault e step. memory_uncut c.args.words.now c.args.command step fault e)

pub returns-in_err-extend_from_slice : goal.returns-in_err-extend_from_slice
returns-in_err-extend_from_slice g c = passed_on _ _ c.from_residual-in_err-extend_from_slice.result c.from_residual-in_err-extend_from_slice.ensures.1
    (λ fault e step. memory_uncut c.args.words.now c.args.command step fault e)

pub returns-in_err-watched : goal.returns-in_err-watched
returns-in_err-watched g c =
    let script = c.deref.ensures.value ∙ c.in_ok-extend_from_slice.ensures.items ∙ ap (λ l. l ++ c.args.command.line.now) c.in_ok-script.ensures.items in
    let is = subst (λ s. IsRunFault c.args.command.behind.instructions c.args.words.now s c.in_err-watched.field-0.0) script c.in_err-watched.ensures.ran in
    passed_on _ _ c.from_residual-in_err-watched.result c.from_residual-in_err-watched.ensures.1
    (λ fault e step. run_uncut c.args.words.now c.args.command step _ c.in_err-watched.field-0.0 fault (inr (inl refl)) is e)

pub returns-then-ran : goal.returns-then-ran
returns-then-ran g c = λ step.
    let ran = c.in_ok-watched.ensures.ran in
    let script = c.deref.ensures.value ∙ c.in_ok-extend_from_slice.ensures.items ∙ ap (λ l. l ++ c.args.command.line.now) c.in_ok-script.ensures.items in
    let runs = subst (λ s. Runs c.args.command.behind.instructions c.args.words.now s c.in_ok-watched.watched.ran.text.items ran.0) script ran.1 in
    down_uncut c.args.words.now c.args.command step c.in_ok-watched.watched.ran.text.items ran.0 runs (sym ran.3 ∙ c.if-ran.true)

pub returns-in_err-answer : goal.returns-in_err-answer
returns-in_err-answer g c = passed_on _ _ c.from_residual-in_err-answer.result c.from_residual-in_err-answer.ensures.1
    (λ fault e step. memory_uncut c.args.words.now c.args.command step fault e)

pub returns-in_err-left : goal.returns-in_err-left
returns-in_err-left g c =
    let ran = c.in_ok-watched.ensures.ran in
    let script = c.deref.ensures.value ∙ c.in_ok-extend_from_slice.ensures.items ∙ ap (λ l. l ++ c.args.command.line.now) c.in_ok-script.ensures.items in
    let runs = subst (λ s. Runs c.args.command.behind.instructions c.args.words.now s c.in_ok-watched.watched.ran.text.items ran.0) script ran.1 in
    let carried : IsCarriedOut c.args.words.now c.args.command = (c.args.command.before.now ++ c.args.command.line.now, c.in_ok-watched.watched.ran.text.items, ran.0, inr (inl refl), runs) in
    passed_on _ _ c.from_residual-in_err-left.result c.from_residual-in_err-left.ensures.1
    (λ fault e step. probe_uncut c.args.words.now c.args.command step fault carried (subst (IsProbeFault c.args.command.behind.instructions c.args.command.probe.now) (sym e) c.in_err-left.ensures))
