use Rattle.std.proofs.Common.{◌∙◌, ◌++◌, ap, refl, subst, sym}
use Rattle.jc_objects.specs.Pins.{AreTriesIn}
use Rattle.jcard_sweeps.specs.Faults.{IsImageFault}
use Rattle.jcard_tear.specs.Faults.{IsUncutFor}
use Rattle.jcard_sweeps.proofs.RunFaults.{passed_on}
use Rattle.jcard_tear.proofs.CutFaults.{done_carried, image_probed, memory_uncut, probe_uncut}
use Rattle.jcard_tear.proofs.sweep.tear_share.Goals as goal

pub returns-clause-swept : goal.returns-clause-swept
returns-clause-swept g c = record {
  begun = c.in_ok-before.ensures.0;
  cuts = (
    _,
    record {
      before = refl;
      done = c.in_ok-answer.ensures;
      after = c.in_ok-after.ensures.words;
      told = c.in_ok-after.ensures.told;
      spared = subst (AreTriesIn c.in_ok-answer.after.words.items) (sym c.deref-3.ensures.value) c.in_ok-measure.ensures.measured.0;
      lenient = (
        c.in_ok-answer.by_calls.items,
        c.deref-4.ensures.value ∙ c.in_ok-measure.ensures.measured.1 ∙ ap (λ l. c.in_ok-measure.measure.spared.items ++ l) c.deref-2.ensures.value
            ∙ ap (λ l. l ++ c.in_ok-answer.by_calls.items) (sym c.deref-3.ensures.value),
      );
      objects = c.in_ok-measure.ensures.measured.2;
    },
    c.in_ok-cuts.ensures.cut.0,
  );
  uncut = c.in_ok-cuts.ensures.cut.1;
  depth = refl;
}

pub returns-in_err-answer-clause-swept : goal.returns-in_err-answer-clause-swept
returns-in_err-answer-clause-swept g c = passed_on _ _ c.from_residual.result c.from_residual.ensures.1
    (λ fault e. subst (IsUncutFor c.args.words.now c.args.command c.args.share.step) (sym e) (c.in_err-answer.ensures c.args.share.step))

pub returns-in_err-before-clause-swept : goal.returns-in_err-before-clause-swept
returns-in_err-before-clause-swept g c = passed_on _ _ c.from_residual-in_err-before.result c.from_residual-in_err-before.ensures.1
    (λ fault e. subst (IsUncutFor c.args.words.now c.args.command c.args.share.step) (sym e) (c.in_err-before.ensures c.args.share.step))

pub returns-in_err-measure-clause-swept : goal.returns-in_err-measure-clause-swept
returns-in_err-measure-clause-swept g c = passed_on _ _ c.from_residual-in_err-measure.result c.from_residual-in_err-measure.ensures.1
    (λ fault e. probe_uncut c.args.words.now c.args.command c.args.share.step fault (done_carried c.args.words.now c.args.command c.in_ok-answer.answer.items c.in_ok-answer.after c.in_ok-answer.ensures)
    (image_probed c.args.command.behind.instructions c.args.command.probe.now fault (subst IsImageFault (sym e) c.in_err-measure.ensures.measured)))

pub returns-in_err-cuts-clause-swept : goal.returns-in_err-cuts-clause-swept
returns-in_err-cuts-clause-swept g c = passed_on _ _ c.from_residual-in_err-cuts.result c.from_residual-in_err-cuts.ensures.1
    (λ fault e. subst (IsUncutFor c.args.words.now c.args.command c.args.share.step) (sym e) c.in_err-cuts.ensures.cut)

pub returns-in_err-after-clause-swept : goal.returns-in_err-after-clause-swept
returns-in_err-after-clause-swept g c = passed_on _ _ c.from_residual-in_err-after.result c.from_residual-in_err-after.ensures.1
    (λ fault e. memory_uncut c.args.words.now c.args.command c.args.share.step fault e)
