use Rattle.std.proofs.Common.{◌∙◌, arith, refl, subst, sym}
use Rattle.jcard_tear.specs.Recoveries.{ComesToAnother, ComesToTheSame}
use Rattle.jcard_tear.proofs.CutRecoveries.{same_more}
use Rattle.jcard_sweeps.specs.Faults.{IsLeftFault, IsLogFault}
use Rattle.jcard_sweeps.proofs.RunFaults.{log_left, memory_left, refused_on}
use Rattle.jcard_tear.proofs.recoveries.first_difference.Goals as goal
use Rattle.jcard_tear.proofs.recoveries.first_difference.Goals.{then-not-are_equal+in_ok-comes_to_the_same+else-not-branch, else-not-are_equal}

pub loop-number-init : goal.loop-number-init
loop-number-init c = record {
  tried = rw c.in_ok-tried.ensures.items (c.args.whole.now, c.requires.left, (refl, refl));
  same = λ m h. absurd (omega (arith, h));
  good = λ h. absurd (omega (arith, h));
}

pub returns-then-not-branch-clause-difference : goal.returns-then-not-branch-clause-difference
returns-then-not-branch-clause-difference c = (
  c.loop-number-test.true,
  subst (λ w. ComesToAnother c.args.budget w c.args.probe.now c.args.whole.now) (c.deref-then-not-are_equal.ensures.value ∙ c.in_ok-torn.ensures.torn)
      (rw c.if-not-branch.true at c.in_ok-comes_to_the_same.ensures),
  c.loop-number.invariant.same,
)

pub loop-number-preserved : goal.loop-number-preserved
loop-number-preserved c =
    let words = c.args.words.now in
    let n = c.loop-number.number in
    let torn = c.in_ok-torn.ensures.torn in
    elim c.if-not-are_equal.branch [
      | then-not-are_equal+in_ok-comes_to_the_same+else-not-branch w ↦
          let came = subst (λ x. ComesToTheSame c.args.budget x c.args.probe.now c.args.whole.now) w.deref-then-not-are_equal.ensures.value
          (rw w.if-not-branch.false at w.in_ok-comes_to_the_same.ensures) in
          record {
            tried = rw w.tried-is came;
            same = same_more c.args.budget words c.args.probe.now c.args.whole.now n c.loop-number.invariant.same
                (subst (λ x. ComesToTheSame c.args.budget x c.args.probe.now c.args.whole.now) torn came);
            good = λ h. c.in_ok-torn.ensures.good;
          }
      | else-not-are_equal w ↦
          let same = sym c.deref-in-loop-number.ensures.value ∙ sym (c.are_equal.ensures w.if-not-are_equal.false) ∙ c.deref.ensures.value ∙ torn in
          record {
            tried = rw w.tried-is c.loop-number.invariant.tried;
            same = same_more c.args.budget words c.args.probe.now c.args.whole.now n c.loop-number.invariant.same
                (subst (λ x. ComesToTheSame c.args.budget x c.args.probe.now c.args.whole.now) same c.loop-number.invariant.tried);
            good = λ h. c.in_ok-torn.ensures.good;
          }
    ]

pub returns-clause-difference : goal.returns-clause-difference
returns-clause-difference c = λ m h. c.loop-number.invariant.same m (omega (arith, h, c.loop-number-test.false))

pub returns-in_err-tried-clause-fault : goal.returns-in_err-tried-clause-fault
returns-in_err-tried-clause-fault c = refused_on _ c.from_residual.result c.from_residual.ensures.1
    (λ fault e. memory_left c.args.budget c.args.probe.now fault e)

pub returns-in_err-torn-clause-fault : goal.returns-in_err-torn-clause-fault
returns-in_err-torn-clause-fault c = refused_on _ c.from_residual-in_err-torn.result c.from_residual-in_err-torn.ensures.1
    (λ fault e. log_left c.args.budget c.args.probe.now fault (subst IsLogFault (sym e) c.in_err-torn.ensures.fault))

pub returns-in_err-comes_to_the_same-clause-fault : goal.returns-in_err-comes_to_the_same-clause-fault
returns-in_err-comes_to_the_same-clause-fault c = refused_on _ c.from_residual-in_err-comes_to_the_same.result c.from_residual-in_err-comes_to_the_same.ensures.1
    (λ fault e. subst (IsLeftFault c.args.budget c.args.probe.now) (sym e) c.in_err-comes_to_the_same.ensures)
