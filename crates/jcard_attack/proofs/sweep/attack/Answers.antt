use Rattle.std.proofs.Common.{◌∙◌, inl, inr, refl, subst, sym}
use Rattle.std.specs.Prelude.{codes}
use Rattle.std.proofs.lemmas.Slice.Eq.{bytes_eq-Decides}
use Rattle.jcard_sweeps.proofs.RunFaults.{passed_on}
use Rattle.jcard_attack.specs.Aftermaths.{IsUnfinished}
use Rattle.jcard_attack.specs.Objects.{IsObjectsFault}
use Rattle.jcard_attack.specs.Sweep.{IsUnswept}
use Rattle.jcard_attack.proofs.sweep.attack.Goals as goal

pub returns : goal.returns
returns c = record {
  baseline = c.baseline_of-baseline.result;
  accepted = c.baseline_of-baseline.ensures.accepted;
  before = c.baseline_of-baseline.ensures.before;
  begun = c.in_ok-before.ensures;
  comes = rw c.baseline_of-baseline.ensures.undisturbed c.in_ok-undisturbed.ensures;
  asked = rw c.baseline_of-baseline.ensures.objects c.in_ok-objects.ensures.asked;
  told = rw c.baseline_of-baseline.ensures.objects (rw c.baseline_of-baseline.ensures.undisturbed c.in_ok-undisturbed-2.ensures);
  strikes = c.in_ok-instructions.ensures;
}

pub returns-then-is_same : goal.returns-then-is_same
returns-then-is_same c =
    let down = sym c.deref.ensures.value ∙ (bytes_eq-Decides c.deref.result.now (codes "down")).0 (sym c.is_same.ensures ∙ c.if-is_same.true) in
    inr (inl (refl, (c.in_ok-undisturbed.undisturbed, c.in_ok-undisturbed.ensures, down)))

pub returns-in_err-undisturbed : goal.returns-in_err-undisturbed
returns-in_err-undisturbed c = passed_on _ _ c.from_residual.result c.from_residual.ensures.1
    (λ fault e. inl (subst (IsUnfinished c.args.words.now c.args.attacked) (sym e) c.in_err-undisturbed.ensures))

pub returns-in_err-before : goal.returns-in_err-before
returns-in_err-before c = passed_on _ _ c.from_residual-in_err-before.result c.from_residual-in_err-before.ensures.1
    (λ fault e. inl (subst (IsUnfinished c.args.words.now c.args.attacked) (sym e) c.in_err-before.ensures))

pub returns-in_err-objects : goal.returns-in_err-objects
returns-in_err-objects c = passed_on _ _ c.from_residual-in_err-objects.result c.from_residual-in_err-objects.ensures.1
    (λ fault e. inr (inr (inl (subst IsObjectsFault (sym e) c.in_err-objects.ensures.asked))))

pub returns-in_err-instructions : goal.returns-in_err-instructions
returns-in_err-instructions c = passed_on _ _ c.from_residual-in_err-instructions.result c.from_residual-in_err-instructions.ensures.1
    (λ fault e. subst (IsUnswept c.args.words.now c.args.attacked) (sym e) c.in_err-instructions.ensures)
