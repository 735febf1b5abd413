use Rattle.std.proofs.Common.{◌≡◌, ◌∙◌, ◌+◌, ◌*◌, ◌≤◌, ◌∷◌, [], length, length-append, ap, refl, rules, sym, subst, inl, arith}
use Rattle.jcard_outcomes.specs.declared.standing.Cut.{Cut}
use Rattle.jcard_tear.specs.Faults.{IsUncutFor}
use Rattle.jcard_tear.specs.Sweep.{IsToldCut, IsUncutAt}
use Rattle.jcard_tear.proofs.CutLists.{cuts_more, cuts_none, number_more}
use Rattle.jcard_sweeps.proofs.RunFaults.{passed_on}
use Rattle.jcard_tear.proofs.CutFaults.{cuts_past, memory_uncut, steps_past}
use Rattle.jcard_tear.proofs.cuts.push_cuts.Goals as goal

pub loop-place-init : goal.loop-place-init
loop-place-init g c = record {
  cuts = rw c.requires.none (cuts_none _ _ _ _ _);
  count = rw c.requires.none (omega arith);
  places = rw c.requires.none refl;
  last = rw c.requires.first tt;
}

pub returns-in_default-clause-cut : goal.returns-in_default-clause-cut
returns-in_default-clause-cut g c =
    let uncut = rw c.in_default.is at c.in_ok-cut.ensures.cut in
    (c.loop-place.invariant.cuts, subst (λ n. IsUncutAt c.args.shared.now.words.now c.args.shared.now.command n) c.loop-place.invariant.count uncut)

pub returns-in_default-clause-below : goal.returns-in_default-clause-below
returns-in_default-clause-below g c = omega (arith, c.loop-place.invariant.count, c.next_cut.ensures.small)

pub loop-place-preserved : goal.loop-place-preserved
loop-place-preserved g c =
    let shared = c.args.shared.now in
    let cuts = c.loop-place.cuts.items in
    let cut : Cut = c.in-Some.cut in
    let told = rw c.in-Some.is at c.in_ok-cut.ensures.cut in
    let here = subst (λ n. IsToldCut shared.words.now shared.command shared.baseline n cut) c.loop-place.invariant.count told in
    let next : c.in-Some-checked_add.next ≡ c.loop-place.number + c.args.share.step = search rules in
    record {
      cuts = rw c.in_ok-push_cut.ensures (cuts_more shared.words.now shared.command shared.baseline c.args.share.first c.args.share.step
          cuts cut c.loop-place.invariant.cuts here);
      count = number_more c.args.share.first c.args.share.step (length cuts) c.loop-place.number c.in-Some-checked_add.next c.loop-place.invariant.count next
          ∙ ap (λ n. c.args.share.first + c.args.share.step * n) (sym (ap length c.in_ok-push_cut.ensures ∙ length-append cuts (cut ∷ [])));
      places = rw c.in_ok-push_cut.ensures (omega (arith, length-append cuts (cut ∷ []), c.loop-place.invariant.places));
      last = c.next_cut.ensures.last;
    }

pub returns-in_err-cut-clause-cut : goal.returns-in_err-cut-clause-cut
returns-in_err-cut-clause-cut g c = passed_on _ _ c.from_residual.result c.from_residual.ensures.1
    (λ fault e. subst (IsUncutFor c.args.shared.now.words.now c.args.shared.now.command c.args.share.step) (sym e) (c.in_err-cut.ensures.cut c.args.share.step))

pub returns-in_err-push_cut-clause-cut : goal.returns-in_err-push_cut-clause-cut
returns-in_err-push_cut-clause-cut g c = passed_on _ _ c.from_residual-in_err-push_cut.result c.from_residual-in_err-push_cut.ensures.1
    (λ fault e. memory_uncut c.args.shared.now.words.now c.args.shared.now.command c.args.share.step fault (e ∙ c.in_err-push_cut.ensures))

pub returns-in_default-checked_add-clause-cut : goal.returns-in_default-checked_add-clause-cut
returns-in_default-checked_add-clause-cut g c =
    let told = rw c.in-Some.is at c.in_ok-cut.ensures.cut in
    (c.loop-place.number, told.0, c.in-Some.cut.recoveries, told.1, inl (search rules))

pub returns-clause-cut : goal.returns-clause-cut
returns-clause-cut g c =
    let shared = c.args.shared.now in
    let cuts = c.loop-place.cuts.items in
    let many : 65535 ≤ length cuts = omega (arith, c.loop-place.invariant.places, c.loop-place-test.false) in
    cuts_past shared.words.now shared.command shared.baseline c.args.share.first c.args.share.step cuts
    c.loop-place.invariant.cuts (omega (arith, many)) (steps_past c.args.share.first c.args.share.step (length cuts) many)
