use Rattle.std.proofs.Common.{◌≡◌, arith, inl, inr, subst, sym}
use Rattle.std.proofs.lemmas.Bool.{cases_lt}
use Rattle.jc_packages.specs.Sound.{IsRegistered}
use Rattle.jc_packages.proofs.entries.are_registered.Goals as goal

pub loop-a-preserved : goal.loop-a-preserved
loop-a-preserved g c = λ j below. elim (cases_lt j c.loop-a.a) [
  | inl before ↦ c.loop-a.invariant j before
  | inr above ↦
      let same : j ≡ c.loop-a.a = omega (arith, below, above) in
      subst (IsRegistered c.args.linked.now c.args.marked.now.now) (sym same) (c.is_registered.ensures.0 c.if-not-is_registered.false)
]
