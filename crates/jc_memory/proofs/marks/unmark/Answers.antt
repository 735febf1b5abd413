use Rattle.std.proofs.Common.{◌∙◌, ap, false, arith, inl, inr, length, get_or, set}
use Rattle.std.proofs.lemmas.Bool.{cases_lt, cases_eq}
use Rattle.std.proofs.lemmas.List.{get_or-set_same, get_or-set_other, get_or_past}
use Rattle.jc_memory.proofs.marks.unmark.Goals as goal

pub returns-clause-unset : goal.returns-clause-unset
returns-clause-unset c r = elim (cases_lt r (length c.loop-place.marks)) [
  | inl below ↦ c.loop-place.invariant r (omega (arith, below, c.loop-place-test.false))
  | inr above ↦ get_or_past c.loop-place.marks r false (omega (arith, above))
]

pub loop-place-preserved : goal.loop-place-preserved
loop-place-preserved c r below = elim (cases_eq r c.loop-place.place) [
  | inl same ↦ ap (λ q. get_or (set c.loop-place.marks c.loop-place.place false) q false) same
      ∙ get_or-set_same c.loop-place.marks c.loop-place.place false false (omega (arith, c.loop-place-test.true))
  | inr other ↦ get_or-set_other c.loop-place.marks c.loop-place.place r false false other ∙ c.loop-place.invariant r (omega (arith, below, other))
]
