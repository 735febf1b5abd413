use Rattle.std.proofs.Common.{◌∙◌, ap, arith, false, get_or, inl, inr, set, sym}
use Rattle.std.proofs.lemmas.Bool.{cases_eq, cases_lt, true≢false}
use Rattle.std.proofs.lemmas.List.{get_or-set_other, get_or-set_same}
use Rattle.jc_memory.proofs.marks.unmark_between.Goals as goal

pub loop-place-init : goal.loop-place-init
loop-place-init c r marked = (marked, cases_lt r c.args.from)

pub loop-place-preserved : goal.loop-place-preserved
loop-place-preserved c r marked = elim (cases_eq r c.loop-place.place) [
  | inl same ↦ absurd (true≢false (sym marked ∙ ap (λ q. get_or (set c.loop-place.marks c.loop-place.place false) q false) same
      ∙ get_or-set_same c.loop-place.marks c.loop-place.place false false (omega arith)))
  | inr other ↦
      let before = c.loop-place.invariant r (sym (get_or-set_other c.loop-place.marks c.loop-place.place r false false other) ∙ marked) in (
        before.0,
        elim before.1 [
          | inl below ↦ inl below
          | inr above ↦ inr (omega (arith, above, other))
        ],
      )
]

pub returns-clause-left : goal.returns-clause-left
returns-clause-left c r marked =
    let last = c.loop-place.invariant r marked in (
      last.0,
      elim last.1 [
        | inl below ↦ inl below
        | inr above ↦ inr (omega (arith, above))
      ],
    )
