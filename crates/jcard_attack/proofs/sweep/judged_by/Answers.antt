use Rattle.std.proofs.Common.{Bool, true, false, IsTrue, refl, rules}
use Rattle.std.specs.Bool.{MatchBool}
use Rattle.std.specs.Prelude.{◌↔◌}
use Rattle.jcard_attack.proofs.sweep.judged_by.Goals as goal

-- a test that says whether something holds
tested : (b : Bool) (P : Type 0) → (IsTrue b ↔ P) → MatchBool b P (P → ⊥)
tested true P h = h.0 (search rules)
tested false P h = λ p. none (h.1 p)
  where
    none : IsTrue false → ⊥
    none is = search rules

pub returns-clause-judged : goal.returns-clause-judged
returns-clause-judged c = λ words command comes. record {
  left = c.args.aftermath.left;
  same = c.is_same_as-is_unchanged.result;
  last = c.last_answer-2.result.now;
  undisturbed_last = c.last_answer.result.now;
  comes = comes;
  told = c.in_ok-answers.ensures;
  compared = tested c.is_same_as-is_unchanged.result _ c.is_same_as-is_unchanged.ensures;
  last_is = rw (c.deref-3.ensures.value, c.deref-4.ensures.value) at c.last_answer-2.ensures;
  undisturbed_is = rw (c.deref.ensures.value, c.deref-2.ensures.value) at c.last_answer.ensures;
  judged_so = rw (c.deref-5.ensures.value, c.deref-6.ensures.value, c.gives_access-gives_access.ensures) at c.judged-outcome.ensures;
  stands = c.compared-standing.ensures;
}
