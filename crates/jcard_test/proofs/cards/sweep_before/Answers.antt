use Rattle.std.proofs.Common.{◌≡◌, ◌∙◌, ℕ, List, Option, sym, subst, rules}
use Rattle.jcard_test.specs.Cards.{IsSweep, probe_in, said_sweep}
use Rattle.jcard_test.specs.declared.cards.SaidSweep.{SaidSweep}
use Rattle.jcard_test.proofs.CardSteps.{was_not}
use Rattle.jcard_test.proofs.cards.sweep_before.Goals as goal

pub returns : goal.returns
returns c =
    let own = c.args.command.now in
    let said = c.in-Some-sweep_in.said in
    let probe = c.in_ok-probe.probe.items in
    let none = was_not ((probe : Option (List ℕ)) → IsSweep own probe → ⊥) (λ (s : SaidSweep). IsSweep own (said_sweep s)) c.sweep_in.result c.sweep_in.ensures
    (sym c.is_some.ensures ∙ c.if-is_some.false) in
    let same = subst (λ p. IsSweep c.as_str.result.now (probe_in said.attacked p)) (sym (c.in_ok-probe.ensures.items ∙ c.as_bytes.ensures.value))
    c.in-Some-sweep_in.ensures in
    (none, (c.in-Some.last.now, search rules, subst (λ t. IsSweep t (probe_in said.attacked probe)) c.as_str.ensures.value same))
