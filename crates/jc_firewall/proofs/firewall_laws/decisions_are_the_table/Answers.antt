use Rattle.std.proofs.Common.{◌≡◌, ◌∙◌, sym, ap, subst, refl, inl, inr, Bool, true, false, not, Option, None, Some}
use Rattle.std.specs.Prelude.{find}
use Rattle.jc_firewall.specs.declared.access.Access.{Access}
use Rattle.jc_firewall.specs.declared.access.Rule.{Rule}
use Rattle.jc_firewall.specs.declared.decide.Decision.{Decision}
use Rattle.jc_firewall.specs.declared.decide.Decision.TheVariants.{Allow, Switch, Deny}
use Rattle.jc_firewall.specs.declared.subject.Situation.{Situation}
use Rattle.jc_firewall.specs.Situation.{is_environment}
use Rattle.jc_firewall.specs.Table.{Answers, allows, decision, first_refusal, rules, switches}
use Rattle.jc_firewall.proofs.Finds.{all_allow, first_refuses, is_first, none_refuses}
use Rattle.jc_firewall.proofs.firewall_laws.decisions_are_the_table.Goals as goal

-- the decision by its three tests
of_tests : Situation → Bool → Option Rule → Bool → Decision
of_tests s true found switch = Allow
of_tests s false (Some rule) switch = Deny rule
of_tests s false None true = Switch s.object.owner
of_tests s false None false = Allow

by_tests : (a : Access) (s : Situation) (e : Bool) (o : Option Rule) (w : Bool) → is_environment s ≡ e → first_refusal a s ≡ o → switches a s ≡ w
    → decision a s ≡ of_tests s e o w
unfolding of_tests
by_tests a s true o w environment found switch = rw environment refl
by_tests a s false (Some rule) w environment found switch = rw (environment, found) refl
by_tests a s false None true environment found switch = rw (environment, found, switch) refl
by_tests a s false None false environment found switch = rw (environment, found, switch) refl

answered : (a : Access) (s : Situation) (e : Bool) (o : Option Rule) (w : Bool) → is_environment s ≡ e → first_refusal a s ≡ o → switches a s ≡ w
    → Answers a s (of_tests s e o w)
unfolding of_tests
answered a s true o w environment found switch = inl environment
answered a s false (Some rule) w environment found switch = (environment, is_first a s rules rule found)
answered a s false None true environment found switch = (environment, all_allow a s rules found, switch, refl)
answered a s false None false environment found switch = inr (environment, all_allow a s rules found, switch)

in_table : (a : Access) (s : Situation) (d : Decision) → Answers a s d → decision a s ≡ d
unfolding of_tests
in_table a s Allow (inl environment) = by_tests a s true (first_refusal a s) (switches a s) environment refl refl
in_table a s Allow (inr (environment, pass, switch)) = by_tests a s false None false environment (none_refuses a s rules pass) switch
in_table a s (Switch context) (environment, pass, switch, owner) = by_tests a s false None true environment (none_refuses a s rules pass) switch
    ∙ ap Switch (sym owner)
in_table a s (Deny rule) (environment, (before, after, split, bad, good)) =
    by_tests a s false (Some rule) (switches a s) environment (ap (find (λ r. not (allows r a s))) split ∙ first_refuses a s before rule after bad good) refl

pub returns : goal.returns
returns c = λ a s d. (
  in_table a s d,
  λ h. subst (Answers a s) (sym (by_tests a s (is_environment s) (first_refusal a s) (switches a s) refl refl refl) ∙ h)
      (answered a s (is_environment s) (first_refusal a s) (switches a s) refl refl refl),
)
