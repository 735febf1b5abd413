-- Lines that have a form.
use Rattle.std.proofs.Common.{◌≡◌, ◌∙◌, sym, subst}
use Rattle.jc_card.specs.Session.Requests.{Command, Reset as Resets, ArmFuse as ArmsFuse, PlanFault as PlansFault}
use Rattle.jcard_script.specs.Line.{IsAsked}
use Rattle.jcard_script.specs.Script.{Form, Skipped, Asks, Bad}
use Rattle.jcard_script.specs.declared.line.LineRequest.{LineRequest}
use Rattle.jcard_script.specs.declared.line.LineRequest.TheVariants.{Nothing, Exchange, Reset, ArmFuse, PlanFault, Refused}

-- what is asked for is written as a form
abbrev pub HasForm : LineRequest → Type 0
HasForm Refused = ⊥
HasForm other = Unit {0}

has_form : (asked : LineRequest) (form : Form) → HasForm asked → IsAsked asked form → form ≡ Bad → ⊥
has_form Nothing form h a bad = let e : Skipped ≡ Bad = sym a ∙ bad in absurd cc
has_form (Exchange command) form h a bad = let e : Asks (Command a.0) ≡ Bad = sym a.1 ∙ bad in absurd cc
has_form Reset form h a bad = let e : Asks Resets ≡ Bad = sym a ∙ bad in absurd cc
has_form (ArmFuse k) form h a bad = let e : Asks (ArmsFuse k) ≡ Bad = sym a ∙ bad in absurd cc
has_form (PlanFault fault) form h a bad = let e : Asks (PlansFault fault) ≡ Bad = sym a ∙ bad in absurd cc
has_form Refused form h a bad = absurd h

pub not_bad : (r asked : LineRequest) (form : Form) → r ≡ asked → HasForm asked → IsAsked r form → form ≡ Bad → ⊥
not_bad r asked form is h a bad = has_form asked form h (subst (λ (x : LineRequest). IsAsked x form) is a) bad
