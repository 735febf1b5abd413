-- Effects of methods of the platform that set no cells.
use Rattle.std.proofs.Common.{◌≡◌, ◌+◌, true, None, sym, ◌∙◌, ap, subst, if◌then◌else◌}
use Rattle.std.proofs.lemmas.Bool.{both_ways}
use Rattle.std.proofs.lemmas.Option.{none-some}
use Rattle.jc_memory.specs.declared.registers.Installation.{Installation}
use Rattle.jc_memory.specs.declared.registers.Installation.TheVariants.{Idle, Open, Registered}
use Rattle.jc_memory.specs.declared.registers.Registers.{Registers}
use Rattle.jc_transient.specs.Owners.{owner_number}
use Rattle.jc_memory.specs.State.{MemoryState}
use Rattle.jc_linker.specs.Values.{Packages}
use Rattle.jc_api_framework.specs.Applet.Register.{open_installation}
use Rattle.jc_api_framework.proofs.Passing.{Bears}
use Rattle.law_soundness.specs.MemoryLaws.Fit.{FitsTurn, IsFit}
use Rattle.law_soundness.specs.MemoryLaws.State.{IsSoundMemory, is_home, is_open, is_owner_up_to}
use Rattle.law_soundness.proofs.Effects.{keeps_sound}

-- registers that have the same owner, the same installation and the same selected applet
module _ (p : Packages) (m : MemoryState) (sound : IsSoundMemory p m) (g : Registers) (active : g.active ≡ m.registers.active)
    (installation : g.installation ≡ m.registers.installation) (selected : g.selected ≡ m.registers.selected) where
  known_for : (i : Installation) → m.registers.installation ≡ i → is_owner_up_to (if is_open i then m.heap.durable.counts.1 + 1 else m.heap.now.counts.1)
      m.heap.now (owner_number g.active) ≡ true
  known_for i is = subst (λ x. is_owner_up_to (if is_open x then m.heap.durable.counts.1 + 1 else m.heap.now.counts.1) m.heap.now (owner_number g.active)
      ≡ true) is
      (subst (λ o. is_owner_up_to (if is_open m.registers.installation then m.heap.durable.counts.1 + 1 else m.heap.now.counts.1) m.heap.now (owner_number o)
      ≡ true) (sym active) sound.active)

  pub turn_fits : FitsTurn m g
  turn_fits = record {
    active = known_for g.installation (sym installation);
    leaves = λ one other. absurd (both_ways (is_open g.installation) other (ap is_open installation ∙ one));
    home = subst (λ i. is_home m.heap.now i ≡ true) (sym installation) sound.home;
    selected = λ a is. sound.selected a (sym selected ∙ is);
    opens = λ on. ap is_open (sym installation) ∙ on;
  }

pub not_opened : (i : Installation) → open_installation i ≡ None → is_open i ≡ true → ⊥
not_opened Idle none on = absurd cc
not_opened (Open home entry) none on = none-some home (sym none)
not_opened (Registered home) none on = absurd cc

-- effects of methods that set no cells fit a sound memory, and each that fits leaves it sound
pub bears : (p : Packages) → Bears (IsFit p) (IsSoundMemory p)
bears p = record {
  keeps = keeps_sound p;
  turns = λ g m sound active installation selected. turn_fits p m sound g active installation selected;
  begins = λ m sound off. off;
  commits = λ m sound begun none. (begun, λ on. absurd (not_opened m.registers.installation none on));
  aborts = λ m on. on;
  sends = λ bytes m. tt;
}
