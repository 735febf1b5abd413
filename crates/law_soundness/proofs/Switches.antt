-- A call of a method in bytecode never switches to the runtime environment: its objects are of the platform's classes, which have no such methods.
use Rattle.std.proofs.Common.{◌≡◌, ℕ, true, inl, inr, Some, None, Ok, refl, sym, ◌∙◌, ap, subst, if◌then◌else◌, List}
use Rattle.std.proofs.lemmas.Option.{none-some, same_Some}
use Rattle.jc_heap.specs.declared.object.Facts.{Facts}
use Rattle.jc_heap.specs.declared.object.Kind.{Kind}
use Rattle.jc_heap.specs.declared.object.Kind.TheVariants.{Instance}
use Rattle.jc_transient.specs.declared.owner.Owner.{Owner}
use Rattle.jc_transient.specs.Owners.{owner_number, owner_of}
use Rattle.jc_memory.specs.State.{MemoryState}
use Rattle.jc_platform.specs.declared.names.PlatformClass.{PlatformClass}
use Rattle.jc_platform.specs.declared.names.PlatformClass.TheVariants.{Object}
use Rattle.jc_platform.specs.NamePlaces.{class_word}
use Rattle.jc_linker.specs.declared.target.Method.{Method}
use Rattle.jc_linker.specs.declared.target.Method.TheVariants.{Code}
use Rattle.jc_linker.specs.declared.target.Target.TheVariants.{VirtualMethod}
use Rattle.jc_linker.specs.Classes.{is_below}
use Rattle.jc_linker.specs.Methods.{interface_method_at, method_at}
use Rattle.jc_linker.specs.Values.{Packages}
use Rattle.jc_frames.specs.declared.instr.InvokeOp.{InvokeOp}
use Rattle.jc_firewall.specs.declared.decide.Decision.{Decision}
use Rattle.jc_firewall.specs.declared.decide.Decision.TheVariants.{Allow, Switch, Deny}
use Rattle.jc_frames.specs.declared.cell.Cell.{Cell}
use Rattle.jc_frames.specs.Frames.{Frames}
use Rattle.jc_world.specs.Contexts.{firewall_decision}
use Rattle.jc_world.specs.Objects.{object_at, some_or_fault}
use Rattle.jc_world.specs.Objects as world
use Rattle.jc_packages.specs.Objects.{is_instance}
use Rattle.jc_instructions.specs.declared.invoke.MethodCall.{MethodCall}
use Rattle.jc_instructions.specs.Invoke.{call_decision, call_of, class_of, method_selection, receiver_of, receiver_on}
use Rattle.jc_api.proofs.Reaching.{err_not_ok, object_is, same_Ok}
use Rattle.jc_api.proofs.Stretches.{both_ok}
use Rattle.jc_instructions.proofs.MethodSelection.{Bare, Found, Named, Selected, selected}
use Rattle.law_soundness.specs.MemoryLaws.Environment.{HasEnvironment}
use Rattle.law_soundness.specs.MemoryLaws.Fit.{IsPlatformClass}
use Rattle.law_code.specs.Platform.{KeepsPlatform}
use Rattle.law_soundness.proofs.Owners.{owner_zero}

-- the class by which a method of an object is found is one of the platform
abbrev IsOfPlatform : Packages → ℕ → Type 0
IsOfPlatform p class = (of : PlatformClass) × (class ≡ class_word p.platform of)

-- a call switches to others than the runtime environment
abbrev pub SwitchesToOthers : MethodCall → Type 0
SwitchesToOthers c = (o : Owner) → c.switches_to ≡ Some o → owner_number o ≡ 0 → ⊥

to_others : (c : MethodCall) → None ≡ c.switches_to → SwitchesToOthers c
to_others c none o is zero = none-some o (none ∙ is)

platform_class : (p : Packages) (k : Kind) (class : ℕ) → (is_instance k ≡ true → IsPlatformClass p class)
    → IsOfPlatform p (if world.is_instance k then class else class_word p.platform Object)
platform_class p Instance class is = let found = is refl in (found.0, found.2)
platform_class p _ class is = (Object, refl)

module _ (p : Packages) (m : MemoryState) (platform : KeepsPlatform p) (environment : HasEnvironment p m) (stack : List Cell) (c : MethodCall)
    (number offset : ℕ) (code : c.method ≡ Code number offset) where
  -- an object of the runtime environment is of a class of the platform
  own_class : (n : ℕ) (f : Facts) → receiver_of n stack m ≡ Ok f → f.owner ≡ 0 → IsOfPlatform p (class_of p f)
  unfolding receiver_of
  own_class n f e zero =
      let b = both_ok (some_or_fault (receiver_on n stack)) (λ r. object_at m r) f e in
      let is = object_is m b.0 f b.2 in
      platform_class p f.kind f.class (λ instance. subst (λ h. IsPlatformClass p h.class) (sym is.1)
      (environment.now.classes b.0 is.0 (subst (λ h. is_instance h.kind ≡ true) is.1 instance) (subst (λ h. h.owner ≡ 0) is.1 zero)))

  judged_others : (d : Decision) (f : Facts) (by : Method) (n : ℕ) → (f.owner ≡ 0 → by ≡ Code number offset → ⊥) → call_decision d f by n ≡ Ok c
      → SwitchesToOthers c
  judged_others Allow f by n other e = to_others c (ap (λ x. x.switches_to) (same_Ok (call_of by n None) c e))
  judged_others (Switch context) f by n other e =
      let same = same_Ok (call_of by n (Some (owner_of f.owner))) c e in
      (λ o is zero. other (owner_zero f.owner (ap owner_number (same_Some (owner_of f.owner) o (ap (λ x. x.switches_to) same ∙ is)) ∙ zero))
      (ap (λ x. x.method) same ∙ code))
  judged_others (Deny rule) f by n other e = absurd (err_not_ok e)

  selected_others : (home : ℕ) → Selected p home stack m c → SwitchesToOthers c
  selected_others home (Found f) = judged_others (firewall_decision f.access p m f.header) f.header f.method f.count
      (λ zero is. found_others is (own_class f.count f.header f.there zero)) f.judged
    where
      -- no class of the platform has a method in bytecode
      found_others : f.method ≡ Code number offset → IsOfPlatform p (class_of p f.header) → ⊥
      found_others is of = elim f.by [
        | inl by ↦ platform.virtually of.0 by.1 by.2 number offset (ap (λ x. method_at p x by.1 by.2) (sym of.1) ∙ by.3 ∙ ap Some is)
        | inr more ↦ elim more [
          | inl by ↦ platform.by_interface of.0 by.0 by.1 number offset (ap (λ x. interface_method_at p x by.0 by.1) (sym of.1) ∙ by.3 ∙ ap Some is)
          | inr by ↦ platform.by_entry of.0 home by.1 by.3 by.2 number offset (by.4 ∙ ap (λ x. Some (VirtualMethod by.3 by.2 x)) is)
              (subst (λ x. is_below p x by.3 ≡ true) of.1 by.5)
        ]
      ]
  selected_others home (Named n) = to_others c (ap (λ x. x.switches_to) n.is)
  selected_others home (Bare b) = to_others c (ap (λ x. x.switches_to) b.is)

pub chosen_others : (p : Packages) (m : MemoryState) (s : Frames) → KeepsPlatform p → HasEnvironment p m → (i : InvokeOp) (c : MethodCall) (number offset : ℕ)
    → c.method ≡ Code number offset → method_selection i p s m ≡ Ok c → SwitchesToOthers c
chosen_others p m s platform environment i c number offset code e =
    selected_others p m platform environment s.current.stack c number offset code s.current.origin.package_number (selected p i s m c e)
