-- What a call is made on: an instance of the method's class; and an owner that it switches to is known.
use Rattle.std.proofs.Common.{◌≡◌, ℕ, ◌≤◌, Bool, true, false, inl, inr, List, Option, Some, None, Ok, refl, sym, ◌∙◌, ap, subst, if◌then◌else◌}
use Rattle.std.proofs.lemmas.Bool.{both_ways, false≢true}
use Rattle.std.proofs.lemmas.Option.{none-some, same_Some}
use Rattle.std.specs.Prelude.{◌==◌}
use Rattle.jc_heap.specs.declared.object.Facts.{Facts}
use Rattle.jc_heap.specs.declared.object.Kind.{Kind}
use Rattle.jc_heap.specs.declared.object.Kind.TheVariants.{Instance}
use Rattle.jc_heap.specs.Heap.{facts}
use Rattle.jc_transient.specs.declared.owner.Owner.{Owner}
use Rattle.jc_transient.specs.declared.owner.Owner.TheVariants.{Runtime, Applet, Package}
use Rattle.jc_transient.specs.Owners.{owner_number, owner_of}
use Rattle.jc_memory.specs.State.{MemoryState}
use Rattle.jc_linker.specs.declared.target.Method.{Method}
use Rattle.jc_linker.specs.declared.target.Method.TheVariants.{Native}
use Rattle.jc_linker.specs.declared.target.Target.TheVariants.{SuperMethod, StaticMethod, VirtualMethod}
use Rattle.jc_linker.specs.Classes.{is_below, is_a}
use Rattle.jc_linker.specs.Lookups.{target_at}
use Rattle.jc_linker.specs.Values.{Packages}
use Rattle.jc_platform.specs.declared.names.MethodKind.TheVariants.{Static}
use Rattle.jc_platform.specs.declared.names.PlatformClass.{PlatformClass}
use Rattle.jc_platform.specs.declared.names.PlatformClass.TheVariants.{Aid, Object}
use Rattle.jc_platform.specs.declared.names.PlatformMethod.{PlatformMethod}
use Rattle.jc_platform.specs.declared.names.PlatformMethod.TheVariants.{Aids}
use Rattle.jc_platform.specs.declared.names.AidsMethod.TheVariants.{AidInit}
use Rattle.jc_platform.specs.NamePlaces.{class_of as class_of_method, class_word, kind_of_method}
use Rattle.jc_frames.specs.declared.instr.InvokeOp.{InvokeOp}
use Rattle.jc_firewall.specs.declared.decide.Decision.{Decision}
use Rattle.jc_firewall.specs.declared.decide.Decision.TheVariants.{Allow, Switch, Deny}
use Rattle.jc_firewall.specs.declared.subject.Context.TheVariants.{Jcre}
use Rattle.jc_firewall.specs.FirewallLaws.{IsInReach}
use Rattle.jc_firewall.specs.declared.subject.Designation.TheVariants.{Ordinary, PermanentEntryPoint, TemporaryEntryPoint}
use Rattle.jc_firewall.specs.Situation.{global_array}
use Rattle.jc_frames.specs.declared.cell.Cell.{Cell}
use Rattle.jc_frames.specs.Frames.{Frames}
use Rattle.jc_world.specs.Contexts.{context_of, firewall_decision, designation_of, own_designation, situation_of, subject_of}
use Rattle.jc_world.specs.Objects.{object_at, some_or_fault}
use Rattle.jc_world.specs.Objects as world
use Rattle.jc_packages.specs.Objects.{is_instance}
use Rattle.jc_instructions.specs.declared.invoke.MethodCall.{MethodCall}
use Rattle.jc_instructions.specs.Invoke.{call_decision, call_of, class_of, is_native_constructor, is_of_any, method_selection, receiver_of, receiver_on}
use Rattle.jc_api.proofs.Reaching.{err_not_ok, object_is, same_Ok}
use Rattle.jc_api.proofs.Stretches.{both_ok}
use Rattle.jc_instructions.proofs.MethodSelection.{Bare, Found, Named, Selected, is_there, selected}
use Rattle.law_code.specs.Classes.{KnowsClasses}
use Rattle.law_soundness.specs.MemoryLaws.State.{IsSoundMemory, is_owner_up_to, last_own, most_owner}
use Rattle.jc_platform.specs.Names.{aids_rows}
use Rattle.jc_platform.specs.Signatures.{minds_receiver}
use Rattle.law_code.specs.Methods.{IsMethodOf, KnowsMethods}
use Rattle.law_code.proofs.Facts.{minds_below_object, static_minds_none}
use Rattle.law_soundness.proofs.Owners.{known_again, object_owner}

-- ---- the code that runs is a package's

not_jcre : (m : MemoryState) (o : Owner) → (o ≡ Runtime → ⊥) → context_of m o ≡ Jcre → ⊥
not_jcre m Runtime other e = other refl
not_jcre m (Applet a) other e = cc
not_jcre m (Package a) other e = cc

entry_no_global : (b : Bool) → global_array (if b then PermanentEntryPoint else TemporaryEntryPoint) ≡ false
entry_no_global true = refl
entry_no_global false = refl

own_no_global : (p : Packages) (k : Kind) (class : ℕ) → is_instance k ≡ true → global_array (own_designation p k class) ≡ false
own_no_global p Instance class e = entry_no_global (class == class_word p.platform Aid)
own_no_global p _ class e = absurd (false≢true e)

no_global : (p : Packages) (f : Facts) → is_instance f.kind ≡ true → (b : Bool) → global_array
    (if b then own_designation p f.kind f.class else Ordinary) ≡ false
no_global p f instance true = own_no_global p f.kind f.class instance
no_global p f instance false = refl

-- ---- what a method is called on that minds it

-- the constructor of AID is such a method
aid_static : kind_of_method (Aids AidInit) ≡ Static
unfolding aids_rows
aid_static = refl

pub aid_minds : (method : PlatformMethod) → method ≡ Aids AidInit → minds_receiver method ≡ true
unfolding minds_receiver aids_rows
aid_minds method is = ap minds_receiver is

pub record IsOn (p : Packages) (m : MemoryState) (method : PlatformMethod) (r : ℕ) : Type 0 where
  pub instance : is_instance (facts m.heap.now r).kind ≡ true
  pub class : is_a p (facts m.heap.now r).class (class_of_method method) ≡ true
  pub owned : method ≡ Aids AidInit → (facts m.heap.now r).owner ≡ 0 → ⊥

-- a call is on such an object, and the owner that it switches to is known
pub record IsFitCall (p : Packages) (m : MemoryState) (stack : List Cell) (c : MethodCall) : Type 0 where
  pub on : (method : PlatformMethod) → c.method ≡ Native method → minds_receiver method ≡ true → (r : ℕ) → receiver_on c.arguments stack ≡ Some r
      → IsOn p m method r
  pub switches : (o : Owner) → c.switches_to ≡ Some o → is_owner_up_to (most_owner m) m.heap.now (owner_number o) ≡ true

module _ (p : Packages) (m : MemoryState) (known : KnowsClasses p) (methods : KnowsMethods p) (sound : IsSoundMemory p m)
    (own : (r : ℕ) → r ≤ last_own m → (facts m.heap.now r).owner ≡ 0) (runs : m.registers.active ≡ Runtime → ⊥) (stack : List Cell) (c : MethodCall) where
  -- arrays are instances of Object, and of no class that minds
  of_class : (of : PlatformClass) → (of ≡ Object → ⊥) → (k : Kind) (class : ℕ) → is_below p
      (if world.is_instance k then class else class_word p.platform Object) (class_word p.platform of) ≡ true
      → (is_instance k ≡ true) × (is_a p class of ≡ true)
  of_class of other Instance class e = (refl, e)
  of_class of other _ class e = absurd (other (methods.top of e))

  -- the receiver whose header was asked for
  found : (n : ℕ) (f : Facts) → receiver_of n stack m ≡ Ok f → (r : ℕ) → receiver_on n stack ≡ Some r → f ≡ facts m.heap.now r
  unfolding receiver_of
  found n f e r on =
      let b = both_ok (some_or_fault (receiver_on n stack)) (λ r. object_at m r) f e in
      (object_is m b.0 f b.2).1 ∙ ap (facts m.heap.now) (same_Some b.0 r (sym (is_there (receiver_on n stack) b.0 b.1) ∙ on))

  owner_there : (n : ℕ) (f : Facts) → receiver_of n stack m ≡ Ok f → is_owner_up_to (most_owner m) m.heap.now (owner_number (owner_of f.owner)) ≡ true
  unfolding receiver_of
  owner_there n f e =
      let b = both_ok (some_or_fault (receiver_on n stack)) (λ r. object_at m r) f e in
      let is = object_is m b.0 f b.2 in
      known_again p m methods sound f.owner (subst (λ g. is_owner_up_to (most_owner m) m.heap.now g.owner ≡ true) (sym is.1)
      (object_owner p m methods sound own b.0 is.0))

  -- a method that is reached by token or by interface
  by_class : (f : Facts) (r : ℕ) (method : PlatformMethod) → f ≡ facts m.heap.now r → minds_receiver method ≡ true → IsMethodOf p (class_of p f) method
      → IsOn p m method r
  by_class f r method same minds is =
      let of = of_class (class_of_method method) (minds_below_object method minds) f.kind f.class is.0 in
      record {
        instance = subst (λ g. is_instance g.kind ≡ true) same of.0;
        class = subst (λ g. is_a p g.class (class_of_method method) ≡ true) same of.1;
        owned = λ aid zero. is.1 (subst (λ x. kind_of_method x ≡ Static) (sym aid) aid_static);
      }

  judged_is : (d : Decision) (f : Facts) (by : Method) (n : ℕ) → is_owner_up_to (most_owner m) m.heap.now (owner_number (owner_of f.owner)) ≡ true
      → call_decision d f by n ≡ Ok c →
      (c.method ≡ by) × (c.arguments ≡ n) × ((o : Owner) → c.switches_to ≡ Some o → is_owner_up_to (most_owner m) m.heap.now (owner_number o) ≡ true)
  judged_is Allow f by n there e =
      let same = same_Ok (call_of by n None) c e in
      (ap (λ x. x.method) (sym same), ap (λ x. x.arguments) (sym same), λ o is. absurd (none-some o (ap (λ x. x.switches_to) same ∙ is)))
  judged_is (Switch context) f by n there e =
      let same = same_Ok (call_of by n (Some (owner_of f.owner))) c e in (
        ap (λ x. x.method) (sym same),
        ap (λ x. x.arguments) (sym same),
        λ o is. subst (λ x. is_owner_up_to (most_owner m) m.heap.now (owner_number x) ≡ true)
            (same_Some (owner_of f.owner) o (ap (λ x. x.switches_to) same ∙ is)) there,
      )
  judged_is (Deny rule) f by n there e = absurd (err_not_ok e)

  judged_fit : (d : Decision) (f : Facts) (by : Method) (n : ℕ) → receiver_of n stack m ≡ Ok f
      → ((method : PlatformMethod) → by ≡ Native method → IsMethodOf p (class_of p f) method) → call_decision d f by n ≡ Ok c → IsFitCall p m stack c
  judged_fit d f by n there is e =
      let j = judged_is d f by n (owner_there n f there) e in
      record {
        on = λ method reached minds r on. by_class f r method (found n f there r (ap (λ k. receiver_on k stack) (sym j.1) ∙ on)) minds
            (is method (sym j.0 ∙ reached));
        switches = j.2;
      }

  -- an object whose fields the code may set is none of the runtime environment's
  not_own : (f : Facts) → is_instance f.kind ≡ true → f.owner ≡ 0 → IsInReach (situation_of p m f) → ⊥
  unfolding situation_of subject_of
  not_own f instance zero (inl environment) = not_jcre m m.registers.active runs environment
  not_own f instance zero (inr (inl same)) = not_jcre m m.registers.active runs (sym same ∙ ap (λ n. context_of m (owner_of n)) zero)
  not_own f instance zero (inr (inr global)) = both_ways (global_array (designation_of p f)) (no_global p f instance (f.owner == 0)) global

  -- a static entry names the method's own class
  of_static : (number index : ℕ) (class : Option ℕ) (by : Method) → target_at p number index ≡ Some (StaticMethod class by)
      → (f : Facts) (method : PlatformMethod) → by ≡ Native method → is_of_any p f class ≡ true → is_a p (class_of p f) (class_of_method method) ≡ true
  of_static number index class by target f method is below =
      subst (λ o. is_of_any p f o ≡ true) (known.receivers.statically number index class method (target ∙ ap (λ x. Some (StaticMethod class x)) is)).0 below

  of_above : (number index class : ℕ) (by : Method) → target_at p number index ≡ Some (SuperMethod class by) → (f : Facts) (method : PlatformMethod)
      → by ≡ Native method → is_of_any p f (Some class) ≡ true → is_a p (class_of p f) (class_of_method method) ≡ true
  of_above number index class by target f method is below = methods.above number index class (class_of p f) method
      (target ∙ ap (λ x. Some (SuperMethod class x)) is) below

  selected_fit : (number : ℕ) → Selected p number stack m c → IsFitCall p m stack c
  selected_fit number (Found f) = judged_fit (firewall_decision f.access p m f.header) f.header f.method f.count f.there found_as f.judged
    where
      found_as : (native : PlatformMethod) → f.method ≡ Native native → IsMethodOf p (class_of p f.header) native
      found_as native is = elim f.by [
        | inl by ↦ methods.virtually (class_of p f.header) by.1 by.2 native (by.3 ∙ ap Some is)
        | inr more ↦ elim more [
          | inl by ↦ methods.by_interface (class_of p f.header) by.0 by.1 native (by.3 ∙ ap Some is)
          | inr by ↦ methods.entries number by.1 by.3 (class_of p f.header) by.2 native (by.4 ∙ ap (λ x. Some (VirtualMethod by.3 by.2 x)) is) by.5
        ]
      ]
  selected_fit number (Named n) = record {
    on = λ method reached minds r on. (
        let at = found n.count n.header n.there r (ap (λ x. receiver_on x.arguments stack) n.is ∙ on) in
        let of = of_class (class_of_method method) (minds_below_object method minds) n.header.kind n.header.class
        (named_as method (ap (λ x. x.method) n.is ∙ reached)) in
        record {
          instance = subst (λ g. is_instance g.kind ≡ true) at of.0;
          class = subst (λ g. is_a p g.class (class_of_method method) ≡ true) at of.1;
          owned = λ aid zero. not_own n.header of.0 (ap (λ g. g.owner) at ∙ zero) n.reach;
        });
    switches = λ o to. absurd (none-some o (ap (λ x. x.switches_to) n.is ∙ to));
  }
    where
      named_as : (method : PlatformMethod) → n.method ≡ Native method → is_a p (class_of p n.header) (class_of_method method) ≡ true
      named_as method is = elim n.target [
        | inl static ↦ of_static number n.index n.class n.method static n.header method is n.of
        | inr above ↦ of_above number n.index above.0 n.method above.2 n.header method is (subst (λ o. is_of_any p n.header o ≡ true) above.1 n.of)
      ]
  selected_fit number (Bare b) = record {
    on = λ native reached minds r on. (
        let is = ap (λ x. x.method) b.is ∙ reached in
        absurd (static_minds_none native
        (known.receivers.statically number b.index b.class native (b.target ∙ ap (λ x. Some (StaticMethod b.class x)) is)).1
        (subst (λ x. is_native_constructor x ≡ false) is b.made) minds));
    switches = λ o to. absurd (none-some o (ap (λ x. x.switches_to) b.is ∙ to));
  }

-- what a call that was chosen is on
pub chosen_fit : (p : Packages) (m : MemoryState) (s : Frames) → KnowsClasses p → KnowsMethods p → IsSoundMemory p m
    → ((r : ℕ) → r ≤ last_own m → (facts m.heap.now r).owner ≡ 0) → (m.registers.active ≡ Runtime → ⊥) → (i : InvokeOp) (c : MethodCall)
    → method_selection i p s m ≡ Ok c → IsFitCall p m s.current.stack c
chosen_fit p m s known methods sound own runs i c e = selected_fit p m known methods sound own runs s.current.stack c s.current.origin.package_number
    (selected p i s m c e)
