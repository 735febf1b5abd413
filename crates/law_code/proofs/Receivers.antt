-- What a call is made on: an object within reach, or nothing.
use Rattle.std.proofs.Common.{◌≡◌, ◌⊎◌, ℕ, ◌-◌, ◌<◌, ◌≤◌, Bool, true, false, inl, inr, List, length, take, reverse, get_or, Option, Some, None, Ok}
use Rattle.std.proofs.Common.{refl, sym, ◌∙◌, ap, subst, arith, if◌then◌else◌}
use Rattle.std.proofs.lemmas.Bool.{eqb-false, leb-true, not-false}
use Rattle.std.proofs.lemmas.List.{get_or-reverse, get_or-take, length-reverse, length-take-le}
use Rattle.std.proofs.lemmas.Option.{none-some, same_Some, slice_get-get_or}
use Rattle.std.specs.Option.{option_and_then}
use Rattle.std.specs.Prelude.{not, nat_le, slice_get, ◌==◌}
use Rattle.jc_heap.specs.declared.object.Facts.{Facts}
use Rattle.jc_heap.specs.Heap.{facts}
use Rattle.jc_transient.specs.declared.owner.Owner.{Owner}
use Rattle.jc_memory.specs.State.{MemoryState}
use Rattle.jc_linker.specs.declared.target.Method.{Method}
use Rattle.jc_linker.specs.declared.target.Method.TheVariants.{Native}
use Rattle.jc_linker.specs.declared.target.Target.TheVariants.{StaticMethod}
use Rattle.jc_linker.specs.Classes.{is_shareable}
use Rattle.jc_linker.specs.Values.{Packages}
use Rattle.jc_platform.specs.declared.names.MethodKind.TheVariants.{Static}
use Rattle.jc_platform.specs.declared.names.PlatformMethod.{PlatformMethod}
use Rattle.jc_platform.specs.NamePlaces.{kind_of_method}
use Rattle.jc_frames.specs.declared.instr.InvokeOp.{InvokeOp}
use Rattle.jc_firewall.specs.declared.access.Access.{Access}
use Rattle.jc_firewall.specs.declared.access.Access.TheVariants as access
use Rattle.jc_firewall.specs.declared.access.Rule.{Rule}
use Rattle.jc_firewall.specs.declared.decide.Decision.{Decision}
use Rattle.jc_firewall.specs.declared.decide.Decision.TheVariants.{Allow, Switch, Deny}
use Rattle.jc_firewall.specs.declared.subject.Context.{Context}
use Rattle.jc_firewall.specs.declared.subject.Context.TheVariants.{Jcre}
use Rattle.jc_firewall.specs.declared.subject.Situation.{Situation}
use Rattle.jc_firewall.specs.FirewallLaws.{IsInReach}
use Rattle.jc_firewall.specs.Situation.{is_environment, is_own}
use Rattle.jc_firewall.specs.Table.{AllAllow, first_refusal, rules, switches}
use Rattle.jc_firewall.specs.Table as table
use Rattle.jc_firewall.proofs.Finds.{all_allow}
use Rattle.jc_frames.specs.declared.cell.Cell.{Cell}
use Rattle.jc_frames.specs.Calls.{arguments_on}
use Rattle.jc_frames.specs.Cell.{as_reference}
use Rattle.jc_frames.specs.Frames.{Frames}
use Rattle.jc_world.specs.Contexts.{firewall_decision, situation_of}
use Rattle.jc_world.specs.Objects.{object_at, some_or_fault, reference_argument}
use Rattle.jc_instructions.specs.declared.invoke.MethodCall.{MethodCall}
use Rattle.jc_instructions.specs.Invoke.{call_decision, call_of, class_of, is_native_constructor, method_selection, receiver_of, receiver_on}
use Rattle.jc_api.proofs.Reaching.{err_not_ok, object_is, one_context, own_reach, same_Ok}
use Rattle.jc_api.proofs.Stretches.{both_ok}
use Rattle.jc_instructions.proofs.MethodSelection.{Bare, Found, IsSought, Named, Selected, is_there, selected}
use Rattle.law_code.specs.IsolationLaws.Steps.{NamesStatics}

-- ---- what the firewall allows without a switch

switch_not_allow : {o : Context} → Switch o ≡ Allow → ⊥
switch_not_allow e = cc

deny_not_allow : {rule : Rule} → Deny rule ≡ Allow → ⊥
deny_not_allow e = cc

-- a virtual or shareable call that does not switch is on an own object
own_call : (s : Situation) (o : Option Rule) (b : Bool) → not b ≡ not b → (switch : Bool) → switch ≡ not (is_own s) → (a : Access)
    → table.judgement a s o ≡ Allow → switches a s ≡ switch → is_own s ≡ true
own_call s (Some rule) b same switch is a e w = absurd (deny_not_allow e)
own_call s None b same true is a e w = absurd (switch_not_allow (ap (λ x. if x then Switch s.object.owner else Allow) (sym w) ∙ e))
own_call s None b same false is a e w = not-false (is_own s) (sym is)

call_reach : (a : Access) (s : Situation) → switches a s ≡ not (is_own s) → (b : Bool) → is_environment s ≡ b
    → (if b then Allow else table.judgement a s (first_refusal a s)) ≡ Allow → IsInReach s
call_reach a s may true environment e = inl (one_context s.active Jcre environment)
call_reach a s may false applet e = own_reach s (own_call s (first_refusal a s) true refl (not (is_own s)) refl a e may)

-- a call of a standard interface is on an own object
standard_rules : (s : Situation) (o : Option Rule) → first_refusal access.StandardInterfaceCall s ≡ o → table.judgement access.StandardInterfaceCall s o ≡ Allow
    → AllAllow access.StandardInterfaceCall s rules
standard_rules s None is e = all_allow access.StandardInterfaceCall s rules is
standard_rules s (Some rule) is e = absurd (deny_not_allow e)

standard_reach : (s : Situation) (b : Bool) → is_environment s ≡ b → (if b then Allow else table.judgement access.StandardInterfaceCall s
    (first_refusal access.StandardInterfaceCall s)) ≡ Allow → IsInReach s
standard_reach s true environment e = inl (one_context s.active Jcre environment)
standard_reach s false applet e = own_reach s (standard_rules s (first_refusal access.StandardInterfaceCall s) refl e).1.1.1.1.0

virtual_allowed : (p : Packages) (m : MemoryState) (f : Facts) → firewall_decision access.VirtualCall p m f ≡ Allow → IsInReach (situation_of p m f)
unfolding firewall_decision
virtual_allowed p m f e = call_reach access.VirtualCall (situation_of p m f) refl (is_environment (situation_of p m f)) refl e

shareable_allowed : (p : Packages) (m : MemoryState) (f : Facts) → firewall_decision access.ShareableInterfaceCall p m f ≡ Allow
    → IsInReach (situation_of p m f)
unfolding firewall_decision
shareable_allowed p m f e = call_reach access.ShareableInterfaceCall (situation_of p m f) refl (is_environment (situation_of p m f)) refl e

standard_allowed : (p : Packages) (m : MemoryState) (f : Facts) → firewall_decision access.StandardInterfaceCall p m f ≡ Allow → IsInReach (situation_of p m f)
unfolding firewall_decision
standard_allowed p m f e = standard_reach (situation_of p m f) (is_environment (situation_of p m f)) refl e

-- ---- receivers

-- the call is on an object within reach
pub record IsOnOwn (p : Packages) (m : MemoryState) (stack : List Cell) (c : MethodCall) : Type 0 where
  pub receiver : ℕ
  pub on : receiver_on c.arguments stack ≡ Some receiver
  pub reach : IsInReach (situation_of p m (facts m.heap.now receiver))

-- or it is one of a static method
abbrev pub IsStatic : MethodCall → Type 0
IsStatic c = (method : PlatformMethod) → c.method ≡ Native method → (kind_of_method method ≡ Static) × (is_native_constructor (Native method) ≡ false)

abbrev pub IsFit : Packages → MemoryState → List Cell → MethodCall → Type 0
IsFit p m stack c = IsOnOwn p m stack c ⊎ IsStatic c

owner_none : {o : Owner} → Some o ≡ None → ⊥
owner_none e = cc

module _ (p : Packages) (m : MemoryState) (stack : List Cell) (c : MethodCall) (here : c.switches_to ≡ None) where
  -- the receiver, by what its header was asked for
  found_on : (n : ℕ) (f : Facts) → receiver_of n stack m ≡ Ok f → IsInReach (situation_of p m f) → c.arguments ≡ n → IsOnOwn p m stack c
  unfolding receiver_of
  found_on n f e reach same =
      let b = both_ok (some_or_fault (receiver_on n stack)) (λ r. object_at m r) f e in
      record {
        receiver = b.0;
        on = ap (λ k. receiver_on k stack) same ∙ is_there (receiver_on n stack) b.0 b.1;
        reach = subst (λ g. IsInReach (situation_of p m g)) (object_is m b.0 f b.2).1 reach;
      }

  judged_on : (d : Decision) (f : Facts) (found : Method) (n : ℕ) → (d ≡ Allow → IsInReach (situation_of p m f)) → receiver_of n stack m ≡ Ok f
      → call_decision d f found n ≡ Ok c → IsOnOwn p m stack c
  judged_on Allow f found n reach there e = found_on n f there (reach refl) (ap (λ x. x.arguments) (sym (same_Ok (call_of found n None) c e)))
  judged_on (Switch context) f found n reach there e = absurd (owner_none (ap (λ x. x.switches_to) (same_Ok _ c e) ∙ here))
  judged_on (Deny rule) f found n reach there e = absurd (err_not_ok e)

  interface_decided : (interface : ℕ) (f : Facts) (b : Bool) → is_shareable p interface ≡ b
      → firewall_decision (if b then access.ShareableInterfaceCall else access.StandardInterfaceCall) p m f ≡ Allow → IsInReach (situation_of p m f)
  interface_decided interface f true is e = shareable_allowed p m f e
  interface_decided interface f false is e = standard_allowed p m f e

  found_reach : (number : ℕ) (f : Facts) (method : Method) (a : Access) → IsSought p number (class_of p f) method a → firewall_decision a p m f ≡ Allow
      → IsInReach (situation_of p m f)
  found_reach number f method a (inl by) e = virtual_allowed p m f (subst (λ x. firewall_decision x p m f ≡ Allow) by.0 e)
  found_reach number f method a (inr (inl by)) e = interface_decided by.0 f (is_shareable p by.0) refl (subst (λ x. firewall_decision x p m f ≡ Allow) by.2 e)
  found_reach number f method a (inr (inr by)) e = virtual_allowed p m f (subst (λ x. firewall_decision x p m f ≡ Allow) by.0 e)

  selected_on : (number : ℕ) → NamesStatics p → Selected p number stack m c → IsFit p m stack c
  selected_on number statics (Found f) = inl (judged_on (firewall_decision f.access p m f.header) f.header f.method f.count
      (found_reach number f.header f.method f.access f.by) f.there f.judged)
  selected_on number statics (Named n) = inl (found_on n.count n.header n.there n.reach (ap (λ x. x.arguments) (sym n.is)))
  selected_on number statics (Bare b) = inr (λ native is. let same : b.method ≡ Native native = ap (λ x. x.method) b.is ∙ is in (
    statics number b.index b.class native (b.target ∙ ap (λ x. Some (StaticMethod b.class x)) same),
    subst (λ x. is_native_constructor x ≡ false) same b.made,
  ))

-- what a call that was chosen, and does not switch, is on
pub chosen_fit : (p : Packages) (statics : NamesStatics p) (m : MemoryState) (s : Frames) (c : MethodCall) → c.switches_to ≡ None → (i : InvokeOp)
    → method_selection i p s m ≡ Ok c → IsFit p m s.current.stack c
chosen_fit p statics m s c here i e = selected_on p m s.current.stack c here s.current.origin.package_number statics (selected p i s m c e)

-- ---- the first argument is the receiver

pub args_are : (n : ℕ) (stack args : List Cell) (b : Bool) → nat_le n (length stack) ≡ b → (if b then Some (reverse (take n stack)) else None) ≡ Some args
    → (n ≤ length stack) × (reverse (take n stack) ≡ args)
args_are n stack args true le e = (leb-true n (length stack) le, same_Some (reverse (take n stack)) args e)
args_are n stack args false le e = absurd (none-some args e)

pub first_is : (n : ℕ) (stack : List Cell) (d : Cell) → 0 < n → n ≤ length stack → slice_get (reverse (take n stack)) 0 ≡ slice_get stack (n - 1)
first_is n stack d some le =
    let long = length-take-le n stack le in
    let turned = length-reverse (take n stack) in
    let last : length (take n stack) - 1 - 0 ≡ n - 1 = omega (arith, long) in
    slice_get-get_or (reverse (take n stack)) 0 d (omega (arith, long, turned, some))
    ∙ ap Some (get_or-reverse (take n stack) 0 d (omega (arith, long, some)) ∙ ap (λ i. get_or (take n stack) i d) last
    ∙ get_or-take n stack (n - 1) d (omega (arith, some)))
    ∙ sym (slice_get-get_or stack (n - 1) d (omega (arith, some, le)))

receiver_in : (n : ℕ) (stack : List Cell) (b : Bool) → n == 0 ≡ b → (r : ℕ) → (if b then None else option_and_then as_reference (slice_get stack (n - 1)))
    ≡ Some r → (0 < n) × (option_and_then as_reference (slice_get stack (n - 1)) ≡ Some r)
receiver_in n stack true is r e = absurd (none-some r e)
receiver_in n stack false is r e = (let ne = eqb-false n 0 is in omega (arith, ne), e)

pub first_argument : (n : ℕ) (stack args : List Cell) (r own : ℕ) (d : Cell) → receiver_on n stack ≡ Some r → arguments_on n stack ≡ Some args
    → reference_argument args 0 ≡ Some own → own ≡ r
first_argument n stack args r own d on are is =
    let a = args_are n stack args (nat_le n (length stack)) refl are in
    let b = receiver_in n stack (n == 0) refl r on in
    same_Some own r (sym is ∙ ap (λ l. option_and_then as_reference (slice_get l 0)) (sym a.1)
    ∙ ap (option_and_then as_reference) (first_is n stack d b.0 a.0) ∙ b.1)
