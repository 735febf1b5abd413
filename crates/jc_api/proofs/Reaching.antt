-- Objects that checks let code go on with, and what the firewall says of them: they are within reach.
use Rattle.std.specs.Prelude.{◌==◌, is_ok}
use Rattle.std.proofs.Common.{◌≡◌, true, refl, ap, Ok, Err, inl, inr, Option, Some, None, Bool, false, if◌then◌else◌, sym, ℕ, Result}
use Rattle.std.proofs.lemmas.Bool.{false≢true, eqb-true, or_cases}
use Rattle.std.proofs.lemmas.Option.{none-some, same_Some}
use Rattle.jc_heap.specs.Heap.{IsObject, facts, heap_item_at}
use Rattle.jc_heap.specs.Object.{is_object}
use Rattle.jc_heap.specs.declared.object.Facts.{Facts}
use Rattle.jc_firewall.specs.FirewallLaws.{IsInReach}
use Rattle.jc_firewall.specs.Situation.{same_context, is_own, is_global_array, is_environment}
use Rattle.jc_firewall.specs.Table.{rules, AllAllow, judgement, first_refusal}
use Rattle.jc_firewall.specs.declared.access.Access.{Access}
use Rattle.jc_firewall.specs.declared.access.Access.TheVariants.{ArrayElement, InstanceField}
use Rattle.jc_firewall.specs.declared.access.Rule.{Rule}
use Rattle.jc_firewall.specs.declared.decide.Decision.TheVariants.{Allow}
use Rattle.jc_firewall.specs.declared.subject.Context.{Context}
use Rattle.jc_firewall.specs.declared.subject.Context.TheVariants.{Jcre, Package}
use Rattle.jc_firewall.specs.declared.subject.Situation.{Situation}
use Rattle.jc_firewall.proofs.Finds.{all_allow}
use Rattle.jc_memory.specs.Cells.{header_at}
use Rattle.jc_memory.specs.State.{MemoryState}
use Rattle.jc_linker.specs.Values.{Packages}
use Rattle.jc_frames.specs.declared.exceptions.Exception.TheVariants.{NullPointerException}
use Rattle.jc_frames.specs.declared.outcome.FrameExit.{FrameExit}
use Rattle.jc_frames.specs.declared.outcome.FrameExit.TheVariants.{Throw}
use Rattle.jc_world.specs.Contexts.{unless_denied, firewall_check, firewall_decision, situation_of}
use Rattle.jc_world.specs.Objects.{some_or_fault, object_at}

pub one_context : (a b : Context) → same_context a b ≡ true → a ≡ b
one_context Jcre Jcre e = refl
one_context Jcre (Package q) e = absurd (false≢true e)
one_context (Package p) Jcre e = absurd (false≢true e)
one_context (Package p) (Package q) e = ap Package (eqb-true p q e)

pub err_not_ok : {A : Type 0} {a : A} {e : FrameExit} → Err e ≡ Ok a → ⊥
err_not_ok same = false≢true (ap is_ok same)

pub own_reach : (s : Situation) → is_own s ≡ true → IsInReach s
own_reach s e = inr (inl (one_context s.object.owner s.active e))

-- where all rules allow an array's element or an instance's field, the object is within reach
element_reach : (s : Situation) → AllAllow ArrayElement s rules → IsInReach s
element_reach s all = elim (or_cases (is_own s) (is_global_array s.object) all.1.0) [
  | inl own ↦ own_reach s own
  | inr global ↦ inr (inr global)
]

field_reach : (s : Situation) → AllAllow InstanceField s rules → IsInReach s
field_reach s all = own_reach s all.1.1.0

-- an access that is not denied: the environment's, or one that all rules allow
not_denied : (a : Access) (s : Situation) (r : Option Rule) → first_refusal a s ≡ r → unless_denied (judgement a s r) ≡ Ok tt → AllAllow a s rules
not_denied a s None none fine = all_allow a s rules none
not_denied a s (Some rule) found fine = absurd (err_not_ok fine)

either_reach : (a : Access) (s : Situation) (b : Bool) → is_environment s ≡ b → (AllAllow a s rules → IsInReach s)
    → unless_denied (if b then Allow else judgement a s (first_refusal a s)) ≡ Ok tt → IsInReach s
either_reach a s true environment reach fine = inl (one_context s.active Jcre environment)
either_reach a s false applet reach fine = reach (not_denied a s (first_refusal a s) refl fine)

-- an allowed access to elements or fields is within reach
pub element_allowed : (p : Packages) (m : MemoryState) (f : Facts) → firewall_check ArrayElement p m f ≡ Ok tt → IsInReach (situation_of p m f)
unfolding firewall_decision
element_allowed p m f fine = either_reach ArrayElement (situation_of p m f) (is_environment (situation_of p m f)) refl (element_reach (situation_of p m f)) fine

pub field_allowed : (p : Packages) (m : MemoryState) (f : Facts) → firewall_check InstanceField p m f ≡ Ok tt → IsInReach (situation_of p m f)
unfolding firewall_decision
field_allowed p m f fine = either_reach InstanceField (situation_of p m f) (is_environment (situation_of p m f)) refl (field_reach (situation_of p m f)) fine

-- the header of the object that a reference names
header_found : (b : Bool) (f g : Facts) → (if b then Some f else None) ≡ Some g → (b ≡ true) × (g ≡ f)
header_found true f g e = (refl, sym (same_Some f g e))
header_found false f g e = absurd (none-some g e)

pub header_is : (m : MemoryState) (r : ℕ) (f : Facts) → header_at m r ≡ Some f → IsObject m.heap.now r × (f ≡ facts m.heap.now r)
header_is m r f e = header_found (is_object (heap_item_at m.heap.now r)) (facts m.heap.now r) f e

abbrev ok_of : {A : Type 0} → Result A FrameExit → Option A
ok_of (Ok x) = Some x
ok_of (Err y) = None

pub same_Ok : {A : Type 0} (a b : A) → ◌≡◌ {A = Result A FrameExit} (Ok a) (Ok b) → a ≡ b
same_Ok a b e = same_Some a b (ap ok_of e)

-- it is there
pub or_found : {A : Type 0} (o : Option A) (a : A) → some_or_fault o ≡ Ok a → o ≡ Some a
or_found None a e = absurd (err_not_ok e)
or_found (Some b) a e = ap ok_of e

pub object_is : (m : MemoryState) (r : ℕ) (f : Facts) → object_at m r ≡ Ok f → IsObject m.heap.now r × (f ≡ facts m.heap.now r)
unfolding object_at
object_is m r f e = first (r == 0) e
  where
    first : (b : Bool) → (if b then Err (Throw NullPointerException) else some_or_fault (header_at m r)) ≡ Ok f
        → IsObject m.heap.now r × (f ≡ facts m.heap.now r)
    first true is = absurd (err_not_ok is)
    first false is = header_is m r f (or_found (header_at m r) f is)
