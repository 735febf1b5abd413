-- The firewall's table (runtime environment specification, access to objects).
use Rattle.std.specs.Prelude.{ℕ, Bool, true, false, not, ◌||◌, ◌≡◌, ◌⊎◌, if◌then◌else◌, List, [], ◌∷◌, ◌++◌, Option, None, Some, find}
use Rattle.jc_firewall.specs.declared.access.Access.{Access}
use Rattle.jc_firewall.specs.declared.access.Access.TheVariants.{StaticField, ArrayElement, InstanceField, VirtualCall, StandardInterfaceCall}
use Rattle.jc_firewall.specs.declared.access.Access.TheVariants.{ShareableInterfaceCall, Throw, CastToClass, CastToStandardInterface, CastToShareableInterface}
use Rattle.jc_firewall.specs.declared.access.Access.TheVariants.{StoreReference}
use Rattle.jc_firewall.specs.declared.access.Rule.{Rule}
use Rattle.jc_firewall.specs.declared.access.Rule.TheVariants.{StaticFields, Arrays, InstanceFields, VirtualCalls, StandardInterfaceCalls}
use Rattle.jc_firewall.specs.declared.access.Rule.TheVariants.{ShareableInterfaceCalls, Throws, Casts, StoredReferences, ClearOnDeselectArrays}
use Rattle.jc_firewall.specs.declared.decide.Decision.{Decision}
use Rattle.jc_firewall.specs.declared.decide.Decision.TheVariants.{Allow, Switch, Deny}
use Rattle.jc_firewall.specs.declared.subject.Situation.{Situation}
use Rattle.jc_firewall.specs.Situation.{is_live_transient, is_entry_point, is_environment, is_global_array, is_own, may_be_stored}

-- the rules, in the order in which they are asked
abbrev pub rules : List Rule
rules = StaticFields ∷ Arrays ∷ InstanceFields ∷ VirtualCalls ∷ StandardInterfaceCalls ∷ ShareableInterfaceCalls ∷ Throws ∷ Casts ∷ ClearOnDeselectArrays
    ∷ StoredReferences ∷ []

-- a rule allows an access in a situation; each speaks of its own accesses, and lets all others by
abbrev pub allows : Rule → Access → Situation → Bool
-- 1: static fields, always
allows StaticFields a s = true
-- 2: the elements and the length of an array of the active context, or of a global array
allows Arrays ArrayElement s = is_own s || is_global_array s.object
allows Arrays a s = true
-- 3: instance fields of an object of the active context, and it as the receiver of invokespecial
allows InstanceFields InstanceField s = is_own s
allows InstanceFields a s = true
-- 4: virtual calls on an object of the active context, a JCRE entry point object or a global array
allows VirtualCalls VirtualCall s = is_own s || is_entry_point s.object || is_global_array s.object
allows VirtualCalls a s = true
-- 5: calls of a standard interface on an object of the active context
allows StandardInterfaceCalls StandardInterfaceCall s = is_own s
allows StandardInterfaceCalls a s = true
-- 6: calls of a shareable interface on an object of the active context, or of a class with a shareable interface
allows ShareableInterfaceCalls ShareableInterfaceCall s = is_own s || s.object.has_shareable_interface
allows ShareableInterfaceCalls a s = true
-- 7: athrow of an object of the active context, or of a JCRE entry point object
allows Throws Throw s = is_own s || is_entry_point s.object
allows Throws a s = true
-- 8: casts of an object of the active context; against a class or an array type also of a JCRE entry point object or a
-- global array; against a shareable interface also of an object of a class with a shareable interface
allows Casts CastToClass s = is_own s || is_entry_point s.object || is_global_array s.object
allows Casts CastToStandardInterface s = is_own s
allows Casts CastToShareableInterface s = is_own s || s.object.has_shareable_interface
allows Casts a s = true
-- 9: a reference is stored that is neither to a global array nor to a temporary JCRE entry point object
allows StoredReferences StoreReference s = may_be_stored s.object
allows StoredReferences a s = true
-- 10: an array that is cleared at a deselection is touched by the selected applet's context alone; a reference to it
-- may be stored by any
allows ClearOnDeselectArrays StaticField s = true
allows ClearOnDeselectArrays StoreReference s = true
allows ClearOnDeselectArrays a s = is_live_transient s

-- a call on an object of another context runs in that context
abbrev pub switches : Access → Situation → Bool
switches VirtualCall s = not (is_own s)
switches ShareableInterfaceCall s = not (is_own s)
switches a s = false

-- the first rule that refuses
abbrev pub first_refusal : Access → Situation → Option Rule
first_refusal a s = find (λ rule. not (allows rule a s)) rules

-- the answer where this is the first rule that refuses
abbrev pub judgement : Access → Situation → Option Rule → Decision
judgement a s None = if switches a s then Switch s.object.owner else Allow
judgement a s (Some rule) = Deny rule

-- the answer: all is allowed to the runtime environment, and to others what no rule refuses
abbrev pub decision : Access → Situation → Decision
decision a s = if is_environment s then Allow else judgement a s (first_refusal a s)

-- ---- the table as a set of accesses, situations and answers

-- each of these rules allows it
abbrev pub AllAllow : Access → Situation → List Rule → Type 0
AllAllow a s [] = Unit {0}
AllAllow a s (rule ∷ more) = (allows rule a s ≡ true) × AllAllow a s more

-- this rule refuses, and none that is asked before it
abbrev pub RefusesFirst : Rule → Access → Situation → Type 0
RefusesFirst rule a s = (before after : List Rule) × (rules ≡ before ++ rule ∷ after) × (allows rule a s ≡ false) × AllAllow a s before

-- this access in this situation has this answer
abbrev pub Answers : Access → Situation → Decision → Type 0
Answers a s Allow = (is_environment s ≡ true) ⊎ ((is_environment s ≡ false) × AllAllow a s rules × (switches a s ≡ false))
Answers a s (Switch context) = (is_environment s ≡ false) × AllAllow a s rules × (switches a s ≡ true) × (context ≡ s.object.owner)
Answers a s (Deny rule) = (is_environment s ≡ false) × RefusesFirst rule a s

-- ---- for printing

-- a rule's number
abbrev pub number_of : Rule → ℕ
number_of StaticFields = 1
number_of Arrays = 2
number_of InstanceFields = 3
number_of VirtualCalls = 4
number_of StandardInterfaceCalls = 5
number_of ShareableInterfaceCalls = 6
number_of Throws = 7
number_of Casts = 8
number_of StoredReferences = 9
number_of ClearOnDeselectArrays = 10
