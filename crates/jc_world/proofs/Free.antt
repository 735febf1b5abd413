-- Accesses that no rule refuses.
use Rattle.std.proofs.Common.{ℕ, ◌≡◌, ◌==◌, ◌||◌, not, Bool, true, false, refl, ◌∙◌, sym, arith}
use Rattle.std.specs.Prelude.{if◌then◌else◌}
use Rattle.jc_heap.specs.declared.object.Facts.{Facts}
use Rattle.jc_heap.specs.declared.object.Kind.{Kind}
use Rattle.jc_heap.specs.declared.object.Kind.TheVariants.{Instance, BooleanArray, ByteArray, ShortArray, ReferenceArray}
use Rattle.jc_transient.specs.declared.owner.Owner.TheVariants.{Runtime}
use Rattle.jc_transient.specs.Owners.{owner_of}
use Rattle.jc_memory.specs.State.{MemoryState}
use Rattle.jc_linker.specs.Values.{Packages}
use Rattle.jc_firewall.specs.declared.access.Access.{Access}
use Rattle.jc_firewall.specs.declared.access.Access.TheVariants.{StaticField, ArrayElement, InstanceField, VirtualCall, StandardInterfaceCall}
use Rattle.jc_firewall.specs.declared.access.Access.TheVariants.{ShareableInterfaceCall, Throw, CastToClass, CastToStandardInterface, CastToShareableInterface}
use Rattle.jc_firewall.specs.declared.access.Access.TheVariants.{StoreReference}
use Rattle.jc_firewall.specs.declared.decide.Decision.TheVariants.{Allow}
use Rattle.jc_firewall.specs.declared.subject.Context.{Context}
use Rattle.jc_firewall.specs.declared.subject.Context.TheVariants.{Jcre, Package}
use Rattle.jc_firewall.specs.declared.subject.Designation.TheVariants.{Ordinary, GlobalArray}
use Rattle.jc_firewall.specs.Situation.{is_live_transient, same_context}
use Rattle.jc_firewall.specs.Table.{decision}
use Rattle.jc_world.specs.Objects.{is_instance}
use Rattle.jc_world.specs.Contexts.{context_of, firewall_decision, has_deselect_event, own_designation, selected_context, is_shareable_instance}
use Rattle.jc_world.specs.Contexts.{situation_of, subject_of}

-- a number is itself
itself : (n : ℕ) → (n == n) ≡ true
itself n = grind arith

-- a context is itself
pub same : (c : Context) → same_context c c ≡ true
same Jcre = refl
same (Package p) = itself p

-- an access of an applet's context to an ordinary object of its own, in time
own_case : (a : Access) (q : ℕ) (selected : Context) (shared clear : Bool) → (not clear || same_context selected (Package q)) ≡ true →
    decision a (record {
      active = Package q;
      selected = selected;
      object = record {
        owner = Package q;
        designation = Ordinary;
        has_shareable_interface = shared;
        is_clear_on_deselect = clear;
      };
    }) ≡ Allow
own_case StaticField q selected shared clear t = refl
own_case ArrayElement q selected shared clear t = simp (itself q, t) refl
own_case InstanceField q selected shared clear t = simp (itself q, t) refl
own_case VirtualCall q selected shared clear t = simp (itself q, t) refl
own_case StandardInterfaceCall q selected shared clear t = simp (itself q, t) refl
own_case ShareableInterfaceCall q selected shared clear t = simp (itself q, t) refl
own_case Throw q selected shared clear t = simp (itself q, t) refl
own_case CastToClass q selected shared clear t = simp (itself q, t) refl
own_case CastToStandardInterface q selected shared clear t = simp (itself q, t) refl
own_case CastToShareableInterface q selected shared clear t = simp (itself q, t) refl
own_case StoreReference q selected shared clear t = refl

-- the same of any context
own_allowed : (a : Access) (c selected : Context) (shared clear : Bool) → (not clear || same_context selected c) ≡ true →
    decision a (record {
      active = c;
      selected = selected;
      object = record {
        owner = c;
        designation = Ordinary;
        has_shareable_interface = shared;
        is_clear_on_deselect = clear;
      };
    }) ≡ Allow
own_allowed a Jcre selected shared clear t = refl
own_allowed a (Package q) selected shared clear t = own_case a q selected shared clear t

-- an access to an element of a global array, in time
global_case : (q : ℕ) (selected : Context) (shared clear : Bool) → (not clear || same_context selected (Package q)) ≡ true →
    decision ArrayElement (record {
      active = Package q;
      selected = selected;
      object = record {
        owner = Jcre;
        designation = GlobalArray;
        has_shareable_interface = shared;
        is_clear_on_deselect = clear;
      };
    }) ≡ Allow
global_case q selected shared clear t = simp t refl

global_allowed : (c selected : Context) (shared clear : Bool) → (not clear || same_context selected c) ≡ true →
    decision ArrayElement (record {
      active = c;
      selected = selected;
      object = record {
        owner = Jcre;
        designation = GlobalArray;
        has_shareable_interface = shared;
        is_clear_on_deselect = clear;
      };
    }) ≡ Allow
global_allowed Jcre selected shared clear t = refl
global_allowed (Package q) selected shared clear t = global_case q selected shared clear t

array_of : (p : Packages) (kind : Kind) (class : ℕ) → is_instance kind ≡ false → own_designation p kind class ≡ GlobalArray
array_of p Instance class array = absurd cc
array_of p BooleanArray class array = refl
array_of p ByteArray class array = refl
array_of p ShortArray class array = refl
array_of p ReferenceArray class array = refl

-- what a number in a header names, where it is 0 or not
owner_case : (a : Access) (p : Packages) (m : MemoryState) (f : Facts) (none : Bool) → (f.owner == 0) ≡ none → owner_of f.owner ≡ m.registers.active
    → is_live_transient (situation_of p m f) ≡ true → firewall_decision a p m f ≡ Allow
unfolding firewall_decision situation_of subject_of
owner_case a p m f true none own t =
    let runtime : m.registers.active ≡ Runtime = sym own ∙ rw none refl in
    rw runtime refl
owner_case a p m f false none own t =
    rw own (rw none (own_allowed a (context_of m m.registers.active) (selected_context m) (is_shareable_instance p f.kind f.class)
    (has_deselect_event f.event) t))

-- an access to an object of the owner for whom code runs, in time
pub own_free : (a : Access) (p : Packages) (m : MemoryState) (f : Facts) → owner_of f.owner ≡ m.registers.active → is_live_transient (situation_of p m f) ≡ true
    → firewall_decision a p m f ≡ Allow
own_free a p m f own t = owner_case a p m f (f.owner == 0) refl own t

-- an access to an element of a global array, in time
pub global_free : (p : Packages) (m : MemoryState) (f : Facts) → f.owner ≡ 0 → is_instance f.kind ≡ false → is_live_transient (situation_of p m f) ≡ true
    → firewall_decision ArrayElement p m f ≡ Allow
unfolding firewall_decision situation_of subject_of
global_free p m f none array t = rw none (rw (array_of p f.kind f.class array) (global_allowed (context_of m m.registers.active) (selected_context m)
    (is_shareable_instance p f.kind f.class) (has_deselect_event f.event) t))
