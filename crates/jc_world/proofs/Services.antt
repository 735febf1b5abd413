-- Virtual calls of applets on objects of the runtime environment.
use Rattle.std.proofs.Common.{ℕ, ◌≡◌, ◌==◌, ◌%◌, Bool, true, false, refl}
use Rattle.std.specs.Prelude.{if◌then◌else◌}
use Rattle.jc_heap.specs.declared.object.Facts.{Facts}
use Rattle.jc_heap.specs.declared.object.Kind.{Kind}
use Rattle.jc_heap.specs.declared.object.Kind.TheVariants.{Instance, BooleanArray, ByteArray, ShortArray, ReferenceArray}
use Rattle.jc_transient.specs.declared.owner.Owner.{Owner}
use Rattle.jc_transient.specs.declared.owner.Owner.TheVariants.{Runtime, Applet}
use Rattle.jc_transient.specs.declared.owner.Owner.TheVariants as owner
use Rattle.jc_memory.specs.State.{MemoryState}
use Rattle.jc_linker.specs.Values.{Packages}
use Rattle.jc_platform.specs.declared.names.PlatformClass.TheVariants.{Aid}
use Rattle.jc_platform.specs.NamePlaces.{class_word}
use Rattle.jc_firewall.specs.declared.access.Access.TheVariants.{VirtualCall}
use Rattle.jc_firewall.specs.declared.decide.Decision.TheVariants.{Switch}
use Rattle.jc_firewall.specs.declared.subject.Context.{Context}
use Rattle.jc_firewall.specs.declared.subject.Context.TheVariants.{Jcre, Package}
use Rattle.jc_firewall.specs.declared.subject.Designation.{Designation}
use Rattle.jc_firewall.specs.declared.subject.Designation.TheVariants.{PermanentEntryPoint, TemporaryEntryPoint}
use Rattle.jc_firewall.specs.Table.{decision}
use Rattle.jc_world.specs.Contexts.{firewall_decision, has_deselect_event, own_designation, package_of_applet, selected_context, is_shareable_instance}
use Rattle.jc_world.specs.Contexts.{situation_of, subject_of}

-- the answer to a call on an object with this designation
abbrev answer : ℕ → Context → Bool → Designation → Type 0
answer q selected shared d =
    decision VirtualCall (record {
      active = Package q;
      selected = selected;
      object = record {
        owner = Jcre;
        designation = d;
        has_shareable_interface = shared;
        is_clear_on_deselect = false;
      };
    }) ≡ Switch Jcre

designated : (q : ℕ) (selected : Context) (shared : Bool) (p : Packages) (kind : Kind) (class : ℕ) → answer q selected shared (own_designation p kind class)
designated q selected shared p Instance class =
    elim (class == class_word p.platform Aid) as (λ b. answer q selected shared (if b then PermanentEntryPoint else TemporaryEntryPoint))
    [ true ↦ refl | false ↦ refl ]
designated q selected shared p BooleanArray class = refl
designated q selected shared p ByteArray class = refl
designated q selected shared p ShortArray class = refl
designated q selected shared p ReferenceArray class = refl

by_owner : (p : Packages) (m : MemoryState) (f : Facts) (active : Owner) → m.registers.active ≡ active → (active ≡ Runtime → ⊥) → f.owner ≡ 0
    → has_deselect_event f.event ≡ false → firewall_decision VirtualCall p m f ≡ Switch Jcre
unfolding firewall_decision situation_of subject_of
by_owner p m f Runtime is other none kept = absurd (other refl)
by_owner p m f (Applet a) is other none kept =
    rw is (rw none (rw kept (designated (package_of_applet m a.0 % 256) (selected_context m) (is_shareable_instance p f.kind f.class) p f.kind f.class)))
by_owner p m f (owner.Package a) is other none kept =
    rw is (rw none (rw kept (designated a.0 (selected_context m) (is_shareable_instance p f.kind f.class) p f.kind f.class)))

-- such a call goes on in the runtime environment's context, where no deselection clears the object
pub switched : (p : Packages) (m : MemoryState) (f : Facts) → (m.registers.active ≡ Runtime → ⊥) → f.owner ≡ 0 → has_deselect_event f.event ≡ false
    → firewall_decision VirtualCall p m f ≡ Switch Jcre
switched p m f other none kept = by_owner p m f m.registers.active refl other none kept
