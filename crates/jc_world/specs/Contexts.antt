-- Contexts: to whom objects belong, for whom code runs, and what the firewall answers.
use Rattle.std.specs.Prelude.{ℕ, ◌≡◌, ◌+◌, ◌*◌, ◌-◌, ◌%◌, ◌==◌, ◌&&◌, nat_le, Bool, true, false, not, slice_index, Option, Some, None, Result, Ok, Err}
use Rattle.std.specs.Prelude.{if◌then◌else◌}
use Rattle.jc_words.specs.Layout.{most_applets}
use Rattle.jc_heap.specs.RegistryLayout.{entry_start, entry_package}
use Rattle.jc_transient.specs.declared.cell.ClearEvent.{ClearEvent}
use Rattle.jc_transient.specs.declared.cell.ClearEvent.TheVariants.{Reset, Deselect}
use Rattle.jc_heap.specs.declared.object.Facts.{Facts}
use Rattle.jc_heap.specs.declared.object.Kind.{Kind}
use Rattle.jc_heap.specs.declared.object.Kind.TheVariants.{Instance, BooleanArray, ByteArray, ShortArray, ReferenceArray}
use Rattle.jc_transient.specs.declared.owner.AppletNumber.{AppletNumber}
use Rattle.jc_memory.specs.declared.registers.Installation.{Installation}
use Rattle.jc_memory.specs.declared.registers.Installation.TheVariants.{Idle, Open, Registered}
use Rattle.jc_transient.specs.declared.owner.Owner.{Owner}
use Rattle.jc_transient.specs.declared.owner.Owner.TheVariants.{Runtime, Applet, Package}
use Rattle.jc_memory.specs.declared.registers.Registers.{Registers}
use Rattle.jc_transient.specs.Owners.{owner_number, owner_of}
use Rattle.jc_memory.specs.State.{MemoryState}
use Rattle.jc_platform.specs.declared.names.PlatformClass.TheVariants.{Aid}
use Rattle.jc_platform.specs.NamePlaces.{class_word}
use Rattle.jc_linker.specs.Values.{Packages}
use Rattle.jc_linker.specs.Classes.{is_shareable}
use Rattle.jc_firewall.specs.declared.access.Access.{Access}
use Rattle.jc_firewall.specs.declared.access.Access.TheVariants.{ShareableInterfaceCall, CastToShareableInterface}
use Rattle.jc_firewall.specs.declared.decide.Decision.{Decision}
use Rattle.jc_firewall.specs.declared.decide.Decision.TheVariants.{Allow, Switch, Deny}
use Rattle.jc_firewall.specs.declared.subject.Context.{Context}
use Rattle.jc_firewall.specs.declared.subject.Context.TheVariants as context
use Rattle.jc_firewall.specs.declared.subject.Designation.{Designation}
use Rattle.jc_firewall.specs.declared.subject.Designation.TheVariants.{Ordinary, PermanentEntryPoint, TemporaryEntryPoint, GlobalArray}
use Rattle.jc_firewall.specs.declared.subject.Subject.{Subject}
use Rattle.jc_firewall.specs.declared.subject.Situation.{Situation}
use Rattle.jc_firewall.specs.Table.{decision}
use Rattle.jc_frames.specs.declared.exceptions.Exception.TheVariants.{SecurityException}
use Rattle.jc_frames.specs.declared.outcome.FrameExit.{FrameExit}
use Rattle.jc_frames.specs.declared.outcome.FrameExit.TheVariants.{Throw}

-- the package of the applet that is being installed; 0, where none is
abbrev pub installed_package : Installation → ℕ
installed_package Idle = 0
installed_package (Open p entry) = p.0
installed_package (Registered p) = p.0

-- the package of an applet instance: the registry says it, and of the applet that is not registered yet its installation
unfoldable pub package_of_applet : MemoryState → ℕ → ℕ
package_of_applet m a = if not (a == 0) && nat_le a most_applets && nat_le a m.heap.now.counts.1 then slice_index m.heap.now.applets
    (entry_start (a - 1) + entry_package) else installed_package m.registers.installation

-- the context of an owner: all applets of a package share one with it
abbrev pub context_of : MemoryState → Owner → Context
context_of m Runtime = context.Jcre
context_of m (Applet a) = context.Package (package_of_applet m a.0 % 256)
context_of m (Package p) = context.Package p.0

-- the context of the selected applet; the applet that is being installed counts as selected
abbrev pub selected_in : MemoryState → Installation → Option AppletNumber → Context
selected_in m Idle None = context.Jcre
selected_in m Idle (Some a) = context_of m (Applet a)
selected_in m (Open p entry) selected = context.Package p.0
selected_in m (Registered p) selected = context.Package p.0

abbrev pub selected_context : MemoryState → Context
selected_context m = selected_in m m.registers.installation m.registers.selected

-- instances are entry points of the runtime environment where it owns them: AIDs permanent ones, all others
-- temporary ones. Its array is a global one
abbrev pub own_designation : Packages → Kind → ℕ → Designation
own_designation p Instance class = if class == class_word p.platform Aid then PermanentEntryPoint else TemporaryEntryPoint
own_designation p BooleanArray class = GlobalArray
own_designation p ByteArray class = GlobalArray
own_designation p ShortArray class = GlobalArray
own_designation p ReferenceArray class = GlobalArray

abbrev pub designation_of : Packages → Facts → Designation
designation_of p f = if f.owner == 0 then own_designation p f.kind f.class else Ordinary

-- an instance is of a class with an interface that extends Shareable
abbrev pub is_shareable_instance : Packages → Kind → ℕ → Bool
is_shareable_instance p Instance class = is_shareable p class
is_shareable_instance p BooleanArray class = false
is_shareable_instance p ByteArray class = false
is_shareable_instance p ShortArray class = false
is_shareable_instance p ReferenceArray class = false

-- cleared as its applet is deselected
abbrev pub has_deselect_event : Option ClearEvent → Bool
has_deselect_event None = false
has_deselect_event (Some Reset) = false
has_deselect_event (Some Deselect) = true

-- code of the selected applet runs, and no applet is being installed
abbrev pub SelectedRuns : Registers → Type 0
SelectedRuns g = (g.installation ≡ Idle) × (a : AppletNumber) × (g.active ≡ Applet a) × (g.selected ≡ Some a)

-- an object with this header belongs to the owner for whom code runs; and if it is cleared as its applet is deselected, code of the selected
-- applet runs
pub record IsOwn (g : Registers) (f : Facts) : Type 0 where
  pub number : f.owner ≡ owner_number g.active
  pub owner : owner_of f.owner ≡ g.active
  pub time : has_deselect_event f.event ≡ true → SelectedRuns g

-- what the firewall sees of an object
unfoldable pub subject_of : Packages → MemoryState → Facts → Subject
subject_of p m f = record {
  owner = context_of m (owner_of f.owner);
  designation = designation_of p f;
  has_shareable_interface = is_shareable_instance p f.kind f.class;
  is_clear_on_deselect = has_deselect_event f.event;
}

-- the rules on an access ask for the object's shareable interfaces
abbrev pub needs_shareable : Access → Bool
needs_shareable ShareableInterfaceCall = true
needs_shareable CastToShareableInterface = true
needs_shareable a = false

-- an access to an object by the code that runs
unfoldable pub situation_of : Packages → MemoryState → Facts → Situation
situation_of p m f = record { active = context_of m m.registers.active; selected = selected_context m; object = subject_of p m f }

-- what the firewall answers to it
unfoldable pub firewall_decision : Access → Packages → MemoryState → Facts → Decision
firewall_decision access p m f = decision access (situation_of p m f)

-- a refused access throws
abbrev pub unless_denied : Decision → Result (Unit {0}) FrameExit
unless_denied Allow = Ok tt
unless_denied (Switch c) = Ok tt
unless_denied (Deny rule) = Err (Throw SecurityException)

-- an access is allowed, or throws
abbrev pub firewall_check : Access → Packages → MemoryState → Facts → Result (Unit {0}) FrameExit
firewall_check access p m f = unless_denied (firewall_decision access p m f)
