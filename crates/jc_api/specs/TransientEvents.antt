-- The events that clear transient arrays, as new arrays of the code that runs may have them.
use Rattle.std.specs.Prelude.{true, false, Result, Ok, Err}
use Rattle.jc_transient.specs.declared.cell.ClearEvent.{ClearEvent}
use Rattle.jc_transient.specs.declared.cell.ClearEvent.TheVariants.{Reset, Deselect}
use Rattle.jc_firewall.specs.declared.access.Access.TheVariants.{ArrayElement}
use Rattle.jc_firewall.specs.declared.decide.Decision.{Decision}
use Rattle.jc_firewall.specs.declared.decide.Decision.TheVariants.{Allow, Switch, Deny}
use Rattle.jc_firewall.specs.declared.subject.Designation.TheVariants.{Ordinary}
use Rattle.jc_firewall.specs.declared.subject.Situation.{Situation}
use Rattle.jc_firewall.specs.Table.{decision}
use Rattle.jc_frames.specs.Reasons.{illegal_transient}
use Rattle.jc_frames.specs.declared.outcome.FrameExit.{FrameExit}
use Rattle.jc_frames.specs.declared.outcome.FrameExit.TheVariants.{Throw}
use Rattle.jc_memory.specs.State.{MemoryState}
use Rattle.jc_world.specs.Contexts.{context_of, selected_context}

-- an array of the code that runs, cleared as its applet is deselected
abbrev pub own_array : MemoryState → Situation
own_array m = record {
  active = context_of m m.registers.active;
  selected = selected_context m;
  object = record { owner = context_of m m.registers.active; designation = Ordinary; has_shareable_interface = false; is_clear_on_deselect = true };
}

abbrev pub if_usable : Decision → Result (Unit {0}) FrameExit
if_usable Allow = Ok tt
if_usable (Switch c) = Ok tt
if_usable (Deny rule) = Err (Throw illegal_transient)

-- the code that runs may use what it makes: an array that is cleared at a deselection only while its applet is selected
abbrev pub allowed_event : ClearEvent → MemoryState → Result (Unit {0}) FrameExit
allowed_event Reset m = Ok tt
allowed_event Deselect m = if_usable (decision ArrayElement (own_array m))
