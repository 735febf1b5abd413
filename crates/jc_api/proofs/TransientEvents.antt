-- What is asked of the event of a new array ends plainly.
use Rattle.jc_transient.specs.declared.cell.ClearEvent.{ClearEvent}
use Rattle.jc_transient.specs.declared.cell.ClearEvent.TheVariants.{Reset, Deselect}
use Rattle.jc_firewall.specs.Table.{decision}
use Rattle.jc_firewall.specs.declared.access.Access.TheVariants.{ArrayElement}
use Rattle.jc_firewall.specs.declared.decide.Decision.{Decision}
use Rattle.jc_firewall.specs.declared.decide.Decision.TheVariants.{Allow, Switch, Deny}
use Rattle.jc_memory.specs.State.{MemoryState}
use Rattle.jc_api.specs.TransientEvents.{allowed_event, if_usable, own_array}
use Rattle.jc_api.proofs.Exits.{FaultsOnly}

plain_usable : (d : Decision) → FaultsOnly (if_usable d)
plain_usable Allow = tt
plain_usable (Switch c) = tt
plain_usable (Deny rule) = tt

pub plain_allowed : (event : ClearEvent) (m : MemoryState) → FaultsOnly (allowed_event event m)
plain_allowed Reset m = tt
plain_allowed Deselect m = plain_usable (decision ArrayElement (own_array m))
