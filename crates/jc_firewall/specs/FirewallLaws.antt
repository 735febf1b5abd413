-- What an allowed access can reach.
use Rattle.std.specs.Prelude.{◌≡◌, ◌⊎◌, true}
use Rattle.jc_firewall.specs.declared.access.Access.{Access}
use Rattle.jc_firewall.specs.declared.access.Access.TheVariants.{ArrayElement, InstanceField, VirtualCall, ShareableInterfaceCall}
use Rattle.jc_firewall.specs.declared.subject.Context.{Context}
use Rattle.jc_firewall.specs.declared.subject.Context.TheVariants.{Jcre}
use Rattle.jc_firewall.specs.declared.subject.Situation.{Situation}
use Rattle.jc_firewall.specs.Situation.{is_global_array}

-- the accesses by which cells of the object are set
abbrev pub SetsCells : Access → Type 0
SetsCells a = (a ≡ ArrayElement) ⊎ (a ≡ InstanceField)

-- the object is within reach of the active context: all is for the runtime environment's; for another its own
-- objects and the global arrays are
abbrev pub IsInReach : Situation → Type 0
IsInReach s = (s.active ≡ Jcre) ⊎ (s.object.owner ≡ s.active) ⊎ (is_global_array s.object ≡ true)

-- a call by an applet's context on an object of another context, which goes on in that context
abbrev pub IsSwitchOf : Access → Situation → Context → Type 0
IsSwitchOf a s c = ((a ≡ VirtualCall) ⊎ (a ≡ ShareableInterfaceCall)) × (c ≡ s.object.owner) × (s.active ≡ Jcre → ⊥) × (c ≡ s.active → ⊥)
