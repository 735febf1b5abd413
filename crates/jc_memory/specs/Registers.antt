-- The registers after a reset.
use Rattle.std.specs.Prelude.{false, None}
use Rattle.jc_transient.specs.declared.owner.Owner.TheVariants.{Runtime}
use Rattle.jc_memory.specs.declared.registers.Depth.TheVariants.{Outside}
use Rattle.jc_memory.specs.declared.registers.Installation.TheVariants.{Idle}
use Rattle.jc_memory.specs.declared.registers.ApduPhase.TheVariants.{Waiting}
use Rattle.jc_memory.specs.declared.registers.Registers.{Registers}

-- after a reset the runtime environment runs, and no applet is selected
abbrev pub at_reset : Registers
at_reset = record {
  active = Runtime;
  previous = Runtime;
  selected = None;
  selecting = false;
  reselecting = false;
  depth = Outside;
  installation = Idle;
  apdu = record { expected = 0; phase = Waiting };
}
