-- Faults that are planned for commands.
use Rattle.std.specs.Option.{option_map}
use Rattle.std.specs.Prelude.{ℕ, ◌+◌, ◌-◌}
use Rattle.jc_interp.specs.declared.attacks.Attack.{Attack}
use Rattle.jc_interp.specs.declared.attacks.FaultModel.{FaultModel}
use Rattle.jc_interp.specs.declared.attacks.FaultModel.TheVariants.{Skip, Turn, Zero}
use Rattle.jc_interp.specs.declared.attacks.LaterFault.{LaterFault}
use Rattle.jc_card.specs.declared.planned_fault.PlannedFault.{PlannedFault}
use Rattle.jc_card.specs.declared.planned_fault.SecondFault.{SecondFault}

-- how many instructions of a command are carried out before the fault at the one with this number, from 0: those before it, and where the
-- fault is about the value that it leaves, it too
abbrev pub instructions_before : FaultModel → ℕ → ℕ
instructions_before Skip number = number
instructions_before Turn number = number
instructions_before Zero number = number + 1

-- the second fault, at an instruction after the first fault, from 1; 0 is taken as 1
abbrev pub later_of : SecondFault → LaterFault
later_of second = record { after = instructions_before second.model (second.number - 1); model = second.model }

-- the attack of a command that may carry out this many instructions; a fault past them never comes
abbrev pub attack_of : ℕ → PlannedFault → Attack
attack_of budget fault = record {
  left = budget - instructions_before fault.model fault.instruction;
  model = fault.model;
  later = option_map later_of fault.second;
}
