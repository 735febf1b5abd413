-- What is reported where a command was not attacked.
use Rattle.std.specs.Prelude.{ℕ, ◌≡◌, List}
use Rattle.jcard_files.specs.declared.fault.Fault.{Fault}
use Rattle.jcard_files.specs.declared.fault.Fault.TheVariants.{Down, NoMemory, TooManyInstructions}
use Rattle.jcard_sweeps.specs.ReportedFaults.{IsFaultInMemory, IsProbeFaultInMemory}
use Rattle.jcard_attack.specs.declared.aftermaths.AttackFault.{AttackFault}
use Rattle.jcard_attack.specs.declared.aftermaths.AttackFault.TheVariants as attack

-- what is reported where a command was not attacked over the image with this name
abbrev pub IsAttackFault : List ℕ → AttackFault → Fault → Type 0
IsAttackFault image attack.NoMemory fault = fault ≡ NoMemory
IsAttackFault image (attack.Script cause) fault = IsFaultInMemory image cause fault
IsAttackFault image (attack.Probe cause) fault = IsProbeFaultInMemory image cause fault
IsAttackFault image attack.Down fault = fault ≡ Down
IsAttackFault image attack.TooManyInstructions fault = fault ≡ TooManyInstructions
