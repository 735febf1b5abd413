-- What is asked of a sweep of faults.
use Rattle.std.specs.Prelude.{ℕ, Bool, List, Option}
use Rattle.jcard_outcomes.specs.declared.recoveries.Depth.TheVariants.{Zero}
use Rattle.jcard_sweeps.specs.SweepAsked.{SweepAsked}
use Rattle.jcard_sweeps.specs.Texts.{text_of}
use Rattle.jcard_sweeps.specs.declared.command.Behind.{Behind}
use Rattle.jcard_attack.specs.declared.image_sweep.AskedAttack.{AskedAttack}
use Rattle.jcard_attack.specs.declared.sweep.Sought.{Sought}

-- the names of the script and of the probe, the number of the line, whether each command is attacked, and which part of them, which faults are tried and
-- which answer none may get, and the most instructions of a command
pub record AttackAsked : Type 0 where
  pub script : List ℕ
  pub probe : Option (List ℕ)
  pub line : Option (List ℕ)
  pub each : Bool
  pub part : Option (List ℕ)
  pub sought : Sought
  pub instructions : ℕ

-- that is asked
abbrev pub attack_asked_by : AskedAttack → AttackAsked
attack_asked_by a = record {
  script = a.script.now;
  probe = text_of a.probe;
  line = text_of a.line;
  each = a.each;
  part = text_of a.part;
  sought = a.sought;
  instructions = a.instructions;
}

-- what comes after each fault, as it is asked of cuts
abbrev pub behind_of : AttackAsked → Behind
behind_of a = record { depth = Zero; objects = a.sought.objects; instructions = a.instructions }

-- the same as it is asked of a sweep of cuts
abbrev pub sweep_of : AttackAsked → SweepAsked
sweep_of a = record {
  script = a.script;
  probe = a.probe;
  line = a.line;
  each = a.each;
  behind = behind_of a;
  part = a.part;
}
