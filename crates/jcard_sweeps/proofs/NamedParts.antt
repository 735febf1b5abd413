-- Parts that are named.
use Rattle.std.proofs.Common.{List}
use Rattle.jcard_sweeps.specs.declared.script_lines.ScriptLine.{ScriptLine}
use Rattle.jcard_sweeps.specs.SweepAsked.{SweepAsked}
use Rattle.jcard_sweeps.specs.Targets.{IsAmong, IsTarget}
use Rattle.jcard_sweeps.specs.declared.targets.Target.{Target}
use Rattle.jcard_sweeps.specs.declared.targets.Target.TheVariants.{Command, CommandPart, Each, EachPart}

-- a part that is named is one up to the last
pub among : (asked : SweepAsked) (all : List ScriptLine) (target : Target) → IsTarget asked all target → IsAmong target
among asked all (Command line) h = tt
among asked all (CommandPart line share) h = h.2.2.1
among asked all Each h = tt
among asked all (EachPart share) h = h.1.2.1
