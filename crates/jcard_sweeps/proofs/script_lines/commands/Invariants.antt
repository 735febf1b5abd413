use Rattle.std.proofs.Common.{◌≡◌, ◌+◌, ◌-◌, ◌≤◌, ◌++◌, length, map, take, drop}
use Rattle.jcard_sweeps.specs.ScriptLines.{commands_from, commands_of, line_of, whole_lines}
use Rattle.jcard_sweeps.proofs.script_lines.commands.Given as goal

abbrev pub invariant-loop-start : goal.invariant-loop-start
invariant-loop-start l = record {
  counted : l.number ≤ l.start;
  within : l.start ≤ length l.script;
  rest : map line_of l.found.items ++ commands_from (l.number + 1) (take l.start l.script) (whole_lines (drop l.start l.script))
      ≡ commands_of l.script;
}

abbrev pub decreases-loop-start : goal.decreases-loop-start
decreases-loop-start l = length l.script - l.start
