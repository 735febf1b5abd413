use Rattle.std.proofs.Common.{◌≡◌, drop}
use Rattle.jcard_sweeps.specs.ScriptLines.{first_numbered}
use Rattle.jcard_sweeps.proofs.script_lines.with_number.Given as goal

abbrev pub invariant-loop-command : goal.invariant-loop-command
invariant-loop-command l = first_numbered l.number (drop l.command-index l.commands) ≡ first_numbered l.number l.commands
