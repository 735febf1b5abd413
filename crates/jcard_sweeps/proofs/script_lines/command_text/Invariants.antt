use Rattle.std.proofs.Common.{◌≡◌, ◌++◌, drop}
use Rattle.jcard_sweeps.specs.ScriptLines.{command_text}
use Rattle.jcard_sweeps.proofs.script_lines.command_text.Given as goal

abbrev pub invariant-loop-byte : goal.invariant-loop-byte
invariant-loop-byte l = l.text.items ++ command_text (drop l.byte-index l.line) ≡ command_text l.line
