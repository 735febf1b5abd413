use Rattle.std.proofs.Common.{◌≡◌, ◌+◌, ◌*◌, ◌++◌, drop}
use Rattle.jcard_outcomes.specs.Part.{lines_text}
use Rattle.jcard_outcomes.proofs.part.push_lines.Given as goal

abbrev pub invariant-loop-cut : goal.invariant-loop-cut
invariant-loop-cut l = record {
  number : l.number ≡ l.first + l.step * l.cut-index;
  lines : l.text.items ++ lines_text l.number l.step (drop l.cut-index l.cuts) l.uncut ≡ l.fn.text.items ++ lines_text l.first l.step l.cuts l.uncut;
}
