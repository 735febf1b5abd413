use Rattle.std.proofs.Common.{◌≡◌, ℕ, ◌+◌, ◌-◌, ◌<◌, ◌≤◌, length, get_or}
use Rattle.jcard_sweeps.proofs.script_lines.line_end.Given as goal

abbrev pub invariant-loop-end : goal.invariant-loop-end
invariant-loop-end l = record {
  after : l.start < l.end;
  within : l.end ≤ length l.script;
  plain : (i : ℕ) → l.start ≤ i → i + 1 < l.end → get_or l.script i 0 ≡ 10 → ⊥;
}

abbrev pub decreases-loop-end : goal.decreases-loop-end
decreases-loop-end l = length l.script - l.end
