-- What ends so from here, with what is left of the attack, ends so from the beginning.
use Rattle.std.proofs.Common.{◌≡◌, ◌≤◌}
use Rattle.jc_interp.specs.Run.{Continues}
use Rattle.jc_interp.proofs.Struck.{fault_count}
use Rattle.jc_interp.proofs.run.run_attacked.Given as goal

abbrev pub invariant-loop-faults : goal.invariant-loop-faults
invariant-loop-faults g l = record {
  continues : Continues l.fn.budget.attack l.fn.budget.left l.lent l.linked l.fn.frames l.fn.memory l.faults l.left l.frames l.memory;
  up : l.memory.heap.down ≡ l.fn.memory.heap.down;
  few : l.left ≤ l.fn.budget.left;
}

abbrev pub decreases-loop-faults : goal.decreases-loop-faults
decreases-loop-faults g l = fault_count l.faults
