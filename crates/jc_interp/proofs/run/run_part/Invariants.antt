use Rattle.std.proofs.Common.{◌≡◌, ◌<◌, ◌≤◌, ◌+◌, ◌^◌, length, false, Option}
use Rattle.jc_interp.specs.declared.attacks.Attack.{Attack}
use Rattle.jc_interp.specs.Attacks.{IsAway}
use Rattle.jc_interp.specs.Step.{code_of}
use Rattle.jc_interp.specs.Run.{Continues}
use Rattle.jc_interp.proofs.run.run_part.Given as goal

abbrev pub invariant-loop-rest : goal.invariant-loop-rest
invariant-loop-rest g l = record {
  continues : (attack : Option Attack) → IsAway attack (l.budget + l.later) l.later
      → Continues attack (l.budget + l.later) l.lent l.linked l.fn.frames l.fn.memory attack (l.left + l.later) l.frames l.memory;
  up : l.memory.heap.down ≡ false;
  own : l.code ≡ code_of l.lent l.linked l.number;
  here : l.number ≡ l.frames.current.origin.package_number;
  short : length l.code < 2 ^ 16;
  few : l.left ≤ l.budget;
}

abbrev pub decreases-loop-rest : goal.decreases-loop-rest
decreases-loop-rest g l = l.left
