-- What ends so from here, with as many steps less, ends so from the beginning, where no attack comes.
use Rattle.std.proofs.Common.{◌≡◌, ◌+◌, ◌-◌, Option}
use Rattle.jc_interp.specs.declared.attacks.Attack.{Attack}
use Rattle.jc_interp.specs.Attacks.{IsAway}
use Rattle.jc_interp.specs.Run.{Continues}
use Rattle.jc_interp.proofs.run.run_noted.Given as goal

abbrev pub invariant-loop-turns : goal.invariant-loop-turns
invariant-loop-turns g l = record {
  continues : (attack : Option Attack) → IsAway attack (l.budget + l.later) l.later
      → Continues attack (l.budget + l.later) l.lent l.linked l.fn.frames l.fn.memory attack (l.budget - l.turns + l.later) l.frames
      l.memory;
  up : l.memory.heap.down ≡ l.fn.memory.heap.down;
}
