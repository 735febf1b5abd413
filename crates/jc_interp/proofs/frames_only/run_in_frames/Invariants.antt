-- Where no attack comes, the run from the beginning is the run from here with the steps that are left; the method is the same.
use Rattle.std.proofs.Common.{◌≡◌, ℕ, ◌+◌, ◌≤◌, List, Option}
use Rattle.jc_interp.specs.declared.attacks.Attack.{Attack}
use Rattle.jc_interp.specs.Attacks.{IsAway}
use Rattle.jc_interp.specs.Step.{code_of}
use Rattle.jc_interp.specs.Run.{run_of}
use Rattle.jc_interp.proofs.frames_only.run_in_frames.Given as goal

abbrev pub invariant-loop-left : goal.invariant-loop-left
invariant-loop-left g l = record {
  same : (attack : Option Attack) (more : ℕ) (lent : List ℕ) → IsAway attack (l.budget + more) more
      → l.code ≡ code_of lent l.linked l.fn.frames.current.origin.package_number
      → run_of attack (l.budget + more) lent l.linked l.fn.frames l.memory ≡ run_of attack (l.left + more) lent l.linked l.frames l.memory;
  few : l.left ≤ l.budget;
  origin : l.frames.current.origin ≡ l.fn.frames.current.origin;
}

abbrev pub decreases-loop-left : goal.decreases-loop-left
decreases-loop-left g l = l.left
