-- What each fault keeps, an attack keeps.
use Rattle.std.proofs.Common.{ℕ, ◌+◌, Bool, true, false, List, Option, Some, None}
use Rattle.std.specs.Prelude.{◌==◌}
use Rattle.jc_linker.specs.Values.{Packages}
use Rattle.jc_frames.specs.Frames.{Frames, Next, GoesOn, Throws, Ends}
use Rattle.jc_interp.specs.declared.attacks.Attack.{Attack}
use Rattle.jc_interp.specs.declared.attacks.FaultModel.{FaultModel}
use Rattle.jc_interp.specs.declared.attacks.LaterFault.{LaterFault}
use Rattle.jc_interp.specs.Attacks.{attacked, faulted, faulted_if, faulted_later, then_later}
use Rattle.jc_interp.specs.Step.{code_of}

module _ (K : Next Frames → Type 0) (lent : List ℕ) (p : Packages)
    (kept : (s : Frames) → K (GoesOn s) → (model : FaultModel) (code : List ℕ) → K (faulted model code s)) where
  if_kept : (s : Frames) → K (GoesOn s) → (comes : Bool) (model : FaultModel) → K (faulted_if comes model lent p s)
  if_kept s here true model = kept s here model (code_of lent p s.current.origin.package_number)
  if_kept s here false model = here

  later_kept : (later : Option LaterFault) (first left : ℕ) (s : Frames) → K (GoesOn s) → K (faulted_later later first left lent p s)
  later_kept None first left s here = here
  later_kept (Some fault) first left s here = if_kept s here (left + fault.after == first) fault.model

  then_kept : (later : Option LaterFault) (first left : ℕ) (next : Next Frames) → K next → K (then_later next later first left lent p)
  then_kept later first left (GoesOn s) here = later_kept later first left s here
  then_kept later first left (Throws e s) here = here
  then_kept later first left (Ends o) here = here

  -- what holds of the frames, and of those that a fault leaves wherever it holds, holds of those that the faults of an attack leave
  pub attacked_kept : (attack : Option Attack) (left : ℕ) (s : Frames) → K (GoesOn s) → K (attacked attack left lent p s)
  attacked_kept None left s here = here
  attacked_kept (Some attack) left s here = then_kept attack.later attack.left left (faulted_if (attack.left == left) attack.model lent p s)
      (if_kept s here (attack.left == left) attack.model)
