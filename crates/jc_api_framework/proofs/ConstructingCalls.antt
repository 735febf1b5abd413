-- Constructors that set the first cells of their object: whatever words a call answers, what it does is due where setting cells of its receiver to
-- those words is.
use Rattle.std.proofs.Common.{◌≡◌, ℕ, List, length, Some, Result, Ok}
use Rattle.jc_memory.specs.Cells.{cells_effect, cells_refusal}
use Rattle.jc_memory.specs.State.{MemoryState, Effect}
use Rattle.jc_frames.specs.declared.cell.Cell.{Cell}
use Rattle.jc_frames.specs.declared.outcome.FrameExit.{FrameExit}
use Rattle.jc_world.specs.Instances.{IsInstanceWith, instance_at}
use Rattle.jc_world.specs.Objects.{reference_argument}
use Rattle.jc_api.specs.Exits.{plainly}
use Rattle.jc_api.proofs.Due.{IsPlainCall, called_ok, called_some, called_unless}
use Rattle.jc_api.proofs.Exits.{plain_instance}
use Rattle.jc_api.proofs.Plain.{plainly_faults, plainly_ok}
use Rattle.jc_api.proofs.Stretches.{instance_is}
use Rattle.jc_api_framework.specs.Constructing.{constructing_call}

module _ (P : Effect → MemoryState → Type 0) (L : MemoryState → ℕ → Type 0) (args : List Cell) (m : MemoryState) where
  -- each effect of such a call is due, and it answers plainly
  pub constructing_due : (answer : Result (List ℕ) FrameExit)
      → ((words : List ℕ) → answer ≡ Ok words → (own : ℕ) → reference_argument args 0 ≡ Some own → IsInstanceWith m own (length words)
      → P (cells_effect m own 0 words) m) → IsPlainCall P L (constructing_call answer args m) m
  constructing_due answer sets = called_ok P L m (plainly answer) _ (plainly_faults answer) (λ words fine.
      called_some P L m (reference_argument args 0) _ (λ own called.
      called_ok P L m (instance_at m own (length words)) _ (plain_instance m own (length words)) (λ f long.
      called_unless P L m (cells_refusal m own 0 words) _ (λ room.
      (sets words (plainly_ok answer words fine) own called (instance_is m own (length words) f long), tt)))))
