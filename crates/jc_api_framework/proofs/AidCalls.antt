-- AID: what its calls may do. Each reads and then does what it answers; its constructor sets the cells of an AID.
pub mod Lengths
pub mod ReadBack
use Rattle.std.proofs.Common.{◌≡◌, ◌∙◌, ℕ, Bool, true, false, List, length, Result, Ok, Err, ap, refl, subst, sym, if◌then◌else◌}
use Rattle.jc_memory.specs.Cells.{cells_effect}
use Rattle.jc_memory.specs.State.{MemoryState, Effect}
use Rattle.jc_platform.specs.declared.names.AidsMethod.{AidsMethod}
use Rattle.jc_platform.specs.declared.names.AidsMethod.TheVariants as aids
use Rattle.jc_platform.specs.declared.names.PlatformMethod.TheVariants as rooms
use Rattle.jc_linker.specs.Values.{Packages}
use Rattle.jc_frames.specs.Reasons.{illegal_value}
use Rattle.jc_frames.specs.declared.cell.Cell.{Cell}
use Rattle.jc_frames.specs.declared.outcome.FrameExit.{FrameExit}
use Rattle.jc_frames.specs.declared.outcome.FrameExit.TheVariants.{Throw}
use Rattle.jc_world.specs.Answers.{and_then}
use Rattle.jc_world.specs.Arrays.{bytes_in}
use Rattle.jc_world.specs.Instances.{IsInstanceWith, instance_at}
use Rattle.jc_world.specs.Objects.{reference_argument, some_or_fault}
use Rattle.jc_world.specs.declared.arrays.Stretch.{Stretch}
use Rattle.jc_api.specs.Arguments.{argument_bytes, array_arguments}
use Rattle.jc_api.proofs.Due.{IsPlainCall}
use Rattle.jc_api.proofs.Forms.{reading_due}
use Rattle.jc_api.proofs.Reaching.{err_not_ok, same_Ok}
use Rattle.jc_api.proofs.Stretches.{both_ok, length_bytes}
use Rattle.jc_api_framework.specs.Aid.{aid_call, aid_equals, aid_equals_bytes, aid_get_bytes, aid_get_partial_bytes, aid_init, aid_partial_equals}
use Rattle.jc_api_framework.specs.Aid.{aid_rid_equals, cells_of_elements}
use Rattle.jc_api_framework.specs.Aid.Cells.{cells_of_aid, is_aid_length}
use Rattle.jc_api_framework.proofs.ConstructingCalls.{constructing_due}
use Rattle.jc_api_framework.proofs.Passing.{MethodPasses}

-- these words are the cells of an AID
abbrev AreOfAid : List ℕ → Type 0
AreOfAid words = (bytes : List ℕ) × (words ≡ cells_of_aid bytes) × (is_aid_length (length bytes) ≡ true)

module _ (m : MemoryState) (words : List ℕ) where
  of_elements : (e : Stretch) → cells_of_elements m e ≡ Ok words → AreOfAid words
  of_elements e is = by (is_aid_length e.count) refl is
    where
      by : (b : Bool) → is_aid_length e.count ≡ b → (if b then Ok (cells_of_aid (bytes_in m e)) else Err (Throw illegal_value)) ≡ Ok words → AreOfAid words
      by true on is = (bytes_in m e, sym (same_Ok (cells_of_aid (bytes_in m e)) words is), ap is_aid_length (length_bytes m e) ∙ on)
      by false off is = absurd (err_not_ok is)

  -- those that the constructor answers
  of_constructor : (args : List Cell) (p : Packages) → aid_init args p m ≡ Ok words → AreOfAid words
  unfolding aid_init
  of_constructor args p is =
      let own = both_ok (some_or_fault (reference_argument args 0)) (λ own. and_then (array_arguments 1 args m)
      (λ given. and_then (instance_at m own 9) (λ f. and_then (argument_bytes given p m) (cells_of_elements m)))) words is in
      let given = both_ok (array_arguments 1 args m) (λ given. and_then (instance_at m own.0 9)
      (λ f. and_then (argument_bytes given p m) (cells_of_elements m))) words own.2 in
      let facts = both_ok (instance_at m own.0 9) (λ f. and_then (argument_bytes given.0 p m) (cells_of_elements m)) words given.2 in
      let e = both_ok (argument_bytes given.0 p m) (cells_of_elements m) words facts.2 in
      of_elements e.0 e.2

module _ (P : Effect → MemoryState → Type 0) (L : MemoryState → ℕ → Type 0) (args : List Cell) (p : Packages) (m : MemoryState) where
  pub aids_due : (method : AidsMethod) → MethodPasses P (rooms.Aids method) args p m → IsPlainCall P L (aid_call method args p m) m
  unfolding aid_call
  aids_due aids.AidInit pass = constructing_due P L args m (aid_init args p m) (λ words is own called there.
      let aid = of_constructor m words args p is in
      subst (λ ws. P (cells_effect m own 0 ws) m) (sym aid.1)
      (pass.aid refl own aid.0 called (subst (λ ws. IsInstanceWith m own (length ws)) aid.1 there) aid.2))
  aids_due aids.AidEquals pass = reading_due P L (rooms.Aids aids.AidEquals) args p m pass.calls (aid_equals args p m)
  aids_due aids.AidEqualsBytes pass = reading_due P L (rooms.Aids aids.AidEqualsBytes) args p m pass.calls (aid_equals_bytes args p m)
  aids_due aids.AidGetBytes pass = reading_due P L (rooms.Aids aids.AidGetBytes) args p m pass.calls (aid_get_bytes args m)
  aids_due aids.AidRidEquals pass = reading_due P L (rooms.Aids aids.AidRidEquals) args p m pass.calls (aid_rid_equals args p m)
  aids_due aids.AidPartialEquals pass = reading_due P L (rooms.Aids aids.AidPartialEquals) args p m pass.calls (aid_partial_equals args p m)
  aids_due aids.AidGetPartialBytes pass = reading_due P L (rooms.Aids aids.AidGetPartialBytes) args p m pass.calls (aid_get_partial_bytes args m)
