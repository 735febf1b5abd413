-- JCSystem: what the calls that begin and end transactions may do.
use Rattle.std.proofs.Common.{◌≡◌, Result, refl, None, ap, Ok}
use Rattle.jc_heap.specs.Moves.{Begin, Commit, Abort}
use Rattle.jc_memory.specs.State.{MemoryState, Effect, HeapMove}
use Rattle.jc_memory.specs.declared.registers.Depth.{Depth}
use Rattle.jc_memory.specs.declared.registers.Depth.TheVariants.{Outside, Inside}
use Rattle.jc_memory.specs.declared.registers.Installation.{Installation}
use Rattle.jc_memory.specs.declared.registers.Installation.TheVariants.{Idle, Open, Registered}
use Rattle.jc_frames.specs.Reasons.{in_progress, not_in_progress}
use Rattle.jc_frames.specs.declared.outcome.FrameExit.{FrameExit}
use Rattle.jc_frames.specs.declared.outcome.FrameExit.TheVariants.{Throw}
use Rattle.jc_world.specs.declared.native_result.NativeResult.{NativeResult}
use Rattle.jc_world.specs.declared.native_result.NativeResult.TheVariants.{Aborted}
use Rattle.jc_api.proofs.Due.{DueThen, then_if}
use Rattle.jc_api_framework.specs.Applet.Register.{open_installation}
use Rattle.jc_api_framework.specs.System.Transactions.{jc_system_begin_transaction, commit_of_applet, jc_system_commit_transaction, after_abort}
use Rattle.jc_api_framework.specs.System.Transactions.{jc_system_abort_transaction}
use Rattle.jc_api_framework.proofs.Passing.{Bears, EndsSo}

module _ (P : Effect → MemoryState → Type 0) (R : Result NativeResult FrameExit → MemoryState → Type 0) (Q : MemoryState → Type 0) (bears : Bears P Q)
    (m : MemoryState) (so : Q m) (ends : EndsSo R m) where
  pub begun_due : (depth : Depth) → DueThen P R (jc_system_begin_transaction depth m) m
  begun_due Inside = ends.exits (Throw in_progress) tt
  begun_due Outside = then_if P R m ends.exits m.heap.begun _ _ (λ on. (bears.turns _ m so refl refl refl, ends.levels Inside)) (λ off.
      (bears.begins m so off, (bears.turns _ _ (bears.keeps (HeapMove Begin) m (bears.begins m so off) so) refl refl refl, ends.begins)))

  -- where no installation is open
  closed_due : open_installation m.registers.installation ≡ None → DueThen P R (commit_of_applet Idle m) m
  closed_due none = then_if P R m ends.exits m.heap.begun _ _ (λ on. (
    bears.commits m so on none,
    (bears.turns _ _ (bears.keeps (HeapMove Commit) m (bears.commits m so on none) so) refl refl refl, ends.commits none),
  )) (λ off. (bears.turns _ m so refl refl refl, ends.levels Outside))

  committed_in_due : (installation : Installation) → m.registers.installation ≡ installation → DueThen P R (commit_of_applet installation m) m
  committed_in_due (Open home entry) is = (bears.turns _ m so refl refl refl, ends.levels Outside)
  committed_in_due Idle is = closed_due (ap open_installation is)
  committed_in_due (Registered home) is = closed_due (ap open_installation is)

  pub committed_due : (depth : Depth) → DueThen P R (jc_system_commit_transaction depth m) m
  committed_due Outside = ends.exits (Throw not_in_progress) tt
  committed_due Inside = committed_in_due m.registers.installation refl

  after_abort_due : (installation : Installation) → m.registers.installation ≡ installation → (v : MemoryState)
      → (open_installation m.registers.installation ≡ None → R (Ok Aborted) v) → DueThen P R (after_abort installation) v
  after_abort_due Idle is v left = left (ap open_installation is)
  after_abort_due (Open home entry) is v left = ends.faults v
  after_abort_due (Registered home) is v left = left (ap open_installation is)

  pub aborted_due : (depth : Depth) → DueThen P R (jc_system_abort_transaction depth m) m
  aborted_due Outside = ends.exits (Throw not_in_progress) tt
  aborted_due Inside = then_if P R m ends.exits m.heap.begun _ _
      (λ on. (
        bears.aborts m on,
        (
          bears.turns _ _ (bears.keeps (HeapMove Abort) m (bears.aborts m on) so) refl refl refl,
          after_abort_due m.registers.installation refl _ ends.aborts,
        ),
      ))
      (λ off. (bears.turns _ m so refl refl refl, after_abort_due m.registers.installation refl _ ends.stays))
