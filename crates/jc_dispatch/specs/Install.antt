-- Installing an applet (runtime environment specification, applet installation).
use Rattle.std.specs.Prelude.{ℕ, ◌+◌, false, pos, List, [], ◌∷◌, length}
use Rattle.jc_transient.specs.declared.cell.ClearEvent.TheVariants.{Deselect}
use Rattle.jc_heap.specs.Moves.{Begin}
use Rattle.jc_frames.specs.declared.cell.Cell.TheVariants.{Short, Reference}
use Rattle.jc_frames.specs.declared.outcome.Outcome.{Outcome}
use Rattle.jc_frames.specs.declared.outcome.Outcome.TheVariants as outcome
use Rattle.jc_memory.specs.declared.registers.ApduPhase.TheVariants.{Waiting}
use Rattle.jc_transient.specs.declared.owner.AppletNumber.{AppletNumber}
use Rattle.jc_memory.specs.declared.registers.Depth.TheVariants.{Outside}
use Rattle.jc_memory.specs.declared.registers.Installation.{Installation}
use Rattle.jc_memory.specs.declared.registers.Installation.TheVariants.{Idle, Open, Registered}
use Rattle.jc_transient.specs.declared.owner.Owner.TheVariants.{Applet}
use Rattle.jc_transient.specs.declared.owner.PackageNumber.{PackageNumber}
use Rattle.jc_memory.specs.declared.registers.Registers.{Registers}
use Rattle.jc_memory.specs.State.{MemoryState, HeapMove, SetRegisters, ClearTransient}
use Rattle.jc_memory.specs.Programs.{Program, Finish, bind}
use Rattle.jc_linker.specs.Values.{Packages}
use Rattle.jc_interp.specs.declared.attacks.Budget.{Budget}
use Rattle.jc_dispatch.specs.declared.applet_result.AppletResult.{AppletResult}
use Rattle.jc_dispatch.specs.declared.applet_result.AppletResult.TheVariants.{Done, NotRegistered}
use Rattle.jc_dispatch.specs.Buffer.{apdu_buffer, buffer_fill}
use Rattle.jc_dispatch.specs.AppletResult.{result_of_run}
use Rattle.jc_dispatch.specs.Phase.{then_with, close, method_run}

-- an applet of a package is being installed, by the entry of its Applet component with this number
abbrev pub with_installation : Installation → Registers → Registers
with_installation installation g = record g { installation = installation; depth = Outside; selecting = false; reselecting = false; apdu = record { expected = 0; phase = Waiting } }

-- the number that the next applet gets
abbrev pub next_applet : MemoryState → AppletNumber
next_applet m = record { 0 = m.heap.now.counts.1 + 1 }

-- how an installation ended: it succeeded as the instance was registered, whatever came then; a return without that is
-- a failure
abbrev pub installation_end : Packages → MemoryState → Installation → Outcome → AppletResult
installation_end p m (Registered q) end = Done
installation_end p m (Open q entry) outcome.Void = NotRegistered
installation_end p m (Open q entry) end = result_of_run p m end
installation_end p m Idle end = result_of_run p m end

-- an applet is installed: in a transaction, with its parameters in the buffer from its first byte on, its install runs as
-- the next applet. What is still open then ends, and what is cleared at a deselection is
unfoldable pub applet_installation : Budget → Packages → PackageNumber → ℕ → ℕ → List ℕ → MemoryState → Program AppletResult
applet_installation budget p q entry offset parameters m =
    then_with (HeapMove Begin) m (λ v.
    then_with (SetRegisters (with_installation (Open q entry) v.registers)) v (λ w.
    bind (buffer_fill w parameters) w (λ u x.
    bind (method_run budget p q.0 offset (Reference (apdu_buffer x) ∷ Short (pos 0) ∷ Short (pos (length parameters)) ∷ []) (Applet (next_applet m)) x) x
    (λ end y.
    bind (close y) y (λ u z.
    then_with (ClearTransient Deselect) z (λ t.
    then_with (SetRegisters (with_installation Idle t.registers)) t (λ last. Finish (installation_end p y y.registers.installation end.1))))))))
