-- Selecting an applet, and the commands that it answers (runtime environment specification, applet selection and
-- processing).
use Rattle.std.specs.Prelude.{ℕ, ◌==◌, Bool, true, false, ◌&&◌, List, [], ◌∷◌, take, Option, Some, None, if◌then◌else◌}
use Rattle.jc_transient.specs.declared.cell.ClearEvent.TheVariants.{Deselect}
use Rattle.jc_frames.specs.declared.cell.Cell.TheVariants.{Reference}
use Rattle.jc_memory.specs.declared.registers.ApduPhase.TheVariants.{Waiting}
use Rattle.jc_transient.specs.declared.owner.AppletNumber.{AppletNumber}
use Rattle.jc_transient.specs.declared.owner.Owner.TheVariants.{Applet}
use Rattle.jc_memory.specs.declared.registers.Registers.{Registers}
use Rattle.jc_memory.specs.Commands.{header_length}
use Rattle.jc_memory.specs.State.{MemoryState, SetRegisters, ClearTransient}
use Rattle.jc_memory.specs.Programs.{Program, Finish, bind}
use Rattle.jc_linker.specs.Values.{Packages}
use Rattle.jc_platform.specs.declared.names.PlatformMethod.TheVariants.{Applets}
use Rattle.jc_platform.specs.declared.names.AppletsMethod.TheVariants.{AppletSelect, AppletDeselect, AppletProcess}
use Rattle.jc_interp.specs.declared.attacks.Budget.{Budget}
use Rattle.jc_dispatch.specs.declared.applet_result.AppletResult.{AppletResult}
use Rattle.jc_dispatch.specs.declared.applet_result.AppletResult.TheVariants.{Done, NotSelected}
use Rattle.jc_dispatch.specs.Buffer.{apdu_object, buffer_fill}
use Rattle.jc_dispatch.specs.AppletResult.{result_of_run, is_select_accepted}
use Rattle.jc_dispatch.specs.Phase.{then_with, applet_method_call, close, instance_of}

-- the applet is selected, or none
abbrev pub with_selected : Option AppletNumber → Registers → Registers
with_selected applet_selection g = record g { selected = applet_selection }

-- a command that expects this many bytes comes to the selected applet; it may be the one that selected it
abbrev pub with_command : ℕ → Bool → Registers → Registers
with_command expected selecting g = record g { selecting = selecting; reselecting = selecting && g.reselecting; apdu = record { expected = expected; phase = Waiting } }

-- both are the same applet
abbrev pub is_same_applet : Option AppletNumber → Option AppletNumber → Bool
is_same_applet (Some a) (Some b) = a.0 == b.0
is_same_applet _ _ = false

-- another applet, or none, is about to be selected: whether it is the one that is
abbrev pub with_next : Option AppletNumber → Registers → Registers
with_next next g = record g { reselecting = is_same_applet next g.selected }

-- the bytes of a command before its data: five, of which the fifth may be missing, or in the extended form seven
abbrev pub header_of : List ℕ → List ℕ
header_of bytes = take (header_length bytes) bytes

-- an applet is left: its deselect runs, however it ends, and then what is cleared at a deselection is
unfoldable pub applet_left : Budget → Packages → Option AppletNumber → MemoryState → Program ℕ
applet_left budget p None m = then_with (ClearTransient Deselect) m (λ v. Finish budget.left)
applet_left budget p (Some a) m =
    bind (applet_method_call budget p (Applets AppletDeselect) (instance_of m a.0) (Reference (instance_of m a.0) ∷ []) (Applet a) m) m (λ end v.
    bind (close v) v (λ u w.
    then_with (ClearTransient Deselect) w (λ x. Finish end.0)))

-- the selected applet is left for the next one, or for the manager
unfoldable pub deselection : Budget → Packages → Option AppletNumber → MemoryState → Program ℕ
deselection budget p next m = then_with (SetRegisters (with_next next m.registers)) m (λ v. applet_left budget p v.registers.selected v)

-- an applet answers a command: the header lies in the buffer, process runs, and what it leaves open ends. Its status is
-- read before
unfoldable pub process_command : Budget → Packages → AppletNumber → Bool → ℕ → MemoryState → Program AppletResult
process_command budget p a selecting expected m =
    then_with (SetRegisters (with_command expected selecting m.registers)) m (λ v.
    bind (buffer_fill v (header_of v.command)) v (λ u w.
    bind (applet_method_call budget p (Applets AppletProcess) (instance_of w a.0) (Reference (instance_of w a.0) ∷ Reference (apdu_object w) ∷ []) (Applet a) w) w
    (λ end x.
    bind (close x) x (λ u y. Finish (result_of_run p x end.1)))))

-- an applet that was asked whether it may be selected answers the command that selected it, or is not selected
abbrev pub after_select : Bool → Budget → Packages → AppletNumber → ℕ → MemoryState → Program AppletResult
after_select true budget p a expected m = process_command budget p a true expected m
after_select false budget p a expected m = then_with (SetRegisters (with_selected None m.registers)) m (λ v. Finish NotSelected)

-- SELECT of an applet: the one that was selected is deselected, its own select runs, and then it answers the
-- command
unfoldable pub applet_selection : Budget → Packages → AppletNumber → ℕ → MemoryState → Program AppletResult
applet_selection budget p a expected m =
    bind (deselection budget p (Some a) m) m (λ rest v.
    then_with (SetRegisters (with_selected (Some a) v.registers)) v (λ w.
    bind (applet_method_call (record budget { left = rest }) p (Applets AppletSelect) (instance_of w a.0) (Reference (instance_of w a.0) ∷ []) (Applet a) w) w
    (λ end x.
    bind (close x) x (λ u y. after_select (is_select_accepted end.1) (record budget { left = end.0 }) p a expected y))))

-- the manager is selected: the applet that was is left, and none is
unfoldable pub manager_selection : Budget → Packages → MemoryState → Program AppletResult
manager_selection budget p m = bind (deselection budget p None m) m
    (λ rest v. then_with (SetRegisters (with_selected None v.registers)) v (λ w. Finish Done))
