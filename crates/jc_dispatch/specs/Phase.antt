-- What the runtime environment does with an applet: it runs a method of it, and ends what is left open.
use Rattle.std.specs.Prelude.{ℕ, Bool, true, false, pos, List, [], ◌∷◌, Option, Some, None, unwrap_or}
use Rattle.std.specs.Option.{option_and_then}
use Rattle.jc_heap.specs.Moves.{Abort}
use Rattle.jc_cap.specs.declared.pool.VirtualToken.TheVariants.{Public}
use Rattle.jc_frames.specs.declared.cell.Cell.{Cell}
use Rattle.jc_frames.specs.declared.outcome.Outcome.{Outcome}
use Rattle.jc_frames.specs.declared.outcome.Outcome.TheVariants.{Void, Short, Fault}
use Rattle.jc_frames.specs.Frames.{Frames}
use Rattle.jc_memory.specs.declared.registers.Depth.TheVariants.{Outside}
use Rattle.jc_transient.specs.declared.owner.Owner.{Owner}
use Rattle.jc_transient.specs.declared.owner.Owner.TheVariants.{Runtime}
use Rattle.jc_memory.specs.declared.registers.Registers.{Registers}
use Rattle.jc_memory.specs.State.{MemoryState, Effect, HeapMove, SetRegisters, apply_effect}
use Rattle.jc_memory.specs.Programs.{Program, Finish, Perform, bind}
use Rattle.jc_memory.specs.Cells.{header_at}
use Rattle.jc_linker.specs.declared.target.Method.{Method}
use Rattle.jc_linker.specs.declared.target.Method.TheVariants.{Code, Native}
use Rattle.jc_linker.specs.Methods.{method_at}
use Rattle.jc_linker.specs.Values.{Packages}
use Rattle.jc_platform.specs.declared.names.PlatformMethod.{PlatformMethod}
use Rattle.jc_platform.specs.declared.names.PlatformMethod.TheVariants.{Applets}
use Rattle.jc_platform.specs.declared.names.AppletsMethod.TheVariants.{AppletSelect, AppletDeselect}
use Rattle.jc_platform.specs.Tokens.{method_token}
use Rattle.jc_environment.specs.Registry.{instance_of_applet}
use Rattle.jc_instructions.specs.Enter.{first_frames_of}
use Rattle.jc_interp.specs.declared.attacks.Budget.{Budget}
use Rattle.jc_interp.specs.Run.{run_methods}

-- an effect, and then what the memory then asks for
abbrev pub then_with : {A : Type 0} → Effect → MemoryState → (MemoryState → Program A) → Program A
then_with e m more = Perform e (more (apply_effect e m))

-- code runs for an owner, at the runtime environment's call
abbrev pub registers_for : Owner → Registers → Registers
registers_for owner g = record g { active = owner; previous = Runtime }

-- code does not run
abbrev pub registers_idle : Registers → Registers
registers_idle g = record g { active = Runtime; previous = Runtime }

-- a method runs for an owner: what is left of the command's instructions, and how the method ended. Where it can't
-- begin that is a code fault
abbrev pub method_run_from : Budget → Packages → Option Frames → Owner → MemoryState → Program (ℕ × Outcome)
method_run_from budget p None owner m = Finish (budget.left, Fault)
method_run_from budget p (Some s) owner m = then_with (SetRegisters (registers_for owner m.registers)) m (λ v.
    bind (run_methods budget p s v) v (λ end w. then_with (SetRegisters (registers_idle w.registers)) w (λ x. Finish end)))

unfoldable pub method_run : Budget → Packages → ℕ → ℕ → List Cell → Owner → MemoryState → Program (ℕ × Outcome)
method_run budget p number offset arguments owner m = method_run_from budget p (first_frames_of p number offset arguments) owner m

-- the method that an applet's class has under a name of the platform's class Applet
unfoldable pub method_named : Packages → MemoryState → ℕ → PlatformMethod → Option Method
method_named p m applet name = option_and_then (λ f. method_at p f.class 0 (Public (method_token p.platform name)))
    (header_at m applet)

-- what the platform's class Applet does itself: an applet may be selected, and does nothing as it is deselected. Its
-- process is abstract
abbrev pub default_of : PlatformMethod → Outcome
default_of (Applets AppletSelect) = Short (pos 1)
default_of (Applets AppletDeselect) = Void
default_of other = Fault

abbrev pub run_method : Budget → Packages → Option Method → List Cell → Owner → MemoryState → Program (ℕ × Outcome)
run_method budget p None arguments owner m = Finish (budget.left, Fault)
run_method budget p (Some (Native name)) arguments owner m = Finish (budget.left, default_of name)
run_method budget p (Some (Code number offset)) arguments owner m = method_run budget p number offset arguments owner m

-- a method of an applet is called by its name
unfoldable pub applet_method_call : Budget → Packages → PlatformMethod → ℕ → List Cell → Owner → MemoryState → Program (ℕ × Outcome)
applet_method_call budget p name applet arguments owner m = run_method budget p (method_named p m applet name) arguments owner m

-- a transaction that is still open is taken back, and references to what was made in it become null
abbrev pub abort_if_open : {A : Type 0} → Bool → (MemoryState → Program A) → MemoryState → Program A
abort_if_open false more m = more m
abort_if_open true more m = then_with (HeapMove Abort) m more

-- no transaction is nested, and the command that selected an applet is no longer answered
abbrev pub registers_released : Registers → Registers
registers_released g = record g { depth = Outside; selecting = false }

-- back in the runtime environment: what is still open ends, and the applet's nesting with it
unfoldable pub close : MemoryState → Program (Unit {0})
close m = abort_if_open m.heap.begun (λ v. then_with (SetRegisters (registers_released v.registers)) v (λ w. Finish tt)) m

-- the applet with a number: its instance, and for whom its code runs
abbrev pub instance_of : MemoryState → ℕ → ℕ
instance_of m a = unwrap_or (instance_of_applet m.heap.now a) 0
