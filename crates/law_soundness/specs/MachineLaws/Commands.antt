-- Selecting, installing and answering leave a memory sound, as between two commands.
use Rattle.std.specs.Prelude.{ℕ, ◌≡◌, ◌⊎◌, Bool, true, false, List}
use Rattle.jc_transient.specs.declared.owner.AppletNumber.{AppletNumber}
use Rattle.jc_memory.specs.declared.registers.Registers.{Registers}
use Rattle.jc_memory.specs.State.{MemoryState, Effect, SetRegisters, apply_effect}
use Rattle.jc_memory.specs.Programs.{Program}
use Rattle.jc_memory.specs.Reading.{AllDue, AllResults}
use Rattle.jc_linker.specs.Values.{Packages}
use Rattle.jc_interp.specs.declared.attacks.Budget.{Budget}
use Rattle.jc_dispatch.specs.Create.{applet_creation}
use Rattle.jc_dispatch.specs.AdHocCode.{ad_hoc_run}
use Rattle.jc_dispatch.specs.Select.{manager_selection, process_command, applet_selection}
use Rattle.law_soundness.specs.MachineLaws.CommandParts.{IsDispatched}
use Rattle.law_soundness.specs.MemoryLaws.Environment.{HasEnvironment}
use Rattle.law_soundness.specs.MemoryLaws.Fit.{FitsTurn, IsFit}
use Rattle.law_soundness.specs.MemoryLaws.State.{IsSoundMemory, is_applet, is_home, is_open}
use Rattle.law_soundness.specs.MachineLaws.Soundness.{AreKnown}

-- an installation of a package that is there begins, in its transaction
pub record OpensInstallation (m : MemoryState) (g : Registers) : Type 0 where
  pub begun : m.heap.begun ≡ true
  pub none : is_open m.registers.installation ≡ false
  pub home : is_home m.heap.now g.installation ≡ true
  pub active : g.active ≡ m.registers.active
  pub selected : g.selected ≡ m.registers.selected

-- an effect of a command fits, or an installation begins with it
abbrev pub IsServed : Packages → Effect → MemoryState → Type 0
IsServed p (SetRegisters g) m = FitsTurn m g ⊎ OpensInstallation m g
IsServed p e m = IsFit p e m

-- a sound memory between two commands: no transaction is open, and nothing is being installed
pub record IsReady (p : Packages) (m : MemoryState) : Type 0 where
  pub sound : IsSoundMemory p m
  pub environment : HasEnvironment p m
  pub closed : m.heap.begun ≡ false
  pub idle : is_open m.registers.installation ≡ false

-- each effect of it fits so, it leaves such a memory, and it is what the runtime environment does and runs of code
pub record LeavesReady {A : Type 0} (p : Packages) (d : Program A) (m : MemoryState) : Type 0 where
  pub fit : AllDue (IsServed p) d m
  pub ready : AllResults d m (λ a n. IsReady p n)
  pub runs : IsDispatched p (λ a n. IsReady p n) d m

-- so it is with each: an applet that is registered answers or is selected, the manager is selected, an applet is installed, lent code runs
pub record CommandsAreSound : Type 0 where
  pub answering : (budget : Budget) (p : Packages) (a : AppletNumber) (selecting : Bool) (expected : ℕ) (m : MemoryState) → AreKnown p → IsReady p m
      → is_applet m.heap.durable a ≡ true → LeavesReady p (process_command budget p a selecting expected m) m
  pub selecting : (budget : Budget) (p : Packages) (a : AppletNumber) (expected : ℕ) (m : MemoryState) → AreKnown p → IsReady p m
      → is_applet m.heap.durable a ≡ true
      → LeavesReady p (applet_selection budget p a expected m) m
  pub managing : (budget : Budget) (p : Packages) (m : MemoryState) → AreKnown p → IsReady p m → LeavesReady p (manager_selection budget p m) m
  pub making : (budget : Budget) (p : Packages) (bytes : List ℕ) (m : MemoryState) → AreKnown p → IsReady p m
      → LeavesReady p (applet_creation budget p bytes m) m
  pub running : (budget : Budget) (limit locals : ℕ) (code : List ℕ) (p : Packages) (m : MemoryState) → AreKnown p → IsReady p m
      → LeavesReady p (ad_hoc_run budget limit locals code p m) m

-- such an effect leaves a memory sound, and the environment's objects its own
pub record ServingKeeps : Type 0 where
  pub sound : (p : Packages) (e : Effect) (m : MemoryState) → IsServed p e m → IsSoundMemory p m → IsSoundMemory p (apply_effect e m)
  pub environment : (p : Packages) (e : Effect) (m : MemoryState) → IsServed p e m → IsSoundMemory p m → HasEnvironment p m
      → HasEnvironment p (apply_effect e m)
