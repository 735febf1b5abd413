-- Faults, steps and runs leave a machine sound.
use Rattle.std.specs.Prelude.{ℕ, List, Option}
use Rattle.jc_frames.specs.Frames.{Frames, Next, GoesOn, Throws, Ends}
use Rattle.jc_memory.specs.State.{MemoryState}
use Rattle.jc_memory.specs.Reading.{AllDue, AllResults}
use Rattle.jc_linker.specs.Values.{Packages}
use Rattle.jc_interp.specs.declared.attacks.Attack.{Attack}
use Rattle.jc_interp.specs.declared.attacks.FaultModel.{FaultModel}
use Rattle.jc_interp.specs.Attacks.{attacked, attacked_step, faulted}
use Rattle.jc_interp.specs.Run.{run_of}
use Rattle.law_code.specs.Classes.{HasAids, KnowsClasses}
use Rattle.law_soundness.specs.MemoryLaws.Fit.{IsFit}
use Rattle.law_soundness.specs.LivingReferences.{IsLivingOutcome}
use Rattle.law_soundness.specs.Machines.{IsSoundMachine}
use Rattle.law_code.specs.Methods.{KnowsMethods}
use Rattle.law_code.specs.Platform.{KeepsPlatform}

-- what is known of packages that were linked
pub record AreKnown (p : Packages) : Type 0 where
  pub classes : KnowsClasses p
  pub aids : HasAids p
  pub methods : KnowsMethods p
  pub platform : KeepsPlatform p

-- what follows is a sound machine; at the end, what the run returns or throws is there
abbrev pub IsSoundNext : Packages → Next Frames → MemoryState → Type 0
IsSoundNext p (GoesOn s) m = IsSoundMachine p s m
IsSoundNext p (Throws e s) m = IsSoundMachine p s m
IsSoundNext p (Ends o) m = IsLivingOutcome m.heap.now o

-- a sound machine is sound after faults, or they end the run by a code fault: after one of each kind, whatever code it finds, and after all that come
-- before a step, as this many of the command's instructions are left
pub record FaultsAreSound : Type 0 where
  pub one : (model : FaultModel) (code : List ℕ) (p : Packages) (s : Frames) (m : MemoryState) → IsSoundMachine p s m
      → IsSoundNext p (faulted model code s) m
  pub all : (attack : Option Attack) (left : ℕ) (lent : List ℕ) (p : Packages) (s : Frames) (m : MemoryState) → IsSoundMachine p s m
      → IsSoundNext p (attacked attack left lent p s) m

-- each effect of a step of a sound machine fits, and what follows is one, also where an attack comes before it
pub record StepsAreSound : Type 0 where
  pub fit : (attack : Option Attack) (left : ℕ) (lent : List ℕ) (p : Packages) (s : Frames) (m : MemoryState) → AreKnown p → IsSoundMachine p s m
      → AllDue (IsFit p) (attacked_step attack left lent p s m) m
  pub next : (attack : Option Attack) (left : ℕ) (lent : List ℕ) (p : Packages) (s : Frames) (m : MemoryState) → AreKnown p → IsSoundMachine p s m
      → AllResults (attacked_step attack left lent p s m) m (IsSoundNext p)

-- each effect of a run fits
abbrev pub RunsAreSound : Type 0
RunsAreSound = (attack : Option Attack) (budget : ℕ) (lent : List ℕ) (p : Packages) (s : Frames) (m : MemoryState) → AreKnown p → IsSoundMachine p s m
    → AllDue (IsFit p) (run_of attack budget lent p s m) m
