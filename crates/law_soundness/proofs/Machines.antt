-- What effects leave of a sound machine, and what follows in a method.
use Rattle.std.proofs.Common.{◌≡◌, false, List, sym, subst, ap, ◌∙◌}
use Rattle.std.specs.Prelude.{◌==◌}
use Rattle.jc_heap.specs.WholeHeap.{IsReference}
use Rattle.jc_memory.specs.Programs.{Program, Finish, Perform, Choose, Either}
use Rattle.jc_transient.specs.Owners.{owner_number}
use Rattle.jc_memory.specs.Reading.{AllDue}
use Rattle.jc_memory.specs.State.{MemoryState, Effect, apply_effect}
use Rattle.jc_linker.specs.Values.{Packages}
use Rattle.jc_frames.specs.declared.cell.Cell.{Cell}
use Rattle.jc_frames.specs.declared.method.Origin.{Origin}
use Rattle.jc_frames.specs.Frames.{Caller, Frame, Frames, Next, GoesOn, Throws, Ends, in_frame, with_stack}
use Rattle.law_soundness.specs.MemoryLaws.Environment.{HasEnvironment, KeepsEnvironment}
use Rattle.law_soundness.specs.MemoryLaws.Fit.{IsFit, KeepsSound}
use Rattle.law_soundness.specs.LivingReferences.{AreLivingCallers, AreLivingCells, IsLivingFrame}
use Rattle.law_soundness.specs.MemoryLaws.State.{IsSoundMemory, IsSteady}
use Rattle.law_soundness.specs.MachineLaws.LocalEffects.{LocalEffectsStay, IsLocalEffect}
use Rattle.law_soundness.specs.Machines.{IsSoundMachine, KnowOwners}
use Rattle.law_code.specs.Methods.{KnowsMethods}
use Rattle.law_soundness.specs.MachineLaws.Steps.{HasSoundCallers, InstructionsFit}
use Rattle.law_soundness.specs.MachineLaws.Calls.{NativesLeave}
use Rattle.law_soundness.specs.MachineLaws.Soundness.{IsSoundNext}
use Rattle.jc_api.proofs.Due.{DueThen}
use Rattle.law_code.proofs.StepsInMethod.{IsPlainNext, StaysIn}
use Rattle.law_code.proofs.StackCells.{with_cells}
use Rattle.law_soundness.proofs.LivingReferences.{callers_kept, plain_living}
use Rattle.law_soundness.proofs.Plain.{Keeps}
use Rattle.law_soundness.proofs.Still.{IsStill, Lives}

-- what effects, instructions and calls of the platform are proved to do
pub record Given : Type 0 where
  pub sound : KeepsSound
  pub environment : KeepsEnvironment
  pub stays : LocalEffectsStay
  pub instructions : InstructionsFit
  pub natives : NativesLeave

-- a sound machine, but for the code that runs
pub record IsSoundUnder (p : Packages) (callers : List Caller) (m : MemoryState) : Type 0 where
  pub sound : IsSoundMemory p m
  pub steady : IsSteady m
  pub known : KnowOwners callers m
  pub environment : HasEnvironment p m
  pub living : AreLivingCallers m.heap.now callers

-- the runtime environment is not active
abbrev pub IsOthers : MemoryState → Type 0
IsOthers m = owner_number m.registers.active ≡ 0 → ⊥

-- a method with this origin runs for whom it may
abbrev pub MayRun : Origin → MemoryState → Type 0
MayRun origin m = origin.package_number == 0 ≡ false → IsOthers m

pub sound_callers : (p : Packages) (s : Frames) (m : MemoryState) → KnowsMethods p → IsSoundMachine p s m → HasSoundCallers p s m
sound_callers p s m methods machine = record { methods = methods; sound = machine.sound; callers = machine.callers }

pub under_of : (p : Packages) (s : Frames) (m : MemoryState) → IsSoundMachine p s m → IsSoundUnder p s.callers m
under_of p s m machine = record {
  sound = machine.sound;
  steady = machine.steady;
  known = machine.callers;
  environment = machine.environment;
  living = machine.living.callers;
}

pub machine_of : (p : Packages) (s : Frames) (m : MemoryState) → IsSoundUnder p s.callers m → MayRun s.current.origin m → IsLivingFrame m.heap.now s.current
    → IsSoundMachine p s m
machine_of p s m under may living = record {
  sound = under.sound;
  steady = under.steady;
  callers = under.known;
  environment = under.environment;
  code = may;
  living = record { current = living; callers = under.living };
}

-- with other cells on the stack
pub stacked : (p : Packages) (s : Frames) (m : MemoryState) (cells : List Cell) → AreLivingCells m.heap.now cells → IsSoundMachine p s m
    → IsSoundMachine p (with_stack s cells) m
stacked p s m cells all machine = machine_of p (with_stack s cells) m (under_of p s m machine) machine.code
    (with_cells (IsReference m.heap.now) s.current cells machine.living.current all)

-- what the frame that runs does leaves a sound machine, where it stays in its method
pub framed : (p : Packages) (s : Frames) (m : MemoryState) → IsSoundMachine p s m → (next : Next Frame) → Keeps m.heap.now s.current.origin next
    → IsSoundNext p (in_frame s next) m
framed p s m machine (GoesOn f) keeps =
    machine_of p (record s { current = f }) m (under_of p s m machine) (subst (λ o. MayRun o m) (sym keeps.0) machine.code) keeps.1
framed p s m machine (Throws e f) keeps =
    machine_of p (record s { current = f }) m (under_of p s m machine) (subst (λ o. MayRun o m) (sym keeps.0) machine.code) keeps.1
framed p s m machine (Ends o) keeps = keeps

-- so does what follows plainly, of the same callers and in the same method
module _ (p : Packages) (callers : List Caller) (origin : Origin) (m : MemoryState) (under : IsSoundUnder p callers m) (may : MayRun origin m) where
  machine_like : (s : Frames) → s.callers ≡ callers → s.current.origin ≡ origin → IsLivingFrame m.heap.now s.current → IsSoundMachine p s m
  machine_like s same here living =
      machine_of p s m (subst (λ l. IsSoundUnder p l m) (sym same) under) (subst (λ o. MayRun o m) (sym here) may) living

  plain_next : (next : Next Frames) → IsPlainNext (Lives m) callers origin next → IsSoundNext p next m
  plain_next (GoesOn s) plain = machine_like s plain.0 plain.1 plain.2
  plain_next (Throws e s) plain = machine_like s plain.0 plain.1 plain.2
  plain_next (Ends o) plain = plain_living m.heap.now o plain

-- ---- effects

module _ (g : Given) (p : Packages) where
  -- a calm effect that fits
  pub under_after : (e : Effect) (callers : List Caller) (m : MemoryState) → IsFit p e m → IsLocalEffect e m → IsSoundUnder p callers m
      → IsSoundUnder p callers (apply_effect e m)
  under_after e callers m fit calm under = record {
    sound = g.sound p e m fit under.sound;
    steady = g.stays.steady e m calm under.sound.settled under.steady;
    known = g.stays.owners e m callers calm under.sound.settled under.known;
    environment = g.environment p e m fit under.sound under.environment;
    living = callers_kept m.heap.now (apply_effect e m).heap.now (g.stays.references e m calm under.sound.whole.now) callers under.living;
  }

  -- what stays in a method leaves a sound machine, where each effect fits
  stays_next : (callers : List Caller) (origin : Origin) (d : Program (Next Frames)) (m : MemoryState)
      → DueThen IsStill (λ next v. IsPlainNext (Lives v) callers origin next) d m → AllDue (IsFit p) d m → IsSoundUnder p callers m → MayRun origin m
      → DueThen (IsFit p) (IsSoundNext p) d m
  stays_next callers origin (Finish next) m stays due under may = plain_next p callers origin m under may next stays
  stays_next callers origin (Perform e rest) m stays due under may = (
    due.0,
    stays_next callers origin rest (apply_effect e m) stays.1 due.1 (under_after e callers m due.0 stays.0.0 under)
        (λ code zero. may code (ap owner_number (sym stays.0.1) ∙ zero)),
  )
  stays_next callers origin (Choose choose) m stays due under may = λ r new. stays_next callers origin (choose r) m (stays r new) (due r new) under may
  stays_next callers origin (Either x y) m stays due under may = (
    stays_next callers origin x m stays.0 due.0 under may,
    stays_next callers origin y m stays.1 due.1 under may,
  )

  pub stayed : (s : Frames) (m : MemoryState) → IsSoundMachine p s m → (d : Program (Next Frames)) → StaysIn IsStill Lives s d m → AllDue (IsFit p) d m
      → DueThen (IsFit p) (IsSoundNext p) d m
  stayed s m machine d stays due = stays_next s.callers s.current.origin d m stays due (under_of p s m machine) machine.code
