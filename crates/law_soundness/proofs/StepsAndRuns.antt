-- Steps and runs.
use Rattle.std.proofs.Common.{◌≡◌, ℕ, zero, suc, true, false, List, Option, refl}
use Rattle.std.specs.Prelude.{not, ◌==◌, ◌||◌}
use Rattle.jc_memory.specs.Programs.{Program}
use Rattle.jc_memory.specs.Reading.{AllDue}
use Rattle.jc_memory.specs.State.{MemoryState}
use Rattle.jc_linker.specs.Values.{Packages}
use Rattle.jc_frames.specs.declared.instr.Instr.{Instr}
use Rattle.jc_frames.specs.declared.instr.Instr.TheVariants.{Nop, Constant, Local, Stack, Arithmetic, Branch, Return, Field, Array, Object, Invoke}
use Rattle.jc_frames.specs.declared.instr.ObjectOp.TheVariants.{New, Athrow, CheckCast, InstanceOf}
use Rattle.jc_frames.specs.declared.outcome.Outcome.{Outcome}
use Rattle.jc_frames.specs.Frames.{Frames, Next, GoesOn, Throws, Ends}
use Rattle.jc_instructions.specs.ArrayOps.{array_instruction}
use Rattle.jc_instructions.specs.FieldOps.{field_instruction}
use Rattle.jc_interp.specs.declared.attacks.Attack.{Attack}
use Rattle.jc_interp.specs.Attacks.{attacked, attacked_step, step_from}
use Rattle.jc_interp.specs.Run.{or_end, run_of}
use Rattle.jc_interp.specs.Step.{at_place, instruction_at, is_plain, machine_step}
use Rattle.jc_api.proofs.Due.{DueThen, due_of, results_of}
use Rattle.law_code.proofs.Instructions.{arrays_going, checked_going, examined_going, fields_going, made_going}
use Rattle.law_code.proofs.EffectConditions.{ReadsSo}
use Rattle.law_code.proofs.Walk.{IsAlone, walked_bind, walked_step}
use Rattle.law_soundness.specs.MemoryLaws.Fit.{IsFit}
use Rattle.law_soundness.specs.LivingReferences.{IsLivingCell}
use Rattle.law_soundness.specs.Machines.{IsSoundMachine}
use Rattle.law_soundness.specs.MachineLaws.Steps.{calls}
use Rattle.law_soundness.specs.MachineLaws.Soundness.{AreKnown, IsSoundNext, RunsAreSound, StepsAreSound}
use Rattle.law_soundness.proofs.Faults.{placed, sound_before}
use Rattle.law_soundness.proofs.Loads.{living_reads}
use Rattle.law_soundness.proofs.Machines.{Given, framed, stayed}
use Rattle.law_soundness.proofs.SteppedCalls.{IsOther, code_selected, native_selected}
use Rattle.law_soundness.proofs.SteppedLeaves.{leaves_sound}
use Rattle.law_soundness.proofs.Still.{IsStill, Lives, still_arrays, still_fields, still_instances}
use Rattle.law_soundness.proofs.Plain.{keeps_accessed, keeps_arranged, keeps_branched, keeps_computed, keeps_put}

-- what neither returns nor throws nor calls calls no method
calls_none : (i : Instr) → IsAlone i → calls i ≡ false
calls_none (Invoke method) alone = absurd alone
calls_none _ alone = refl

module _ (g : Given) (p : Packages) (known : AreKnown p) where
  -- ---- instructions

  module _ (s : Frames) (m : MemoryState) (machine : IsSoundMachine p s m) where
    reads : ReadsSo IsStill Lives p m
    reads = living_reads p m machine.sound known.classes machine.environment g.stays

    alone_next : (i : Instr) (code : List ℕ) (place : ℕ) → IsAlone i → AllDue (IsFit p) (instruction_at i code place p s m) m
        → DueThen (IsFit p) (IsSoundNext p) (instruction_at i code place p s m) m
    unfolding instruction_at
    alone_next Nop code place alone due = machine
    alone_next (Constant constant) code place alone due = framed p s m machine _ (keeps_put m.heap.now s.current machine.living.current constant)
    alone_next (Local local) code place alone due = framed p s m machine _ (keeps_accessed m.heap.now local s.current machine.living.current)
    alone_next (Stack stack) code place alone due = framed p s m machine _ (keeps_arranged m.heap.now s.current machine.living.current stack)
    alone_next (Arithmetic arithmetic) code place alone due = framed p s m machine _ (keeps_computed m.heap.now s.current machine.living.current arithmetic)
    alone_next (Branch branch) code place alone due = framed p s m machine _ (keeps_branched m.heap.now code place branch s.current machine.living.current)
    alone_next (Return how) code place alone due = absurd alone
    alone_next (Field field) code place alone due = stayed g p s m machine (field_instruction field p s m)
        (fields_going IsStill Lives p m reads (still_fields m p) field s machine.living.current) due
    alone_next (Array operation) code place alone due = stayed g p s m machine (array_instruction operation p s m)
        (arrays_going IsStill Lives p m reads (still_arrays m p) operation s machine.living.current) due
    alone_next (Object (New index)) code place alone due = stayed g p s m machine _
        (made_going IsStill Lives p m reads (still_instances m p) index s machine.living.current) due
    alone_next (Object Athrow) code place alone due = absurd alone
    alone_next (Object (CheckCast type)) code place alone due =
        stayed g p s m machine _ (checked_going IsStill Lives p m reads type s machine.living.current) due
    alone_next (Object (InstanceOf type)) code place alone due =
        stayed g p s m machine _ (examined_going IsStill Lives p m reads type s machine.living.current) due
    alone_next (Invoke method) code place alone due = absurd alone

    alone_sound : (i : Instr) (code : List ℕ) (place : ℕ) → IsAlone i → (is_plain i || not (s.current.origin.package_number == 0)) ≡ true
        → DueThen (IsFit p) (IsSoundNext p) (instruction_at i code place p s m) m
    alone_sound i code place alone may =
        alone_next i code place alone (g.instructions i code place p s m known.classes known.methods machine (calls_none i alone) may)

  -- ---- steps

  step_sound : (lent : List ℕ) (s : Frames) (m : MemoryState) → IsSoundMachine p s m → DueThen (IsFit p) (IsSoundNext p) (machine_step lent p s m) m
  step_sound lent s m machine = walked_step (IsFit p) (IsSoundMachine p) IsLivingCell (IsSoundNext p) IsOther lent p s m (record {
    leaves = leaves_sound g p known.methods;
    known = λ place. placed p s m place machine;
    caught = λ e t v next. next;
    alone = λ i code place next. alone_sound (at_place s next) m (placed p s m next machine) i code place;
    enters = λ c number offset is home. code_selected g p known is.0 c (at_place s is.1) m (placed p s m is.1 machine) home is.3 number offset;
    calls = λ c method args is home. native_selected g p known is.0 c (at_place s is.1) m (placed p s m is.1 machine) home is.3 method args;
  })

  -- ---- steps after a fault

  struck_sound : (next : Next Frames) (lent : List ℕ) (m : MemoryState) → IsSoundNext p next m → DueThen (IsFit p) (IsSoundNext p) (step_from next lent p m) m
  struck_sound (GoesOn s) lent m machine = step_sound lent s m machine
  struck_sound (Throws e s) lent m machine = tt
  struck_sound (Ends o) lent m living = living

  pub attacked_sound : (attack : Option Attack) (left : ℕ) (lent : List ℕ) (s : Frames) (m : MemoryState) → IsSoundMachine p s m
      → DueThen (IsFit p) (IsSoundNext p) (attacked_step attack left lent p s m) m
  attacked_sound attack left lent s m machine =
      struck_sound (attacked attack left lent p s) lent m (sound_before p s m machine attack left lent)

  -- ---- runs

  goes_sound : (left : ℕ) (more : Frames → Program (ℕ × Outcome)) (next : Next Frames) (m : MemoryState)
      → ((s : Frames) → IsSoundMachine p s m → DueThen (IsFit p) (λ end v. Unit {0}) (more s) m) → IsSoundNext p next m
      → DueThen (IsFit p) (λ end v. Unit {0}) (or_end left next more) m
  goes_sound left more (GoesOn s) m each machine = each s machine
  goes_sound left more (Throws e s) m each machine = tt
  goes_sound left more (Ends o) m each machine = tt

  run_sound : (attack : Option Attack) (budget : ℕ) (lent : List ℕ) (s : Frames) (m : MemoryState) → IsSoundMachine p s m
      → DueThen (IsFit p) (λ end v. Unit {0}) (run_of attack budget lent p s m) m
  unfolding run_of
  run_sound attack zero lent s m machine = tt
  run_sound attack (suc n) lent s m machine = walked_bind (IsFit p) (IsSoundNext p) (λ end v. Unit {0})
      (λ next v. or_end n next (λ t. run_of attack n lent p t v)) (attacked_step attack (suc n) lent p s m) m
      (attacked_sound attack (suc n) lent s m machine)
      (λ next v is. goes_sound n (λ t. run_of attack n lent p t v) next v (λ t. run_sound attack n lent t v) is)

pub steps_sound : Given → StepsAreSound
steps_sound g = record {
  fit = λ attack left lent p s m known machine. due_of (IsFit p) (IsSoundNext p) (attacked_step attack left lent p s m) m
      (attacked_sound g p known attack left lent s m machine);
  next = λ attack left lent p s m known machine. results_of (IsFit p) (IsSoundNext p) (attacked_step attack left lent p s m) m
      (attacked_sound g p known attack left lent s m machine);
}

pub runs_sound : Given → RunsAreSound
runs_sound g attack budget lent p s m known machine =
    due_of (IsFit p) (λ end v. Unit {0}) (run_of attack budget lent p s m) m (run_sound g p known attack budget lent s m machine)
