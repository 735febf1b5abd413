-- Returns and exceptions leave a sound machine: a caller goes on, for whom it ran before.
use Rattle.std.proofs.Common.{◌≡◌, inl, inr, List, [], ◌∷◌, Option, Some, None, refl, subst}
use Rattle.std.proofs.lemmas.Option.{same_Some}
use Rattle.std.specs.Prelude.{slice_index}
use Rattle.jc_transient.specs.declared.cell.CellValue.TheVariants.{Short}
use Rattle.jc_heap.specs.Heap.{HeapState}
use Rattle.jc_heap.specs.WholeHeap.{IsReference}
use Rattle.jc_memory.specs.State.{MemoryState, SetTransient, SetRegisters, apply_effect}
use Rattle.jc_linker.specs.Values.{Packages}
use Rattle.jc_frames.specs.declared.instr.ReturnOp.{ReturnOp}
use Rattle.jc_frames.specs.declared.instr.ReturnOp.TheVariants.{Areturn, Sreturn, Return}
use Rattle.jc_frames.specs.declared.cell.Cell.{Cell}
use Rattle.jc_frames.specs.declared.cell.Cell.TheVariants.{Reference, ReturnAddress}
use Rattle.jc_frames.specs.declared.cell.Cell.TheVariants as variants
use Rattle.jc_frames.specs.Calls.{outcome_of}
use Rattle.jc_frames.specs.Cell.{reference_on, short_on}
use Rattle.jc_frames.specs.Frames.{Caller, Frame}
use Rattle.jc_frames.specs.ReturnOps.{returned_cell}
use Rattle.jc_instructions.specs.MethodReturn.{registers_of_caller}
use Rattle.jc_api.proofs.Reaching.{header_is}
use Rattle.law_code.proofs.StackCells.{mapped_some, reference_taken}
use Rattle.law_code.proofs.Walk.{IsHanded, LeavesPass}
use Rattle.law_soundness.specs.MemoryLaws.Fit.{FitsTurn, IsFit}
use Rattle.law_soundness.specs.LivingReferences.{AreLivingCells, IsLivingCell, IsLivingOutcome}
use Rattle.law_soundness.specs.Machines.{IsSoundMachine}
use Rattle.law_code.specs.Methods.{KnowsMethods}
use Rattle.law_soundness.specs.MachineLaws.Soundness.{IsSoundNext}
use Rattle.law_soundness.proofs.Leaves.{back_fits, reason_fits}
use Rattle.law_soundness.proofs.LivingReferences.{none_living}
use Rattle.law_soundness.proofs.Machines.{Given, IsSoundUnder, framed, machine_of, stacked, under_after, under_of}
use Rattle.law_soundness.proofs.Plain.{keeps_pushed}

-- ---- what is handed over

outcome_living : (h : HeapState) (value : Option Cell) → IsHanded (IsLivingCell h) value → IsLivingOutcome h (outcome_of value)
outcome_living h None lives = tt
outcome_living h (Some (variants.Short v)) lives = tt
outcome_living h (Some (Reference r)) lives = lives
outcome_living h (Some (ReturnAddress a)) lives = tt

returned_living : (h : HeapState) (how : ReturnOp) (cells : List Cell) (value : Option Cell) → AreLivingCells h cells → returned_cell how cells ≡ Some value
    → IsHanded (IsLivingCell h) value
returned_living h Return cells value all is = subst (IsHanded (IsLivingCell h)) (same_Some None value is) tt
returned_living h Sreturn cells value all is = mapped_some _ (short_on cells) value (IsHanded (IsLivingCell h)) is (λ q on. tt)
returned_living h Areturn cells value all is = mapped_some _ (reference_on cells) value (IsHanded (IsLivingCell h)) is
    (λ q on. (reference_taken (IsReference h) cells q all on).0)

-- ---- returns and exceptions

module _ (g : Given) (p : Packages) (methods : KnowsMethods p) where
  -- a caller goes on, and the registers are its own
  back_sound : (f : Frame) (c : Caller) (callers : List Caller) (m : MemoryState) → IsSoundMachine p (record { current = f; callers = c ∷ callers }) m
      → IsFit p (SetRegisters (registers_of_caller c.resume m.registers)) m × IsSoundMachine p (record { current = c.frame; callers = callers })
      (apply_effect (SetRegisters (registers_of_caller c.resume m.registers)) m)
  back_sound f c callers m machine =
      let fits : FitsTurn m (registers_of_caller c.resume m.registers) = back_fits p methods c.resume m machine.sound machine.callers.0 in
      let under : IsSoundUnder p callers m = record {
        sound = machine.sound;
        steady = machine.steady;
        known = machine.callers.2;
        environment = machine.environment;
        living = machine.living.callers.1;
      } in (
        fits,
        machine_of p (record { current = c.frame; callers = callers }) (apply_effect (SetRegisters (registers_of_caller c.resume m.registers)) m)
            (under_after g p (SetRegisters (registers_of_caller c.resume m.registers)) callers m fits refl under)
            (λ home zero. machine.callers.1 zero) machine.living.callers.0,
      )

  pub leaves_sound : LeavesPass (IsFit p) (IsSoundMachine p) IsLivingCell (IsSoundNext p)
  leaves_sound = record {
    goes = λ s m machine. machine;
    throws = λ e s m machine. stacked p s m [] (none_living m.heap.now) machine;
    faults = λ s m machine. tt;
    pushes = λ cell s m machine lives. framed p s m machine _ (keeps_pushed m.heap.now s.current machine.living.current cell lives);
    null = λ h. inl refl;
    returned = λ how s m value machine is. returned_living m.heap.now how s.current.stack value machine.living.current.stack is;
    ends = λ value s m machine lives. outcome_living m.heap.now value lives;
    back = back_sound;
    handles = λ r target s m machine refers. framed p s m machine _ (keeps_pushed m.heap.now (record s.current { stack = []; place = target })
        (record { locals = machine.living.current.locals; stack = none_living m.heap.now }) (Reference r) refers);
    uncaught = λ r s m machine refers. refers;
    found = λ r f m there. inr (header_is m r f there).0;
    popped = λ top s m machine taken.
        stacked p s m top.1 (reference_taken (IsReference m.heap.now) s.current.stack top machine.living.current.stack taken).1 machine;
    reasons = λ k v f s m machine there on.
        let set = SetTransient (slice_index m.fixed k) 0 (Short v ∷ []) in
        let fits = reason_fits m (slice_index m.fixed k) f v there on in
        (fits, machine_of p s (apply_effect set m) (under_after g p set s.callers m fits tt (under_of p s m machine)) machine.code machine.living.current);
  }
