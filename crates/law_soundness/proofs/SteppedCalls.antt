-- Calls leave a sound machine: of methods in bytecode, of methods of the platform, and of a server that is asked.
use Rattle.std.proofs.Common.{◌≡◌, ℕ, Bool, true, false, List, [], ◌∷◌, length, map, drop, Some, Result, Ok, Err, refl, sym, ◌∙◌, ap, subst, if◌then◌else◌, inl}
use Rattle.std.proofs.Common.{reverse, take}
use Rattle.std.proofs.lemmas.List.Elements.{All-drop, All-take}
use Rattle.std.specs.Prelude.{◌==◌, ◌&&◌, nat_le}
use Rattle.jc_heap.specs.WholeHeap.{IsReference}
use Rattle.jc_transient.specs.declared.owner.Owner.{Owner}
use Rattle.jc_transient.specs.Owners.{owner_number}
use Rattle.jc_memory.specs.State.{MemoryState, SetRegisters, apply_effect}
use Rattle.jc_platform.specs.declared.names.PlatformMethod.{PlatformMethod}
use Rattle.jc_linker.specs.declared.target.Method.TheVariants.{Code, Native}
use Rattle.jc_linker.specs.Values.{Packages}
use Rattle.jc_frames.specs.declared.instr.InvokeOp.{InvokeOp}
use Rattle.jc_frames.specs.declared.cell.Cell.{Cell}
use Rattle.jc_frames.specs.declared.cell.Cell.TheVariants.{Short, Reference}
use Rattle.jc_frames.specs.declared.method.Entry.{Entry}
use Rattle.jc_frames.specs.declared.outcome.FrameExit.{FrameExit}
use Rattle.jc_frames.specs.declared.outcome.FrameExit.TheVariants as stop
use Rattle.jc_frames.specs.Calls.{arguments_on, frames_in_callee as after_call, caller_without_dead, counted_cells, call_or_fault}
use Rattle.jc_frames.specs.Frames.{Caller, Frames, Next, GoesOn, Throws, Ends, with_stack}
use Rattle.jc_world.specs.declared.native_result.NativeResult.{NativeResult}
use Rattle.jc_world.specs.declared.native_result.NativeResult.TheVariants.{ReturnVoid, ReturnValue, CallServer, Aborted}
use Rattle.jc_interp.specs.Natives.{native_call}
use Rattle.jc_instructions.specs.declared.invoke.MethodCall.{MethodCall}
use Rattle.jc_instructions.specs.Enter.{registers_in_callee}
use Rattle.jc_instructions.specs.Invoke.{method_selection}
use Rattle.jc_instructions.specs.ServerCall.{with_local}
use Rattle.jc_api.proofs.Due.{DueThen}
use Rattle.law_code.proofs.StackCells.{frame_kept, with_cells}
use Rattle.law_code.proofs.Walk.{EntersPass, IsAnswered, walked_of}
use Rattle.law_soundness.specs.MachineLaws.Calls.{IsCallResult, IsReadyAgain, IsSteadyAgain}
use Rattle.law_soundness.specs.MemoryLaws.Environment.{HasEnvironment}
use Rattle.law_soundness.specs.MemoryLaws.Fit.{FitsTurn, IsFit}
use Rattle.law_soundness.specs.LivingReferences.{IsLivingCell}
use Rattle.law_soundness.specs.Machines.{IsSoundMachine, KnowOwners}
use Rattle.law_soundness.specs.MachineLaws.Soundness.{AreKnown, IsSoundNext}
use Rattle.law_soundness.specs.MemoryLaws.State.{IsSoundMemory, is_owner_up_to, most_owner}
use Rattle.law_soundness.specs.MachineLaws.Steps.{IsSoundInvoke}
use Rattle.law_soundness.proofs.Calls.{IsKnown, calls_are_fit, is_receiver, selected_fit}
use Rattle.law_soundness.proofs.LivingReferences.{arguments_living, callers_kept, callers_nulled, first_living, frame_nulled, none_living, reverse_living}
use Rattle.law_soundness.proofs.Machines.{Given, IsOthers, framed, machine_of, stacked, under_after, under_of}
use Rattle.law_soundness.proofs.Owners.{turn_known}
use Rattle.law_soundness.proofs.Plain.{keeps_pushed, keeps_stored}
use Rattle.law_soundness.proofs.Switches.{chosen_others}

-- an abort makes null of dead references alone
buried_known : (top : ℕ) (callers : List Caller) (m : MemoryState) → KnowOwners callers m → KnowOwners (map (caller_without_dead top) callers) m
buried_known top [] m known = tt
buried_known top (c ∷ callers) m known = (known.0, known.1, buried_known top callers m known.2)

-- ---- frames that begin

module _ (p : Packages) (m : MemoryState) where
  next_if : (b : Bool) (x y : Next Frames) → IsSoundNext p x m → IsSoundNext p y m → IsSoundNext p (if b then x else y) m
  next_if true x y first second = first
  next_if false x y first second = second

  -- the caller waits, for whom it runs; the arguments are the first locals, and leave its stack
  called : (e : Entry) (s : Frames) → IsSoundMachine p s m → IsOthers m → e.resume.active ≡ m.registers.active → IsSoundMachine p (after_call e s) m
  called e s machine others same = record {
    sound = machine.sound;
    steady = machine.steady;
    callers = (
      subst (λ o. is_owner_up_to (most_owner m) m.heap.now (owner_number o) ≡ true) (sym same) machine.sound.active,
      (λ zero. others (ap owner_number (sym same) ∙ zero)),
      machine.callers,
    );
    environment = machine.environment;
    code = λ home. others;
    living = record {
      current = first_living m.heap.now (reverse (take e.arguments s.current.stack)) e.locals e.limit e.place e.origin
          (reverse_living m.heap.now (take e.arguments s.current.stack)
          (All-take (IsLivingCell m.heap.now) e.arguments s.current.stack machine.living.current.stack));
      callers = (
        with_cells (IsReference m.heap.now) s.current (drop e.arguments s.current.stack) machine.living.current
            (All-drop (IsLivingCell m.heap.now) e.arguments s.current.stack machine.living.current.stack),
        machine.living.callers,
      );
    };
  }

  called_or_ends : (e : Entry) (s : Frames) → IsSoundMachine p s m → IsOthers m → e.resume.active ≡ m.registers.active
      → IsSoundNext p (call_or_fault e s) m
  called_or_ends e s machine others same = next_if (nat_le e.arguments (length s.current.stack)) _ _
      (next_if (nat_le (length (after_call e s).callers) 31 && nat_le (counted_cells (after_call e s)) 512) _ _ (called e s machine others same) tt) tt

  stored : (n : ℕ) (cell : Cell) (next : Next Frames) → IsSoundNext p next m → IsLivingCell m.heap.now cell → IsSoundNext p (with_local n cell next) m
  stored n cell (GoesOn s) machine lives = framed p s m machine _ (keeps_stored m.heap.now s.current machine.living.current n cell lives)
  stored n cell (Throws e s) machine lives = machine
  stored n cell (Ends o) lives one = lives

-- an owner is known, and none the runtime environment
abbrev pub IsOther : Owner → MemoryState → Type 0
IsOther owner m = IsKnown owner m × (owner_number owner ≡ 0 → ⊥)

module _ (g : Given) (p : Packages) (known : AreKnown p) where
  enters_sound : (s : Frames) (m : MemoryState) → IsSoundMachine p s m → IsOthers m → EntersPass (IsFit p) IsLivingCell (IsSoundNext p) IsOther s m
  enters_sound s m machine others = record {
    faults = tt;
    null = framed p s m machine _ (keeps_pushed m.heap.now s.current machine.living.current (Reference 0) (inl refl));
    enters = λ e same. called_or_ends p m e s machine others same;
    switches = λ owner t other next.
        let fits : FitsTurn m (registers_in_callee (Some owner) m.registers) =
        turn_known p m known.methods machine.sound (registers_in_callee (Some owner) m.registers) refl refl other.0 in (
          fits,
          machine_of p t (apply_effect (SetRegisters (registers_in_callee (Some owner) m.registers)) m)
              (under_after g p (SetRegisters (registers_in_callee (Some owner) m.registers)) t.callers m fits refl (under_of p t m next))
              (λ home. other.1) next.living.current,
        );
    arguments = λ asked next so server client. stored p m 2 (Short asked.parameter) _
        (stored p m 1 (Reference asked.client) _ (stored p m 0 (Reference asked.server) next so server) client) tt;
  }

  -- ---- methods of the platform

  -- a method that these frames called answers
  module _ (s : Frames) (m : MemoryState) (machine : IsSoundMachine p s m) (others : IsOthers m) (v : MemoryState)
      (now : IsSoundMemory p v × HasEnvironment p v) where
    others_again : IsSteadyAgain m v → IsOthers v
    others_again again zero = others (ap owner_number (sym again.active) ∙ zero)

    machine_again : IsReadyAgain m v → IsSoundMachine p s v
    machine_again again = record {
      sound = now.0;
      steady = again.again.steady;
      callers = again.again.owners s.callers machine.callers;
      environment = now.1;
      code = λ home. others_again again.again;
      living = record {
        current = frame_kept (IsReference m.heap.now) (IsReference v.heap.now) again.references s.current machine.living.current;
        callers = callers_kept m.heap.now v.heap.now again.references s.callers machine.living.callers;
      };
    }

    answered : (result : Result NativeResult FrameExit) → IsCallResult m result v → IsAnswered (IsFit p) IsLivingCell (IsSoundNext p) IsOther s result v
    answered (Ok ReturnVoid) again = machine_again again
    answered (Ok (ReturnValue cell)) well = let back = machine_again well.0 in
        framed p s v back _ (keeps_pushed v.heap.now s.current back.living.current cell well.1)
    answered (Ok (CallServer asked)) well =
        (enters_sound s v (machine_again well.0) (others_again (well.0).again), (well.1, well.2), well.3, well.4)
    answered (Ok Aborted) well = record {
      sound = now.0;
      steady = (well.0).steady;
      callers = buried_known v.heap.now.top s.callers v ((well.0).owners s.callers machine.callers);
      environment = now.1;
      code = λ home. others_again well.0;
      living = record {
        current = frame_nulled m.heap.now v.heap.now well.1 s.current machine.living.current;
        callers = callers_nulled m.heap.now v.heap.now well.1 s.callers machine.living.callers;
      };
    }
    answered (Err (stop.Throw e)) again = stacked p s v [] (none_living v.heap.now) (machine_again again)
    answered (Err (stop.End o)) lives = lives

  -- ---- the method that an instruction selects

  module _ (i : InvokeOp) (c : MethodCall) (s : Frames) (m : MemoryState) (machine : IsSoundMachine p s m)
      (home : s.current.origin.package_number == 0 ≡ false) (chose : method_selection i p s m ≡ Ok c) where
    invoke : IsSoundInvoke i c p s m
    invoke = record { classes = known.classes; aids = known.aids; methods = known.methods; machine = machine; home = home; selected = chose }

    pub code_selected : (number offset : ℕ) → c.method ≡ Code number offset
        → EntersPass (IsFit p) IsLivingCell (IsSoundNext p) IsOther s m × ((o : Owner) → c.switches_to ≡ Some o → IsOther o m)
    code_selected number offset is = (
      enters_sound s m machine (machine.code home),
      λ o to. (
        (selected_fit i c p s m invoke).switches o to,
        chosen_others p m s known.platform machine.environment i c number offset is chose o to,
      ),
    )

    pub native_selected : (method : PlatformMethod) (args : List Cell) → c.method ≡ Native method → arguments_on c.arguments s.current.stack ≡ Some args
        → DueThen (IsFit p) (IsAnswered (IsFit p) IsLivingCell (IsSoundNext p) IsOther (with_stack s (drop c.arguments s.current.stack)))
        (native_call method args p m) m
    native_selected method args is are =
        let rest = with_stack s (drop c.arguments s.current.stack) in
        let left = stacked p s m (drop c.arguments s.current.stack)
        (All-drop (IsLivingCell m.heap.now) c.arguments s.current.stack machine.living.current.stack) machine in
        walked_of (IsFit p) (λ v. IsSoundMemory p v × HasEnvironment p v) (IsCallResult m)
        (IsAnswered (IsFit p) IsLivingCell (IsSoundNext p) IsOther rest)
        (λ e v fit now. (g.sound p e v fit now.0, g.environment p e v fit now.0 now.1))
        (λ result v now is. answered rest m left (machine.code home) v now result is)
        (native_call method args p m) m (calls_are_fit.natively i c method args p s m invoke is are)
        (g.natives method args p m (record {
          classes = known.classes;
          aids = known.aids;
          sound = machine.sound;
          steady = machine.steady;
          environment = machine.environment;
          receiver = is_receiver p m known.methods machine.sound s.current.stack args c method (selected_fit i c p s m invoke) is are;
          living = arguments_living m.heap.now c.arguments s.current.stack args machine.living.current.stack are;
        })) (machine.sound, machine.environment)
