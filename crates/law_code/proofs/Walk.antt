-- What returns, exceptions, calls and steps do, for whatever is to hold of each effect, and of what follows.
use Rattle.std.proofs.Common.{◌≡◌, ℕ, ◌<◌, Bool, true, false, List, [], ◌∷◌, Option, Some, None, Result, Ok, Err, refl, ◌∙◌, ap, subst, if◌then◌else◌}
use Rattle.std.proofs.lemmas.Bool.{and_parts, ltb-true, not-true}
use Rattle.std.proofs.lemmas.Option.{same_Some}
use Rattle.std.specs.Prelude.{ℤ, not, drop, is_some, nat_lt, ◌&&◌, ◌||◌, ◌==◌, slice_index}
use Rattle.jc_transient.specs.declared.cell.CellValue.TheVariants.{Short}
use Rattle.jc_heap.specs.declared.object.Facts.{Facts}
use Rattle.jc_heap.specs.Heap.{HeapState}
use Rattle.jc_transient.specs.declared.owner.Owner.{Owner}
use Rattle.jc_transient.specs.declared.owner.Owner.TheVariants.{Applet}
use Rattle.jc_memory.specs.State.{MemoryState, Effect, HeapMove, SetTransient, SetFlag, ClearTransient, SetRegisters, BeginCommand, SendBytes}
use Rattle.jc_memory.specs.State.{apply_effect}
use Rattle.jc_memory.specs.Cells.{header_at}
use Rattle.jc_memory.specs.Programs.{Program, Finish, Perform, Choose, Either, bind}
use Rattle.jc_memory.specs.Reading.{AllDue, AllResults}
use Rattle.jc_memory.proofs.ProgramLemmas.{each_always}
use Rattle.jc_platform.specs.declared.names.PlatformClass.TheVariants.{Throwable}
use Rattle.jc_platform.specs.declared.names.PlatformMethod.{PlatformMethod}
use Rattle.jc_platform.specs.NamePlaces.{class_word}
use Rattle.jc_platform.specs.Signatures.{argument_cells}
use Rattle.jc_linker.specs.declared.target.Method.{Method}
use Rattle.jc_linker.specs.declared.target.Method.TheVariants.{Code, Native}
use Rattle.jc_linker.specs.Values.{Packages}
use Rattle.jc_frames.specs.declared.instr.Instr.{Instr}
use Rattle.jc_frames.specs.declared.instr.Instr.TheVariants.{Return, Field, Array, Object, Invoke as Calls}
use Rattle.jc_frames.specs.declared.instr.InvokeOp.{InvokeOp}
use Rattle.jc_frames.specs.declared.instr.ObjectOp.TheVariants.{New, Athrow, CheckCast, InstanceOf}
use Rattle.jc_frames.specs.declared.instr.ReturnOp.{ReturnOp}
use Rattle.jc_frames.specs.Header.{header_in}
use Rattle.jc_frames.specs.Table.{decode}
use Rattle.jc_firewall.specs.declared.access.Access.TheVariants as access
use Rattle.jc_frames.specs.declared.cell.Cell.{Cell}
use Rattle.jc_frames.specs.declared.cell.Cell.TheVariants.{Reference, ReturnAddress}
use Rattle.jc_frames.specs.declared.cell.Cell.TheVariants as cells
use Rattle.jc_frames.specs.declared.method.CallKind.{CallKind}
use Rattle.jc_frames.specs.declared.method.CallKind.TheVariants.{Instruction, ShareableRequest}
use Rattle.jc_frames.specs.declared.method.Entry.{Entry}
use Rattle.jc_frames.specs.declared.exceptions.Exception.{Exception}
use Rattle.jc_frames.specs.declared.outcome.FrameExit.{FrameExit}
use Rattle.jc_frames.specs.declared.outcome.FrameExit.TheVariants as stop
use Rattle.jc_frames.specs.declared.outcome.Outcome.TheVariants.{Fault, Thrown}
use Rattle.jc_frames.specs.Calls.{arguments_on, call_or_fault, frames_after_return, frames_with_result, frames_without_dead, outcome_of}
use Rattle.jc_frames.specs.Cell.{reference_on}
use Rattle.jc_environment.specs.Objects.{own_place}
use Rattle.jc_frames.specs.Exceptions.{class_of_exception, reason_of}
use Rattle.jc_frames.specs.Frames.{Caller, Frame, Frames, Next, GoesOn, Throws, Ends, in_frame, push, with_stack}
use Rattle.jc_frames.specs.ReturnOps.{returned_cell}
use Rattle.jc_world.specs.declared.native_result.NativeResult.{NativeResult}
use Rattle.jc_world.specs.declared.native_result.NativeResult.TheVariants.{ReturnVoid, ReturnValue, CallServer, Aborted}
use Rattle.jc_world.specs.declared.native_result.ServerCall.{ServerCall}
use Rattle.jc_world.specs.Contexts.{firewall_check}
use Rattle.jc_world.specs.Instructions.{exit_of, if_ok, if_some}
use Rattle.jc_world.specs.Objects.{check_or_fault, is_instance, is_instance_of, object_at}
use Rattle.jc_instructions.specs.declared.catch.HandlerResult.{HandlerResult}
use Rattle.jc_instructions.specs.declared.catch.HandlerResult.TheVariants.{Caught, NotCaught, CodeFault}
use Rattle.jc_instructions.specs.declared.invoke.MethodCall.{MethodCall}
use Rattle.jc_instructions.specs.declared.enter.Callee.{Callee}
use Rattle.jc_instructions.specs.declared.enter.CallSite.{CallSite}
use Rattle.jc_instructions.specs.ServerCall.{server_call_by, server_callee, server_call, server_entry, sharing_method, takes_server_arguments}
use Rattle.jc_instructions.specs.ServerCall.{with_server_arguments}
use Rattle.jc_instructions.specs.Catch.{catch_in_method}
use Rattle.jc_instructions.specs.Invoke.{method_selection}
use Rattle.jc_instructions.specs.Enter.{method_entry, context_switch, entry_of, registers_in_callee, takes}
use Rattle.jc_instructions.specs.MethodReturn.{registers_of_caller, return_to_caller, method_return}
use Rattle.jc_instructions.specs.MethodComponent.{method_component_of}
use Rattle.jc_instructions.specs.Throw.{has_reason_cell, handler_entry, or_thrown_above, caller_unwind, callers_unwind}
use Rattle.jc_instructions.specs.Throw.{exception_throw, athrow, object_unwind, unwind, with_reason}
use Rattle.jc_interp.specs.Natives.{native_call}
use Rattle.jc_interp.specs.Calling.{after_native, invoke_instruction, invoke_selected, native_invoke}
use Rattle.jc_interp.specs.Step.{at_place, throw_from, code_of, instruction_at, fetch, instruction_step, is_plain, machine_step}
use Rattle.law_code.specs.IsolationLaws.Steps.{IsCalled}
use Rattle.jc_api.proofs.Due.{DueThen, due_of}
use Rattle.jc_api.proofs.Exits.{FaultsOnly, IsPlainExit, plain_check, plain_end, plain_firewall, plain_object}
use Rattle.jc_api.proofs.Reaching.{header_is}
use Rattle.jc_instructions.proofs.MethodSelection.{plain_selection}
use Rattle.law_code.proofs.Instructions.{arrays_due, checked_due, examined_due, fields_due, made_due}
use Rattle.law_code.proofs.EffectConditions.{StepPasses}

-- whatever the cell
abbrev pub AnyCell : HeapState → Cell → Type 0
AnyCell h cell = Unit {0}

-- so it is of what a return hands over, if it does
abbrev pub IsHanded : (Cell → Type 0) → Option Cell → Type 0
IsHanded C None = Unit {0}
IsHanded C (Some cell) = C cell

pub any_handed : (h : HeapState) (value : Option Cell) → IsHanded (AnyCell h) value
any_handed h None = tt
any_handed h (Some cell) = tt

-- ---- what is to be shown, where M is known of a machine, C of a cell in a heap, and N is to hold of what follows

-- of returns and exceptions: code goes on, throws, ends with a fault, and gets a cell onto its stack; a value is returned, and ends the run;
-- a caller goes on, and the registers are its own; a handler goes on, or the run ends with the exception; an object is found; the one that
-- is thrown leaves the stack; and one of the environment's exceptions gets its reason
pub record LeavesPass (P : Effect → MemoryState → Type 0) (M : Frames → MemoryState → Type 0) (C : HeapState → Cell → Type 0)
    (N : Next Frames → MemoryState → Type 0) : Type 0 where
  pub goes : (s : Frames) (m : MemoryState) → M s m → N (GoesOn s) m
  pub throws : (e : Exception) (s : Frames) (m : MemoryState) → M s m → N (Throws e (with_stack s [])) m
  pub faults : (s : Frames) (m : MemoryState) → M s m → N (Ends Fault) m
  pub pushes : (cell : Cell) (s : Frames) (m : MemoryState) → M s m → C m.heap.now cell → N (in_frame s (push cell s.current)) m
  pub null : (h : HeapState) → C h (Reference 0)
  pub returned : (how : ReturnOp) (s : Frames) (m : MemoryState) (value : Option Cell) → M s m → returned_cell how s.current.stack ≡ Some value
      → IsHanded (C m.heap.now) value
  pub ends : (value : Option Cell) (s : Frames) (m : MemoryState) → M s m → IsHanded (C m.heap.now) value → N (Ends (outcome_of value)) m
  pub back : (f : Frame) (c : Caller) (callers : List Caller) (m : MemoryState) → M (record { current = f; callers = c ∷ callers }) m
      → P (SetRegisters (registers_of_caller c.resume m.registers)) m
      × M (record { current = c.frame; callers = callers }) (apply_effect (SetRegisters (registers_of_caller c.resume m.registers)) m)
  pub handles : (r target : ℕ) (s : Frames) (m : MemoryState) → M s m → C m.heap.now (Reference r) → N (handler_entry r target s.callers s.current) m
  pub uncaught : (r : ℕ) (s : Frames) (m : MemoryState) → M s m → C m.heap.now (Reference r) → N (Ends (Thrown r)) m
  pub found : (r : ℕ) (f : Facts) (m : MemoryState) → header_at m r ≡ Some f → C m.heap.now (Reference r)
  pub popped : (top : ℕ × List Cell) (s : Frames) (m : MemoryState) → M s m → reference_on s.current.stack ≡ Some top → M (with_stack s top.1) m
  pub reasons : (k : ℕ) (v : ℤ) (f : Facts) (s : Frames) (m : MemoryState) → M s m → header_at m (slice_index m.fixed k) ≡ Some f
      → has_reason_cell f ≡ true → P (SetTransient (slice_index m.fixed k) 0 (Short v ∷ [])) m
      × M s (apply_effect (SetTransient (slice_index m.fixed k) 0 (Short v ∷ [])) m)

-- of methods in bytecode, and of servers that are asked, from these frames: a fault ends the run; null is answered; a frame begins, for an
-- owner of whom S is so; and it gets a server's arguments
pub record EntersPass (P : Effect → MemoryState → Type 0) (C : HeapState → Cell → Type 0) (N : Next Frames → MemoryState → Type 0)
    (S : Owner → MemoryState → Type 0) (s : Frames) (m : MemoryState) : Type 0 where
  pub faults : N (Ends Fault) m
  pub null : N (in_frame s (push (Reference 0) s.current)) m
  pub enters : (e : Entry) → e.resume.active ≡ m.registers.active → N (call_or_fault e s) m
  pub switches : (owner : Owner) (t : Frames) → S owner m → N (GoesOn t) m → P (SetRegisters (registers_in_callee (Some owner) m.registers)) m
      × N (GoesOn t) (apply_effect (SetRegisters (registers_in_callee (Some owner) m.registers)) m)
  pub arguments : (asked : ServerCall) (next : Next Frames) → N next m → C m.heap.now (Reference asked.server) → C m.heap.now (Reference asked.client)
      → N (with_server_arguments asked next) m

-- so a method of the platform answers, which these frames called
module _ (P : Effect → MemoryState → Type 0) (C : HeapState → Cell → Type 0) (N : Next Frames → MemoryState → Type 0) (S : Owner → MemoryState → Type 0) where
  abbrev pub IsAnswered : Frames → Result NativeResult FrameExit → MemoryState → Type 0
  IsAnswered s (Ok ReturnVoid) v = N (GoesOn s) v
  IsAnswered s (Ok (ReturnValue cell)) v = N (in_frame s (push cell s.current)) v
  IsAnswered s (Ok (CallServer asked)) v = EntersPass P C N S s v × S (Applet asked.owner) v × C v.heap.now (Reference asked.server)
      × C v.heap.now (Reference asked.client)
  IsAnswered s (Ok Aborted) v = N (GoesOn (frames_without_dead v.heap.now.top s)) v
  IsAnswered s (Err (stop.Throw e)) v = N (Throws e (with_stack s [])) v
  IsAnswered s (Err (stop.End o)) v = N (Ends o) v

-- an instruction neither returns nor throws nor calls
abbrev pub IsAlone : Instr → Type 0
IsAlone (Return how) = ⊥
IsAlone (Object Athrow) = ⊥
IsAlone (Calls method) = ⊥
IsAlone i = Unit {0}

-- of a step
pub record WalkPasses (P : Effect → MemoryState → Type 0) (M : Frames → MemoryState → Type 0) (C : HeapState → Cell → Type 0)
    (N : Next Frames → MemoryState → Type 0) (S : Owner → MemoryState → Type 0) (lent : List ℕ) (p : Packages) (s : Frames) (m : MemoryState) : Type 0 where
  pub leaves : LeavesPass P M C N
  pub known : (place : ℕ) → M (at_place s place) m
  pub caught : (e : Exception) (t : Frames) (v : MemoryState) → N (Throws e t) v → M t v
  pub alone : (i : Instr) (code : List ℕ) (place next : ℕ) → IsAlone i → (is_plain i || not (s.current.origin.package_number == 0)) ≡ true
      → DueThen P N (instruction_at i code place p (at_place s next) m) m
  pub enters : (c : MethodCall) (number offset : ℕ) (is : IsCalled lent p s m c) → s.current.origin.package_number == 0 ≡ false
      → c.method ≡ Code number offset → EntersPass P C N S (at_place s is.1) m × ((o : Owner) → c.switches_to ≡ Some o → S o m)
  pub calls : (c : MethodCall) (method : PlatformMethod) (args : List Cell) (is : IsCalled lent p s m c) → s.current.origin.package_number == 0 ≡ false
      → c.method ≡ Native method → arguments_on c.arguments s.current.stack ≡ Some args
      → DueThen P (IsAnswered P C N S (with_stack (at_place s is.1) (drop c.arguments s.current.stack))) (native_call method args p m) m

-- ---- tests

pub walked_bind : {A B : Type 0} (P : Effect → MemoryState → Type 0) (R : A → MemoryState → Type 0) (N : B → MemoryState → Type 0)
    (more : A → MemoryState → Program B) (d : Program A) (m : MemoryState) → DueThen P R d m
    → ((a : A) (v : MemoryState) → R a v → DueThen P N (more a v) v) → DueThen P N (bind d m more) m
walked_bind P R N more (Finish a) m walked each = each a m walked
walked_bind P R N more (Perform e rest) m walked each = (walked.0, walked_bind P R N more rest (apply_effect e m) walked.1 each)
walked_bind P R N more (Choose choose) m walked each = λ r new. walked_bind P R N more (choose r) m (walked r new) each
walked_bind P R N more (Either x y) m walked each = (walked_bind P R N more x m walked.0 each, walked_bind P R N more y m walked.1 each)

-- effects that are due keep this of the memory; with what each result gives, what is to follow does
module _ {A : Type 0} (P : Effect → MemoryState → Type 0) (Q : MemoryState → Type 0) (R N : A → MemoryState → Type 0)
    (keeps : (e : Effect) (m : MemoryState) → P e m → Q m → Q (apply_effect e m)) (more : (a : A) (v : MemoryState) → Q v → R a v → N a v) where
  pub walked_of : (d : Program A) (m : MemoryState) → AllDue P d m → AllResults d m R → Q m → DueThen P N d m
  walked_of (Finish a) m due each so = more a m so each
  walked_of (Perform e rest) m due each so = (due.0, walked_of rest (apply_effect e m) due.1 each (keeps e m due.0 so))
  walked_of (Choose choose) m due each so = λ r new. walked_of (choose r) m (due r new) (each r new) so
  walked_of (Either x y) m due each so = (walked_of x m due.0 each.0 so, walked_of y m due.1 each.1 so)

module _ (P : Effect → MemoryState → Type 0) (N : Next Frames → MemoryState → Type 0) (m : MemoryState) (fault : N (Ends Fault) m) where
  walked_if : (b : Bool) (x : Program (Next Frames)) → (b ≡ true → DueThen P N x m) → DueThen P N (if b then x else Finish (Ends Fault)) m
  walked_if true x walked = walked refl
  walked_if false x walked = fault

  walked_some : {A : Type 0} (o : Option A) (go : A → Program (Next Frames)) → ((a : A) → o ≡ Some a → DueThen P N (go a) m) → DueThen P N (if_some o go) m
  walked_some None go walked = fault
  walked_some (Some a) go walked = walked a refl

  walked_caught : (c : HandlerResult) (go : ℕ → Program (Next Frames)) (above : Program (Next Frames)) → ((t : ℕ) → DueThen P N (go t) m)
      → DueThen P N above m → DueThen P N (or_thrown_above c go above) m
  walked_caught (Caught target) go above on off = on target
  walked_caught NotCaught go above on off = off
  walked_caught CodeFault go above on off = fault

  module _ (s : Frames) (throws : (e : Exception) → N (Throws e (with_stack s [])) m) where
    walked_stopped : (e : FrameExit) → IsPlainExit e → DueThen P N (exit_of s e) m
    walked_stopped (stop.Throw e) plain = throws e
    walked_stopped (stop.End o) plain = plain_end (λ end. N (Ends end) m) fault o plain

    walked_ok : {A : Type 0} (x : Result A FrameExit) (go : A → Program (Next Frames)) → FaultsOnly x → ((a : A) → x ≡ Ok a → DueThen P N (go a) m)
        → DueThen P N (if_ok s x go) m
    walked_ok (Ok a) go plain walked = walked a refl
    walked_ok (Err e) go plain walked = walked_stopped e plain

-- ---- returns and exceptions

module _ (P : Effect → MemoryState → Type 0) (M : Frames → MemoryState → Type 0) (C : HeapState → Cell → Type 0) (N : Next Frames → MemoryState → Type 0)
    (pass : LeavesPass P M C N) (p : Packages) where
  handed : (kind : CallKind) (value : Option Cell) (s : Frames) (m : MemoryState) → M s m → IsHanded (C m.heap.now) value
      → N (in_frame s (frames_with_result kind value s.current)) m
  handed Instruction None s m known so = pass.goes s m known
  handed Instruction (Some cell) s m known so = pass.pushes cell s m known so
  handed ShareableRequest None s m known so = pass.faults s m known
  handed ShareableRequest (Some (cells.Short v)) s m known so = pass.faults s m known
  handed ShareableRequest (Some (Reference r)) s m known so = pass.pushes (Reference r) s m known so
  handed ShareableRequest (Some (ReturnAddress a)) s m known so = pass.faults s m known

  come_back : (value : Option Cell) (f : Frame) (callers : List Caller) (m : MemoryState) → M (record { current = f; callers = callers }) m
      → IsHanded (C m.heap.now) value → DueThen P N (return_to_caller value (frames_after_return callers) m) m
  come_back value f [] m known so = pass.ends value _ m known so
  come_back value f (c ∷ callers) m known so = let back = pass.back f c callers m known in (
    back.0,
    handed c.resume.call value (record { current = c.frame; callers = callers })
        (apply_effect (SetRegisters (registers_of_caller c.resume m.registers)) m) back.1 so,
  )

  pub returning : (how : ReturnOp) (s : Frames) (m : MemoryState) → M s m → DueThen P N (method_return how s m) m
  unfolding method_return
  returning how s m known = walked_some P N m (pass.faults s m known) (returned_cell how s.current.stack) _
      (λ value there. come_back value s.current s.callers m known (pass.returned how s m value known there))

  passed : (kind : CallKind) (s : Frames) (m : MemoryState) (more : Program (Next Frames)) → M s m → DueThen P N more m
      → DueThen P N (caller_unwind kind s more) m
  passed Instruction s m more known walked = walked
  passed ShareableRequest s m more known walked = pass.pushes (Reference 0) s m known (pass.null m.heap.now)

  handled : (c : HandlerResult) (r : ℕ) (s : Frames) (m : MemoryState) (above : Program (Next Frames)) → M s m → C m.heap.now (Reference r)
      → DueThen P N above m → DueThen P N (or_thrown_above c (λ target. Finish (handler_entry r target s.callers s.current)) above) m
  handled c r s m above known so walked = walked_caught P N m (pass.faults s m known) c _ above (λ target. pass.handles r target s m known so) walked

  passing : (class r : ℕ) (f : Frame) (callers : List Caller) (m : MemoryState) → M (record { current = f; callers = callers }) m → C m.heap.now (Reference r)
      → DueThen P N (callers_unwind p class r callers m) m
  passing class r f [] m known so = pass.uncaught r _ m known so
  passing class r f (c ∷ callers) m known so =
      let s : Frames = record { current = c.frame; callers = callers } in
      let n = apply_effect (SetRegisters (registers_of_caller c.resume m.registers)) m in
      let back = pass.back f c callers m known in (
        back.0,
        passed c.resume.call s n _ back.1
            (handled (catch_in_method p class c.frame.origin c.resume.place) r s n _ back.1 so (passing class r c.frame callers n back.1 so)),
      )

  unwinding : (class r place : ℕ) (s : Frames) (m : MemoryState) → M s m → C m.heap.now (Reference r) → DueThen P N (unwind p class r place s m) m
  unfolding unwind
  unwinding class r place s m known so =
      handled (catch_in_method p class s.current.origin place) r s m _ known so (passing class r s.current s.callers m known so)

  unwinding_object : (r place : ℕ) (s : Frames) (m : MemoryState) → M s m → DueThen P N (object_unwind r place p s m) m
  unfolding object_unwind
  unwinding_object r place s m known = walked_some P N m (pass.faults s m known) (header_at m r) _
      (λ f there. unwinding f.class r place s m known (pass.found r f m there))

  pub throwing : (place : ℕ) (s : Frames) (m : MemoryState) → M s m → DueThen P N (athrow place p s m) m
  unfolding athrow
  throwing place s m known =
      let fault = pass.faults s m known in
      let throws : (e : Exception) → N (Throws e (with_stack s [])) m = λ e. pass.throws e s m known in
      walked_some P N m fault (reference_on s.current.stack) _ (λ top taken.
      walked_ok P N m fault s throws (object_at m top.0) _ (plain_object m top.0) (λ f there.
      walked_ok P N m fault s throws (check_or_fault (is_instance_of p f (class_word p.platform Throwable))) _
      (plain_check (is_instance_of p f (class_word p.platform Throwable)))
      (λ u is. walked_ok P N m fault s throws (firewall_check access.Throw p m f) _ (plain_firewall access.Throw p m f)
      (λ v fine. unwinding_object top.0 place (with_stack s top.1) m (pass.popped top s m known taken)))))

  reasoned : (k : ℕ) (reason : Option ℤ) (place : ℕ) (s : Frames) (m : MemoryState) → M s m
      → DueThen P N (with_reason reason (slice_index m.fixed k) place p s m) m
  reasoned k None place s m known = unwinding_object (slice_index m.fixed k) place s m known
  reasoned k (Some v) place s m known =
      let fault = pass.faults s m known in
      let r = slice_index m.fixed k in
      walked_some P N m fault (header_at m r) _ (λ f there. walked_if P N m fault (has_reason_cell f) _ (λ on.
      let set = pass.reasons k v f s m known there on in
      (set.0, unwinding_object r place s (apply_effect (SetTransient r 0 (Short v ∷ [])) m) set.1)))

  pub thrown : (e : Exception) (place : ℕ) (s : Frames) (m : MemoryState) → M s m → DueThen P N (exception_throw e place p s m) m
  unfolding exception_throw
  thrown e place s m known = reasoned (own_place p.platform (class_of_exception e)) (reason_of e) place s m known

-- ---- calls

module _ (P : Effect → MemoryState → Type 0) (C : HeapState → Cell → Type 0) (N : Next Frames → MemoryState → Type 0) (S : Owner → MemoryState → Type 0)
    (p : Packages) where
  module _ (s : Frames) (m : MemoryState) (pass : EntersPass P C N S s m) where
    switching : (owner : Option Owner) (next : Next Frames) → ((o : Owner) → owner ≡ Some o → S o m) → N next m
        → DueThen P N (context_switch owner m.registers next) m
    switching None next fine so = so
    switching (Some owner) (GoesOn t) fine so = pass.switches owner t (fine owner refl) so
    switching (Some owner) (Throws e t) fine so = so
    switching (Some owner) (Ends o) fine so = so

    pub entering : (c : Callee) (site : CallSite) → ((o : Owner) → c.switches_to ≡ Some o → S o m) → DueThen P N (method_entry c site p s m) m
    unfolding method_entry
    entering c site fine = walked_some P N m pass.faults (header_in (method_component_of p c.package_number) c.offset) _
        (λ h there. walked_if P N m pass.faults (takes c.arguments h) _
        (λ on. switching c.switches_to _ fine (pass.enters (entry_of h c site m.registers) refl)))

    module _ (asked : ServerCall) (place : ℕ) (fine : S (Applet asked.owner) m) (server : C m.heap.now (Reference asked.server))
        (client : C m.heap.now (Reference asked.client)) where
      asking_by : (method : Option Method) → DueThen P N (server_call_by method asked place p s m) m
      asking_by None = pass.faults
      asking_by (Some (Native method)) = pass.null
      asking_by (Some (Code number offset)) = walked_some P N m pass.faults (header_in (method_component_of p number) offset) _
          (λ h there. walked_if P N m pass.faults (takes_server_arguments h) _
          (λ on. switching (Some (Applet asked.owner)) _ (λ o is. subst (λ x. S x m) (same_Some (Applet asked.owner) o is) fine)
          (pass.arguments asked _ (pass.enters (server_entry h (server_callee number offset asked) place m.registers) refl) server client)))

      pub asking : DueThen P N (server_call asked place p s m) m
      unfolding server_call
      asking = walked_some P N m pass.faults (header_at m asked.server) _ (λ f there. asking_by (sharing_method p f.class))

  answered : (place : ℕ) (s : Frames) (result : Result NativeResult FrameExit) (v : MemoryState) → IsAnswered P C N S s result v
      → DueThen P N (after_native result place p s v) v
  answered place s (Ok ReturnVoid) v is = is
  answered place s (Ok (ReturnValue cell)) v is = is
  answered place s (Ok (CallServer asked)) v is = asking s v is.0 asked place is.1 is.2 is.3
  answered place s (Ok Aborted) v is = is
  answered place s (Err (stop.Throw e)) v is = is
  answered place s (Err (stop.End o)) v is = is

-- ---- steps

module _ (P : Effect → MemoryState → Type 0) (M : Frames → MemoryState → Type 0) (C : HeapState → Cell → Type 0) (N : Next Frames → MemoryState → Type 0)
    (S : Owner → MemoryState → Type 0) (lent : List ℕ) (p : Packages) (s : Frames) (m : MemoryState) (pass : WalkPasses P M C N S lent p s m) where
  fault : (next : ℕ) → N (Ends Fault) m
  fault next = pass.leaves.faults (at_place s next) m (pass.known next)

  natively : (next : ℕ) (c : MethodCall) (method : PlatformMethod) (place : ℕ)
      → ((args : List Cell) → arguments_on c.arguments s.current.stack ≡ Some args
      → DueThen P (IsAnswered P C N S (with_stack (at_place s next) (drop c.arguments s.current.stack))) (native_call method args p m) m)
      → DueThen P N (native_invoke method c.arguments place p (at_place s next) m) m
  unfolding native_invoke
  natively next c method place calls =
      let t = with_stack (at_place s next) (drop c.arguments s.current.stack) in
      walked_if P N m (fault next) (c.arguments == argument_cells method) _ (λ on.
      walked_some P N m (fault next) (arguments_on c.arguments s.current.stack) _ (λ args are.
      walked_bind P (IsAnswered P C N S t) N (λ result v. after_native result place p t v) (native_call method args p m) m (calls args are)
      (answered P C N S p place t)))

  selected : (c : MethodCall) (is : IsCalled lent p s m c) → s.current.origin.package_number == 0 ≡ false → (method : Method) → c.method ≡ method
      → DueThen P N (invoke_selected method c s.current.place p (at_place s is.1) m) m
  selected c is home (Code number offset) same =
      let enters = pass.enters c number offset is home same in entering P C N S p (at_place s is.1) m enters.0 _ _ enters.1
  selected c is home (Native method) same = natively is.1 c method s.current.place (λ args are. pass.calls c method args is home same are)

  invoked : (i : InvokeOp) (next : ℕ) → decode (code_of lent p s.current.origin.package_number) s.current.place ≡ Some (Calls i, next)
      → s.current.origin.package_number == 0 ≡ false → DueThen P N (invoke_instruction i s.current.place p (at_place s next) m) m
  unfolding invoke_instruction
  invoked i next is home =
      walked_ok P N m (fault next) (at_place s next) (λ e. pass.leaves.throws e (at_place s next) m (pass.known next))
      (method_selection i p (at_place s next) m) _ (plain_selection p i (at_place s next) m)
      (λ c fine. selected c (i, next, is, fine) home c.method refl)

  executed : (i : Instr) (next : ℕ) → decode (code_of lent p s.current.origin.package_number) s.current.place ≡ Some (i, next)
      → (is_plain i || not (s.current.origin.package_number == 0)) ≡ true
      → DueThen P N (instruction_at i (code_of lent p s.current.origin.package_number) s.current.place p (at_place s next) m) m
  unfolding instruction_at
  executed (Return how) next is may = returning P M C N pass.leaves p how (at_place s next) m (pass.known next)
  executed (Object Athrow) next is may = throwing P M C N pass.leaves p s.current.place (at_place s next) m (pass.known next)
  executed (Calls method) next is may = invoked method next is (not-true (s.current.origin.package_number == 0) may)
  executed i next is may = pass.alone i (code_of lent p s.current.origin.package_number) s.current.place next tt may

  fetched : (o : Option (Instr × ℕ)) → decode (code_of lent p s.current.origin.package_number) s.current.place ≡ o
      → DueThen P N (fetch o (code_of lent p s.current.origin.package_number) p s m) m
  fetched None is = fault s.current.place
  fetched (Some i) is = walked_if P N m (fault i.1) (is_plain i.0 || not (s.current.origin.package_number == 0)) _ (executed i.0 i.1 is)

  instructed : DueThen P N (instruction_step (code_of lent p s.current.origin.package_number) p s m) m
  unfolding instruction_step
  instructed = fetched (decode (code_of lent p s.current.origin.package_number) s.current.place) refl

  thrown_from : (next : Next Frames) (v : MemoryState) → N next v → DueThen P N (throw_from s.current.place p next v) v
  thrown_from (GoesOn t) v so = so
  thrown_from (Throws e t) v so = thrown P M C N pass.leaves p e s.current.place t v (pass.caught e t v so)
  thrown_from (Ends o) v so = so

  pub walked_step : DueThen P N (machine_step lent p s m) m
  unfolding machine_step
  walked_step = walked_bind P N N (λ next v. throw_from s.current.place p next v) (instruction_step (code_of lent p s.current.origin.package_number) p s m) m
      instructed thrown_from

-- ---- effects alone, where any registers may be set

-- whatever is done, the heap begins with the same objects
fixed_stays : (e : Effect) (m : MemoryState) → (apply_effect e m).fixed ≡ m.fixed
fixed_stays (HeapMove move) m = refl
fixed_stays (SetTransient r i values) m = refl
fixed_stays (SetFlag r flag) m = refl
fixed_stays (ClearTransient event) m = refl
fixed_stays (SetRegisters registers) m = refl
fixed_stays (BeginCommand bytes) m = refl
fixed_stays (SendBytes bytes) m = refl

some_cell : (f : Facts) → has_reason_cell f ≡ true → 0 < f.length
some_cell f e = ltb-true 0 f.length (and_parts (is_instance f.kind && is_some f.event) (nat_lt 0 f.length) e).1

module _ (P : Effect → MemoryState → Type 0) (lent : List ℕ) (p : Packages) (s : Frames) (m : MemoryState) (pass : StepPasses P lent p s m) where
  -- so it is of a memory, whatever the frames and the owner
  abbrev BeginsSo : MemoryState → Type 0
  BeginsSo v = v.fixed ≡ m.fixed

  any_leaves : LeavesPass P (λ t v. BeginsSo v) AnyCell (λ next v. BeginsSo v)
  any_leaves = record {
    goes = λ t v so. so;
    throws = λ e t v so. so;
    faults = λ t v so. so;
    pushes = λ cell t v so any. so;
    null = λ h. tt;
    returned = λ how t v value so is. any_handed v.heap.now value;
    ends = λ value t v so any. so;
    back = λ f c callers v so. (pass.turns _ v, so);
    handles = λ r target t v so any. so;
    uncaught = λ r t v so any. so;
    found = λ r f v there. tt;
    popped = λ top t v so taken. so;
    reasons = λ k x f t v so there on. (
      pass.reasons (slice_index v.fixed k) x v (k, ap (λ l. slice_index l k) so)
          (subst (λ g. 0 < g.length) (header_is v (slice_index v.fixed k) f there).1 (some_cell f on)),
      so,
    );
  }

  any_enters : (t : Frames) (v : MemoryState) → BeginsSo v → EntersPass P AnyCell (λ next v. BeginsSo v) (λ o v. Unit {0}) t v
  any_enters t v so = record {
    faults = so;
    null = so;
    enters = λ e same. so;
    switches = λ owner u fine next. (pass.turns _ v, so);
    arguments = λ asked next goes server client. so;
  }

  any_answered : (t : Frames) (result : Result NativeResult FrameExit) (v : MemoryState) → BeginsSo v
      → IsAnswered P AnyCell (λ next v. BeginsSo v) (λ o v. Unit {0}) t result v
  any_answered t (Ok (CallServer asked)) v so = (any_enters t v so, tt, tt, tt)
  any_answered t (Err (stop.Throw e)) v so = so
  any_answered t _ v so = so

  begins_each : {A : Type 0} (N : A → MemoryState → Type 0) → ((a : A) (v : MemoryState) → BeginsSo v → N a v) → (d : Program A) → AllDue P d m → DueThen P N d m
  begins_each N more d due = walked_of P BeginsSo (λ a v. Unit {0}) N (λ e v is so. fixed_stays e v ∙ so) (λ a v so any. more a v so) d m due
      (each_always (λ a v. Unit {0}) (λ a v. tt) d m) refl

  alone_due : (i : Instr) (code : List ℕ) (place : ℕ) (t : Frames) → IsAlone i → AllDue P (instruction_at i code place p t m) m
  unfolding instruction_at
  alone_due (Return how) code place t alone = absurd alone
  alone_due (Field field) code place t alone = fields_due P p m pass.fields field t
  alone_due (Array operation) code place t alone = arrays_due P p m pass.arrays operation t
  alone_due (Object (New index)) code place t alone = made_due P p m pass.instances index t
  alone_due (Object Athrow) code place t alone = absurd alone
  alone_due (Object (CheckCast type)) code place t alone = checked_due P p m type t
  alone_due (Object (InstanceOf type)) code place t alone = examined_due P p m type t
  alone_due (Calls method) code place t alone = absurd alone
  alone_due _ code place t alone = tt

  -- each effect of a step is due, where those are
  pub step_due : AllDue P (machine_step lent p s m) m
  step_due = due_of P (λ next v. BeginsSo v) (machine_step lent p s m) m
      (walked_step P (λ t v. BeginsSo v) AnyCell (λ next v. BeginsSo v) (λ o v. Unit {0}) lent p s m (record {
        leaves = any_leaves;
        known = λ place. refl;
        caught = λ e t v so. so;
        alone = λ i code place next alone may. begins_each (λ next v. BeginsSo v) (λ next v so. so) (instruction_at i code place p (at_place s next) m)
            (alone_due i code place (at_place s next) alone);
        enters = λ c number offset is home code. (any_enters (at_place s is.1) m refl, λ o there. tt);
        calls = λ c method args is home native are.
            let t = with_stack (at_place s is.1) (drop c.arguments s.current.stack) in
            begins_each (IsAnswered P AnyCell (λ next v. BeginsSo v) (λ o v. Unit {0}) t) (any_answered t) (native_call method args p m)
            (pass.calls c method args is native are);
      }))
