-- Why code runs for another owner: a step switches for no other reason.
use Rattle.std.proofs.Common.{◌≡◌, ℕ, ◌⊎◌, Bool, true, false, inl, inr, List, [], ◌∷◌, ◌++◌, length, map, drop, Option, Some, None, Result, Ok, Err, refl, sym, ◌∙◌, ap, subst, arith, if◌then◌else◌}
use Rattle.std.proofs.lemmas.List.{append_assoc}
use Rattle.std.proofs.lemmas.Option.{none-some, same_Some}
use Rattle.std.specs.Prelude.{◌&&◌, nat_le, nat_lt, pos, slice_set}
use Rattle.jc_transient.specs.declared.cell.CellValue.{CellValue}
use Rattle.jc_transient.specs.declared.cell.CellValue.TheVariants.{Short}
use Rattle.jc_transient.specs.declared.cell.ClearEvent.{ClearEvent}
use Rattle.jc_heap.specs.declared.object.Facts.{Facts}
use Rattle.jc_heap.specs.Heap.{facts}
use Rattle.jc_heap.specs.Moves.{AddPackage}
use Rattle.jc_memory.specs.declared.making.NewObject.{NewObject}
use Rattle.jc_transient.specs.declared.owner.Owner.{Owner}
use Rattle.jc_transient.specs.declared.owner.PackageNumber.{PackageNumber}
use Rattle.jc_memory.specs.Cells.{cell_effect_in, cells_effect_in}
use Rattle.jc_memory.specs.Changes.{nonatomic_store}
use Rattle.jc_memory.specs.Making.{creation_move}
use Rattle.jc_transient.specs.Owners.{owner_of}
use Rattle.jc_memory.specs.Programs.{Program, Finish, Perform, Choose, Either}
use Rattle.jc_memory.specs.Reading.{AllDue, AllResults, HasTrace}
use Rattle.jc_memory.specs.State.{MemoryState, Effect, HeapMove, SetTransient, SetFlag, ClearTransient, SetRegisters, BeginCommand, SendBytes, apply_effect, apply_effects}
use Rattle.jc_memory.proofs.ProgramLemmas.{each_more, each_always}
use Rattle.jc_platform.specs.declared.names.PlatformMethod.{PlatformMethod}
use Rattle.jc_linker.specs.declared.target.Method.{Method}
use Rattle.jc_linker.specs.declared.target.Method.TheVariants.{Native}
use Rattle.jc_linker.specs.Values.{Packages}
use Rattle.jc_frames.specs.declared.instr.Instr.{Instr}
use Rattle.jc_frames.specs.declared.instr.Instr.TheVariants.{Nop, Constant, Local, Stack, Arithmetic, Branch, Return, Field, Array, Object, Invoke}
use Rattle.jc_frames.specs.declared.instr.ObjectOp.TheVariants.{New, Athrow, CheckCast, InstanceOf}
use Rattle.jc_firewall.specs.declared.access.Access.{Access}
use Rattle.jc_firewall.specs.declared.decide.Decision.{Decision}
use Rattle.jc_firewall.specs.declared.decide.Decision.TheVariants.{Allow, Switch, Deny}
use Rattle.jc_frames.specs.declared.cell.Cell.{Cell}
use Rattle.jc_frames.specs.declared.cell.Cell.TheVariants.{Reference}
use Rattle.jc_frames.specs.declared.cell.Cell.TheVariants as cells
use Rattle.jc_frames.specs.declared.method.Entry.{Entry}
use Rattle.jc_frames.specs.declared.method.ReturnPoint.{ReturnPoint}
use Rattle.jc_frames.specs.declared.outcome.FrameExit.{FrameExit}
use Rattle.jc_frames.specs.declared.outcome.FrameExit.TheVariants as stop
use Rattle.jc_frames.specs.declared.outcome.Outcome.TheVariants.{Fault}
use Rattle.jc_frames.specs.Calls.{arguments_on, call_or_fault, caller_without_dead, counted_cells, frames_in_callee}
use Rattle.jc_frames.specs.Frames.{Caller, Frame, Frames, Next, GoesOn, Throws, Ends, in_frame, push, with_stack}
use Rattle.jc_world.specs.Answers.{and_then}
use Rattle.jc_world.specs.Contexts.{firewall_decision, installed_package}
use Rattle.jc_world.specs.declared.native_result.NativeResult.{NativeResult}
use Rattle.jc_world.specs.declared.native_result.NativeResult.TheVariants.{ReturnVoid, ReturnValue, CallServer, Aborted}
use Rattle.jc_api_framework.specs.Aid.Cells.{cells_of_aid}
use Rattle.jc_api.specs.Factory.{engine_creation, state_array}
use Rattle.jc_api.specs.Initializing.{words_given}
use Rattle.jc_api.specs.Pairing.{named_in, pair_words}
use Rattle.jc_api.specs.declared.factory.NewEngine.{NewEngine}
use Rattle.jc_api.specs.declared.pairing.NamedObject.{NamedObject}
use Rattle.jc_api.specs.declared.pairing.NamedObject.TheVariants as named
use Rattle.jc_api_pairs.proofs.PairingCalls.{NamesSo}
use Rattle.jc_api_pairs.proofs.PairForms.{FormsPass, of_forms}
use Rattle.jc_api.proofs.Due.{Anything, DueThen, due_of, results_of}
use Rattle.jc_api.proofs.Reaching.{err_not_ok, same_Ok}
use Rattle.jc_api_framework.proofs.AppletCalls.Registering.{MayRegister, Registering, home_of}
use Rattle.jc_api_framework.proofs.Passing.{Bears, MethodPasses, RegistersSo}
use Rattle.jc_instructions.specs.declared.invoke.MethodCall.{MethodCall}
use Rattle.jc_instructions.specs.Enter.{registers_in_callee}
use Rattle.jc_instructions.specs.Invoke.{call_decision, call_of, receiver_of}
use Rattle.jc_instructions.specs.ServerCall.{with_local}
use Rattle.jc_interp.proofs.Calls.{method_due}
use Rattle.jc_interp.specs.Natives.{native_call}
use Rattle.jc_interp.specs.Step.{at_place, instruction_at, machine_step}
use Rattle.law_code.proofs.Bytes.{store_due}
use Rattle.law_code.proofs.StepsInMethod.{IsPlainNext, StaysIn}
use Rattle.law_code.proofs.Instructions.{any_frame, any_reads, arrays_going, checked_going, examined_going, fields_going, made_going}
use Rattle.law_code.proofs.EffectConditions.{ArraysPass, FieldsPass, InstancesPass}
use Rattle.jc_instructions.proofs.MethodSelection.{Bare, Found, Named, Selected, selected}
use Rattle.law_code.proofs.Walk.{AnyCell, EntersPass, IsAlone, IsAnswered, LeavesPass, any_handed, walked_of, walked_step}
use Rattle.law_code.specs.IsolationLaws.Steps.{IsCalled}
use Rattle.law_soundness.specs.MachineLaws.OwnerSwitches.{AsksServer, Cause, Called, Asked, Left, FollowsWithin, HasLeft, IsOfStep, IsSwitchingCall, SwitchesHaveCauses}

-- ---- what is done in a method

-- code goes on running for the same owner, in the same installation, and nothing is cleared, begun or added
abbrev IsInMethod : Effect → MemoryState → Type 0
IsInMethod (SetRegisters g) n = (g.active ≡ n.registers.active) × (installed_package g.installation ≡ installed_package n.registers.installation)
IsInMethod (HeapMove (AddPackage components arrays image)) n = ⊥
IsInMethod (ClearTransient event) n = ⊥
IsInMethod (BeginCommand bytes) n = ⊥
IsInMethod e n = Unit {0}

in_method : Bears IsInMethod (λ m. Unit {0})
in_method = record {
  keeps = λ e m due so. tt;
  turns = λ g m so active installation selected. (active, ap installed_package installation);
  begins = λ m so off. tt;
  commits = λ m so on none. tt;
  aborts = λ m on. tt;
  sends = λ bytes m. tt;
}

runs_in : (v : MemoryState) (event : Option ClearEvent) (r i : ℕ) (words : List ℕ) → IsInMethod (cells_effect_in event r i words) v
runs_in v None r i words = tt
runs_in v (Some event) r i words = tt

makes_in : (v : MemoryState) (event : Option ClearEvent) (o : NewObject) → IsInMethod (HeapMove (creation_move event o)) v
makes_in v None o = tt
makes_in v (Some event) o = tt

module _ (m : MemoryState) where
  set_in : (event : Option ClearEvent) (r i : ℕ) (v : CellValue) → IsInMethod (cell_effect_in event r i v) m
  set_in None r i v = tt
  set_in (Some event) r i v = tt

  run_in : (event : Option ClearEvent) (r i : ℕ) (words : List ℕ) → IsInMethod (cells_effect_in event r i words) m
  run_in None r i words = tt
  run_in (Some event) r i words = tt

  made_in : (event : Option ClearEvent) (o : NewObject) → IsInMethod (HeapMove (creation_move event o)) m
  made_in None o = tt
  made_in (Some event) o = tt

  module _ (p : Packages) where
    fields_in : FieldsPass IsInMethod p m
    fields_in = record {
      field = λ of_type number index r i field cells v k taken kept named cell. set_in (facts m.heap.now r).event r i k;
      word = λ of_type number index field cells v k w x taken kept named there whole. tt;
      halves = λ of_type number index field w behind x y named there odd next. tt;
    }

    arrays_in : ArraysPass IsInMethod p m
    arrays_in = record {
      element = λ of_type r f e cells v k w taken kept array inside fits. set_in (facts m.heap.now r).event r e.index w;
      numbers = λ of_type n r new. tt;
      references = λ number index class n named r new. tt;
    }

    instances_in : InstancesPass IsInMethod p m
    instances_in number index class n made few r new = tt

    methods_in : (method : PlatformMethod) (args : List Cell) → MethodPasses IsInMethod method args p m
    methods_in method args = record {
      calls = record {
        reason = λ part sets own v is long. set_in (facts m.heap.now own).event own 0 (Short v);
        stretch = λ r count e words is long. run_in (facts m.heap.now e.array).event e.array e.start words;
        bytes = λ r count e words is long kind.
            let w = is.within in
            subst (λ a. AllDue IsInMethod (nonatomic_store m a e.start words) m) (sym is.array)
            (store_due IsInMethod r (λ i x v element. tt) words e.start m kind (omega (arith, w, long)) tt);
        behind = λ q n e bytes is long r count s words event state kept all. tt;
        transient = λ o is room r new. made_in o.event o;
        engine = λ e has there space room array new. (made_in e.event (state_array e m), λ r other. (tt, (tt, (tt, tt))));
        initial = λ a own is r count s words event state kept all. (run_in (facts m.heap.now own).event own a.start (words_given args a.values), tt);
      };
      aid = λ init own bytes is long fine. run_in (facts m.heap.now own).event own 0 (cells_of_aid bytes);
      buffer = λ r at words is fits. run_in (facts m.heap.now r).event r at words;
      starts = λ pin is limit maximum value new. (tt, (tt, (tt, tt)));
      flags = λ pin is flag v. tt;
      counts = λ pin is n. tt;
      refills = λ pin is n limit. tt;
      updates = λ pin is bytes owned short. tt;
    }

    registered_in : (method : PlatformMethod) (args : List Cell) → RegistersSo IsInMethod (λ a v. Unit {0}) method args p m
    registered_in method args = record {
      own = λ is aid instance own there k may r new. entered may;
      given = λ is e instance own fine k may r new. entered may;
    }
      where
        entered : {aid : List ℕ} {instance : ℕ} {k : PackageNumber} {r : ℕ} → MayRegister m aid instance k
            → Registering IsInMethod (λ a v. Unit {0}) p m aid instance k r
        entered {k = k} may = record {
          makes = tt;
          sets = tt;
          enters = tt;
          commits = tt;
          turns = (refl, home_of m.registers.installation k may.opened_by);
          follows = tt;
        }

    named_in_method : (args : List Cell) (K : ℕ → MemoryState → Type 0) (object : NamedObject) (n : MemoryState) → ((r : ℕ) (v : MemoryState) → K r v)
        → NamesSo IsInMethod K args p object n
    named_in_method args K (named.Argument i) n so = λ r is. so r n
    named_in_method args K (named.New e) n so = λ has there space room. (
      (λ array new. (makes_in n e.event (state_array e n), λ r other. (tt, (tt, (tt, tt))))),
      each_always (λ answer v. (r : ℕ) → and_then answer named_in ≡ Ok r → K r v) (λ answer v r name. so r v) (engine_creation e p n) n,
    )

    forms_in : (method : PlatformMethod) (args : List Cell) → FormsPass IsInMethod Anything method args p m
    forms_in method args = record {
      places = λ cs are. tt;
      after = λ cs are e bytes is event kept. tt;
      names = λ sets a pairs zero. named_in_method args _ a.first m (λ first v. named_in_method args _ a.second v (λ second w own is.
          runs_in w (facts w.heap.now own).event own 0 (pair_words a.number first second)));
      named = λ class pairs i own few is event. tt;
    }

    native_in : (method : PlatformMethod) (args : List Cell) → AllDue IsInMethod (native_call method args p m) m
    native_in method args = method_due IsInMethod (λ m. Unit {0}) in_method args p m tt method (methods_in method args)
        (of_forms p m IsInMethod Anything method args (forms_in method args)) (registered_in method args)

-- ---- programs

then_more : {A : Type 0} (P O : Effect → MemoryState → Type 0) (R N : A → MemoryState → Type 0) → ((e : Effect) (n : MemoryState) → P e n → O e n)
    → ((a : A) (n : MemoryState) → R a n → N a n) → (d : Program A) (m : MemoryState) → DueThen P R d m → DueThen O N d m
then_more P O R N due more (Finish a) m so = more a m so
then_more P O R N due more (Perform e rest) m so = (due e m so.0, then_more P O R N due more rest (apply_effect e m) so.1)
then_more P O R N due more (Choose choose) m so = λ r new. then_more P O R N due more (choose r) m (so r new)
then_more P O R N due more (Either x y) m so = (then_more P O R N due more x m so.0, then_more P O R N due more y m so.1)

-- each answer was given after some effects
traced : {A : Type 0} (d : Program A) (m : MemoryState) → AllResults d m (λ a n. (es : List Effect) × HasTrace d m es a × (n ≡ apply_effects es m))
traced (Finish a) m = ([], (refl, refl), refl)
traced (Perform e rest) m = each_more _ _ (λ a n t. (e ∷ t.0, (t.0, refl, t.1), t.2)) rest (apply_effect e m) (traced rest (apply_effect e m))
traced (Choose choose) m = λ r new. each_more _ _ (λ a n t. (t.0, (r, new, t.1), t.2)) (choose r) m (traced (choose r) m)
traced (Either x y) m = (
  each_more _ _ (λ a n t. (t.0, inl t.1, t.2)) x m (traced x m),
  each_more _ _ (λ a n t. (t.0, inr t.1, t.2)) y m (traced y m),
)

-- ---- callers

same_points : (top : ℕ) (callers : List Caller) → map (λ (c : Caller). c.resume) (map (caller_without_dead top) callers) ≡ map (λ (c : Caller). c.resume) callers
same_points top [] = refl
same_points top (c ∷ callers) = ap (λ (l : List ReturnPoint). c.resume ∷ l) (same_points top callers)

module _ (lent : List ℕ) (p : Packages) (s : Frames) (m : MemoryState) where
  abbrev Follows : Next Frames → MemoryState → Type 0
  Follows next n = FollowsWithin s m next

  -- whose code is to run
  abbrev IsWanted : Owner → MemoryState → Type 0
  IsWanted owner n = (IsSwitchingCall lent p s m owner × (n ≡ m)) ⊎ AsksServer lent p s m owner n

  left_itself : HasLeft s s
  left_itself = ([], refl)

  left_like : (t u : Frames) → HasLeft s t → u.callers ≡ t.callers → HasLeft s u
  left_like t u left same = (left.0, left.1 ∙ ap (λ (l : List Caller). left.0 ++ map (λ (c : Caller). c.resume) l) (sym same))

  framed : (t : Frames) (n : MemoryState) → HasLeft s t → (next : Next Frame) → Follows (in_frame t next) n
  framed t n left (GoesOn f) = inl left
  framed t n left (Throws e f) = left
  framed t n left (Ends o) = tt

  leaves : LeavesPass (IsOfStep lent p s m) (λ t n. HasLeft s t) AnyCell Follows
  leaves = record {
    goes = λ t n left. inl left;
    throws = λ e t n left. left;
    faults = λ t n left. tt;
    pushes = λ cell t n left any. framed t n left (push cell t.current);
    null = λ h. tt;
    returned = λ how t n value left is. any_handed n.heap.now value;
    ends = λ value t n left any. tt;
    back = λ f c callers n left. (
      (inr (Left left.0 (map (λ (d : Caller). d.resume) callers) c.resume left.1 refl), refl),
      (
        left.0 ++ (c.resume ∷ []),
        left.1 ∙ sym (append_assoc left.0 (c.resume ∷ []) (map (λ (d : Caller). d.resume) callers)),
      ),
    );
    handles = λ r target t n left any. framed t n left _;
    uncaught = λ r t n left any. tt;
    found = λ r f n there. tt;
    popped = λ top t n left taken. left;
    reasons = λ k v f t n left there on. (tt, left);
  }

  -- ---- calls

  next_if : (b : Bool) (x y : Next Frames) (n : MemoryState) → Follows x n → Follows y n → Follows (if b then x else y) n
  next_if true x y n first second = first
  next_if false x y n first second = second

  entered : (e : Entry) (t : Frames) (n : MemoryState) → t.callers ≡ s.callers → e.resume.active ≡ m.registers.active → Follows (call_or_fault e t) n
  entered e t n same active = next_if (nat_le e.arguments (length t.current.stack)) _ _ n (next_if
      (nat_le (length (frames_in_callee e t).callers) 31 && nat_le (counted_cells (frames_in_callee e t)) 512) _ _ n
      (inr (e.resume, ap (λ (l : List Caller). e.resume ∷ map (λ (c : Caller). c.resume) l) same, active)) tt) tt

  stored : (k : ℕ) (cell : Cell) (next : Next Frames) (n : MemoryState) → Follows next n → Follows (with_local k cell next) n
  stored k cell (GoesOn t) n so = by (nat_lt k (length t.current.locals))
    where
      by : (b : Bool) → Follows (in_frame t (if b then GoesOn (record t.current { locals = slice_set t.current.locals k cell }) else Ends Fault)) n
      by true = so
      by false = tt
  stored k cell (Throws e t) n so = so
  stored k cell (Ends o) n so = tt

  cause_of : (owner : Owner) (n : MemoryState) → IsWanted owner n → Cause lent p s m (registers_in_callee (Some owner) n.registers) n
  cause_of owner n (inl call) = Called owner call.0 call.1 refl
  cause_of owner n (inr asks) = Asked owner asks refl

  enters : (t : Frames) (n : MemoryState) → t.callers ≡ s.callers → n.registers.active ≡ m.registers.active
      → EntersPass (IsOfStep lent p s m) AnyCell Follows IsWanted t n
  enters t n same active = record {
    faults = tt;
    null = framed t n (left_like s t left_itself same) (push (Reference 0) t.current);
    enters = λ e resumes. entered e t n same (resumes ∙ active);
    switches = λ owner u wanted next. ((inr (cause_of owner n wanted), refl), next);
    arguments = λ asked next so server client. stored 2 (cells.Short asked.parameter) _ n
        (stored 1 (Reference asked.client) _ n (stored 0 (Reference asked.server) next n so));
  }

  -- the firewall answered a call with a switch
  module _ (c : MethodCall) (o : Owner) (to : c.switches_to ≡ Some o) (is : IsCalled lent p s m c) where
    judged : (a : Access) (f : Facts) (by : Method) (count : ℕ) → receiver_of count s.current.stack m ≡ Ok f → (d : Decision)
        → firewall_decision a p m f ≡ d → call_decision d f by count ≡ Ok c → IsSwitchingCall lent p s m o
    judged a f by count there Allow decided e = absurd (none-some o (ap (λ (x : MethodCall). x.switches_to) (same_Ok (call_of by count None) c e) ∙ to))
    judged a f by count there (Switch context) decided e = record {
      call = c;
      called = is;
      count = count;
      receiver = f;
      there = there;
      access = a;
      context = context;
      decided = decided;
      runs_for = sym (same_Some (owner_of f.owner) o (ap (λ (x : MethodCall). x.switches_to) (same_Ok (call_of by count (Some (owner_of f.owner))) c e) ∙ to));
    }
    judged a f by count there (Deny rule) decided e = absurd (err_not_ok e)

    switched : Selected p s.current.origin.package_number s.current.stack m c → IsSwitchingCall lent p s m o
    switched (Found f) = judged f.access f.header f.method f.count f.there (firewall_decision f.access p m f.header) refl f.judged
    switched (Named f) = absurd (none-some o (ap (λ (x : MethodCall). x.switches_to) f.is ∙ to))
    switched (Bare f) = absurd (none-some o (ap (λ (x : MethodCall). x.switches_to) f.is ∙ to))

  -- a method of the platform answered
  module _ (c : MethodCall) (method : PlatformMethod) (args : List Cell) (is : IsCalled lent p s m c) (native : c.method ≡ Native method)
      (are : arguments_on c.arguments s.current.stack ≡ Some args) where
    abbrev t : Frames
    t = with_stack (at_place s is.1) (drop c.arguments s.current.stack)

    answered : (result : Result NativeResult FrameExit) (n : MemoryState) → n.registers.active ≡ m.registers.active
        → (es : List Effect) × HasTrace (native_call method args p m) m es result × (n ≡ apply_effects es m)
        → IsAnswered (IsOfStep lent p s m) AnyCell Follows IsWanted t result n
    answered (Ok ReturnVoid) n active by = inl left_itself
    answered (Ok (ReturnValue cell)) n active by = framed t n left_itself (push cell t.current)
    answered (Ok (CallServer asked)) n active by = (
      enters t n refl active,
      inr (record {
        call = c;
        called = is;
        method = method;
        native = native;
        arguments = args;
        given = are;
        effects = by.0;
        asked = asked;
        answered = by.1;
        behind = by.2;
        runs_for = refl;
      }),
      tt,
      tt,
    )
    answered (Ok Aborted) n active by = inl ([], sym (same_points n.heap.now.top s.callers))
    answered (Err (stop.Throw e)) n active by = left_itself
    answered (Err (stop.End o)) n active by = tt

  -- ---- instructions that neither return nor throw nor call

  of_step : (e : Effect) (n : MemoryState) → IsInMethod e n → IsOfStep lent p s m e n
  of_step (SetRegisters g) n so = (inl so.0, so.1)
  of_step (HeapMove (AddPackage components arrays image)) n so = so
  of_step (ClearTransient event) n so = so
  of_step (BeginCommand bytes) n so = so
  of_step _ n so = tt

  active_stays : (e : Effect) (n : MemoryState) → IsInMethod e n → n.registers.active ≡ m.registers.active
      → (apply_effect e n).registers.active ≡ m.registers.active
  active_stays (SetRegisters g) n so active = so.0 ∙ active
  active_stays (HeapMove move) n so active = active
  active_stays (SetTransient r i values) n so active = active
  active_stays (SetFlag r flag) n so active = active
  active_stays (ClearTransient event) n so active = active
  active_stays (BeginCommand bytes) n so active = active
  active_stays (SendBytes bytes) n so active = active

  stays_in : (t : Frames) → t.callers ≡ s.callers → (next : Next Frames) (n : MemoryState) → IsPlainNext (Anything n) t.callers t.current.origin next
      → Follows next n
  stays_in t same (GoesOn u) n plain = inl (left_like s u left_itself (plain.0 ∙ same))
  stays_in t same (Throws e u) n plain = left_like s u left_itself (plain.0 ∙ same)
  stays_in t same (Ends o) n plain = tt

  stayed : (t : Frames) → t.callers ≡ s.callers → (d : Program (Next Frames)) → StaysIn IsInMethod Anything t d m → DueThen (IsOfStep lent p s m) Follows d m
  stayed t same d stays = then_more IsInMethod (IsOfStep lent p s m) _ Follows of_step (stays_in t same) d m stays

  alone_in : (i : Instr) (code : List ℕ) (place : ℕ) (t : Frames) → t.callers ≡ s.callers → IsAlone i
      → DueThen (IsOfStep lent p s m) Follows (instruction_at i code place p t m) m
  unfolding instruction_at
  alone_in Nop code place t same alone = inl (left_like s t left_itself same)
  alone_in (Constant constant) code place t same alone = framed t m (left_like s t left_itself same) _
  alone_in (Local local) code place t same alone = framed t m (left_like s t left_itself same) _
  alone_in (Stack stack) code place t same alone = framed t m (left_like s t left_itself same) _
  alone_in (Arithmetic arithmetic) code place t same alone = framed t m (left_like s t left_itself same) _
  alone_in (Branch branch) code place t same alone = framed t m (left_like s t left_itself same) _
  alone_in (Return how) code place t same alone = absurd alone
  alone_in (Field field) code place t same alone = stayed t same _
      (fields_going IsInMethod Anything p m (any_reads IsInMethod p m) (fields_in m p) field t (any_frame m t.current))
  alone_in (Array operation) code place t same alone = stayed t same _
      (arrays_going IsInMethod Anything p m (any_reads IsInMethod p m) (arrays_in m p) operation t (any_frame m t.current))
  alone_in (Object (New index)) code place t same alone = stayed t same _
      (made_going IsInMethod Anything p m (any_reads IsInMethod p m) (instances_in m p) index t (any_frame m t.current))
  alone_in (Object Athrow) code place t same alone = absurd alone
  alone_in (Object (CheckCast type)) code place t same alone = stayed t same _
      (checked_going IsInMethod Anything p m (any_reads IsInMethod p m) type t (any_frame m t.current))
  alone_in (Object (InstanceOf type)) code place t same alone = stayed t same _
      (examined_going IsInMethod Anything p m (any_reads IsInMethod p m) type t (any_frame m t.current))
  alone_in (Invoke method) code place t same alone = absurd alone

  -- ---- steps

  step_within : DueThen (IsOfStep lent p s m) Follows (machine_step lent p s m) m
  step_within = walked_step (IsOfStep lent p s m) (λ t n. HasLeft s t) AnyCell Follows IsWanted lent p s m (record {
    leaves = leaves;
    known = λ place. left_itself;
    caught = λ e t n so. so;
    alone = λ i code place next alone may. alone_in i code place (at_place s next) refl alone;
    enters = λ c number offset is home code. (
      enters (at_place s is.1) m refl refl,
      λ o to. inl (switched c o to is (selected p is.0 (at_place s is.1) m c is.3), refl),
    );
    calls = λ c method args is home native are. then_more IsInMethod (IsOfStep lent p s m) _ _ of_step (λ result n so. so) (native_call method args p m) m
        (walked_of IsInMethod (λ n. n.registers.active ≡ m.registers.active) _
        (IsAnswered (IsOfStep lent p s m) AnyCell Follows IsWanted (with_stack (at_place s is.1) (drop c.arguments s.current.stack))) active_stays
        (λ result n active by. answered c method args is native are result n active by) (native_call method args p m) m (native_in m p method args)
        (traced (native_call method args p m) m) refl);
  })

pub causes : SwitchesHaveCauses
causes = record {
  each = λ lent p s m. due_of (IsOfStep lent p s m) _ (machine_step lent p s m) m (step_within lent p s m);
  next = λ lent p s m. results_of (IsOfStep lent p s m) _ (machine_step lent p s m) m (step_within lent p s m);
}
