-- Methods of the platform fit, and leave a memory between two instructions.
use Rattle.std.specs.Prelude.{ℤ}
use Rattle.std.proofs.Common.{◌≡◌, ℕ, true, false, inl, inr, List, length, map, Some, refl, sym, ◌∙◌, ap, subst, arith}
use Rattle.std.proofs.lemmas.List.{length-map}
use Rattle.jc_transient.specs.Cell.{number_of}
use Rattle.jc_transient.specs.declared.cell.CellValue.TheVariants.{Short}
use Rattle.jc_heap.specs.declared.object.Kind.{Kind}
use Rattle.jc_heap.specs.declared.object.Kind.TheVariants.{ByteArray, ReferenceArray}
use Rattle.jc_heap.specs.Heap.{HeapState, facts, set_cell}
use Rattle.jc_heap.specs.WholeHeap.{IsReference}
use Rattle.jc_frames.specs.declared.cell.Cell.{Cell}
use Rattle.jc_memory.specs.State.{MemoryState, SetTransient, apply_effect}
use Rattle.jc_memory.specs.Cells.{cells_effect}
use Rattle.jc_memory.specs.Changes.{nonatomic_store}
use Rattle.jc_memory.specs.Reading.{AllDue}
use Rattle.jc_linker.specs.Values.{Packages}
use Rattle.jc_platform.specs.declared.names.PlatformClass.{PlatformClass}
use Rattle.jc_platform.specs.declared.names.PlatformClass.TheVariants.{Aid, Applet}
use Rattle.jc_platform.specs.declared.names.PlatformMethod.{PlatformMethod}
use Rattle.jc_platform.specs.declared.names.PlatformMethod.TheVariants.{Aids, Applets}
use Rattle.jc_platform.specs.declared.names.AidsMethod.TheVariants.{AidInit}
use Rattle.jc_platform.specs.declared.names.AppletsMethod.TheVariants.{AppletRegister, AppletRegisterBytes}
use Rattle.jc_platform.specs.NamePlaces.{class_of}
use Rattle.jc_platform.specs.Names.{aids_rows, applets_rows}
use Rattle.jc_packages.specs.Objects.{is_instance}
use Rattle.jc_linker.specs.Classes.{is_a}
use Rattle.jc_world.specs.Objects.{reference_argument}
use Rattle.jc_world.specs.Arrays.{bytes_in}
use Rattle.jc_world.specs.declared.arrays.Stretch.{Stretch}
use Rattle.jc_api_framework.specs.Aid.Cells.{cells_of_aid, is_aid_length}
use Rattle.jc_interp.specs.Natives.{native_call}
use Rattle.jc_world.specs.NativeCalls.{NativeProgram}
use Rattle.jc_platform.specs.Signatures.{minds_receiver}
use Rattle.law_code.proofs.Facts.{sets_minds}
use Rattle.jc_api.specs.Initializing.{word_given, words_given}
use Rattle.jc_api.proofs.Due.{DueThen, due_of, due_then, results_of}
use Rattle.jc_api.proofs.Standing.{facts_after_run, object-set_cell}
use Rattle.jc_api.proofs.Stretches.{HoldsNumbers, IsStretch, length_bytes}
use Rattle.jc_api_framework.proofs.Passing.{AnswersSo, IsPinCall, MethodPasses, RegistersSo, turns_of}
use Rattle.jc_api_pairs.proofs.PairForms.{of_forms}
use Rattle.jc_interp.proofs.Calls.{IsPlainMethod, method_called, method_then}
use Rattle.law_code.proofs.Bytes.{store_due}
use Rattle.law_code.proofs.Natives.{nine}
use Rattle.law_code.specs.Classes.{HasAids, KnowsClasses}
use Rattle.law_soundness.specs.MemoryLaws.Fit.{IsFit, IsPinObject, OfValue}
use Rattle.law_soundness.specs.MemoryLaws.State.{IsSoundMemory, IsSteady}
use Rattle.law_soundness.proofs.Effects.{keeps_sound}
use Rattle.law_soundness.proofs.Engines.{engine_fits}
use Rattle.law_soundness.specs.LivingReferences.{AreLivingCells}
use Rattle.law_soundness.specs.MachineLaws.Natives.{IsReceiver, NativesFit}
use Rattle.law_soundness.proofs.InitialCells.{fields_fit}
use Rattle.law_soundness.proofs.Applets.{bytes_small, entry_named, open_home, registering_fits}
use Rattle.law_soundness.proofs.Below.{reasoned}
use Rattle.law_soundness.proofs.NativeArrays.{aid_fits, elements_fit, run_in}
use Rattle.law_soundness.proofs.RunObjects.{instance_no_array, one_fits, set_in}
use Rattle.law_soundness.proofs.RunPins.{after_count, after_flag, pin_object, starts}
use Rattle.law_soundness.proofs.Small.{reason_fits, transient_fits}
use Rattle.law_soundness.proofs.Transients.{numbers_fit}
use Rattle.law_soundness.proofs.EffectsWithoutCells.{bears}
use Rattle.law_soundness.proofs.Pairs.{forms_fit, forms_still}
use Rattle.law_soundness.proofs.Receivers.{aid_minds}
use Rattle.law_soundness.specs.MachineLaws.Calls.{IsCallResult, NativesLeave}
use Rattle.law_soundness.specs.MemoryLaws.Environment.{HasEnvironment}
use Rattle.law_soundness.proofs.StillCalls.{still_left}
use Rattle.law_soundness.proofs.LocalEffects.{calm_stays}
use Rattle.law_soundness.proofs.NewObjects.{new_there}
use Rattle.law_soundness.proofs.Register.{registered_again}
use Rattle.law_soundness.proofs.RegistryEntries.{or_null_refers}
use Rattle.law_soundness.proofs.Still.{IsStill, Lives, still_passes, still_turns}
use Rattle.law_soundness.proofs.Transactions.{transactions_left}

-- a reference stays one where a cell is set
reference_stays : (h : HeapState) (q i x r : ℕ) → IsReference h r → IsReference (set_cell h q i x) r
reference_stays h q i x r (inl null) = inl null
reference_stays h q i x r (inr there) = inr (object-set_cell h q i x r there)

-- methods that mind the object that they are called on
minds_own : (method : PlatformMethod) → method ≡ Applets AppletRegister → minds_receiver method ≡ true
unfolding minds_receiver applets_rows
minds_own method is = ap minds_receiver is

minds_given : (method : PlatformMethod) → method ≡ Applets AppletRegisterBytes → minds_receiver method ≡ true
unfolding minds_receiver applets_rows
minds_given method is = ap minds_receiver is

numbers_no_array : (kind : Kind) → HoldsNumbers kind → kind ≡ ReferenceArray → ⊥
numbers_no_array kind (inl bytes) references = cc
numbers_no_array kind (inr shorts) references = cc

array_of_bytes : (kind : Kind) → kind ≡ ByteArray → kind ≡ ReferenceArray → ⊥
array_of_bytes kind bytes references = cc

class_init : (method : PlatformMethod) → method ≡ Aids AidInit → class_of method ≡ Aid
unfolding aids_rows
class_init method is = ap class_of is

class_own : (method : PlatformMethod) → method ≡ Applets AppletRegister → class_of method ≡ Applet
unfolding applets_rows
class_own method is = ap class_of is

class_given : (method : PlatformMethod) → method ≡ Applets AppletRegisterBytes → class_of method ≡ Applet
unfolding applets_rows
class_given method is = ap class_of is

module _ (method : PlatformMethod) (args : List Cell) (p : Packages) (m : MemoryState) (known : KnowsClasses p) (aids : HasAids p) (sound : IsSoundMemory p m)
    (steady : IsSteady m) (receiver : IsReceiver p m method args) (living : AreLivingCells m.heap.now args) where
  -- the receiver is of the class of the method, or of one below it
  called_on : (of : PlatformClass) → minds_receiver method ≡ true → class_of method ≡ of → (r : ℕ) → reference_argument args 0 ≡ Some r
      → is_a p (facts m.heap.now r).class of ≡ true
  called_on of minded is r own = subst (λ c. is_a p (facts m.heap.now r).class c ≡ true) is (receiver.class minded r own)

  object_of : (pin : ℕ) → IsPinCall method args m pin → IsPinObject p m pin
  object_of pin is = pin_object p m known sound pin is.is (called_on _ (sets_minds method is.sets) is.class pin is.called)

  -- the cells of a state fit, after cells of another object were set
  state_fits : (object i : ℕ) (bytes : List ℕ) (r : ℕ) (count : ℤ) (s : Stretch) (words : List ℕ) → IsStretch p m r count s → length words ≡ s.count
      → IsFit p (SetTransient s.array s.start (map number_of words)) (apply_effect (cells_effect m object i bytes) m)
  state_fits object i bytes r count s words state all =
      let header : facts (apply_effect (cells_effect m object i bytes) m).heap.now s.array ≡ facts m.heap.now r =
      facts_after_run (facts m.heap.now object).event object i bytes m s.array ∙ ap (facts m.heap.now) state.array in
      let w = state.within in
      let long = ap (λ f. f.length) header in
      numbers_fit _ s.array s.start words (omega (arith, w, all, long))
      (λ references. numbers_no_array (facts m.heap.now r).kind state.kind (ap (λ f. f.kind) (sym header) ∙ references))

  passes : MethodPasses (IsFit p) method args p m
  passes = record {
    calls = record {
      reason = λ part sets own v is there. set_in p m (facts m.heap.now own).event own 0 (Short v) refl
          (reason_fits p m known sound (class_of method) (reasoned (class_of method) part) own _ (called_on (class_of method) (sets_minds method sets) refl own is) there)
          (one_fits m own 0 (Short v) there.cells tt (λ array. absurd (instance_no_array (facts m.heap.now own).kind (ap is_instance there.instance) array)));
      stretch = λ r count e words is long. subst (λ a. IsFit p (cells_effect m a e.start words) m) (sym is.array)
          (elements_fit p m r e.start words is.kind (let w = is.within in omega (arith, w, long)));
      bytes = λ r count e words is long kind.
          let w = is.within in
          subst (λ a. AllDue (IsFit p) (nonatomic_store m a e.start words) m) (sym is.array)
          (store_due (IsFit p) r (λ i x v element. inr element) words e.start m kind (omega (arith, w, long))
          (numbers_fit m r e.start words (omega (arith, w, long)) (array_of_bytes (facts m.heap.now r).kind kind)));
      behind = λ q n e bytes is long r count s words event state kept all. state_fits e.array e.start bytes r count s words state all;
      transient = transient_fits p m known sound steady;
      engine = λ e has there space. engine_fits p m known sound steady e has there;
      initial = λ a own is r count s words event state kept all. (
        run_in p m own a.start (words_given args a.values) (facts m.heap.now own).event refl
            (let n = length-map a.values (word_given args) in let long = is.there.cells in omega (arith, n, long))
            (fields_fit p m known sound method args living a own is),
        state_fits own a.start (words_given args a.values) r count s words state all,
      );
    };
    aid = λ init own bytes is there long. run_in p m own 0 (cells_of_aid bytes) (facts m.heap.now own).event refl
        (let l = there.cells in let n = nine bytes in omega (arith, l, n))
        (aid_fits p m known sound own bytes (called_on Aid (aid_minds method init) (class_init method init) own is) (receiver.owned init own is) there long);
    buffer = λ r at words is fits. elements_fit p m r at words (inl is.kind) fits;
    starts = λ pin is limit maximum. starts p m sound steady pin limit maximum (object_of pin is);
    flags = λ pin is flag v. tt;
    counts = λ pin is n. inl (pin, refl, after_flag p m pin false (object_of pin is));
    refills = λ pin is n limit. inl (pin, refl, after_count p _ pin n (after_flag p m pin false (object_of pin is)));
    updates = λ pin is bytes owned short. OfValue (record { pin = pin; bytes = bytes; is = refl; object = object_of pin is; short = short });
  }

  registers : RegistersSo (IsFit p) (IsCallResult m) method args p m
  registers = record {
    own = λ is aid instance own there k may r new. let named = entry_named p aids m.registers.installation aid there in
        registering_fits keeps_sound p m known sound steady r new aid instance k may named.0 named.1 (receiver.instance (minds_own method is) instance own)
        (called_on Applet (minds_own method is) (class_own method is) instance own) (IsCallResult m)
        (registered_again p m sound steady aid instance k r (open_home m.registers.installation k may.opened_by));
    given = λ is e instance own long k may r new. registering_fits keeps_sound p m known sound steady r new (bytes_in m e) instance k may
        (ap is_aid_length (length_bytes m e) ∙ long) (bytes_small m e) (receiver.instance (minds_given method is) instance own)
        (called_on Applet (minds_given method is) (class_given method is) instance own) (IsCallResult m)
        (registered_again p m sound steady (bytes_in m e) instance k r (open_home m.registers.installation k may.opened_by));
  }

  module _ (environment : HasEnvironment p m) where
    -- the references that are answered name what is there
    refers : AnswersSo Lives m
    refers = record {
      fixed = λ k le. inr (environment.now.there k (omega (arith, le, environment.now.long)));
      aid = or_null_refers p m sound;
      null = inl refl;
      made = record { new = λ o v r new. inr (new_there o.event o v r new); stays = λ q i x v r lives. reference_stays v.heap.now q i x r lives };
    }

    abbrev call : NativeProgram
    call = native_call method args p m

    -- a method that begins and ends no transaction, and registers nothing
    plainly : IsPlainMethod method → DueThen (IsFit p) (IsCallResult m) call m
    plainly plain =
        let due = due_of (IsFit p) _ call m (method_called (IsFit p) Lives (IsSoundMemory p) (turns_of (IsFit p) (IsSoundMemory p) (bears p)) args p m sound refers
        method plain passes (of_forms p m (IsFit p) Lives method args (forms_fit p known refers.made m sound steady args living method))) in
        due_then (IsFit p) (IsCallResult m) call m due (still_left keeps_sound calm_stays p m sound steady call
        (method_called IsStill Lives (λ v. Unit {0}) still_turns args p m tt refers method plain (still_passes m method args p)
        (of_forms p m IsStill Lives method args (forms_still p known m sound args method))) due)

    -- each effect of a call fits, and leaves what it finds steady
    natively : DueThen (IsFit p) (IsCallResult m) call m
    natively = method_then (IsFit p) (IsCallResult m) (IsSoundMemory p) (bears p) args p m sound (transactions_left p m sound steady) method registers plainly

pub natives_are_fit : NativesFit
natives_are_fit method args p m given = due_of (IsFit p) (IsCallResult m) (native_call method args p m) m
    (natively method args p m given.classes given.aids given.sound given.steady given.receiver given.living given.environment)

pub natives_leave : NativesLeave
natives_leave method args p m given = results_of (IsFit p) (IsCallResult m) (native_call method args p m) m
    (natively method args p m given.classes given.aids given.sound given.steady given.receiver given.living given.environment)
