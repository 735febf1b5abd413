-- Steps and runs keep the order of transactions.
use Rattle.std.proofs.Common.{◌≡◌, ℕ, zero, suc, true, false, List, refl, sym, subst, arith, inl, inr, Option, Some, None, Ok}
use Rattle.jc_transient.specs.declared.cell.CellValue.{CellValue}
use Rattle.jc_transient.specs.declared.cell.CellValue.TheVariants.{Short}
use Rattle.jc_transient.specs.declared.cell.ClearEvent.{ClearEvent}
use Rattle.jc_heap.specs.Heap.{facts}
use Rattle.jc_memory.specs.declared.making.NewObject.{NewObject}
use Rattle.jc_transient.specs.declared.owner.PackageNumber.{PackageNumber}
use Rattle.jc_memory.specs.Cells.{cell_effect_in, cells_effect_in}
use Rattle.jc_memory.specs.Changes.{nonatomic_store}
use Rattle.jc_memory.specs.Making.{creation_move}
use Rattle.jc_memory.specs.Programs.{Program}
use Rattle.jc_memory.specs.Reading.{AllDue}
use Rattle.jc_memory.specs.State.{MemoryState, HeapMove, SetFlag, apply_effect}
use Rattle.jc_memory.proofs.ProgramLemmas.{due_bind, each_always}
use Rattle.jc_linker.specs.Values.{Packages}
use Rattle.jc_platform.specs.declared.names.PlatformMethod.{PlatformMethod}
use Rattle.jc_frames.specs.declared.cell.Cell.{Cell}
use Rattle.jc_frames.specs.declared.outcome.Outcome.{Outcome}
use Rattle.jc_frames.specs.Frames.{Frames, Next, GoesOn, Throws, Ends}
use Rattle.jc_api_framework.specs.Aid.Cells.{cells_of_aid}
use Rattle.jc_interp.specs.declared.attacks.Attack.{Attack}
use Rattle.jc_interp.specs.Attacks.{attacked, attacked_step, step_from}
use Rattle.jc_interp.specs.Run.{or_end, run_of}
use Rattle.jc_interp.specs.Step.{machine_step}
use Rattle.jc_api_framework.proofs.AppletCalls.Registering.{Registering}
use Rattle.jc_api_framework.proofs.Passing.{Bears, MethodPasses, RegistersSo}
use Rattle.jc_world.specs.Answers.{and_then}
use Rattle.jc_api.specs.Factory.{engine_creation, state_array}
use Rattle.jc_api.specs.Pairing.{named_in, pair_words}
use Rattle.jc_api.specs.declared.pairing.NamedObject.{NamedObject}
use Rattle.jc_api.specs.declared.pairing.NamedObject.TheVariants.{Argument, New}
use Rattle.jc_api.proofs.Due.{Anything}
use Rattle.jc_api_pairs.proofs.PairingCalls.{NamesSo}
use Rattle.jc_api_pairs.proofs.PairForms.{FormsPass, of_forms}
use Rattle.jc_interp.proofs.Calls.{method_due}
use Rattle.law_code.proofs.Bytes.{store_due}
use Rattle.law_code.proofs.EffectConditions.{ArraysPass, FieldsPass}
use Rattle.law_code.proofs.Walk.{step_due}
use Rattle.law_code.specs.Orderly.{KeepsTransactionOrder}
use Rattle.law_code.proofs.TransactionPins.{pin_counted, pin_flagged}

-- effects that set no cells
bears : Bears KeepsTransactionOrder (λ m. Unit {0})
bears = record {
  keeps = λ e m due so. tt;
  turns = λ g m so active installation selected. tt;
  begins = λ m so off. off;
  commits = λ m so on none. on;
  aborts = λ m on. on;
  sends = λ bytes m. tt;
}

module _ (m : MemoryState) where
  cell_orderly : (event : Option ClearEvent) (r i : ℕ) (v : CellValue) → KeepsTransactionOrder (cell_effect_in event r i v) m
  cell_orderly None r i v = tt
  cell_orderly (Some event) r i v = tt

  pub cells_orderly : (event : Option ClearEvent) (r i : ℕ) (words : List ℕ) → KeepsTransactionOrder (cells_effect_in event r i words) m
  cells_orderly None r i words = tt
  cells_orderly (Some event) r i words = tt

  made_orderly : (event : Option ClearEvent) (o : NewObject) → KeepsTransactionOrder (HeapMove (creation_move event o)) m
  made_orderly None o = tt
  made_orderly (Some event) o = tt

module _ (p : Packages) (m : MemoryState) where
  fields_pass : FieldsPass KeepsTransactionOrder p m
  fields_pass = record {
    field = λ of_type number index r i field cells v k taken kept named cell. cell_orderly m (facts m.heap.now r).event r i k;
    word = λ of_type number index field cells v k w x taken kept named there whole. tt;
    halves = λ of_type number index field w behind x y named there odd next. tt;
  }

  arrays_pass : ArraysPass KeepsTransactionOrder p m
  arrays_pass = record {
    element = λ of_type r f e cells v k w taken kept array inside fits. cell_orderly m (facts m.heap.now r).event r e.index w;
    numbers = λ of_type n r new. tt;
    references = λ number index class n named r new. tt;
  }

  method_passes : (method : PlatformMethod) (args : List Cell) → MethodPasses KeepsTransactionOrder method args p m
  method_passes method args = record {
    calls = record {
      reason = λ part sets own v is long. cell_orderly m (facts m.heap.now own).event own 0 (Short v);
      stretch = λ r count e words is long. cells_orderly m (facts m.heap.now e.array).event e.array e.start words;
      bytes = λ r count e words is long kind.
          let w = is.within in
          subst (λ a. AllDue KeepsTransactionOrder (nonatomic_store m a e.start words) m) (sym is.array)
          (store_due KeepsTransactionOrder r (λ i x v element. inr element) words e.start m kind (omega (arith, w, long)) tt);
      behind = λ q n e bytes is long r count s words event state kept all. tt;
      transient = λ o is room r new. made_orderly m o.event o;
      engine = λ e has there space room array new. (made_orderly m e.event _, λ r other. (tt, (tt, (tt, tt))));
      initial = λ a own is r count s words event state kept all. (cells_orderly m (facts m.heap.now own).event own a.start _, tt);
    };
    aid = λ init own bytes is long fine. cells_orderly m (facts m.heap.now own).event own 0 (cells_of_aid bytes);
    buffer = λ r at words is fits. cells_orderly m (facts m.heap.now r).event r at words;
    starts = λ pin is limit maximum value new. (tt, (tt, (tt, tt)));
    flags = λ pin is flag v. tt;
    counts = λ pin is n. inl (pin, refl, pin_flagged m pin false is.is);
    refills = λ pin is n limit. inl (pin, refl, pin_counted (apply_effect (SetFlag pin false) m) pin n (pin_flagged m pin false is.is));
    updates = λ pin is bytes owned short. tt;
  }

  -- so it is of an object that is to be named, where it is so of whatever follows
  named_orderly : (args : List Cell) (K : ℕ → MemoryState → Type 0) (object : NamedObject) (n : MemoryState) → ((r : ℕ) (v : MemoryState) → K r v)
      → NamesSo KeepsTransactionOrder K args p object n
  named_orderly args K (Argument i) n so = λ r is. so r n
  named_orderly args K (New e) n so = λ has there space room. (
    (λ array new. (made_orderly n e.event (state_array e n), λ r other. (tt, (tt, (tt, tt))))),
    each_always (λ answer v. (r : ℕ) → and_then answer named_in ≡ Ok r → K r v) (λ answer v r named. so r v) (engine_creation e p n) n,
  )

  forms_pass : (method : PlatformMethod) (args : List Cell) → FormsPass KeepsTransactionOrder Anything method args p m
  forms_pass method args = record {
    places = λ cs are. tt;
    after = λ cs are e bytes is event kept. tt;
    names = λ sets a pairs zero. named_orderly args _ a.first m (λ first v. named_orderly args _ a.second v (λ second w own is.
        cells_orderly w (facts w.heap.now own).event own 0 (pair_words a.number first second)));
    named = λ class pairs i own few is event. tt;
  }

  registers : (method : PlatformMethod) (args : List Cell) → RegistersSo KeepsTransactionOrder (λ a v. Unit {0}) method args p m
  registers method args = record {
    own = λ is aid instance own there k may r new. registering may.begun;
    given = λ is e instance own fine k may r new. registering may.begun;
  }
    where
      registering : {aid : List ℕ} {instance : ℕ} {k : PackageNumber} {r : ℕ} → m.heap.begun ≡ true
          → Registering KeepsTransactionOrder (λ a v. Unit {0}) p m aid instance k r
      registering on = record { makes = tt; sets = tt; enters = tt; commits = on; turns = tt; follows = tt }

pub step_orderly : (lent : List ℕ) (p : Packages) (s : Frames) (m : MemoryState) → AllDue KeepsTransactionOrder (machine_step lent p s m) m
step_orderly lent p s m = step_due KeepsTransactionOrder lent p s m (record {
  fields = fields_pass p m;
  arrays = arrays_pass p m;
  instances = λ number index class n made few r new. tt;
  turns = λ g n. tt;
  reasons = λ r v n own some. tt;
  calls = λ c method args called is are. method_due KeepsTransactionOrder (λ m. Unit {0}) bears args p m tt method (method_passes p m method args)
      (of_forms p m KeepsTransactionOrder Anything method args (forms_pass p m method args))
      (registers p m method args);
})

goes_orderly : (left : ℕ) (next : Next Frames) (more : Frames → Program (ℕ × Outcome)) (m : MemoryState)
    → ((s : Frames) → AllDue KeepsTransactionOrder (more s) m) → AllDue KeepsTransactionOrder (or_end left next more) m
goes_orderly left (GoesOn s) more m due = due s
goes_orderly left (Throws e s) more m due = tt
goes_orderly left (Ends o) more m due = tt

-- a step from the frames that a fault left
from_orderly : (next : Next Frames) (lent : List ℕ) (p : Packages) (m : MemoryState) → AllDue KeepsTransactionOrder (step_from next lent p m) m
from_orderly (GoesOn s) lent p m = step_orderly lent p s m
from_orderly (Throws e s) lent p m = tt
from_orderly (Ends o) lent p m = tt

pub run_orderly : (attack : Option Attack) (budget : ℕ) (lent : List ℕ) (p : Packages) (s : Frames) (m : MemoryState)
    → AllDue KeepsTransactionOrder (run_of attack budget lent p s m) m
unfolding run_of
run_orderly attack zero lent p s m = tt
run_orderly attack (suc n) lent p s m =
    let step = attacked_step attack (suc n) lent p s m in
    due_bind KeepsTransactionOrder (λ next v. or_end n next (λ t. run_of attack n lent p t v)) step m
    (from_orderly (attacked attack (suc n) lent p s) lent p m)
    (each_always _ (λ next v. goes_orderly n next (λ t. run_of attack n lent p t v) v (λ t. run_orderly attack n lent p t v)) step m)
