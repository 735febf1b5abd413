-- What is done without a change of the registry, the transaction, the installation or the owner for whom code runs.
use Rattle.std.proofs.Common.{◌≡◌, ℕ, suc, List, [], ◌∷◌, ◌++◌, Option, Some, None, refl, sym, subst, arith}
use Rattle.jc_transient.specs.declared.cell.CellValue.{CellValue}
use Rattle.jc_transient.specs.declared.cell.CellValue.TheVariants.{Short}
use Rattle.jc_transient.specs.declared.cell.ClearEvent.{ClearEvent}
use Rattle.jc_heap.specs.declared.place.Place.{Place}
use Rattle.jc_heap.specs.Heap.{facts}
use Rattle.jc_heap.specs.Place.{cell_changes}
use Rattle.jc_heap.specs.WholeHeap.{IsReference}
use Rattle.jc_frames.specs.declared.cell.Cell.{Cell}
use Rattle.jc_memory.specs.declared.making.NewObject.{NewObject}
use Rattle.jc_memory.specs.Cells.{cell_effect_in, cells_effect_in}
use Rattle.jc_memory.specs.Changes.{nonatomic_store}
use Rattle.jc_memory.specs.Making.{creation_move}
use Rattle.jc_memory.specs.Reading.{AllDue}
use Rattle.jc_memory.specs.State.{MemoryState, Effect, HeapMove, apply_effect}
use Rattle.jc_linker.specs.Values.{Packages}
use Rattle.jc_environment.specs.Pins.{record_of}
use Rattle.jc_platform.specs.declared.names.PlatformMethod.{PlatformMethod}
use Rattle.jc_api_framework.specs.Aid.Cells.{cells_of_aid}
use Rattle.law_code.proofs.Bytes.{store_due}
use Rattle.jc_api.specs.Factory.{state_array}
use Rattle.jc_api.specs.Initializing.{words_given}
use Rattle.jc_api.proofs.Passing.{Turns}
use Rattle.jc_api_framework.proofs.Passing.{MethodPasses}
use Rattle.law_code.proofs.EffectConditions.{ArraysPass, FieldsPass, InstancesPass}
use Rattle.law_soundness.specs.MachineLaws.LocalEffects.{AreElsewhere, IsLocalEffect}

-- an effect is local, and after it code runs for the same owner
abbrev pub IsStill : Effect → MemoryState → Type 0
IsStill e m = IsLocalEffect e m × ((apply_effect e m).registers.active ≡ m.registers.active)

-- a reference is null or names an object of a memory
abbrev pub Lives : MemoryState → ℕ → Type 0
Lives m = IsReference m.heap.now

pub still_turns : Turns IsStill (λ m. Unit {0})
still_turns = record { keeps = λ e m still so. tt; turns = λ g m so active installation selected. (installation, active); sends = λ bytes m. (tt, refl) }

pub cells_elsewhere : (bytes : List ℕ) (array i : ℕ) (cs : List (Place × ℕ)) → AreElsewhere cs → AreElsewhere (cell_changes array i bytes ++ cs)
cells_elsewhere [] array i cs rest = rest
cells_elsewhere (b ∷ bytes) array i cs rest = (tt, cells_elsewhere bytes array (suc i) cs rest)

module _ (m : MemoryState) where
  set_still : (event : Option ClearEvent) (r i : ℕ) (v : CellValue) → IsStill (cell_effect_in event r i v) m
  set_still None r i v = (tt, refl)
  set_still (Some event) r i v = (tt, refl)

  pub run_still : (event : Option ClearEvent) (r i : ℕ) (words : List ℕ) → IsStill (cells_effect_in event r i words) m
  run_still None r i words = (tt, refl)
  run_still (Some event) r i words = (tt, refl)

  pub made_still : (event : Option ClearEvent) (o : NewObject) → IsStill (HeapMove (creation_move event o)) m
  made_still None o = (tt, refl)
  made_still (Some event) o = (tt, refl)

  -- what methods set is still
  pub still_passes : (method : PlatformMethod) (args : List Cell) (p : Packages) → MethodPasses IsStill method args p m
  still_passes method args p = record {
    calls = record {
      reason = λ part sets own v is long. set_still (facts m.heap.now own).event own 0 (Short v);
      stretch = λ r count e words is long. run_still (facts m.heap.now e.array).event e.array e.start words;
      bytes = λ r count e words is long kind.
          let w = is.within in
          subst (λ a. AllDue IsStill (nonatomic_store m a e.start words) m) (sym is.array)
          (store_due IsStill r (λ i x v element. (tt, refl)) words e.start m kind (omega (arith, w, long)) (tt, refl));
      behind = λ q n e bytes is long r count s words event state kept all. (tt, refl);
      transient = λ o is room r new. made_still o.event o;
      engine = λ e has there space room array new. (made_still e.event (state_array e m), λ r other. ((tt, refl), ((tt, refl), ((tt, refl), tt))));
      initial = λ a own is r count s words event state kept all. (run_still (facts m.heap.now own).event own a.start (words_given args a.values), (tt, refl));
    };
    aid = λ init own bytes is long fine. run_still (facts m.heap.now own).event own 0 (cells_of_aid bytes);
    buffer = λ r at words is fits. run_still (facts m.heap.now r).event r at words;
    starts = λ pin is limit maximum value new. ((tt, refl), (((tt, (tt, (tt, (tt, (tt, tt))))), refl), ((tt, refl), tt)));
    flags = λ pin is flag v. (tt, refl);
    counts = λ pin is n. (tt, refl);
    refills = λ pin is n limit. (tt, refl);
    updates = λ pin is bytes owned short. (cells_elsewhere bytes (record_of m pin).value 0 _ (tt, (tt, tt)), refl);
  }

  -- so is what instructions set, and make
  pub still_fields : (p : Packages) → FieldsPass IsStill p m
  still_fields p = record {
    field = λ of_type number index r i field cells v k taken kept named cell. set_still (facts m.heap.now r).event r i k;
    word = λ of_type number index field cells v k w x taken kept named there whole. (tt, refl);
    halves = λ of_type number index field w behind x y named there odd next. ((tt, (tt, tt)), refl);
  }

  pub still_arrays : (p : Packages) → ArraysPass IsStill p m
  still_arrays p = record {
    element = λ of_type r f e cells v k w taken kept array inside fits. set_still (facts m.heap.now r).event r e.index w;
    numbers = λ of_type n r new. (tt, refl);
    references = λ number index class n named r new. (tt, refl);
  }

  pub still_instances : (p : Packages) → InstancesPass IsStill p m
  still_instances p number index class n made few r new = (tt, refl)
