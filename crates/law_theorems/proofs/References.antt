-- No reference names what is not there.
use Rattle.std.proofs.Common.{◌≡◌, ℕ, zero, suc, Bool, true, false, inl, inr, List, Option, Err, refl, sym, subst, arith, if◌then◌else◌}
use Rattle.std.proofs.lemmas.Bool.{eqb-false, false≢true}
use Rattle.std.specs.Prelude.{◌==◌, Some, None}
use Rattle.jc_heap.specs.declared.object.Facts.{Facts}
use Rattle.jc_heap.specs.Heap.{facts, heap_item_at}
use Rattle.jc_heap.specs.Object.{is_object}
use Rattle.jc_heap.specs.WholeHeap.{IsReference}
use Rattle.jc_frames.specs.declared.exceptions.Exception.TheVariants.{NullPointerException}
use Rattle.jc_frames.specs.declared.outcome.FrameExit.TheVariants.{End, Throw}
use Rattle.jc_frames.specs.declared.outcome.Outcome.TheVariants.{Fault}
use Rattle.jc_frames.specs.Frames.{Ends, Frames, GoesOn, Next}
use Rattle.jc_memory.specs.Reading.{HasTrace}
use Rattle.jc_memory.specs.State.{MemoryState, Effect, apply_effects}
use Rattle.jc_memory.proofs.ProgramLemmas.{each_did, taken_did}
use Rattle.jc_linker.specs.Values.{Packages}
use Rattle.jc_platform.specs.Tokens.{Tokens}
use Rattle.jc_world.specs.Objects.{object_at, some_or_fault}
use Rattle.jc_interp.specs.declared.attacks.Attack.{Attack}
use Rattle.jc_interp.specs.Attacks.{attacked_step}
use Rattle.jc_card.specs.Card.{CardState}
use Rattle.jc_card.specs.State.Power.{Up}
use Rattle.law_code.specs.IsolationLaws.Runs.{RunSteps}
use Rattle.law_soundness.specs.MemoryLaws.Environment.{HasEnvironment}
use Rattle.law_soundness.specs.LivingReferences.{AreLivingCallers, AreLivingFrames}
use Rattle.law_soundness.specs.Machines.{IsSoundMachine, KnowOwners}
use Rattle.law_soundness.specs.MachineLaws.Soundness.{AreKnown, IsSoundNext}
use Rattle.law_soundness.specs.References.{EndsLiving, HandsObjects, MayBegin, NamesObjects}
use Rattle.law_soundness.specs.MemoryLaws.State.{IsSoundMemory}
use Rattle.law_soundness.proofs.Loads.{element_refers}
use Rattle.law_soundness.proofs.RegistryEntries.{instance_refers}
use Rattle.law_soundness.proofs.RunObjects.{kept_behind}
use Rattle.law_soundness.proofs.StepLaws.{given}
use Rattle.law_soundness.proofs.StepsAndRuns.{steps_sound}
use Rattle.law_soundness.proofs.Transients.{names_object}
use Rattle.law_theorems.proofs.Sessions.{linked_known}
use Rattle.law_theorems.specs.Outcomes.{AddNone, ComesWithin, memory_at}
use Rattle.law_theorems.specs.SessionTheorems.References.{ReferencesNameObjects, RunsFrom}
use Rattle.law_theorems.proofs.CardsAtRest.{comes_own}
use Rattle.law_theorems.proofs.TransientCells.{name_what_is_there}
use Rattle.law_theorems.proofs.Isolation.{IsWell, is_well}

named : (p : Packages) (m : MemoryState) → IsSoundMemory p m → NamesObjects p m
named p m sound = record {
  elements = λ r i kind within. element_refers p m sound r i (facts m.heap.now r).event refl kind within;
  fields = λ r i there kept within refers. names_object m.heap.now _
      ((((sound.now.objects r (kept_behind p m sound r there kept) there).values kept).references) i within refers);
  statics = sound.now.statics;
}

handed : (p : Packages) (m : MemoryState) → IsSoundMemory p m → HasEnvironment p m → HandsObjects m
handed p m sound environment = record {
  instances = instance_refers p m sound;
  object = inr (environment.now.there 15 (omega (arith, environment.now.long)));
  buffer = inr (environment.now.there 16 (omega (arith, environment.now.long)));
}

-- ---- steps

module _ (p : Packages) (known : AreKnown p) (lent : List ℕ) where
  step_leads : (attack : Option Attack) (left : ℕ) (s : Frames) (m : MemoryState) → IsSoundMachine p s m → (es : List Effect) (next : Next Frames)
      → HasTrace (attacked_step attack left lent p s m) m es next → IsSoundNext p next (apply_effects es m)
  step_leads attack left s m machine es next trace =
      let step = attacked_step attack left lent p s m in
      each_did (IsSoundNext p) step m (apply_effects es m) next ((steps_sound given).next attack left lent p s m known machine)
      (taken_did step m es next trace)

  steps_lead : (attack : Option Attack) (k left : ℕ) (s u : Frames) (m n : MemoryState) → IsSoundMachine p s m → RunSteps attack k left lent p s m u n
      → IsSoundMachine p u n
  steps_lead attack zero left s u m n machine steps =
      subst (λ v. IsSoundMachine p u v) (sym steps.1) (subst (λ f. IsSoundMachine p f m) (sym steps.0) machine)
  steps_lead attack (suc k) zero s u m n machine steps = absurd steps
  steps_lead attack (suc k) (suc left) s u m n machine steps =
      let es = steps.0 in
      let t = steps.1 in
      steps_lead attack k left t u (apply_effects es m) n (step_leads attack (suc left) s m machine es (GoesOn t) steps.2) steps.3

-- ---- at a moment of a command

module _ (t : Tokens) (card : CardState) (bytes : List ℕ) (es : List Effect) (comes : ComesWithin t card bytes es) (none : AddNone es) where
  well : IsWell card.packages (memory_at card es)
  well = is_well t card bytes es comes none

  begun : (s : Frames) → MayBegin s (memory_at card es) → IsSoundMachine card.packages s (memory_at card es)
  begun s may = record {
    sound = well.0;
    steady = may.steady;
    callers = subst (λ c. KnowOwners c (memory_at card es)) (sym may.first) tt;
    environment = well.1;
    code = may.owner;
    living = record { current = may.living; callers = subst (AreLivingCallers (memory_at card es).heap.now) (sym may.first) tt };
  }

  known_at : AreKnown card.packages
  known_at = linked_known card.packages (comes_own t (Up card) comes.comes).linked

led : (t : Tokens) (card : CardState) (bytes : List ℕ) (es : List Effect) (k : ℕ) (lent : List ℕ) (s u : Frames) (n : MemoryState)
    → RunsFrom t card bytes es k lent s u n → IsSoundMachine card.packages u n
led t card bytes es k lent s u n runs =
    steps_lead card.packages (known_at t card bytes es runs.comes runs.same) lent runs.attack k runs.left s u (memory_at card es) n
    (begun t card bytes es runs.comes runs.same s runs.begins) runs.steps

ran : (t : Tokens) (card : CardState) (bytes : List ℕ) (es : List Effect) (k : ℕ) (lent : List ℕ) (s u : Frames) (n : MemoryState)
    → RunsFrom t card bytes es k lent s u n → AreLivingFrames n.heap.now u × NamesObjects card.packages n × EndsLiving lent card.packages u n
ran t card bytes es k lent s u n runs =
    let last = led t card bytes es k lent s u n runs in (
      last.living,
      named card.packages n last.sound,
      λ attack left during o trace.
          step_leads card.packages (known_at t card bytes es runs.comes runs.same) lent attack left u n last during (Ends o) trace,
    )

-- ---- an object that a reference names is found

module _ (m : MemoryState) (r : ℕ) where
  header_found : (b : Bool) (f : Facts) → b ≡ true → some_or_fault (if b then Some f else None) ≡ Err (End Fault) → ⊥
  header_found true f there fault = cc
  header_found false f there fault = false≢true there

  object_found : (b : Bool) → (r == 0) ≡ b → IsReference m.heap.now r → (if b then Err (Throw NullPointerException) else some_or_fault
      (if is_object (heap_item_at m.heap.now r) then Some (facts m.heap.now r) else None)) ≡ Err (End Fault) → ⊥
  object_found true is refers fault = cc
  object_found false is (inl null) fault = eqb-false r 0 is null
  object_found false is (inr there) fault = header_found (is_object (heap_item_at m.heap.now r)) (facts m.heap.now r) there fault

  is_found : IsReference m.heap.now r → object_at m r ≡ Err (End Fault) → ⊥
  unfolding object_at
  is_found refers fault = object_found (r == 0) refl refers fault

pub name_objects : ReferencesNameObjects
name_objects = record {
  transients = name_what_is_there;
  memory = λ t card bytes es comes none.
      let w = is_well t card bytes es comes none in
      (named card.packages (memory_at card es) w.0, handed card.packages (memory_at card es) w.0 w.1);
  frames = ran;
  found = is_found;
}
