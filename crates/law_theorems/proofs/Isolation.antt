-- Contexts stay isolated over whole commands.
use Rattle.std.proofs.Common.{◌≡◌, ℕ, zero, suc, List, [], ◌∷◌, ◌++◌, inl, inr, refl, sym, subst}
use Rattle.jc_heap.specs.Moves.{AddPackage, Abort}
use Rattle.jc_frames.specs.Frames.{Frames, GoesOn, Next}
use Rattle.jc_memory.specs.State.{MemoryState, Effect, HeapMove, ClearTransient, SetRegisters, BeginCommand, apply_effect, apply_effects}
use Rattle.jc_memory.specs.Reading.{AllDue, AllEffectsDue, HasTrace}
use Rattle.jc_memory.proofs.ProgramLemmas.{due_before, due_taken}
use Rattle.jc_linker.specs.Values.{Packages}
use Rattle.jc_platform.specs.Tokens.{Tokens}
use Rattle.jc_interp.specs.Step.{machine_step}
use Rattle.jc_card.specs.Answers.{exchange}
use Rattle.jc_card.specs.Card.{CardState}
use Rattle.jc_card.specs.State.Power.{Up}
use Rattle.law_code.specs.IsolationLaws.Runs.{RunStepsWithin, RunsOutside}
use Rattle.law_code.specs.IsolationLaws.SparingEffects.{AreQuiet, IsQuiet, IsSet}
use Rattle.law_code.specs.IsolationLaws.Steps.{NamesStatics}
use Rattle.law_code.proofs.Runs.{isolated}
use Rattle.law_soundness.specs.MachineLaws.Commands.{IsServed}
use Rattle.law_soundness.specs.MemoryLaws.Environment.{HasEnvironment}
use Rattle.law_soundness.specs.MemoryLaws.State.{IsSoundMemory}
use Rattle.law_soundness.specs.MachineLaws.OwnerSwitches.{IsOfStep}
use Rattle.law_soundness.proofs.Causes.{causes}
use Rattle.law_soundness.proofs.CommandEffects.{serving_keeps}
use Rattle.law_theorems.specs.Cards.{IsOwnCard}
use Rattle.law_theorems.proofs.Sessions.{linked_known}
use Rattle.law_theorems.specs.Outcomes.{AddNone, ComesWithin, memory_at}
use Rattle.law_theorems.specs.SessionTheorems.Isolation.{RunsApart, StayApart, StaysApart, StepsApart}
use Rattle.law_theorems.proofs.Prefixes.{due_all}
use Rattle.law_theorems.proofs.ServedEffects.{AddsPackage, IsFine, commands_fine}
use Rattle.law_theorems.proofs.CardsAtRest.{comes_own}
use Rattle.law_code.proofs.AtomicEffects.{due_begun}

none_added : (es : List Effect) (m : MemoryState) → AllEffectsDue AddsPackage es m → AddNone es → es ≡ []
none_added [] m due none = refl
none_added (HeapMove (AddPackage components arrays image) ∷ es) m due none = absurd none
none_added (e ∷ es) m due none = absurd due.0

set_of : (p : Packages) (m : MemoryState) → IsSoundMemory p m → IsSet m
set_of p m sound = record {
  whole = sound.whole.now.whole;
  applets = sound.registry;
  sizes = sound.transients.sizes;
  fits = sound.transients.fits;
}

statics_of : (t : Tokens) (card : CardState) → IsOwnCard t card → NamesStatics card.packages
statics_of t card own number index class method target = ((linked_known card.packages own.linked).classes.receivers.statically number index class method target).1

-- the memory is sound there, and the environment's objects are
abbrev pub IsWell : Packages → MemoryState → Type 0
IsWell p m = IsSoundMemory p m × HasEnvironment p m

module _ (t : Tokens) (card : CardState) (bytes : List ℕ) (es : List Effect) (comes : ComesWithin t card bytes es) (none : AddNone es) where
  own : IsOwnCard t card
  own = comes_own t (Up card) comes.comes

  due : (P : Effect → MemoryState → Type 0) → AllDue P (exchange bytes card) card.memory → AllEffectsDue P es card.memory
  due P all = due_begun P (exchange bytes card) card.memory es all comes.begins

  well : IsFine card.packages (exchange bytes card) card.memory → IsWell card.packages (memory_at card es)
  well (inl served) = due_all (IsServed card.packages) (IsWell card.packages) (λ e v fits w.
      (serving_keeps.sound card.packages e v fits w.0, serving_keeps.environment card.packages e v fits w.0 w.1)) es card.memory
      (due (IsServed card.packages) served) (own.ready.sound, own.ready.environment)
  well (inr adds) = subst (λ l. IsWell card.packages (memory_at card l)) (sym (none_added es card.memory (due AddsPackage adds) none))
      (own.ready.sound, own.ready.environment)

  pub is_well : IsWell card.packages (memory_at card es)
  is_well = well (commands_fine t card own bytes comes.are)

  is_set : IsSet (memory_at card es)
  is_set = set_of card.packages (memory_at card es) is_well.0

-- ---- steps that stay apart are quiet

module _ (lent : List ℕ) (p : Packages) (s : Frames) (m : MemoryState) where
  quiet : (e : Effect) (n : MemoryState) → IsOfStep lent p s m e n → StaysApart lent p s m e n → IsQuiet e n
  quiet (HeapMove Abort) n does apart = apart
  quiet (HeapMove move) n does apart = tt
  quiet (SetRegisters g) n does apart = (elim does.0 [ inl same ↦ same | inr cause ↦ apart cause ], does.1)
  quiet (ClearTransient event) n does apart = does
  quiet (BeginCommand bytes) n does apart = does
  quiet _ n does apart = tt

  are_quiet : (es : List Effect) (n : MemoryState) → AllEffectsDue (IsOfStep lent p s m) es n → AllEffectsDue (StaysApart lent p s m) es n → AreQuiet es n
  are_quiet [] n does apart = tt
  are_quiet (e ∷ es) n does apart = (quiet e n does.0 apart.0, are_quiet es (apply_effect e n) does.1 apart.1)

  step_does : (es : List Effect) (next : Next Frames) → HasTrace (machine_step lent p s m) m es next → AllEffectsDue (IsOfStep lent p s m) es m
  step_does es next trace = due_taken (IsOfStep lent p s m) (machine_step lent p s m) m es next (causes.each lent p s m) trace

steps_within : (k : ℕ) (lent : List ℕ) (p : Packages) (s u : Frames) (m n : MemoryState) → StepsApart k lent p s m u n → RunStepsWithin k lent p s m u n
steps_within zero lent p s u m n steps = steps
steps_within (suc k) lent p s u m n steps =
    let es = steps.0 in
    let v = steps.1 in
    let t = steps.2 in (
      es,
      v,
      t,
      steps.3,
      steps.4,
      are_quiet lent p v m es m (step_does lent p v m es (GoesOn t) steps.4) steps.5,
      steps.6,
      steps_within k lent p t u (apply_effects es m) n steps.7,
    )

runs_outside : (t : Tokens) (card : CardState) (bytes : List ℕ) (es : List Effect) (q k : ℕ) (lent : List ℕ) (s u : Frames) (n : MemoryState)
    → RunsApart t card bytes es q k lent s u n → RunsOutside k q lent card.packages s (memory_at card es) u n
runs_outside t card bytes es q k lent s u n runs = record {
  statics = statics_of t card (comes_own t (Up card) runs.comes.comes);
  set = is_set t card bytes es runs.comes runs.same;
  outside = runs.outside;
  steps = steps_within k lent card.packages s u (memory_at card es) n runs.steps;
}

pub apart : StayApart
apart = record {
  ran = λ t card bytes es q k lent s u n runs.
      isolated.ran k q lent card.packages s (memory_at card es) u n (runs_outside t card bytes es q k lent s u n runs);
  ends = λ t card bytes es q k lent s u n runs during after next takes stays apart.
      isolated.ends k q lent card.packages s (memory_at card es) u n (runs_outside t card bytes es q k lent s u n runs) during after next takes stays
      (are_quiet lent card.packages u n during n (due_before (IsOfStep lent card.packages u n) during after n
      (step_does lent card.packages u n (during ++ after) next takes)) apart);
  switches = causes;
}
