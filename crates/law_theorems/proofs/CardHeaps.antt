-- The heap that a loss of power leaves of a card.
use Rattle.std.proofs.Common.{◌≡◌, ℕ, length, sym, ◌∙◌, ap, subst, arith}
use Rattle.jc_heap.specs.Heap.{HeapState, heap_item_at}
use Rattle.jc_heap.proofs.Laws.{same_facts}
use Rattle.jc_memory.specs.State.{MemoryState, Effect, HeapMove, SetTransient, SetFlag, ClearTransient, SetRegisters, BeginCommand, SendBytes}
use Rattle.jc_memory.specs.State.{apply_effect}
use Rattle.jc_linker.specs.Values.{Packages}
use Rattle.jc_platform.specs.Tokens.{Tokens}
use Rattle.jc_environment.specs.Objects.{last_of}
use Rattle.jc_card.specs.Fixed.{last_fixed}
use Rattle.jc_card.proofs.Objects.{last_numbered}
use Rattle.jc_packages.specs.Objects.{is_persistent_instance}
use Rattle.law_soundness.specs.StableReading.{IsReadAs}
use Rattle.law_soundness.proofs.ReadingEffects.{keeps_reading}
use Rattle.law_soundness.specs.MemoryLaws.Environment.{HasEnvironment, AreEnvironmentObjects}
use Rattle.law_soundness.specs.MemoryLaws.State.{IsSoundMemory, IsSoundUpTo, last_own}
use Rattle.law_soundness.proofs.Frames.{same_object}
use Rattle.law_soundness.specs.MachineLaws.Commands.{IsServed}
use Rattle.law_soundness.proofs.CommandEffects.{serving_keeps}
use Rattle.law_soundness.specs.Loads.{AreLaidOut, IsLaidOut}
use Rattle.law_theorems.proofs.HeapLayout.{effects_keep_layout}
use Rattle.law_theorems.specs.Heaps.{IsOwnHeap}
use Rattle.law_theorems.specs.NewImages.{EffectsKeepBeginnings, KeepsBeginning}

-- the heap that a loss of power leaves
pub record IsLeft (n : ℕ) (t : Tokens) (p : Packages) (h : HeapState) : Type 0 where
  pub heap : IsOwnHeap n t p h
  pub layout : IsLaidOut h

-- what each effect of a command leaves so
pub record IsOwnMemory (n : ℕ) (t : Tokens) (p : Packages) (m : MemoryState) : Type 0 where
  pub sound : IsSoundMemory p m
  pub environment : HasEnvironment p m
  pub reading : IsReadAs t p m
  pub beginning : KeepsBeginning n t m
  pub layout : AreLaidOut m

-- a heap states the number of words of its image
pub own_at : (n : ℕ) (t : Tokens) (p : Packages) (h : HeapState) → IsOwnHeap n t p h → IsOwnHeap h.head.1 t p h
own_at n t p h own = subst (λ k. IsOwnHeap k t p h) (sym (ap (λ (x : ℕ × ℕ). x.1) own.beginning.head)) own

pub keeps_at : (n : ℕ) (t : Tokens) (m : MemoryState) → KeepsBeginning n t m → KeepsBeginning m.heap.durable.head.1 t m
keeps_at n t m keeps = subst (λ k. KeepsBeginning k t m) (sym (ap (λ (x : ℕ × ℕ). x.1) keeps.durable.head)) keeps

read_served : (t : Tokens) (p : Packages) (e : Effect) (m : MemoryState) → IsServed p e m → IsSoundMemory p m → IsReadAs t p m → IsReadAs t p (apply_effect e m)
read_served t p (HeapMove move) m due s r = keeps_reading t p (HeapMove move) m due s r
read_served t p (SetTransient q i values) m due s r = keeps_reading t p (SetTransient q i values) m due s r
read_served t p (SetFlag q flag) m due s r = keeps_reading t p (SetFlag q flag) m due s r
read_served t p (ClearTransient event) m due s r = keeps_reading t p (ClearTransient event) m due s r
read_served t p (SetRegisters g) m due s r = record { now = r.now; durable = r.durable }
read_served t p (BeginCommand bytes) m due s r = keeps_reading t p (BeginCommand bytes) m due s r
read_served t p (SendBytes bytes) m due s r = keeps_reading t p (SendBytes bytes) m due s r

pub still_own : EffectsKeepBeginnings → (n : ℕ) (t : Tokens) (p : Packages) (e : Effect) (m : MemoryState) → IsServed p e m → IsOwnMemory n t p m
    → IsOwnMemory n t p (apply_effect e m)
still_own begins n t p e m due o = record {
  sound = serving_keeps.sound p e m due o.sound;
  environment = serving_keeps.environment p e m due o.sound o.environment;
  reading = read_served t p e m due o.sound o.reading;
  beginning = begins n t e m o.beginning;
  layout = effects_keep_layout p e m due o.sound o.layout;
}

module _ (n : ℕ) (t : Tokens) (p : Packages) (m : MemoryState) (o : IsOwnMemory n t p m) where
  last_is : last_own m ≡ last_fixed t m.heap.durable
  last_is = ap last_of o.beginning.fixed ∙ last_numbered t m.heap.durable

  durable_own : IsOwnHeap n t p m.heap.durable
  durable_own = record {
    beginning = o.beginning.durable;
    packages = o.reading.durable;
    stands = o.sound.whole.durable;
    registry = o.sound.registry_kept;
    loaded = ap length (sym o.sound.packages) ∙ o.sound.loaded;
    fits = subst (IsSoundUpTo m.heap.durable.counts.1 p m.heap.durable) last_is o.sound.durable;
    environment = subst (AreEnvironmentObjects p m.heap.durable) o.beginning.fixed o.environment.durable;
    behind = let a = o.sound.behind in let b = last_is in omega (arith, a, b);
    own = λ r low there.
        let a = o.sound.behind in let b = last_is in let same = o.sound.whole.shape.items r (omega (arith, low, a, b)) in
        ap is_persistent_instance (sym (same_facts (heap_item_at m.heap.now r) (heap_item_at m.heap.durable r) same))
        ∙ o.sound.own r (omega (arith, low, b)) (same_object (heap_item_at m.heap.now r) (heap_item_at m.heap.durable r) same ∙ there);
  }

  pub left_own : IsLeft n t p m.heap.durable
  left_own = record { heap = durable_own; layout = o.layout.durable }
