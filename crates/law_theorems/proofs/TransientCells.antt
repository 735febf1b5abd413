-- Transient cells over whole commands.
use Rattle.std.proofs.Common.{ℕ, List, inl, inr}
use Rattle.jc_heap.specs.Heap.{HasEnd}
use Rattle.jc_heap.specs.Moves.{AddPackage}
use Rattle.jc_memory.specs.State.{MemoryState, Effect, HeapMove, apply_effect}
use Rattle.jc_memory.specs.Reading.{AllDue, AllEffectsDue}
use Rattle.jc_platform.specs.Tokens.{Tokens}
use Rattle.jc_card.specs.Answers.{exchange}
use Rattle.jc_card.specs.Card.{CardState}
use Rattle.jc_card.specs.State.Power.{Up}
use Rattle.law_soundness.specs.MachineLaws.Commands.{IsServed}
use Rattle.law_soundness.specs.MemoryLaws.State.{TransientCells}
use Rattle.law_theorems.specs.Cards.{IsOwnCard}
use Rattle.law_theorems.proofs.LivingLoads.{package_carried}
use Rattle.law_theorems.specs.Outcomes.{ComesWithin, memory_at}
use Rattle.law_theorems.proofs.CardsAtRest.{comes_own}
use Rattle.law_theorems.proofs.Prefixes.{due_all}
use Rattle.law_theorems.proofs.PinTries.{added_end}
use Rattle.law_theorems.proofs.ServedEffects.{AddsPackage, IsFine, commands_fine, sound_behind}
use Rattle.law_code.proofs.AtomicEffects.{due_begun}

-- nothing stands after the heap's end, and transient cells name what is there
abbrev IsLiving : MemoryState → Type 0
IsLiving m = HasEnd m.heap.now × TransientCells m.heap.now m.ram

added_living : (e : Effect) (m : MemoryState) → AddsPackage e m → IsLiving m → IsLiving (apply_effect e m)
added_living (HeapMove (AddPackage cs xs rest)) m adds is = (added_end (HeapMove (AddPackage cs xs rest)) m adds is.0, package_carried m.heap.now m.ram cs xs rest is.0 is.1)
added_living e m adds is = absurd adds

pub name_what_is_there : (t : Tokens) (card : CardState) (bytes : List ℕ) (es : List Effect) → ComesWithin t card bytes es
    → TransientCells (memory_at card es).heap.now (memory_at card es).ram
name_what_is_there t card bytes es comes = by (commands_fine t card own bytes comes.are)
  where
    own : IsOwnCard t card
    own = comes_own t (Up card) comes.comes

    due : (P : Effect → MemoryState → Type 0) → AllDue P (exchange bytes card) card.memory → AllEffectsDue P es card.memory
    due P all = due_begun P (exchange bytes card) card.memory es all comes.begins

    by : IsFine card.packages (exchange bytes card) card.memory → TransientCells (memory_at card es).heap.now (memory_at card es).ram
    by (inl served) = (sound_behind card.packages es card.memory (due (IsServed card.packages) served) own.ready.sound).transients
    by (inr adds) = (due_all AddsPackage IsLiving added_living es card.memory (due AddsPackage adds)
        (own.ready.sound.whole.now.end, own.ready.sound.transients)).1
