-- Each effect of a command of a card that commands left is served; or each adds a package.
use Rattle.std.proofs.Common.{List, inl, inr}
use Rattle.std.specs.Prelude.{ℕ, ◌⊎◌}
use Rattle.jc_heap.specs.Moves.{AddPackage}
use Rattle.jc_memory.specs.State.{MemoryState, Effect, HeapMove, apply_effects}
use Rattle.jc_memory.specs.Programs.{Program}
use Rattle.jc_memory.specs.Reading.{AllDue, AllEffectsDue}
use Rattle.jc_linker.specs.Values.{Packages}
use Rattle.jc_platform.specs.Tokens.{Tokens}
use Rattle.jc_card.specs.Answers.{exchange}
use Rattle.jc_card.specs.Card.{CardState}
use Rattle.law_theorems.specs.Cards.{IsOwnCard}
use Rattle.law_soundness.specs.LoadedPackages.{AreBytes}
use Rattle.law_theorems.proofs.Commands.{creates_good, dispatched_good, runs_good}
use Rattle.law_theorems.proofs.Sessions.{linked_known}
use Rattle.law_soundness.specs.MachineLaws.Commands.{IsServed}
use Rattle.law_soundness.specs.MemoryLaws.State.{IsSoundMemory}
use Rattle.law_soundness.proofs.CommandLaws.{commands_are_sound}
use Rattle.law_soundness.proofs.CommandEffects.{serving_keeps}
use Rattle.law_theorems.proofs.Exchanges.{exchanged, load_ended}
use Rattle.law_theorems.proofs.Prefixes.{due_all}

-- a package comes in
abbrev pub AddsPackage : Effect → MemoryState → Type 0
AddsPackage (HeapMove (AddPackage components arrays image)) m = Unit {0}
AddsPackage e m = ⊥

abbrev pub IsFine : {A : Type 0} → Packages → Program A → MemoryState → Type 0
IsFine p d m = AllDue (IsServed p) d m ⊎ AllDue AddsPackage d m

pub commands_fine : (t : Tokens) (card : CardState) → IsOwnCard t card → (bytes : List ℕ) → AreBytes bytes
    → IsFine card.packages (exchange bytes card) card.memory
commands_fine t card own bytes are =
    let known = linked_known card.packages own.linked in
    exchanged (λ d. IsFine card.packages d card.memory) card (λ a. inl tt) (λ a b. inl (tt, tt))
    (inr (load_ended AddsPackage card (λ components arrays image. tt)))
    (λ limit locals code. inl (runs_good commands_are_sound t card own known limit locals code).due)
    (λ content. inl (creates_good commands_are_sound t card own known content).due) bytes
    (λ c is. inl (dispatched_good commands_are_sound t card own known bytes c).due)

-- after effects that are served the memory is sound
pub sound_behind : (p : Packages) (es : List Effect) (m : MemoryState) → AllEffectsDue (IsServed p) es m → IsSoundMemory p m
    → IsSoundMemory p (apply_effects es m)
sound_behind p es m served sound = due_all (IsServed p) (IsSoundMemory p) (λ e v due s. serving_keeps.sound p e v due s) es m served sound
