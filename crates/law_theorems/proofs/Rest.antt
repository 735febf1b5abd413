-- A command leaves a heap at rest.
use Rattle.std.proofs.Common.{◌≡◌, false, List, ℕ, [], ◌∷◌, ◌++◌, refl, sym, ap, ◌∙◌, subst}
use Rattle.std.proofs.lemmas.Bool.{true≢false}
use Rattle.jc_commit.proofs.WhatIsKept.{keeps_old_values}
use Rattle.jc_heap.specs.Heap.{HeapView, heap_at_rest, keeping, unlogged_places}
use Rattle.jc_heap.specs.Moves.{Write, SetPlaces, WriteNonAtomic, SetCells, AddObject, AddTransient, AddPackage, Begin, Commit, Abort}
use Rattle.jc_memory.specs.State.{MemoryState, Effect, HeapMove, SetTransient, SetFlag, ClearTransient, SetRegisters, BeginCommand, SendBytes}
use Rattle.jc_memory.specs.State.{apply_effect, apply_effects}
use Rattle.jc_memory.proofs.ProgramLemmas.{down_did, each_did, took}
use Rattle.jc_card.specs.Answers.{exchange}
use Rattle.jc_card.specs.Card.{CardState}
use Rattle.jc_card.specs.State.Power.{KeptState, armed_card}
use Rattle.jc_card.specs.Session.Starting.{IsPoweredUp}
use Rattle.law_code.specs.TransactionLaws.{IsDurableOutside}
use Rattle.law_code.proofs.AtomicEffects.{settled_effect}
use Rattle.law_theorems.proofs.ClosedTransactions.{IsShut, exchanging_shut}
use Rattle.law_theorems.specs.Rest.{IsResting, LeaveAtRest}

-- where no transaction is open none keeps old values
abbrev pub IsEmpty : MemoryState → Type 0
IsEmpty s = s.heap.begun ≡ false → s.heap.touched ≡ []

still_empty : (v : HeapView) (places : List ℕ) → (v.begun ≡ false → v.touched ≡ []) → v.begun ≡ false → v.touched ++ unlogged_places v places ≡ []
still_empty v places empty none = ap (λ (l : List ℕ). v.touched ++ l) (keeps_old_values.outside (keeping v) places none).0
    ∙ ap (λ (t : List ℕ). t ++ []) (empty none)

pub empty_effect : (e : Effect) (s : MemoryState) → IsEmpty s → IsEmpty (apply_effect e s)
empty_effect (HeapMove (Write p v)) s empty = still_empty s.heap _ empty
empty_effect (HeapMove (SetPlaces cs)) s empty = still_empty s.heap _ empty
empty_effect (HeapMove (WriteNonAtomic p v)) s empty = empty
empty_effect (HeapMove (SetCells r i vs)) s empty = still_empty s.heap _ empty
empty_effect (HeapMove (AddObject o size)) s empty = still_empty s.heap _ empty
empty_effect (HeapMove (AddTransient kind event class owner long)) s empty = still_empty s.heap _ empty
empty_effect (HeapMove (AddPackage components arrays rest)) s empty = still_empty s.heap _ empty
empty_effect (HeapMove Begin) s empty = λ b. absurd (true≢false b)
empty_effect (HeapMove Commit) s empty = λ b. refl
empty_effect (HeapMove Abort) s empty = λ b. refl
empty_effect (SetTransient r i values) s empty = empty
empty_effect (SetFlag r flag) s empty = empty
empty_effect (ClearTransient event) s empty = empty
empty_effect (SetRegisters registers) s empty = empty
empty_effect (BeginCommand bytes) s empty = empty
empty_effect (SendBytes bytes) s empty = empty

abbrev IsCalm : MemoryState → Type 0
IsCalm s = IsDurableOutside s × IsEmpty s

calm_all : (es : List Effect) (s : MemoryState) → IsCalm s → IsCalm (apply_effects es s)
calm_all [] s calm = calm
calm_all (e ∷ es) s calm = calm_all es (apply_effect e s) (settled_effect e s calm.0, empty_effect e s calm.1)

-- a heap at rest, part by part
rests : (v : HeapView) → v.down ≡ false → v.begun ≡ false → v.durable ≡ v.now → v.touched ≡ [] → IsResting v
rests v down shut settled empty = λ i. record {
  now = v.now;
  durable = settled i;
  begun = shut i;
  touched = empty i;
  down = down i;
  passed = v.passed;
  refusals = v.refusals;
  size = v.size;
}

pub leave_at_rest : LeaveAtRest
leave_at_rest bytes card a new rest did =
    let shut = ap (λ (v : HeapView). v.begun) rest in
    let es = took (exchange bytes card) card.memory new a did in
    let calm = subst IsCalm (sym es.2) (calm_all es.0 card.memory (
      (λ b. ap (λ (v : HeapView). v.durable) rest),
      (λ b. ap (λ (v : HeapView). v.touched) rest),
    )) in
    let ended = each_did IsShut (exchange bytes card) card.memory new a (exchanging_shut bytes card shut).each did in
    rests new.heap (down_did (exchange bytes card) card.memory new a did ∙ ap (λ (v : HeapView). v.down) rest) ended (calm.0 ended) (calm.1 ended)

-- a card that is powered up rests
pub rests_so : (k : KeptState) (budget : ℕ) (card : CardState) → IsPoweredUp k budget card → IsResting card.memory.heap
rests_so k budget card up =
    let same = up.heap in
    same ∙ (λ i. heap_at_rest (sym (ap (λ (v : HeapView). v.now) same) i) card.memory.heap.passed (sym (ap (λ (v : HeapView). v.refusals) same) i)
    (sym (ap (λ (v : HeapView). v.size) same) i))

-- so does one whose fuse is armed
pub armed_rests : (k : ℕ) (card : CardState) → IsResting card.memory.heap → IsResting (armed_card k card).memory.heap
armed_rests k card rest = ap (λ (v : HeapView). record v { refusals = (armed_card k card).memory.heap.refusals }) rest
