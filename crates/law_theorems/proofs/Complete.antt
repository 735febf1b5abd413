-- What was complete before a cut stays.
use Rattle.std.proofs.Common.{◌≡◌, ℕ, ◌+◌, ◌-◌, ◌≤◌, List, [], ◌∷◌, ◌++◌, refl, sym, ◌∙◌, ap, arith}
use Rattle.jc_heap.specs.Heap.{HeapState, HeapView}
use Rattle.jc_heap.specs.HeapLaws.{durable_behind, writes_of_moves}
use Rattle.jc_heap.specs.Moves.{Move, apply_moves}
use Rattle.jc_heap.proofs.Losses.{kept}
use Rattle.jc_memory.specs.State.{MemoryState, Effect, HeapMove, moves_of}
use Rattle.jc_memory.proofs.ProgramLemmas.{heap_after}
use Rattle.jc_card.specs.Card.{CardState}
use Rattle.law_theorems.specs.Outcomes.{memory_at}
use Rattle.law_theorems.specs.SessionTheorems.Cuts.{IsBehind, IsHeapCutAt}
use Rattle.law_theorems.proofs.Prefixes.{behind_both}

-- ---- effects and their moves

moves-append : (es fs : List Effect) → moves_of (es ++ fs) ≡ moves_of es ++ moves_of fs
moves-append [] fs = refl
moves-append (HeapMove m ∷ es) fs = ap (λ (l : List Move). m ∷ l) (moves-append es fs)
moves-append (e ∷ es) fs = moves-append es fs

-- the first effects that make these moves
abbrev HasFront : List Effect → List Move → Type 0
HasFront es first = (front rest : List Effect) × (es ≡ front ++ rest) × (moves_of front ≡ first)

one_more : (e : Effect) (es : List Effect) (first : List Move) (more : List Move) → HasFront es more
    → ((front : List Effect) → moves_of front ≡ more → moves_of (e ∷ front) ≡ first) → HasFront (e ∷ es) first
one_more e es first more f with_one = (e ∷ f.0, f.1, ap (λ (l : List Effect). e ∷ l) f.2, with_one f.0 f.3)

head_is : (m n : Move) (ms ns : List Move) → m ∷ ms ≡ n ∷ ns → (m ≡ n) × (ms ≡ ns)
head_is m n ms ns same = (
  ap (λ (l : List Move). head_or m l) same,
  ap (λ (l : List Move). tail_of l) same,
)
  where
    head_or : Move → List Move → Move
    head_or d [] = d
    head_or d (x ∷ xs) = x

    tail_of : List Move → List Move
    tail_of [] = []
    tail_of (x ∷ xs) = xs

fronts : (es : List Effect) (first rest : List Move) → moves_of es ≡ first ++ rest → HasFront es first
fronts es [] rest same = ([], es, refl, refl)
fronts [] (n ∷ first) rest same = absurd cc
fronts (HeapMove m ∷ es) (n ∷ first) rest same =
    let both = head_is m n (moves_of es) (first ++ rest) same in
    one_more (HeapMove m) es (n ∷ first) first (fronts es first rest both.1)
    (λ front is. ap (λ (l : List Move). m ∷ l) is ∙ ap (λ (x : Move). x ∷ first) both.0)
fronts (e ∷ es) (n ∷ first) rest same = one_more e es (n ∷ first) (n ∷ first) (fronts es (n ∷ first) rest same) (λ front is. is)

-- ---- what was complete stays

heap_behind : (card : CardState) (before front : List Effect)
    → (memory_at card (before ++ front)).heap ≡ apply_moves (moves_of front) (apply_moves (moves_of before) card.memory.heap)
heap_behind card before front =
    ap (λ (m : MemoryState). m.heap) (behind_both before front card.memory)
    ∙ heap_after front (memory_at card before)
    ∙ ap (λ (v : HeapView). apply_moves (moves_of front) v) (heap_after before card.memory)

pub behind_complete : (card : CardState) (bytes : List ℕ) (k : ℕ) (h : HeapState) (c : IsHeapCutAt card bytes k h) (before after : List Effect)
    → c.effects ≡ before ++ after → writes_of_moves (moves_of before) card.memory.heap ≤ k → IsBehind card before after h
behind_complete card bytes k h c before after are le =
    let heap = card.memory.heap in
    let writes = writes_of_moves (moves_of before) heap in
    let moves : moves_of c.effects ≡ moves_of before ++ moves_of after = ap moves_of are ∙ moves-append before after in
    let sum : k ≡ writes + (k - writes) = omega (arith, le) in
    let stays = kept (moves_of before) (moves_of after) heap (k - writes) in
    let some = fronts after stays.0 stays.1 stays.2 in (
      some.0,
      some.1,
      some.2,
      c.is
          ∙ ap (λ (ms : List Move). durable_behind ms heap k) moves
          ∙ ap (λ (n : ℕ). durable_behind (moves_of before ++ moves_of after) heap n) sum
          ∙ stays.3
          ∙ ap (λ (ms : List Move). (apply_moves ms (apply_moves (moves_of before) heap)).durable) (sym some.3)
          ∙ ap (λ (v : HeapView). v.durable) (sym (heap_behind card before some.0)),
    )
