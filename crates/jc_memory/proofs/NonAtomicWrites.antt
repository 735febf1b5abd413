-- Cells set for good, one after another.
use Rattle.std.proofs.Common.{◌≡◌, ℕ, suc, ◌+◌, ◌<◌, List, [], ◌∷◌, length, drop, get_or, refl, sym, ◌∙◌, ap, subst, arith, inl, inr, ◌≤◌}
use Rattle.std.specs.Prelude.{◌⊎◌}
use Rattle.std.proofs.lemmas.List.{drop_more, drop_all}
use Rattle.jc_heap.specs.declared.place.Place.TheVariants.{Cell}
use Rattle.jc_heap.specs.declared.object.Kind.{Kind}
use Rattle.jc_heap.specs.Completions.{Completion, Completed, Torn}
use Rattle.jc_heap.specs.Heap.{cells, facts, heap_item_at}
use Rattle.jc_heap.specs.Moves.{WriteNonAtomic}
use Rattle.jc_heap.specs.Place.{set_place}
use Rattle.jc_heap.proofs.Laws.{same_facts, same_length}
use Rattle.jc_heap.proofs.Places.{bare_stays}
use Rattle.jc_memory.specs.State.{MemoryState, HeapMove, apply_effect}
use Rattle.jc_memory.specs.Programs.{Executes, IsTornIn}
use Rattle.jc_memory.specs.Changes.{nonatomic_write, nonatomic_writes}

-- the first of them is set, and then the others
stepped : (r i v : ℕ) (vs : List ℕ) (s : MemoryState) (after : Completion MemoryState (Unit {0}))
    → Executes (nonatomic_writes r (suc i) vs) (apply_effect (HeapMove (WriteNonAtomic (Cell r i) v)) s) after
    → Executes (nonatomic_writes r i (v ∷ vs)) s after
stepped r i v vs s (Completed a new) done = done
stepped r i v vs s (Torn new) torn = record { left = inr torn.left; down = torn.down; refusals = torn.refusals; size = torn.size }

cut_there : {A : Type 0} → A ⊎ ⊥ → A
cut_there (inl a) = a
cut_there (inr none) = absurd none

-- or the store refuses it
stopped : (r i v : ℕ) (vs : List ℕ) (s new : MemoryState) → IsTornIn (nonatomic_write r i v) s new → Executes (nonatomic_writes r i (v ∷ vs)) s (Torn new)
stopped r i v vs s new torn = record { left = inl (cut_there torn.left); down = torn.down; refusals = torn.refusals; size = torn.size }

-- what ends so from here, where the first k are set, ends so from the beginning
abbrev pub GoesOn : ℕ → ℕ → List ℕ → MemoryState → ℕ → MemoryState → Type 0
GoesOn r i vs start k s = (after : Completion MemoryState (Unit {0})) → Executes (nonatomic_writes r (i + k) (drop k vs)) s after
    → Executes (nonatomic_writes r i vs) start after

module _ (r i k v : ℕ) (vs : List ℕ) (start s : MemoryState) (is : v ≡ get_or vs k 0) (within : k < length vs) (goes : GoesOn r i vs start k s) where
  from_here : (after : Completion MemoryState (Unit {0})) → Executes (nonatomic_writes r (i + k) (v ∷ drop (k + 1) vs)) s after
      → Executes (nonatomic_writes r i vs) start after
  from_here after rest = goes after (subst (λ l. Executes (nonatomic_writes r (i + k) l) s after)
      (sym (drop_more vs k 0 within ∙ (λ j. sym is j ∷ drop (k + 1) vs))) rest)

  pub goes_further : (new : MemoryState) → new ≡ apply_effect (HeapMove (WriteNonAtomic (Cell r (i + k)) v)) s → GoesOn r i vs start (k + 1) new
  goes_further new made after rest =
      let at : i + (k + 1) ≡ suc (i + k) = omega arith in
      from_here after (stepped r (i + k) v (drop (k + 1) vs) s after
      (subst (λ m. Executes (nonatomic_writes r (suc (i + k)) (drop (k + 1) vs)) m after) made
      (subst (λ n. Executes (nonatomic_writes r n (drop (k + 1) vs)) new after) at rest)))

  pub goes_down : (new : MemoryState) → IsTornIn (nonatomic_write r (i + k) v) s new → Executes (nonatomic_writes r i vs) start (Torn new)
  goes_down new torn = from_here (Torn new) (stopped r (i + k) v (drop (k + 1) vs) s new torn)

pub all_set : (r i k : ℕ) (vs : List ℕ) (start s : MemoryState) → length vs ≤ k → GoesOn r i vs start k s
    → Executes (nonatomic_writes r i vs) start (Completed tt s)
all_set r i k vs start s all goes = goes (Completed tt s)
    (subst (λ l. Executes (nonatomic_writes r (i + k) l) s (Completed tt s)) (sym (drop_all k vs all)) (refl, refl))

-- each leaves the kind of the object, and how many cells it has
pub kind_left : (r q i v : ℕ) (k : Kind) (s new : MemoryState) → new ≡ apply_effect (HeapMove (WriteNonAtomic (Cell q i) v)) s
    → (facts s.heap.now r).kind ≡ k → (facts new.heap.now r).kind ≡ k
kind_left r q i v k s new made is =
    ap (λ m. (facts m.heap.now r).kind) made
    ∙ ap (λ f. f.kind) (same_facts (heap_item_at (set_place s.heap.now (Cell q i) v) r) (heap_item_at s.heap.now r) (bare_stays s.heap.now (Cell q i) v r)) ∙ is

pub length_left : (r q i v n : ℕ) (s new : MemoryState) → new ≡ apply_effect (HeapMove (WriteNonAtomic (Cell q i) v)) s
    → length (cells s.heap.now r) ≡ n → length (cells new.heap.now r) ≡ n
length_left r q i v n s new made is =
    ap (λ m. length (cells m.heap.now r)) made
    ∙ same_length (heap_item_at (set_place s.heap.now (Cell q i) v) r) (heap_item_at s.heap.now r) (bare_stays s.heap.now (Cell q i) v r) ∙ is
