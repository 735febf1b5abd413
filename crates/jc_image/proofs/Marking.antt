-- Marks at addresses.
use Rattle.std.proofs.Common.{ℕ, zero, suc, ◌≡◌, ◌<◌, ◌||◌, Bool, true, false, inl, inr, List, [], ◌∷◌, length, replicate, get_or, set, refl, sym, ◌∙◌, ap}
use Rattle.std.proofs.lemmas.List.{get_or-set_same, get_or-set_other}
use Rattle.std.proofs.lemmas.Bool.{cases_eq, eq-eqb, ne_eqb}
use Rattle.jc_heap.specs.Object.{Item}
use Rattle.jc_heap.specs.Walk.{has_entry}
use Rattle.jc_heap.specs.Heap.{heap_of, is_allocated}

pub none_marked : (n k : ℕ) → get_or (replicate n false) k false ≡ false
none_marked zero k = refl
none_marked (suc n) zero = refl
none_marked (suc n) (suc k) = none_marked n k

pub or-true : (b : Bool) → (b || true) ≡ true
or-true true = refl
or-true false = refl

or-false : (b : Bool) → (b || false) ≡ b
or-false true = refl
or-false false = refl

-- the marks so far, and the names of the items that are left
abbrev pub Marks : List Bool → List (ℕ × Item) → List (ℕ × Item) → Type 0
Marks marks left items = (r : ℕ) → (get_or marks r false || has_entry left r) ≡ has_entry items r

pub marks_step : (marks : List Bool) (at : ℕ) (t : Item) (left items : List (ℕ × Item)) → at < length marks → Marks marks ((at, t) ∷ left) items
    → Marks (set marks at true) left items
marks_step marks at t left items within m r = elim (cases_eq at r) [
  | inl is ↦
      ap (λ a. get_or (set marks at true) a false || has_entry left r) (sym is)
      ∙ ap (λ b. b || has_entry left r) (get_or-set_same marks at true false within)
      ∙ sym (or-true (get_or marks r false))
      ∙ ap (λ b. get_or marks r false || (b || has_entry left r)) (sym (eq-eqb at r is))
      ∙ m r
  | inr n ↦
      ap (λ b. b || has_entry left r) (get_or-set_other marks at r true false (λ e. n (sym e)))
      ∙ ap (λ b. get_or marks r false || (b || has_entry left r)) (sym (ne_eqb at r n))
      ∙ m r
]

pub marks_end : (marks : List Bool) (items : List (ℕ × Item)) → Marks marks [] items → (r : ℕ) → get_or marks r false ≡ has_entry items r
marks_end marks items m r = sym (or-false (get_or marks r false)) ∙ m r

pub names_are : (ws : List ℕ) (r : ℕ) → has_entry ((heap_of ws).items) r ≡ is_allocated (heap_of ws) r
unfolding is_allocated
names_are ws r = refl
