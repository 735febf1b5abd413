-- Walks over a heap's objects leave none out.
use Rattle.std.proofs.Common.{◌≡◌, ℕ, Bool, zero, suc, ◌<◌, ◌≤◌, ◌&&◌, nat_lt, true, inl, inr, List, [], ◌∷◌, take, drop, map, refl, sym, ◌∙◌, ap}
use Rattle.std.proofs.Common.{subst, arith, Some, None, lt-ltb, ltb-true, ⊎_elim}
use Rattle.std.specs.Prelude.{unwrap_or}
use Rattle.std.proofs.lemmas.Option.{none-some}
use Rattle.std.proofs.lemmas.Bool.{cases_Bool, cases_eq, cases_lt, ne_eqb, eq-eqb, false≢true}
use Rattle.jc_heap.specs.Walk.{Sizes, records_from, entry_or}
use Rattle.jc_heap.specs.Object.{APackage, is_object}
use Rattle.jc_heap.specs.Image.{item, item_entry, image, package_addresses, sizes, base}
use Rattle.jc_heap.specs.Heap.{first_above, next_object, heap_of, read_image, heap_item_at, IsObject, HeapState}

-- what stands at an address among the records from another one on
abbrev among : List ℕ → Sizes → ℕ → ℕ → List ℕ → ℕ → Bool
among ps more s at ws x = is_object (entry_or (APackage []) (map (item_entry ps) (records_from more s at ws)) x)

-- nothing below the first
nothing_below : (ps : List ℕ) (more : Sizes) (s at : ℕ) (ws : List ℕ) (x : ℕ) → x < at → among ps more s at ws x ≡ true → ⊥
nothing_below ps more s at [] x lt e = cc
nothing_below ps more (suc s) at (w ∷ ws) x lt e = nothing_below ps more s (suc at) ws x (omega arith) e
nothing_below ps more zero at (w ∷ ws) x lt e =
    let n : at ≡ x → ⊥ = λ z. omega (arith, z) in
    nothing_below ps more (more at (w ∷ ws)) (suc at) ws x (omega arith) (rw (ne_eqb at x n) at e)

-- the next object is the first one after
found_least : (ps : List ℕ) (more : Sizes) (s at : ℕ) (ws : List ℕ) (r q x : ℕ) → first_above (map (item_entry ps) (records_from more s at ws)) r ≡ Some q
    → r < x → x < q →
    among ps more s at ws x ≡ true → ⊥
found_least ps more s at [] r q x e rx xq o = absurd (none-some q e)
found_least ps more (suc s) at (w ∷ ws) r q x e rx xq o = found_least ps more s (suc at) ws r q x e rx xq o
found_least ps more zero at (w ∷ ws) r q x e rx xq o = elim (cases_Bool (nat_lt r at && is_object (item ps at (w ∷ take (more at (w ∷ ws)) ws)))) [
  | inl t ↦
      let is : Some at ≡ Some q = rw t at e in
      let same : at ≡ q = ap (λ o. unwrap_or o 0) is in
      nothing_below ps more zero at (w ∷ ws) x (omega (arith, same)) o
  | inr f ↦
      let is : first_above (map (item_entry ps) (records_from more (more at (w ∷ ws)) (suc at) ws)) r ≡ Some q = rw f at e in
      elim (cases_eq at x) [
        | inl here ↦
            let there : is_object (item ps at (w ∷ take (more at (w ∷ ws)) ws)) ≡ true = rw (eq-eqb at x here) at o in
            absurd (false≢true (sym f ∙ rw (lt-ltb r at (omega (arith, here)), there) refl))
        | inr other ↦ found_least ps more (more at (w ∷ ws)) (suc at) ws r q x is rx xq (rw (ne_eqb at x other) at o)
      ]
]

-- where there is no next one, no object stands after
found_none : (ps : List ℕ) (more : Sizes) (s at : ℕ) (ws : List ℕ) (r x : ℕ) → first_above (map (item_entry ps) (records_from more s at ws)) r ≡ None → r < x →
    among ps more s at ws x ≡ true → ⊥
found_none ps more s at [] r x e rx o = cc
found_none ps more (suc s) at (w ∷ ws) r x e rx o = found_none ps more s (suc at) ws r x e rx o
found_none ps more zero at (w ∷ ws) r x e rx o = elim (cases_Bool (nat_lt r at && is_object (item ps at (w ∷ take (more at (w ∷ ws)) ws)))) [
  | inl t ↦ let is : Some at ≡ None = rw t at e in absurd (none-some at (sym is))
  | inr f ↦
      let is : first_above (map (item_entry ps) (records_from more (more at (w ∷ ws)) (suc at) ws)) r ≡ None = rw f at e in
      elim (cases_eq at x) [
        | inl here ↦
            let there : is_object (item ps at (w ∷ take (more at (w ∷ ws)) ws)) ≡ true = rw (eq-eqb at x here) at o in
            absurd (false≢true (sym f ∙ rw (lt-ltb r at (omega (arith, here)), there) refl))
        | inr other ↦ found_none ps more (more at (w ∷ ws)) (suc at) ws r x is rx (rw (ne_eqb at x other) at o)
      ]
]

-- the next object lies after
found_above : (ps : List ℕ) (more : Sizes) (s at : ℕ) (ws : List ℕ) (r q : ℕ) → first_above (map (item_entry ps) (records_from more s at ws)) r ≡ Some q → r < q
found_above ps more s at [] r q e = absurd (none-some q e)
found_above ps more (suc s) at (w ∷ ws) r q e = found_above ps more s (suc at) ws r q e
found_above ps more zero at (w ∷ ws) r q e = elim (cases_Bool (nat_lt r at && is_object (item ps at (w ∷ take (more at (w ∷ ws)) ws)))) [
  | inl t ↦
      let is : Some at ≡ Some q = rw t at e in
      let same : at ≡ q = ap (λ o. unwrap_or o 0) is in
      elim (cases_Bool (nat_lt r at)) [
        | inl lt ↦ omega (arith, same, ltb-true r at lt)
        | inr not ↦ absurd (false≢true (rw not at t))
      ]
  | inr f ↦
      let is : first_above (map (item_entry ps) (records_from more (more at (w ∷ ws)) (suc at) ws)) r ≡ Some q = rw f at e in
      found_above ps more (more at (w ∷ ws)) (suc at) ws r q is
]

-- a walk over the objects of a heap leaves none out
pub record Walks (h : HeapState) : Type 0 where
  pub above : (r q : ℕ) → next_object h r ≡ Some q → r < q
  pub least : (r q x : ℕ) → next_object h r ≡ Some q → r < x → x < q → IsObject h x → ⊥
  pub last : (r x : ℕ) → next_object h r ≡ None → r < x → IsObject h x → ⊥

pub walks : (ws : List ℕ) → Walks (heap_of ws)
unfolding read_image next_object heap_item_at
walks ws =
    let ps = package_addresses (image ws) in
    let rest = drop (base (image ws)) (image ws) in
    record {
      above = λ r q e. found_above ps (sizes ps) 0 (base (image ws)) rest r q e;
      least = λ r q x e rx xq o. found_least ps (sizes ps) 0 (base (image ws)) rest r q x e rx xq o;
      last = λ r x e rx o. found_none ps (sizes ps) 0 (base (image ws)) rest r x e rx o;
    }

-- what is so of all objects so far and of the next one
pub one_more : (h : HeapState) → Walks h → (S : ℕ → Type 0) (own at q : ℕ) → next_object h at ≡ Some q
    → ((r : ℕ) → own < r → r ≤ at → IsObject h r → S r) → S q →
    (r : ℕ) → own < r → r ≤ q → IsObject h r → S r
one_more h w S own at q next far here r above le o =
    ⊎_elim (λ before. ⊎_elim (λ within. absurd (w.least at q r next within before o)) (λ below. far r above below o) (cases_lt at r))
    (λ past. let e : q ≡ r = omega arith in subst S e here)
    (cases_lt r q)

-- what is so of all objects, where there is no next one
pub all_of_them : (h : HeapState) → Walks h → (S : ℕ → Type 0) (own at : ℕ) → next_object h at ≡ None → ((r : ℕ) → own < r → r ≤ at → IsObject h r → S r) →
    (r : ℕ) → own < r → IsObject h r → S r
all_of_them h w S own at next far r above o = ⊎_elim (λ within. absurd (w.last at r next within o)) (λ below. far r above below o) (cases_lt at r)
