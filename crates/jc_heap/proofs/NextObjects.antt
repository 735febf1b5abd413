-- What a search for the next object finds.
use Rattle.std.proofs.Common.{◌≡◌, ℕ, Bool, zero, suc, ◌≤◌, ◌&&◌, ◌==◌, nat_lt, true, false, inl, inr, List, [], ◌∷◌, take, drop, map, refl, sym, ◌∙◌, ap}
use Rattle.std.proofs.Common.{subst, arith, Option, Some, None, if◌then◌else◌}
use Rattle.std.specs.Prelude.{IfSome, unwrap_or}
use Rattle.std.proofs.lemmas.Option.{none-some}
use Rattle.std.proofs.lemmas.Bool.{cases_Bool, ne_eqb, eq-eqb, false≢true}
use Rattle.jc_heap.specs.Walk.{Sizes, records_from, entry_or}
use Rattle.jc_heap.specs.Object.{APackage, is_object}
use Rattle.jc_heap.specs.Image.{item, item_entry, image, package_addresses, sizes, base}
use Rattle.jc_heap.specs.Heap.{first_above, next_object, heap_of, read_image, heap_item_at, IsObject}

and_right : (a b : Bool) → (a && b) ≡ true → b ≡ true
and_right true b e = e
and_right false b e = absurd (false≢true e)

-- it lies at or above the first of the words
found_behind : (ps : List ℕ) (more : Sizes) (s at : ℕ) (ws : List ℕ) (r q : ℕ) → first_above (map (item_entry ps) (records_from more s at ws)) r ≡ Some q
    → at ≤ q
found_behind ps more s at [] r q e = absurd (none-some q e)
found_behind ps more (suc s) at (w ∷ ws) r q e = omega (arith, found_behind ps more s (suc at) ws r q e)
found_behind ps more zero at (w ∷ ws) r q e = elim (cases_Bool (nat_lt r at && is_object (item ps at (w ∷ take (more at (w ∷ ws)) ws)))) [
  | inl t ↦ let is : Some at ≡ Some q = rw t at e in let same : at ≡ q = ap (λ o. unwrap_or o 0) is in omega (arith, same)
  | inr f ↦
      let is : first_above (map (item_entry ps) (records_from more (more at (w ∷ ws)) (suc at) ws)) r ≡ Some q = rw f at e in
      omega (arith, found_behind ps more (more at (w ∷ ws)) (suc at) ws r q is)
]

-- and it is an object
found_object : (ps : List ℕ) (more : Sizes) (s at : ℕ) (ws : List ℕ) (r q : ℕ) → first_above (map (item_entry ps) (records_from more s at ws)) r ≡ Some q →
    is_object (entry_or (APackage []) (map (item_entry ps) (records_from more s at ws)) q) ≡ true
found_object ps more s at [] r q e = absurd (none-some q e)
found_object ps more (suc s) at (w ∷ ws) r q e = found_object ps more s (suc at) ws r q e
found_object ps more zero at (w ∷ ws) r q e = elim (cases_Bool (nat_lt r at && is_object (item ps at (w ∷ take (more at (w ∷ ws)) ws)))) [
  | inl t ↦
      let is : Some at ≡ Some q = rw t at e in
      let here : at ≡ q = ap (λ o. unwrap_or o 0) is in
      subst (λ p. is_object (if at == p then item ps at (w ∷ take (more at (w ∷ ws)) ws) else entry_or (APackage [])
      (map (item_entry ps) (records_from more (more at (w ∷ ws)) (suc at) ws)) p) ≡ true) here
      (let same : (at == at) ≡ true = eq-eqb at at refl in rw same (and_right (nat_lt r at) (is_object (item ps at (w ∷ take (more at (w ∷ ws)) ws))) t))
  | inr f ↦
      let is : first_above (map (item_entry ps) (records_from more (more at (w ∷ ws)) (suc at) ws)) r ≡ Some q = rw f at e in
      let n : at ≡ q → ⊥ = λ z. omega (arith, found_behind ps more (more at (w ∷ ws)) (suc at) ws r q is) in
      rw (ne_eqb at q n) (found_object ps more (more at (w ∷ ws)) (suc at) ws r q is)
]

next_found : (ws : List ℕ) (r q : ℕ) → next_object (heap_of ws) r ≡ Some q → IsObject (heap_of ws) q
unfolding read_image next_object heap_item_at
next_found ws r q e = found_object (package_addresses (image ws)) (sizes (package_addresses (image ws))) 0 (base (image ws))
    (drop (base (image ws)) (image ws)) r q e

found_cases : (h : Option ℕ) (P : ℕ → Type 0) → ((q : ℕ) → h ≡ Some q → P q) → IfSome h P
found_cases None P f = tt
found_cases (Some q) P f = f q refl

-- what is found after an address is an object
pub next_is_object : (ws : List ℕ) (r : ℕ) (found : Option ℕ) → found ≡ next_object (heap_of ws) r → IfSome found (λ q. IsObject (heap_of ws) q)
next_is_object ws r found e = found_cases found (λ q. IsObject (heap_of ws) q) (λ q f. next_found ws r q (sym e ∙ f))
