-- The first object above an address, in a list that grows or of which one item changes.
use Rattle.std.proofs.Common.{◌≡◌, ℕ, Bool, true, false, List, [], ◌∷◌, ◌++◌, ◌&&◌, ◌||◌, ◌==◌, nat_lt, Some, refl, ◌∙◌, ap, if◌then◌else◌}
use Rattle.std.proofs.lemmas.Bool.{eq-eqb, false≢true}
use Rattle.std.proofs.lemmas.Option.{none-some, same_Some}
use Rattle.jc_heap.specs.Object.{Item, is_object}
use Rattle.jc_heap.specs.Walk.{entry_or, has_entry, with_entry}
use Rattle.jc_heap.specs.Heap.{first_above}

-- what is found stays the first where something comes after
pub found_still : (es more : List (ℕ × Item)) (r q : ℕ) → first_above es r ≡ Some q → first_above (es ++ more) r ≡ Some q
found_still [] more r q e = absurd (none-some q e)
found_still (d ∷ es) more r q e = go (nat_lt r d.0 && is_object d.1) e (λ f. found_still es more r q f)
  where
    go : (b : Bool) → (if b then Some d.0 else first_above es r) ≡ Some q → (first_above es r ≡ Some q → first_above (es ++ more) r ≡ Some q)
        → (if b then Some d.0 else first_above (es ++ more) r) ≡ Some q
    go true f rest = f
    go false f rest = rest f

-- what is found stands there
pub found_there : (es : List (ℕ × Item)) (r q : ℕ) → first_above es r ≡ Some q → has_entry es q ≡ true
found_there [] r q e = absurd (none-some q e)
found_there (d ∷ es) r q e = go (nat_lt r d.0 && is_object d.1) e (λ f. found_there es r q f)
  where
    or_true : (b : Bool) → (b || true) ≡ true
    or_true true = refl
    or_true false = refl

    go : (b : Bool) → (if b then Some d.0 else first_above es r) ≡ Some q → (first_above es r ≡ Some q → has_entry es q ≡ true)
        → ((d.0 == q) || has_entry es q) ≡ true
    go true f rest = ap (λ b. b || has_entry es q) (eq-eqb d.0 q (same_Some d.0 q f))
    go false f rest = ap (λ b. (d.0 == q) || b) (rest f) ∙ or_true (d.0 == q)

-- what stands there stays the first with its address
pub looked_up_still : (z : Item) (es more : List (ℕ × Item)) (q : ℕ) → has_entry es q ≡ true → entry_or z (es ++ more) q ≡ entry_or z es q
looked_up_still z [] more q e = absurd (false≢true e)
looked_up_still z (d ∷ es) more q e = go (d.0 == q) e (λ f. looked_up_still z es more q f)
  where
    go : (b : Bool) → (b || has_entry es q) ≡ true → (has_entry es q ≡ true → entry_or z (es ++ more) q ≡ entry_or z es q)
        → (if b then d.1 else entry_or z (es ++ more) q) ≡ (if b then d.1 else entry_or z es q)
    go true f rest = refl
    go false f rest = rest f

-- an object in place of an object, or a record in place of a record, changes nothing of what is found
pub found_put : (z : Item) (es : List (ℕ × Item)) (p : ℕ) (x : Item) (r : ℕ) → is_object x ≡ is_object (entry_or z es p)
    → first_above (with_entry es p x) r ≡ first_above es r
found_put z [] p x r e = refl
found_put z (d ∷ es) p x r e = go (d.0 == p) e (λ f. found_put z es p x r f)
  where
    go : (b : Bool) → is_object x ≡ is_object (if b then d.1 else entry_or z es p)
        → (is_object x ≡ is_object (entry_or z es p) → first_above (with_entry es p x) r ≡ first_above es r) →
        first_above (if b then (d.0, x) ∷ es else d ∷ with_entry es p x) r ≡ (if nat_lt r d.0 && is_object d.1 then Some d.0 else first_above es r)
    go true f rest = ap (λ o. if nat_lt r d.0 && o then Some d.0 else first_above es r) f
    go false f rest = ap (λ l. if nat_lt r d.0 && is_object d.1 then Some d.0 else l) (rest f)
