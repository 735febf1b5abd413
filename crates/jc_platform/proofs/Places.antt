-- Places in lists.
use Rattle.std.proofs.Common.{◌≡◌, ◌<◌, ◌≤◌, ◌+◌, not, cond, ltb, ℕ, Bool, true, false, List, [], ◌∷◌, Option, Some, None, length, map, refl, ap, sym, subst, ◌∙◌, arith, ⊎_elim}
use Rattle.std.specs.List.{position, position_or_len, slice_get}
use Rattle.std.proofs.lemmas.Bool.{ltb-true}
use Rattle.std.proofs.lemmas.List.{length-map}
use Rattle.std.proofs.lemmas.List.Sums.{passes_at_first}
use Rattle.std.proofs.lemmas.Option.{same_Some, slice_get_cases}

place-map : {X Y : Type 0} (p : Y → Bool) (f : X → Y) (xs : List X) → position_or_len p (map f xs) ≡ position_or_len (λ x. p (f x)) xs
place-map p f [] = refl
place-map p f (x ∷ xs) =
    elim (p (f x)) as (λ b. cond (not b) (1 + position_or_len p (map f xs)) 0 ≡ cond (not b) (1 + position_or_len (λ y. p (f y)) xs) 0)
    [ true ↦ refl | false ↦ ap (λ (n : ℕ). 1 + n) (place-map p f xs) ]

position-map : {X Y : Type 0} (p : Y → Bool) (f : X → Y) (xs : List X) → position p (map f xs) ≡ position (λ x. p (f x)) xs
position-map p f xs =
    ap (λ (n : ℕ). cond (ltb n (length (map f xs))) (Some n) None) (place-map p f xs)
    ∙ ap (λ (l : ℕ). cond (ltb (position_or_len (λ x. p (f x)) xs) l) (Some (position_or_len (λ x. p (f x)) xs)) None) (length-map xs f)

-- the place of the first element that passes, of a list that f shows
pub placed_through : {X Y : Type 0} (p : Y → Bool) (f : X → Y) (xs : List X) (ys : List Y) (r : Option ℕ) → map f xs ≡ ys → r ≡ position (λ x. p (f x)) xs
    → r ≡ position p ys
placed_through p f xs ys r e at = subst (λ zs. r ≡ position p zs) e (at ∙ sym (position-map p f xs))

here : (m n : ℕ) (b : Bool) (k : ℕ) → ltb m n ≡ b → cond b (Some m) None ≡ Some k → (m < n) × (m ≡ k)
here m n true k q e = (ltb-true m n q, same_Some m k e)
here m n false k q e = absurd (let g : None ≡ Some k = e in cc)

-- at the place of the first that passes stands one that passes
pub passes_there : {X : Type 0} (p : X → Bool) (xs : List X) (n : ℕ) → position p xs ≡ Some n → (x : X) × (slice_get xs n ≡ Some x) × (p x ≡ true)
passes_there p xs n e =
    let at = here (position_or_len p xs) (length xs) (ltb (position_or_len p xs) (length xs)) n refl e in
    ⊎_elim
    (λ found. (found.0, ap (slice_get xs) (sym at.1) ∙ found.2, ap p (sym found.3) ∙ passes_at_first p xs found.0 at.0))
    (λ past. absurd (let short : position_or_len p xs < length xs = at.0 in let long : length xs ≤ position_or_len p xs = past.0 in omega arith))
    (slice_get_cases xs (position_or_len p xs)).1
