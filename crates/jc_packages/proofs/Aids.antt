-- Lists among those that a function gives for numbers, one after the other.
use Rattle.std.proofs.Common.{◌≡◌, ◌≤◌, ◌<◌, ◌+◌, ◌==◌, ◌||◌, ◌++◌, ℕ, zero, suc, Bool, true, false, List, [], ◌∷◌, map, Decides, refl, sym, ◌∙◌, ap, subst, arith}
use Rattle.std.specs.List.{list_any, range_with_len}
use Rattle.std.specs.Str.{bytes_eq}
use Rattle.std.proofs.lemmas.Bool.{false≢true}
use Rattle.std.proofs.lemmas.Bool.Decides.{Decides-eqb}
use Rattle.std.proofs.lemmas.List.{map-append}
use Rattle.std.proofs.lemmas.List.FromFn.{map-range_with_len_more}
use Rattle.std.proofs.lemmas.Slice.Eq.{bytes_eq-Decides}
use Rattle.jc_heap.specs.Heap.{HeapState}
use Rattle.jc_packages.specs.Sound.{HasOwnAid, aid_of_entry}

beyond : (k a : ℕ) → k ≤ a → (k ≡ a → ⊥) → k + 1 ≤ a
beyond k a le ne = omega (arith, ne)

below : (j b : ℕ) → j < b + 1 → (j ≡ b → ⊥) → j < b
below j b le ne = omega (arith, ne)

-- one of them is the list: it is given for one of the numbers
pub given : (f : ℕ → List ℕ) (xs : List ℕ) (s n : ℕ) → list_any (λ x. bytes_eq x xs) (map f (range_with_len s n)) ≡ true
    → (a : ℕ) × (a < s + n) × (f a ≡ xs)
given f xs s zero e = absurd (false≢true e)
given f xs s (suc n) e = first (bytes_eq (f s) xs) refl e (given f xs (s + 1) n)
  where
    first : (b : Bool) → bytes_eq (f s) xs ≡ b → (b || list_any (λ x. bytes_eq x xs) (map f (range_with_len (s + 1) n))) ≡ true
        → (list_any (λ x. bytes_eq x xs) (map f (range_with_len (s + 1) n)) ≡ true → (a : ℕ) × (a < s + 1 + n) × (f a ≡ xs))
        → (a : ℕ) × (a < s + suc n) × (f a ≡ xs)
    first true is on more = (s, omega arith, (bytes_eq-Decides (f s) xs).0 is)
    first false is on more = let a = more on in (a.0, omega (arith, a.1), a.2)

-- given for one of the numbers, it is one of them
pub taken : (f : ℕ → List ℕ) (xs : List ℕ) (s n a : ℕ) → s ≤ a → a < s + n → f a ≡ xs → list_any (λ x. bytes_eq x xs) (map f (range_with_len s n)) ≡ true
taken f xs s zero a from up is = absurd (omega arith)
taken f xs s (suc n) a from up is = first (bytes_eq (f s) xs) refl (λ beyond. taken f xs (s + 1) n a beyond (omega arith) is)
  where
    first : (b : Bool) → bytes_eq (f s) xs ≡ b → (s + 1 ≤ a → list_any (λ x. bytes_eq x xs) (map f (range_with_len (s + 1) n)) ≡ true)
        → (b || list_any (λ x. bytes_eq x xs) (map f (range_with_len (s + 1) n))) ≡ true
    first true here others = refl
    first false here others =
        let other : s ≡ a → ⊥ = λ e. false≢true (sym here ∙ (bytes_eq-Decides (f s) xs).1 (ap f e ∙ is)) in
        others (beyond s a from other)

-- an applet's AID is none of those before it
pub is_own : (h : HeapState) (b : ℕ) → list_any (λ x. bytes_eq x (aid_of_entry h b)) (map (aid_of_entry h) (range_with_len 0 b)) ≡ false → HasOwnAid h b
is_own h b none = λ a before same. false≢true (sym none ∙ taken (aid_of_entry h) (aid_of_entry h b) 0 b a (omega arith) (omega arith) same)

pub is_anothers : (h : HeapState) (b : ℕ) → list_any (λ x. bytes_eq x (aid_of_entry h b)) (map (aid_of_entry h) (range_with_len 0 b)) ≡ true → HasOwnAid h b → ⊥
is_anothers h b one own = let a = given (aid_of_entry h) (aid_of_entry h b) 0 b one in own a.0 (omega (arith, a.1)) a.2

-- some element passes, of a list that f shows
any_shown : {X Y : Type 0} (p : Y → Bool) (f : X → Y) (xs : List X) → list_any p (map f xs) ≡ list_any (λ x. p (f x)) xs
any_shown p f [] = refl
any_shown p f (x ∷ xs) = ap (λ b. p (f x) || b) (any_shown p f xs)

-- what a search among the AIDs that are kept says of those before a place
pub seen : {X : Type 0} (h : HeapState) (b : ℕ) (show : X → List ℕ) (kept : List X) (own : List ℕ) (r : Bool)
    → map show kept ≡ map (aid_of_entry h) (range_with_len 0 b) → own ≡ aid_of_entry h b → r ≡ list_any (λ x. bytes_eq (show x) own) kept
    → r ≡ list_any (λ x. bytes_eq x (aid_of_entry h b)) (map (aid_of_entry h) (range_with_len 0 b))
seen h b show kept own r all is found =
    found ∙ sym (any_shown (λ x. bytes_eq x own) show kept) ∙ ap (list_any (λ x. bytes_eq x own)) all
    ∙ ap (λ o. list_any (λ x. bytes_eq x o) (map (aid_of_entry h) (range_with_len 0 b))) is

-- one AID more is kept
pub one_more : {X : Type 0} (h : HeapState) (b : ℕ) (show : X → List ℕ) (kept : List X) (x : X) → map show kept ≡ map (aid_of_entry h) (range_with_len 0 b)
    → show x ≡ aid_of_entry h b → map show (kept ++ x ∷ []) ≡ map (aid_of_entry h) (range_with_len 0 (b + 1))
one_more h b show kept x all is =
    map-append show kept (x ∷ []) ∙ ap (λ l. l ++ show x ∷ []) all ∙ ap (λ a. map (aid_of_entry h) (range_with_len 0 b) ++ a ∷ []) is
    ∙ sym (map-range_with_len_more (aid_of_entry h) 0 b b (omega arith))

-- each AID so far is its applet's own, and so is this one
pub own_too : (h : HeapState) (b : ℕ) → ((j : ℕ) → j < b → HasOwnAid h j) → HasOwnAid h b → (j : ℕ) → j < b + 1 → HasOwnAid h j
own_too h b before this j up = at (j == b) (Decides-eqb j b)
  where
    at : (e : Bool) → Decides e (j ≡ b) → HasOwnAid h j
    at true d = subst (λ (k : ℕ). HasOwnAid h k) (sym (d.0 refl)) this
    at false d = before j (below j b up (λ e. false≢true (d.1 e)))
