-- Look-ups in a list that is seen another way, and reads of a list after a write.
use Rattle.std.proofs.Common.{◌≡◌, ◌<◌, ◌≤◌, ◌+◌, ◌-◌, ◌==◌, ℕ, zero, suc, Bool, true, false, cond, eqb, ltb, ◌||◌, ◌&&◌, List, [], ◌∷◌, Option, Some, None}
use Rattle.std.proofs.Common.{length, get_or, set, take, drop, arith, subst, refl, ap, sym, ◌∙◌, map, replicate, Decides}
use Rattle.std.specs.List.{filter, find, list_all, list_any, position, position_or_len}
use Rattle.std.specs.Option.{option_map}
use Rattle.std.proofs.lemmas.Bool.Decides.{Decides-eqb}
use Rattle.std.proofs.lemmas.Bool.{false≢true, ltb-false, ltb-true}
use Rattle.std.proofs.lemmas.List.{drop-map, get_or-set_other, length-drop, take-map, take_all}
use Rattle.std.proofs.lemmas.Grind.{get_or-set_at}
use Rattle.std.proofs.lemmas.List.Splits.{slice_split_first, slice_split_none}
use Rattle.std.proofs.lemmas.List.Sums.{fails_before_first}
use Rattle.jc_platform.specs.PackedEntry.{entries}
use Rattle.jc_platform.specs.Rows.{parts_at}

-- the first element that passes, of a list that f shows
pub find-map : {X Y : Type 0} (p : Y → Bool) (f : X → Y) (xs : List X) → find p (map f xs) ≡ option_map f (find (λ x. p (f x)) xs)
find-map p f [] = refl
find-map p f (x ∷ xs) =
    elim (p (f x)) as (λ b. cond b (Some (f x)) (find p (map f xs)) ≡ option_map f (cond b (Some x) (find (λ y. p (f y)) xs)))
    [ true ↦ refl | false ↦ find-map p f xs ]

-- some element passes, of a list that f shows
pub list_any-map : {X Y : Type 0} (p : Y → Bool) (f : X → Y) (xs : List X) → list_any p (map f xs) ≡ list_any (λ x. p (f x)) xs
list_any-map p f [] = refl
list_any-map p f (x ∷ xs) = ap (λ b. p (f x) || b) (list_any-map p f xs)

-- what a search in a list finds, seen in the list that f shows
pub found_through : {X Y : Type 0} (p : Y → Bool) (f : X → Y) (xs : List X) (ys : List Y) (r : Option X) → map f xs ≡ ys → r ≡ find (λ x. p (f x)) xs
    → option_map f r ≡ find p ys
found_through p f xs ys r e found = ap (option_map f) found ∙ sym (find-map p f xs) ∙ ap (find p) e

-- three tests are two
pub and_within : (a b c : Bool) → (a && b && c) ≡ (a && (b && c))
and_within true b c = refl
and_within false b c = refl

-- a search for what passes two tests is one for the second among those that pass the first
pub find-filter : {X : Type 0} (p q both : X → Bool) (xs : List X) → ((x : X) → both x ≡ (p x && q x)) → find both xs ≡ find q (filter p xs)
find-filter p q both [] is = refl
find-filter p q both (x ∷ xs) is =
    ap (λ b. cond b (Some x) (find both xs)) (is x)
    ∙ (elim (p x) as (λ b. cond (b && q x) (Some x) (find both xs) ≡ find q (cond b (x ∷ filter p xs) (filter p xs)))
    [ true ↦ ap (λ f. cond (q x) (Some x) f) (find-filter p q both xs is) | false ↦ find-filter p q both xs is ])

-- what stands from one place to another, seen in the list that f shows
pub shown_between : {X Y : Type 0} (f : X → Y) (from to : ℕ) (xs : List X) (ys : List Y) → map f xs ≡ ys
    → map f (take (to - from) (drop from xs)) ≡ take (to - from) (drop from ys)
shown_between f from to xs ys e = sym (take-map f (to - from) (drop from xs)) ∙ ap (take (to - from)) (sym (drop-map f from xs) ∙ ap (drop from) e)

-- whether an element of a list passes, seen in the list that f shows
pub any_through : {X Y : Type 0} (p : Y → Bool) (f : X → Y) (xs : List X) (ys : List Y) (r : Bool) → map f xs ≡ ys → r ≡ list_any (λ x. p (f x)) xs
    → r ≡ list_any p ys
any_through p f xs ys r e any = any ∙ sym (list_any-map p f xs) ∙ ap (list_any p) e

-- what stands at j after a write at i
pub read_written : {X : Type 0} (xs : List (Option X)) (i j : ℕ) (v : Option X) → i < length xs
    → get_or (set xs i v) j None ≡ cond (eqb i j) v (get_or xs j None)
read_written {X} xs i j v h = cases (eqb i j) (Decides-eqb i j)
  where
    cases : (b : Bool) → Decides b (i ≡ j) → get_or (set xs i v) j None ≡ cond b v (get_or xs j None)
    cases true d = get_or-set_at xs i j v None (sym (d.0 refl)) h
    cases false d = get_or-set_other xs i j v None (λ e. false≢true (d.1 (sym e)))

not_found : (p n k : ℕ) (b : Bool) → ltb p n ≡ b → cond b (Some p) None ≡ None → k < n → k < p
not_found p n k true q f h = absurd (let g : Some p ≡ None = f in cc)
not_found p n k false q f h = let le : n ≤ p = ltb-false p n q in omega arith

-- where no byte is c, the list is the one part
pub parts_uncut : (c : ℕ) (bytes : List ℕ) (r : Option ℕ) → r ≡ position (λ b. b == c) bytes → r ≡ None → parts_at c bytes ≡ bytes ∷ []
parts_uncut c bytes r at none =
    slice_split_none (λ b. b == c) bytes (λ k d h. fails_before_first (λ b. b == c) bytes k d (not_found _ _ k _ refl (sym at ∙ none) h))

found_at : (p n i : ℕ) (b : Bool) → ltb p n ≡ b → cond b (Some p) None ≡ Some i → (p < n) × (p ≡ i)
found_at p n i true q f = (ltb-true p n q, (let g : Some p ≡ Some i = f in cc))
found_at p n i false q f = absurd (let g : None ≡ Some i = f in cc)

-- the first part ends at the first byte c
pub parts_cut : (c : ℕ) (bytes : List ℕ) (r : Option ℕ) (i : ℕ) → r ≡ position (λ b. b == c) bytes → r ≡ Some i
    → parts_at c bytes ≡ take i bytes ∷ parts_at c (drop (i + 1) bytes)
parts_cut c bytes r i at some =
    let f = found_at (position_or_len (λ b. b == c) bytes) (length bytes) i _ refl (sym at ∙ some) in
    subst (λ (j : ℕ). parts_at c bytes ≡ take j bytes ∷ parts_at c (drop (j + 1) bytes)) f.1 (slice_split_first (λ b. b == c) bytes 0 f.0)

-- what is left of a list, taken whole
pub take_rest : (k : ℕ) (xs : List ℕ) → take (length xs - k) (drop k xs) ≡ drop k xs
take_rest k xs = take_all (length xs - k) (drop k xs) (omega (arith, length-drop k xs))

-- both tests pass
pub and_true : (a b : Bool) → (a && b) ≡ true → (a ≡ true) × (b ≡ true)
and_true true b e = (refl, e)
and_true false b e = absurd (false≢true e)

-- the elements of a list are numbered by f from n on
abbrev pub numbered : {X : Type 0} → (X → ℕ) → ℕ → List X → Bool
numbered f n [] = true
numbered f n (x ∷ xs) = (f x == n) && numbered f (n + 1) xs

-- then each number has its element
pub numbered_at : {X : Type 0} (f : X → ℕ) (xs : List X) (n k : ℕ) → numbered f n xs ≡ true → k < length xs → (x : X) × (f x ≡ n + k)
numbered_at f [] n k e h = absurd (omega arith)
numbered_at f (x ∷ xs) n zero e h = let b = and_true (f x == n) (numbered f (n + 1) xs) e in (x, (let p : f x ≡ n = (Decides-eqb (f x) n).0 b.0 in omega arith))
numbered_at f (x ∷ xs) n (suc k) e h =
    let b = and_true (f x == n) (numbered f (n + 1) xs) e in
    let w = numbered_at f xs (n + 1) k b.1 (omega arith) in
    (w.0, (let p : f w.0 ≡ (n + 1) + k = w.1 in omega arith))

-- where all elements pass, the one at a place does
pub all_at : {X : Type 0} (p : X → Bool) (xs : List X) (k : ℕ) (d : X) → list_all p xs ≡ true → k < length xs → p (get_or xs k d) ≡ true
all_at p [] k d e h = absurd (omega arith)
all_at p (x ∷ xs) zero d e h = (and_true (p x) (list_all p xs) e).0
all_at p (x ∷ xs) (suc k) d e h = all_at p xs k d (and_true (p x) (list_all p xs) e).1 (omega arith)

-- whether all elements pass, of a list that f shows
list_all-map : {X Y : Type 0} (p : Y → Bool) (f : X → Y) (xs : List X) → list_all p (map f xs) ≡ list_all (λ x. p (f x)) xs
list_all-map p f [] = refl
list_all-map p f (x ∷ xs) = ap (λ b. p (f x) && b) (list_all-map p f xs)

-- whether all elements of a list pass, seen in the list that f shows
pub all_through : {X Y : Type 0} (p : Y → Bool) (f : X → Y) (xs : List X) (ys : List Y) (r : Bool) → map f xs ≡ ys → r ≡ list_all (λ x. p (f x)) xs
    → r ≡ list_all p ys
all_through p f xs ys r e all = all ∙ sym (list_all-map p f xs) ∙ ap (list_all p) e

-- a list of one element alone has it anywhere, and that after its end
pub all_alike : {X : Type 0} (x : X) (n k : ℕ) → get_or (replicate n x) k x ≡ x
all_alike x zero k = refl
all_alike x (suc n) zero = refl
all_alike x (suc n) (suc k) = all_alike x n k

-- fewer than four bytes are no entry
pub entries_uncut : (bytes : List ℕ) → length bytes < 4 → entries bytes ≡ bytes ∷ []
entries_uncut [] h = refl
entries_uncut (a ∷ []) h = refl
entries_uncut (a ∷ b ∷ []) h = refl
entries_uncut (a ∷ b ∷ c ∷ []) h = refl
entries_uncut (a ∷ b ∷ c ∷ d ∷ more) h = absurd (omega (arith, h))

-- the first four are one
pub entries_cut : (bytes : List ℕ) → 4 ≤ length bytes → entries bytes ≡ take 4 bytes ∷ entries (drop 4 bytes)
entries_cut [] h = absurd (omega (arith, h))
entries_cut (a ∷ []) h = absurd (omega (arith, h))
entries_cut (a ∷ b ∷ []) h = absurd (omega (arith, h))
entries_cut (a ∷ b ∷ c ∷ []) h = absurd (omega (arith, h))
entries_cut (a ∷ b ∷ c ∷ d ∷ more) h = refl
