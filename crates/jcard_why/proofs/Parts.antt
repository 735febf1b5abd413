-- The parts of a text between bytes.
use Rattle.std.proofs.Common.{◌≡◌, ◌<◌, ◌≤◌, ◌+◌, ◌-◌, ◌==◌, ℕ, Bool, true, false, cond, ltb, List, [], ◌∷◌, Option, Some, None}
use Rattle.std.proofs.Common.{length, take, drop, arith, subst, refl, sym, ap, ◌++◌, ◌∙◌}
use Rattle.std.specs.List.{position, position_or_len, slice_split}
use Rattle.std.proofs.lemmas.Bool.{ltb-false, ltb-true}
use Rattle.std.proofs.lemmas.List.{length-drop, take_all, take-append-drop}
use Rattle.std.proofs.lemmas.List.Splits.{slice_split_first, slice_split_none}
use Rattle.std.proofs.lemmas.List.Sums.{fails_before_first}

-- below what a search that found nothing reaches
not_found : (p n k : ℕ) (b : Bool) → ltb p n ≡ b → cond b (Some p) None ≡ None → k < n → k < p
not_found p n k true q f h = absurd (let g : Some p ≡ None = f in cc)
not_found p n k false q f h = let le : n ≤ p = ltb-false p n q in omega arith

-- where no byte is c, the list is the one part
pub parts_uncut : (c : ℕ) (bytes : List ℕ) (r : Option ℕ) → r ≡ position (λ b. b == c) bytes → r ≡ None → slice_split (λ b. b == c) bytes ≡ bytes ∷ []
parts_uncut c bytes r at none =
    slice_split_none (λ b. b == c) bytes (λ k d h. fails_before_first (λ b. b == c) bytes k d (not_found _ _ k _ refl (sym at ∙ none) h))

-- what a search that found something found
found_at : (p n i : ℕ) (b : Bool) → ltb p n ≡ b → cond b (Some p) None ≡ Some i → (p < n) × (p ≡ i)
found_at p n i true q f = (ltb-true p n q, (let g : Some p ≡ Some i = f in cc))
found_at p n i false q f = absurd (let g : None ≡ Some i = f in cc)

-- the first part ends at the first byte c
pub parts_cut : (c : ℕ) (bytes : List ℕ) (r : Option ℕ) (i : ℕ) → r ≡ position (λ b. b == c) bytes → r ≡ Some i
    → slice_split (λ b. b == c) bytes ≡ take i bytes ∷ slice_split (λ b. b == c) (drop (i + 1) bytes)
parts_cut c bytes r i at some =
    let f = found_at (position_or_len (λ b. b == c) bytes) (length bytes) i _ refl (sym at ∙ some) in
    subst (λ (j : ℕ). slice_split (λ b. b == c) bytes ≡ take j bytes ∷ slice_split (λ b. b == c) (drop (j + 1) bytes)) f.1 (slice_split_first (λ b. b == c) bytes 0 f.0)

-- what is left of a list, taken whole
pub take_rest : (k : ℕ) (xs : List ℕ) → take (length xs - k) (drop k xs) ≡ drop k xs
take_rest k xs = take_all (length xs - k) (drop k xs) (omega (arith, length-drop k xs))

-- what stands before a place, and the rest
pub cut_at : (k : ℕ) (xs : List ℕ) → xs ≡ take k xs ++ take (length xs - k) (drop k xs)
cut_at k xs = sym (ap (λ (l : List ℕ). take k xs ++ l) (take_rest k xs) ∙ take-append-drop k xs)
