-- Bytes that are made not to be zero.
use Rattle.std.proofs.Common.{◌≡◌, ◌<◌, ◌+◌, ◌%◌, ◌∙◌, ◌∷◌, ◌++◌, [], ℕ, zero, suc, List, length, map, slice_index, take, refl, ap, arith}
use Rattle.std.proofs.lemmas.List.{take_more}
use Rattle.jc_rsa.specs.EmePkcs1.{AreNonzero}

pub map_nonzero : (xs : List ℕ) → AreNonzero (map (λ b. b % 255 + 1) xs)
map_nonzero [] i below = absurd (omega (arith, below))
map_nonzero (x ∷ xs) zero below = λ is. absurd (omega (arith, is))
map_nonzero (x ∷ xs) (suc i) below = map_nonzero xs i (omega (arith, below))

map_push : (xs : List ℕ) (x : ℕ) → map (λ b. b % 255 + 1) (xs ++ x ∷ []) ≡ map (λ b. b % 255 + 1) xs ++ (x % 255 + 1) ∷ []
map_push [] x = refl
map_push (y ∷ ys) x = ap (λ (l : List ℕ). (y % 255 + 1) ∷ l) (map_push ys x)

pub map_more : (xs : List ℕ) (i : ℕ) → i < length xs
    → map (λ b. b % 255 + 1) (take (i + 1) xs) ≡ map (λ b. b % 255 + 1) (take i xs) ++ (slice_index xs i % 255 + 1) ∷ []
map_more xs i within = ap (map (λ b. b % 255 + 1)) (take_more xs i 0 within) ∙ map_push (take i xs) (slice_index xs i)
