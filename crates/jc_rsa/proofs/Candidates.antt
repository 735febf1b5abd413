-- What holds of the primes of a seed.
use Rattle.std.proofs.Common.{◌≡◌, ◌∙◌, ℕ, ◌+◌, ◌-◌, ◌*◌, ◌<◌, ◌≤◌, ◌⊎◌, List, ap, inl, inr, sym, subst, arith}
use Rattle.std.proofs.lemmas.Bool.{cases_lt}
use Rattle.jc_numbers.specs.Inverses.{HasInverse}
use Rattle.jc_numbers.specs.Numbers.{number_of_bytes}
use Rattle.jc_rsa.specs.KeyPair.{ArePrimesOf, HasNoneTaken, IsFirstTaken, IsTaken, bases, candidate}
use Rattle.jc_rsa.proofs.InverseLaws.{inverse_together}
use Rattle.jc_rsa.proofs.Strong.{prime_above_two}

-- both are taken
pub first_is_taken : (seed : List ℕ) (e size : ℕ) (p q : List ℕ) → ArePrimesOf seed e size p q → IsTaken e (number_of_bytes p)
first_is_taken seed e size p q are =
    let P : List ℕ → Type 0 = λ x. IsTaken e (number_of_bytes x) in
    subst P (sym are.p_is) are.first_taken.taken

pub second_is_taken : (seed : List ℕ) (e size : ℕ) (p q : List ℕ) → ArePrimesOf seed e size p q → IsTaken e (number_of_bytes q)
second_is_taken seed e size p q are =
    let P : List ℕ → Type 0 = λ x. IsTaken e (number_of_bytes x) in
    subst P (sym are.q_is) are.second_taken.taken

-- what is taken is above 2
pub taken_above_two : (e p : ℕ) → IsTaken e p → 2 < p
taken_above_two e p taken = prime_above_two p bases taken.0

-- the exponent has an inverse modulo (p - 1) (q - 1)
pub whole_inverse : (e p q : ℕ) → IsTaken e p → IsTaken e q → HasInverse ((p - 1) * (q - 1)) e
whole_inverse e p q first second =
    let more : 1 < p - 1 = omega (arith, taken_above_two e p first) in
    let many : 1 < q - 1 = omega (arith, taken_above_two e q second) in
    inverse_together (p - 1) (q - 1) e more many first.1 second.1

-- there is one first candidate
one_first : (seed : List ℕ) (e size start i j : ℕ) → IsFirstTaken seed e size start i → IsFirstTaken seed e size start j → i ≡ j
one_first seed e size start i j a b = by (cases_lt i j) (cases_lt j i)
  where
    by : (i < j) ⊎ (j ≤ i) → (j < i) ⊎ (i ≤ j) → i ≡ j
    by (inl less) o = absurd (b.before i a.low less a.taken)
    by (inr up) (inl less) = absurd (a.before j b.low less b.taken)
    by (inr up) (inr down) = omega (arith, up, down)

-- without a first or a second candidate there are no primes
pub no_first : (seed : List ℕ) (e size : ℕ) → HasNoneTaken seed e size 0 → (p q : List ℕ) → ArePrimesOf seed e size p q → ⊥
no_first seed e size none p q are = none are.first are.first_taken.low are.first_taken.within are.first_taken.taken

pub no_second : (seed : List ℕ) (e size i : ℕ) → IsFirstTaken seed e size 0 i → HasNoneTaken seed e size (i + 1) → (p q : List ℕ)
    → ArePrimesOf seed e size p q → ⊥
no_second seed e size i first none p q are =
    let same = one_first seed e size 0 are.first i are.first_taken first in
    let second = subst (λ k. IsFirstTaken seed e size (k + 1) are.second) same are.second_taken in
    none are.second second.low second.within second.taken

-- the primes are the two candidates, of which the second has an inverse modulo the first
pub primes_apart : (seed : List ℕ) (e size i j : ℕ) → IsFirstTaken seed e size 0 i → IsFirstTaken seed e size (i + 1) j → (p q : List ℕ)
    → ArePrimesOf seed e size p q → HasInverse (number_of_bytes (candidate seed size i)) (number_of_bytes (candidate seed size j))
primes_apart seed e size i j first second p q are =
    let same = one_first seed e size 0 are.first i are.first_taken first in
    let later = subst (λ k. IsFirstTaken seed e size (k + 1) are.second) same are.second_taken in
    let p_is = are.p_is ∙ ap (candidate seed size) same in
    let q_is = are.q_is ∙ ap (candidate seed size) (one_first seed e size (i + 1) are.second j later second) in
    subst (λ x. HasInverse (number_of_bytes x) (number_of_bytes (candidate seed size j))) p_is (subst (λ x. HasInverse (number_of_bytes p) (number_of_bytes x)) q_is are.apart)
