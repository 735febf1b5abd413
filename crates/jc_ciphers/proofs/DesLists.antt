-- Loops that write one bit after the other.
use Rattle.std.proofs.Common.{◌≡◌, ℕ, zero, suc, ◌+◌, ◌-◌, ◌<◌, List, [], ◌∷◌, ◌++◌, length, length-append, take, slice_index, slice_set, refl, sym, ap, ◌∙◌, add-one, arith, inl, inr}
use Rattle.std.proofs.lemmas.Bool.{cases_lt}
use Rattle.std.proofs.lemmas.List.{get_or_append_left, get_or-append_right, get_or_past, take_more_set, take_all}
use Rattle.jc_ciphers.specs.Des.{listed}
use Rattle.jc_ciphers.specs.DesNumbers.{AreBits, IsBits}

pub listed_more : (f : ℕ → ℕ) (i : ℕ) → listed f (i + 1) ≡ listed f i ++ f i ∷ []
unfolding listed
listed_more f i = rw add-one refl

pub listed_none : (f : ℕ → ℕ) → listed f 0 ≡ []
unfolding listed
listed_none f = refl

-- one more bit
pub listed_step : (f : ℕ → ℕ) (xs : List ℕ) (i v : ℕ) → i < length xs → take i xs ≡ listed f i → v ≡ f i
    → take (i + 1) (slice_set xs i v) ≡ listed f (i + 1)
listed_step f xs i v within before is =
    take_more_set xs i v within ∙ (λ j. before j ++ is j ∷ []) ∙ sym (listed_more f i)

-- all of them
pub listed_all : (f : ℕ → ℕ) (xs : List ℕ) (n i : ℕ) → length xs ≡ n → i ≡ n → take i xs ≡ listed f i → xs ≡ listed f n
listed_all f xs n i long all are =
    sym (take_all i xs (omega arith)) ∙ are ∙ ap (listed f) all

pub length-listed : (f : ℕ → ℕ) (n : ℕ) → length (listed f n) ≡ n
unfolding listed
length-listed f zero = refl
length-listed f (suc n) = omega (arith, length-append (listed f n) (f n ∷ []), length-listed f n)

pub listed-at : (f : ℕ → ℕ) (n i : ℕ) → i < n → slice_index (listed f n) i ≡ f i
unfolding listed
listed-at f zero i low = absurd (omega arith)
listed-at f (suc n) i low =
    let long = length-listed f n in
    elim (cases_lt i n) as (λ _. slice_index (listed f n ++ f n ∷ []) i ≡ f i) [
      | inr up ↦
          let here : i ≡ n = omega arith in
          get_or-append_right (listed f n) (f n ∷ []) n i 0 long up ∙ (let none : i - n ≡ 0 = omega arith in ap (slice_index (f n ∷ [])) none) ∙ ap f (sym here)
      | inl below ↦ get_or_append_left (listed f n) (f n ∷ []) 0 i (omega (arith, long)) ∙ listed-at f n i below
    ]

-- bits in a list that is written bit by bit
pub IsBits-listed : (f : ℕ → ℕ) (n : ℕ) → AreBits f → IsBits (listed f n)
IsBits-listed f n bits i =
    elim (cases_lt i n) as (λ _. slice_index (listed f n) i < 2) [
      | inr up ↦ let past = get_or_past (listed f n) i 0 (omega (arith, length-listed f n)) in omega (arith, past)
      | inl below ↦ omega (arith, listed-at f n i below, bits i)
    ]

-- two lists of the same bits
pub listed-same : (f g : ℕ → ℕ) (n : ℕ) → ((i : ℕ) → i < n → f i ≡ g i) → listed f n ≡ listed g n
unfolding listed
listed-same f g zero same = refl
listed-same f g (suc n) same = λ j. listed-same f g n (λ i low. same i (omega arith)) j ++ same n (omega arith) j ∷ []
