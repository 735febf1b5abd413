-- The functions on primes and candidates are what the library's relations say.
use Rattle.std.proofs.Common.{◌≡◌, ◌≢◌, ◌<◌, ◌≤◌, ◌+◌, ◌-◌, ◌*◌, ◌%◌, ◌^◌, ◌⊎◌, ◌∙◌, ℕ, zero, suc, Bool, true, false, List, length, slice_index, Option, Some, None, if◌then◌else◌, refl, sym, ap, subst, inl, inr, arith}
use Rattle.std.specs.Prelude.{◌==◌, ◌&&◌, ◌||◌, is_some, nat_lt, not}
use Rattle.std.specs.Bool.{Decides}
use Rattle.std.proofs.lemmas.Bool.{and_from, and_parts, cases_lt, cond-false, cond-true, false_from_ne_true}
use Rattle.std.proofs.lemmas.Bool.Decides.{Decides-and, Decides-below_and, Decides-below_or, Decides-eqb, Decides-like, Decides-ltb, Decides-not, Decides-or}
use Rattle.std.proofs.lemmas.Option.{none-some, same_Some}
use Rattle.std.proofs.Math.Nat.{mul-le-mul_left, mul-le-mul_right, pow-suc, pow-zero}
use Rattle.jc_numbers.specs.Inverses.{HasInverse}
use Rattle.jc_numbers.specs.Numbers.{number_of_bytes}
use Rattle.jc_rsa.specs.KeyPair.{ArePrimesOf, IsFirstTaken, IsTaken, IsTakenCandidate, bases, candidate, most_candidates}
use Rattle.jc_rsa.specs.Primes.{HasNoSmallDivisor, IsProbablePrime, IsStrongProbablePrime}
use Rattle.jc_public_keys.specs.CurveSums.{inverse_of}
use Rattle.jc_public_keys.specs.RsaKeys.{all_below, first_taken, has_no_small_divisor, is_probable_prime, is_strong, is_taken, passes_by, some_below, taken_at}
use Rattle.jc_public_keys.proofs.InversesFound.{found_is, inverse_found}
use Rattle.jc_public_keys.proofs.Tries.{first_found, first_is}

-- ---- numbers below a bound

some_is : (test : ℕ → Bool) (P : ℕ → Type 0) → ((k : ℕ) → Decides (test k) (P k)) → (n : ℕ) → Decides (some_below test n) ((k : ℕ) × (k < n) × P k)
unfolding some_below
some_is test P each n = Decides-below_or test P (some_below test) each refl (λ _. refl) n

all_is : (test : ℕ → Bool) (P : ℕ → Type 0) → ((k : ℕ) → Decides (test k) (P k)) → (n : ℕ) → Decides (all_below test n) ((k : ℕ) → k < n → P k)
unfolding all_below
all_is test P each n = Decides-below_and test P (all_below test) each refl (λ _. refl) n

-- ---- probable primes

below_power : (k : ℕ) → k < 2 ^ k
below_power zero = omega (arith, pow-zero 2)
below_power (suc k) = omega (arith, below_power k, pow-suc 2 k)

-- the parts of n - 1 are below n
parts_below : (n twos rest : ℕ) → n - 1 ≡ 2 ^ twos * rest → rest % 2 ≡ 1 → (twos < n) × (rest < n)
parts_below n twos rest parts odd =
    let some : 1 ≤ rest = omega (arith, odd) in
    let one : 1 ≤ 2 ^ twos = omega (arith, below_power twos) in
    let first : 2 ^ twos * 1 ≤ 2 ^ twos * rest = mul-le-mul_left (2 ^ twos) some in
    let second : 1 * rest ≤ 2 ^ twos * rest = mul-le-mul_right rest one in
    (omega (arith, parts, first, one, below_power twos), omega (arith, parts, second, some))

module _ (n base : ℕ) where
  abbrev square : ℕ → ℕ → ℕ
  square rest k = base ^ (2 ^ k * rest) % n

  -- some square is n - 1
  abbrev Reaches : ℕ → ℕ → Type 0
  Reaches twos rest = (k : ℕ) × (k < twos) × (square rest k ≡ n - 1)

  -- n passes by this power of 2 and this odd number
  abbrev Passes : ℕ → ℕ → Type 0
  Passes twos rest = ((n - 1 ≡ 2 ^ twos * rest) × (rest % 2 ≡ 1)) × ((base ^ rest % n ≡ 1) ⊎ Reaches twos rest)

  passes_is : (twos rest : ℕ) → Decides (passes_by n base twos rest) (Passes twos rest)
  passes_is twos rest =
      let squares : Bool = some_below (λ k. square rest k == n - 1) twos in
      let reached : Decides squares (Reaches twos rest) =
      some_is (λ k. square rest k == n - 1) (λ k. square rest k ≡ n - 1) (λ k. Decides-eqb (square rest k) (n - 1)) twos in
      Decides-and (n - 1 == 2 ^ twos * rest && rest % 2 == 1) (base ^ rest % n == 1 || squares)
      (Decides-and (n - 1 == 2 ^ twos * rest) (rest % 2 == 1) (Decides-eqb (n - 1) (2 ^ twos * rest)) (Decides-eqb (rest % 2) 1))
      (Decides-or (base ^ rest % n == 1) squares (Decides-eqb (base ^ rest % n) 1) reached)

  abbrev HasRest : ℕ → Type 0
  HasRest twos = (rest : ℕ) × (rest < n) × Passes twos rest

  rest_is : (twos : ℕ) → Decides (some_below (λ rest. passes_by n base twos rest) n) (HasRest twos)
  rest_is twos = some_is (λ rest. passes_by n base twos rest) (Passes twos) (passes_is twos) n

  abbrev HasTwos : Type 0
  HasTwos = (twos : ℕ) × (twos < n) × HasRest twos

  twos_is : Decides (is_strong n base) HasTwos
  unfolding is_strong
  twos_is = some_is (λ twos. some_below (λ rest. passes_by n base twos rest) n) HasRest rest_is n

  regrouped : (twos rest : ℕ) → (base ^ rest % n ≡ 1) ⊎ Reaches twos rest
      → (base ^ rest % n ≡ 1) ⊎ ((k : ℕ) × ((k < twos) × (base ^ (2 ^ k * rest) % n ≡ n - 1)))
  regrouped twos rest (inl one) = inl one
  regrouped twos rest (inr r) = inr (r.0, (r.1, r.2))

  grouped : (twos rest : ℕ) → (base ^ rest % n ≡ 1) ⊎ ((k : ℕ) × ((k < twos) × (base ^ (2 ^ k * rest) % n ≡ n - 1)))
      → (base ^ rest % n ≡ 1) ⊎ Reaches twos rest
  grouped twos rest (inl one) = inl one
  grouped twos rest (inr r) = inr (r.0, r.1.0, r.1.1)

  strong_if : HasTwos → IsStrongProbablePrime n base
  strong_if h =
      let twos : ℕ = h.0 in
      let rest : ℕ = (h.2).0 in
      let passes = (h.2).2 in
      record { twos = twos; rest = rest; parts = passes.0.0; odd = passes.0.1; passes = regrouped twos rest passes.1 }

  if_strong : IsStrongProbablePrime n base → HasTwos
  if_strong s =
      let below = parts_below n s.twos s.rest s.parts s.odd in
      (s.twos, below.0, (s.rest, below.1, ((s.parts, s.odd), grouped s.twos s.rest s.passes)))

  strong_is : Decides (is_strong n base) (IsStrongProbablePrime n base)
  strong_is = Decides-like (is_strong n base) strong_if if_strong twos_is

module _ (n : ℕ) where
  abbrev Spares : ℕ → Type 0
  Spares k = ¬ (1 < k) ⊎ ¬ (n % k ≡ 0)

  spares_is : (k : ℕ) → Decides (not (nat_lt 1 k) || not (n % k == 0)) (Spares k)
  spares_is k = Decides-or (not (nat_lt 1 k)) (not (n % k == 0)) (Decides-not (nat_lt 1 k) (Decides-ltb 1 k))
      (Decides-not (n % k == 0) (Decides-eqb (n % k) 0))

  divides_not : (k : ℕ) → Spares k → 1 < k → n % k ≢ 0
  divides_not k (inl low) above = absurd (low above)
  divides_not k (inr is) above = is

  spared : (k : ℕ) → (1 < k → n % k ≢ 0) → Spares k
  spared k is = elim (cases_lt 1 k) as (λ _. Spares k) [
    | inl above ↦ inr (is above)
    | inr low ↦ inl (λ above. absurd (omega (arith, above, low)))
  ]

  undivided_is : Decides (has_no_small_divisor n) (HasNoSmallDivisor n)
  unfolding has_no_small_divisor
  undivided_is = Decides-like (has_no_small_divisor n) (λ h k above below. divides_not k (h k below) above)
      (λ h k below. spared k (λ above. h k above below)) (all_is (λ k. not (nat_lt 1 k) || not (n % k == 0)) Spares spares_is 256)

prime_is : (n : ℕ) (bs : List ℕ) → Decides (is_probable_prime n bs) (IsProbablePrime n bs)
prime_is n bs =
    let strong : Bool = all_below (λ i. is_strong n (slice_index bs i)) (length bs) in
    Decides-like (is_probable_prime n bs) (λ h. record { above_one = h.0; undivided = h.1.0; strong = h.1.1 })
    (λ is. (is.above_one, (is.undivided, is.strong)))
    (Decides-and (nat_lt 1 n) (has_no_small_divisor n && strong) (Decides-ltb 1 n)
    (Decides-and (has_no_small_divisor n) strong (undivided_is n)
    (all_is (λ i. is_strong n (slice_index bs i)) (λ i. IsStrongProbablePrime n (slice_index bs i)) (λ i. strong_is n (slice_index bs i)) (length bs))))

-- ---- candidates that are taken

-- what is probably a prime is above 2
above_two : (n : ℕ) (bs : List ℕ) → IsProbablePrime n bs → 2 < n
above_two n bs is = omega (arith, is.above_one, is.undivided 2 (omega arith) (omega arith))

there : (o : Option ℕ) → is_some o ≡ true → (z : ℕ) × (o ≡ Some z)
there None e = absurd cc
there (Some z) e = (z, refl)

some_at : (o : Option ℕ) (z : ℕ) → o ≡ Some z → is_some o ≡ true
some_at o z e = ap is_some e

taken_is : (e p : ℕ) → Decides (is_taken e p) (IsTaken e p)
unfolding is_taken
taken_is e p = (
  λ yes.
      let both = and_parts (is_probable_prime p bases) (is_some (inverse_of (p - 1) e)) yes in
      let z = there (inverse_of (p - 1) e) both.1 in
      ((prime_is p bases).0 both.0, (z.0, found_is (p - 1) e z.0 z.1)),
  λ taken.
      let above : 1 < p - 1 = omega (arith, above_two p bases taken.0) in
      let z = inverse_found (p - 1) e above taken.1 in
      and_from (is_probable_prime p bases) (is_some (inverse_of (p - 1) e)) ((prime_is p bases).1 taken.0) (some_at (inverse_of (p - 1) e) z.0 z.1),
)

module _ (seed : List ℕ) (e size : ℕ) where
  abbrev Taken : ℕ → Type 0
  Taken i = IsTakenCandidate seed e size i

  abbrev number : ℕ → ℕ
  number i = number_of_bytes (candidate seed size i)

  there_if : (i : ℕ) → Taken i → taken_at seed e size i ≡ Some i
  unfolding taken_at
  there_if i taken = cond-true (is_taken e (number i)) (Some i) None ((taken_is e (number i)).1 taken)

  none_if : (i : ℕ) → ¬ (Taken i) → taken_at seed e size i ≡ None
  unfolding taken_at
  none_if i not =
      cond-false (is_taken e (number i)) (Some i) None (false_from_ne_true (is_taken e (number i)) (λ yes. not ((taken_is e (number i)).0 yes)))

  there_by : (i v : ℕ) (b : Bool) → is_taken e (number i) ≡ b → (if b then Some i else None) ≡ Some v → Taken i × (i ≡ v)
  there_by i v true test is = ((taken_is e (number i)).0 test, same_Some i v is)
  there_by i v false test is = absurd (none-some v is)

  if_there : (i v : ℕ) → taken_at seed e size i ≡ Some v → Taken i × (i ≡ v)
  unfolding taken_at
  if_there i v is = there_by i v (is_taken e (number i)) refl is

  if_none : (i : ℕ) → taken_at seed e size i ≡ None → ¬ (Taken i)
  if_none i is taken = none-some i (sym is ∙ there_if i taken)

  -- the first that is taken is found
  pub taken_found : (start i : ℕ) → IsFirstTaken seed e size start i → first_taken seed e size start ≡ Some i
  taken_found start i is =
      first_found (taken_at seed e size) most_candidates start i i is.low (omega (arith, is.within)) (there_if i is.taken)
      (λ k low less. none_if k (is.before k low less))

  -- and what is found is the first
  pub found_taken : (start i : ℕ) → first_taken seed e size start ≡ Some i → IsFirstTaken seed e size start i
  found_taken start i is =
      let first = first_is (taken_at seed e size) most_candidates start i is in
      let here = if_there first.place i first.here in
      let same : first.place ≡ i = here.1 in
      subst (IsFirstTaken seed e size start) same (record {
        low = first.low;
        within = first.within;
        taken = here.0;
        before = λ k low less. if_none k (first.before k low less);
      })

-- ---- primes of a seed

module _ (seed : List ℕ) (e size : ℕ) (p q : List ℕ) (primes : ArePrimesOf seed e size p q) where
  pub first_above_two : 2 < number_of_bytes p
  first_above_two = subst (λ (x : List ℕ). 2 < number_of_bytes x) (sym primes.p_is) (above_two (number_of_bytes (candidate seed size primes.first)) bases
      (primes.first_taken).taken.0)

  pub second_above_two : 2 < number_of_bytes q
  second_above_two = subst (λ (x : List ℕ). 2 < number_of_bytes x) (sym primes.q_is) (above_two (number_of_bytes (candidate seed size primes.second)) bases
      (primes.second_taken).taken.0)
