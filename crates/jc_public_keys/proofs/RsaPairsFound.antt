-- The function of RSA key pairs gives what the library's relation admits.
use Rattle.std.proofs.Common.{◌≡◌, ◌<◌, ◌≤◌, ◌+◌, ◌-◌, ◌*◌, ◌∙◌, ℕ, true, false, List, ◌++◌, length, get_or, take, drop, Option, Some, None, Result, Ok, Err, refl, sym, ap, arith}
use Rattle.std.specs.Prelude.{option_and_then, option_map, is_err, ⊤}
use Rattle.std.proofs.lemmas.Bool.{cond-false, cond-true, false_from_ne_true}
use Rattle.std.proofs.lemmas.Nat.{mul-lt}
use Rattle.std.proofs.Math.Seq.{drop-append-add, drop-append_seam, take-append_seam}
use Rattle.std.proofs.lemmas.List.{take_all}
use Rattle.jc_numbers.specs.Numbers.{number_of_bytes}
use Rattle.jc_rsa.specs.KeyPair.{ArePrimesOf, HasRooms, IsKeyPair, Parts, PrimesGive, candidate}
use Rattle.jc_rsa.specs.Power.{IsUsable}
use Rattle.jc_rsa.specs.declared.key_pair.KeyPairError.{KeyPairError}
use Rattle.jc_rsa.specs.declared.key_pair.KeyPairError.TheVariants.{ExponentNotUsable, NoPrimesFound}
use Rattle.jc_public_keys.specs.CurveSums.{inverse_of}
use Rattle.jc_public_keys.specs.Rsa.{bytes_of_number, is_usable}
use Rattle.jc_public_keys.specs.RsaKeys.{first_taken, pair_at, pair_from, pair_of_primes, part_at, parts_in, parts_with, rsa_pair_of}
use Rattle.jc_public_keys.proofs.BytesOfNumbers.{bytes_from, dropped_bytes, taken_bytes}
use Rattle.jc_public_keys.proofs.InversesFound.{found_is, inverse_is}
use Rattle.jc_public_keys.proofs.Powers.{usable_is}
use Rattle.jc_public_keys.proofs.PrimesFound.{first_above_two, found_taken, second_above_two, taken_found}

-- each part has bytes
pub record AreBytes (k : Parts) : Type 0 where
  pub dp : (i : ℕ) → get_or k.dp i 0 < 256
  pub dq : (i : ℕ) → get_or k.dq i 0 < 256
  pub q_inverse : (i : ℕ) → get_or k.q_inverse i 0 < 256
  pub modulus : (i : ℕ) → get_or k.modulus i 0 < 256
  pub private_exponent : (i : ℕ) → get_or k.private_exponent i 0 < 256

-- ---- a key pair of two primes

then_some : {A B : Type 0} (f : A → Option B) (o : Option A) (a : A) (b : Option B) → o ≡ Some a → f a ≡ b → option_and_then f o ≡ b
then_some f o a b first second = ap (option_and_then f) first ∙ second

module _ (e : ℕ) (k : Parts) (long : HasRooms k) (small : AreBytes k) (is : IsKeyPair e k) where
  abbrev m : ℕ
  m = number_of_bytes k.p

  abbrev n : ℕ
  n = number_of_bytes k.q

  -- its parts are the bytes of their numbers
  parts_are : parts_with k.p k.q (number_of_bytes k.q_inverse) (number_of_bytes k.dp) (number_of_bytes k.dq) (number_of_bytes k.private_exponent) ≡ k
  parts_are = sym (λ j. record {
    p = k.p;
    q = k.q;
    dp = bytes_from k.dp (length k.p) (number_of_bytes k.dp) small.dp long.dp refl j;
    dq = bytes_from k.dq (length k.p) (number_of_bytes k.dq) small.dq long.dq refl j;
    q_inverse = bytes_from k.q_inverse (length k.p) (number_of_bytes k.q_inverse) small.q_inverse long.q_inverse refl j;
    modulus = bytes_from k.modulus (length k.p + length k.p) (m * n) small.modulus long.modulus is.modulus j;
    private_exponent =
        bytes_from k.private_exponent (length k.p + length k.p) (number_of_bytes k.private_exponent) small.private_exponent long.private_exponent refl j;
  })

  pub pair_is : 2 < m → 2 < n → pair_of_primes e k.p k.q ≡ Some k
  unfolding pair_of_primes
  pair_is first second =
      let q_inverse : ℕ = number_of_bytes k.q_inverse in
      let dp : ℕ = number_of_bytes k.dp in
      let dq : ℕ = number_of_bytes k.dq in
      let d : ℕ = number_of_bytes k.private_exponent in
      let some : 1 < m - 1 = omega (arith, first) in
      let more : 1 < n - 1 = omega (arith, second) in
      let all : 1 * 1 < (m - 1) * (n - 1) = mul-lt 1 1 (m - 1) (n - 1) some more in
      let above : 1 < m = omega (arith, first) in
      let last : option_map (λ x. parts_with k.p k.q q_inverse dp dq x) (inverse_of ((m - 1) * (n - 1)) e) ≡ Some k =
      ap (option_map (λ x. parts_with k.p k.q q_inverse dp dq x))
      (inverse_is ((m - 1) * (n - 1)) e d (omega (arith, all)) is.private_exponent.0 is.private_exponent.1)
      ∙ ap Some parts_are in
      then_some _ (inverse_of m n) q_inverse (Some k) (inverse_is m n q_inverse above is.q_inverse.0 is.q_inverse.1)
      (then_some _ (inverse_of (m - 1) e) dp (Some k) (inverse_is (m - 1) e dp some is.dp.0 is.dp.1)
      (then_some _ (inverse_of (n - 1) e) dq (Some k) (inverse_is (n - 1) e dq more is.dq.0 is.dq.1) last))

-- where q has no inverse modulo p there is none
no_pair : (e : ℕ) (p q : List ℕ) → inverse_of (number_of_bytes p) (number_of_bytes q) ≡ None → pair_of_primes e p q ≡ None
unfolding pair_of_primes
no_pair e p q none = ap (option_and_then _) none

-- ---- the key pair of a seed

usable : (seed exponent : List ℕ) (size : ℕ) → IsUsable (number_of_bytes exponent)
    → rsa_pair_of seed exponent size
    ≡ option_and_then (pair_from seed (number_of_bytes exponent) size) (first_taken seed (number_of_bytes exponent) size 0)
unfolding rsa_pair_of
usable seed exponent size is =
    let e : ℕ = number_of_bytes exponent in
    cond-true (is_usable e) (option_and_then (pair_from seed e size) (first_taken seed e size 0)) None ((usable_is e).1 is)

not_usable : (seed exponent : List ℕ) (size : ℕ) → ¬ (IsUsable (number_of_bytes exponent)) → rsa_pair_of seed exponent size ≡ None
unfolding rsa_pair_of
not_usable seed exponent size none =
    let e : ℕ = number_of_bytes exponent in
    cond-false (is_usable e) (option_and_then (pair_from seed e size) (first_taken seed e size 0)) None
    (false_from_ne_true (is_usable e) (λ told. none ((usable_is e).0 told)))

module _ (seed : List ℕ) (e size : ℕ) where
  -- by the two numbers
  found_at : (p q : List ℕ) (primes : ArePrimesOf seed e size p q)
      → option_and_then (pair_from seed e size) (first_taken seed e size 0) ≡ pair_of_primes e p q
  found_at p q primes =
      then_some (pair_from seed e size) (first_taken seed e size 0) primes.first _ (taken_found seed e size 0 primes.first primes.first_taken)
      (then_some (pair_at seed e size primes.first) (first_taken seed e size (primes.first + 1)) primes.second _
      (taken_found seed e size (primes.first + 1) primes.second primes.second_taken) (λ j. pair_of_primes e (sym primes.p_is j) (sym primes.q_is j)))

  abbrev NoPrimes : Type 0
  NoPrimes = (first second : List ℕ) → ¬ (ArePrimesOf seed e size first second)

  none_apart : NoPrimes → (i j : ℕ) → first_taken seed e size 0 ≡ Some i → first_taken seed e size (i + 1) ≡ Some j → (o : Option ℕ)
      → inverse_of (number_of_bytes (candidate seed size i)) (number_of_bytes (candidate seed size j)) ≡ o → pair_at seed e size i j ≡ None
  none_apart none i j first second None is = no_pair e (candidate seed size i) (candidate seed size j) is
  none_apart none i j first second (Some z) is = absurd (none (candidate seed size i) (candidate seed size j) (record {
    first = i;
    second = j;
    first_taken = found_taken seed e size 0 i first;
    second_taken = found_taken seed e size (i + 1) j second;
    p_is = refl;
    q_is = refl;
    apart = (z, found_is (number_of_bytes (candidate seed size i)) (number_of_bytes (candidate seed size j)) z is);
  }))

  none_second : NoPrimes → (i : ℕ) → first_taken seed e size 0 ≡ Some i → (o : Option ℕ) → first_taken seed e size (i + 1) ≡ o
      → option_and_then (pair_at seed e size i) o ≡ None
  none_second none i first None second = refl
  none_second none i first (Some j) second = none_apart none i j first second _ refl

  none_first : NoPrimes → (o : Option ℕ) → first_taken seed e size 0 ≡ o → option_and_then (pair_from seed e size) o ≡ None
  none_first none None first = refl
  none_first none (Some i) first = none_second none i first _ refl

-- what is written is the key pair
pub pair_found : (seed exponent : List ℕ) (size : ℕ) (k : Parts) → HasRooms k → AreBytes k → IsUsable (number_of_bytes exponent)
    → ArePrimesOf seed (number_of_bytes exponent) size k.p k.q → IsKeyPair (number_of_bytes exponent) k → Some k ≡ rsa_pair_of seed exponent size
pair_found seed exponent size k long small fits primes is =
    let e : ℕ = number_of_bytes exponent in
    sym (usable seed exponent size fits ∙ found_at seed e size k.p k.q primes
    ∙ pair_is e k long small is (first_above_two seed e size k.p k.q primes) (second_above_two seed e size k.p k.q primes))

-- ---- what the library answers

-- it has found the primes
pub primes_made : (seed : List ℕ) (e : ℕ) (p q new_p new_q : List ℕ) (made : Result ⊤ KeyPairError) → PrimesGive seed e p q new_p new_q made
    → is_err made ≡ false → IsUsable e × ArePrimesOf seed e (length p) new_p new_q
primes_made seed e p q new_p new_q (Ok _) is made = is
primes_made seed e p q new_p new_q (Err error) is made = absurd cc

no_pair_found : (seed exponent p q new_p new_q : List ℕ) (error : KeyPairError) → PrimesGive seed (number_of_bytes exponent) p q new_p new_q (Err error)
    → None ≡ rsa_pair_of seed exponent (length p)
no_pair_found seed exponent p q new_p new_q ExponentNotUsable is = sym (not_usable seed exponent (length p) is.0)
no_pair_found seed exponent p q new_p new_q NoPrimesFound is =
    let e : ℕ = number_of_bytes exponent in
    sym (usable seed exponent (length p) is.0 ∙ none_first seed e (length p) is.1 (first_taken seed e (length p) 0) refl)

-- or there is no key pair
pub none_made : (seed exponent p q new_p new_q : List ℕ) (made : Result ⊤ KeyPairError)
    → PrimesGive seed (number_of_bytes exponent) p q new_p new_q made → is_err made ≡ true → None ≡ rsa_pair_of seed exponent (length p)
none_made seed exponent p q new_p new_q (Ok _) is failed = absurd cc
none_made seed exponent p q new_p new_q (Err error) is failed = no_pair_found seed exponent p q new_p new_q error is

-- ---- parts one after another

abbrev pub joined : Parts → List ℕ
joined k = k.p ++ (k.q ++ (k.dp ++ (k.dq ++ (k.q_inverse ++ (k.modulus ++ k.private_exponent)))))

next_place : (j n : ℕ) → (j + 1) * n ≡ n + j * n
next_place j n = grind arith

module _ (n : ℕ) (k : Parts) (long : HasRooms k) (size : length k.p ≡ n) where
  -- what stands after the first part
  after : (x rest : List ℕ) (j : ℕ) → length x ≡ length k.p → drop ((j + 1) * n) (x ++ rest) ≡ drop (j * n) rest
  after x rest j same =
      ap (λ (m : ℕ). drop m (x ++ rest)) (next_place j n ∙ ap (λ (m : ℕ). m + j * n) (sym (same ∙ size))) ∙ drop-append-add x rest (j * n)

  one : n ≡ 1 * n
  one = omega arith

  nothing : 0 * n ≡ 0
  nothing = omega arith

  whole : (x rest : List ℕ) (m : ℕ) → length x ≡ m → take m (drop (0 * n) (x ++ rest)) ≡ x
  whole x rest m same = (λ j. take (sym same j) (drop (nothing j) (x ++ rest))) ∙ take-append_seam x rest

  long_modulus : length k.modulus ≡ 2 * n
  long_modulus = omega (arith, long.modulus, size)

  long_exponent : length k.private_exponent ≤ 2 * n
  long_exponent = omega (arith, long.private_exponent, size)

  abbrev last : List ℕ
  last = k.modulus ++ k.private_exponent

  abbrev rest_dq : List ℕ
  rest_dq = k.q_inverse ++ last

  abbrev rest_dp : List ℕ
  rest_dp = k.dq ++ rest_dq

  abbrev rest_q : List ℕ
  rest_q = k.dp ++ rest_dp

  abbrev rest_p : List ℕ
  rest_p = k.q ++ rest_q

  -- what stands after the first two parts, and after the first five
  after_two : (j : ℕ) → drop ((j + 1 + 1) * n) (joined k) ≡ drop (j * n) rest_q
  after_two j = after k.p rest_p (j + 1) refl ∙ after k.q rest_q j long.q

  after_five : (j : ℕ) → drop ((j + 1 + 1 + 1 + 1 + 1) * n) (joined k) ≡ drop (j * n) last
  after_five j =
      after_two (j + 1 + 1 + 1) ∙ after k.dp rest_dp (j + 1 + 1) long.dp ∙ after k.dq rest_dq (j + 1) long.dq
      ∙ after k.q_inverse last j long.q_inverse

  p_is : part_at (joined k) 0 n ≡ k.p
  p_is = (λ j. take n (drop (sym nothing j) (joined k))) ∙ whole k.p rest_p n size

  q_is : part_at (joined k) n n ≡ k.q
  q_is = (λ j. take n (drop (one j) (joined k))) ∙ ap (take n) (after k.p rest_p 0 refl) ∙ whole k.q rest_q n (long.q ∙ size)

  dp_is : part_at (joined k) (2 * n) n ≡ k.dp
  dp_is = ap (take n) (after_two 0) ∙ whole k.dp rest_dp n (long.dp ∙ size)

  dq_is : part_at (joined k) (3 * n) n ≡ k.dq
  dq_is = ap (take n) (after_two 1 ∙ after k.dp rest_dp 0 long.dp) ∙ whole k.dq rest_dq n (long.dq ∙ size)

  q_inverse_is : part_at (joined k) (4 * n) n ≡ k.q_inverse
  q_inverse_is =
      ap (take n) (after_two 2 ∙ after k.dp rest_dp 1 long.dp ∙ after k.dq rest_dq 0 long.dq) ∙ whole k.q_inverse last n (long.q_inverse ∙ size)

  modulus_is : part_at (joined k) (5 * n) (2 * n) ≡ k.modulus
  modulus_is = ap (take (2 * n)) (after_five 0) ∙ whole k.modulus k.private_exponent (2 * n) long_modulus

  exponent_is : part_at (joined k) (7 * n) (2 * n) ≡ k.private_exponent
  exponent_is =
      ap (take (2 * n)) (after_five 2 ∙ ap (λ (m : ℕ). drop m last) (sym long_modulus) ∙ drop-append_seam k.modulus k.private_exponent)
      ∙ take_all (2 * n) k.private_exponent long_exponent

  -- the parts in an array are those that stand there
  pub parts_joined : parts_in n (joined k) ≡ k
  parts_joined = (λ j. record {
    p = p_is j;
    q = q_is j;
    dp = dp_is j;
    dq = dq_is j;
    q_inverse = q_inverse_is j;
    modulus = modulus_is j;
    private_exponent = exponent_is j;
  })

-- and have bytes where the array has
pub parts_small : (n : ℕ) (bytes : List ℕ) → ((i : ℕ) → get_or bytes i 0 < 256) → AreBytes (parts_in n bytes)
parts_small n bytes small =
    let part = λ (at m : ℕ). taken_bytes (drop at bytes) m (dropped_bytes bytes at small) in
    record {
      dp = part (2 * n) n;
      dq = part (3 * n) n;
      q_inverse = part (4 * n) n;
      modulus = part (5 * n) (2 * n);
      private_exponent = part (7 * n) (2 * n);
    }
