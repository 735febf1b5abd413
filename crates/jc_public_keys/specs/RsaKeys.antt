-- RSA key pairs of a seed (RFC 8017, 3), by bytes: of the candidates of the seed, the first that is taken is p, and the next one is q.
use Rattle.std.specs.Prelude.{ℕ, zero, suc, ◌+◌, ◌-◌, ◌*◌, ◌^◌, ◌%◌, ◌==◌, ◌&&◌, ◌||◌, nat_lt, not, Bool, true, false, List, length, slice_index}
use Rattle.std.specs.Prelude.{Option, Some, None, is_some, option_and_then, option_map, take, drop, if◌then◌else◌}
use Rattle.jc_numbers.specs.Numbers.{number_of_bytes}
use Rattle.jc_rsa.specs.KeyPair.{Parts, bases, candidate, most_candidates}
use Rattle.jc_public_keys.specs.CurveSums.{inverse_of}
use Rattle.jc_public_keys.specs.RandomNumbers.{first_of}
use Rattle.jc_public_keys.specs.Rsa.{bytes_of_number, is_usable}

-- ---- probable primes (FIPS 186-4, C.3.1)

-- some number below a bound passes a test
unfoldable pub some_below : (ℕ → Bool) → ℕ → Bool
some_below test zero = false
some_below test (suc n) = test n || some_below test n

-- each number below a bound does
unfoldable pub all_below : (ℕ → Bool) → ℕ → Bool
all_below test zero = true
all_below test (suc n) = test n && all_below test n

-- n - 1 = 2 ^ twos * rest with an odd rest, and the base to the rest is 1 modulo n, or to 2 ^ k times the rest, for some k below twos, n - 1
abbrev pub passes_by : ℕ → ℕ → ℕ → ℕ → Bool
passes_by n base twos rest = (n - 1 == 2 ^ twos * rest && rest % 2 == 1)
    && (base ^ rest % n == 1 || some_below (λ k. base ^ (2 ^ k * rest) % n == n - 1) twos)

-- n passes the test of Miller and Rabin with a base
unfoldable pub is_strong : ℕ → ℕ → Bool
is_strong n base = some_below (λ twos. some_below (λ rest. passes_by n base twos rest) n) n

-- no number from 2 to 255 divides n
unfoldable pub has_no_small_divisor : ℕ → Bool
has_no_small_divisor n = all_below (λ k. not (nat_lt 1 k) || not (n % k == 0)) 256

-- n is above 1, has no small divisor, and passes the test with each base
abbrev pub is_probable_prime : ℕ → List ℕ → Bool
is_probable_prime n bases = nat_lt 1 n && (has_no_small_divisor n && all_below (λ i. is_strong n (slice_index bases i)) (length bases))

-- ---- the primes of a seed

-- p is taken: it is probably a prime, and e has an inverse modulo p - 1
unfoldable pub is_taken : ℕ → ℕ → Bool
is_taken e p = is_probable_prime p bases && is_some (inverse_of (p - 1) e)

-- the number of a candidate, if it is taken
unfoldable pub taken_at : List ℕ → ℕ → ℕ → ℕ → Option ℕ
taken_at seed e size i = if is_taken e (number_of_bytes (candidate seed size i)) then Some i else None

-- that of the first that is taken, from a number on
abbrev pub first_taken : List ℕ → ℕ → ℕ → ℕ → Option ℕ
first_taken seed e size start = first_of (taken_at seed e size) most_candidates start

-- ---- key pairs

-- the bytes of all parts
abbrev pub parts_with : List ℕ → List ℕ → ℕ → ℕ → ℕ → ℕ → Parts
parts_with p q q_inverse dp dq d = record {
  p = p;
  q = q;
  dp = bytes_of_number (length p) dp;
  dq = bytes_of_number (length p) dq;
  q_inverse = bytes_of_number (length p) q_inverse;
  modulus = bytes_of_number (length p + length p) (number_of_bytes p * number_of_bytes q);
  private_exponent = bytes_of_number (length p + length p) d;
}

-- the key pair of two primes for the public exponent e, where q has an inverse modulo p, and e one modulo p - 1, q - 1 and (p - 1) (q - 1)
unfoldable pub pair_of_primes : ℕ → List ℕ → List ℕ → Option Parts
pair_of_primes e p q =
    let m : ℕ = number_of_bytes p in
    let n : ℕ = number_of_bytes q in
    option_and_then (λ q_inverse. option_and_then (λ dp. option_and_then (λ dq. option_map (λ d. parts_with p q q_inverse dp dq d)
    (inverse_of ((m - 1) * (n - 1)) e)) (inverse_of (n - 1) e)) (inverse_of (m - 1) e)) (inverse_of m n)

-- by the numbers of two candidates
abbrev pub pair_at : List ℕ → ℕ → ℕ → ℕ → ℕ → Option Parts
pair_at seed e size i j = pair_of_primes e (candidate seed size i) (candidate seed size j)

-- where the first prime is known
abbrev pub pair_from : List ℕ → ℕ → ℕ → ℕ → Option Parts
pair_from seed e size i = option_and_then (pair_at seed e size i) (first_taken seed e size (i + 1))

-- the key pair of a seed for a public exponent, with primes of as many bytes as size; none where the exponent is even or below 3, where
-- among the candidates are not two primes, or q has no inverse modulo p
unfoldable pub rsa_pair_of : List ℕ → List ℕ → ℕ → Option Parts
rsa_pair_of seed exponent size =
    let e : ℕ = number_of_bytes exponent in
    if is_usable e then option_and_then (pair_from seed e size) (first_taken seed e size 0) else None

-- ---- in one array

-- n bytes from a place on
abbrev pub part_at : List ℕ → ℕ → ℕ → List ℕ
part_at bytes at n = take n (drop at bytes)

-- the parts that stand one after another: p, q, dP, dQ and qInv, of n bytes each, and the modulus and the private exponent, of twice as many
abbrev pub parts_in : ℕ → List ℕ → Parts
parts_in n bytes = record {
  p = part_at bytes 0 n;
  q = part_at bytes n n;
  dp = part_at bytes (2 * n) n;
  dq = part_at bytes (3 * n) n;
  q_inverse = part_at bytes (4 * n) n;
  modulus = part_at bytes (5 * n) (2 * n);
  private_exponent = part_at bytes (7 * n) (2 * n);
}
