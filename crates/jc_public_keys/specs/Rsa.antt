-- What RSA makes of a message representative under a key (RFC 8017, 5.1 and 5.2), all as bytes.
use Rattle.std.specs.Prelude.{ℕ, zero, suc, ◌*◌, ◌/◌, ◌%◌, ◌^◌, ◌==◌, ◌&&◌, nat_lt, Bool, List, [], ◌∷◌, length, Option, Some, None, if◌then◌else◌}
use Rattle.jc_numbers.specs.Numbers.{number_of_bytes}
use Rattle.jc_rsa.specs.Crt.{joined}
use Rattle.jc_rsa.specs.declared.crt.CrtKey.{CrtKey}

-- I2OSP: the lowest bytes of a number, the highest of them first
unfoldable pub bytes_of_number : ℕ → ℕ → List ℕ
bytes_of_number zero x = []
bytes_of_number (suc k) x = x / 256 ^ k % 256 ∷ bytes_of_number k (x % 256 ^ k)

-- n is odd and above 1
abbrev pub is_usable : ℕ → Bool
is_usable n = n % 2 == 1 && nat_lt 1 n

-- the power of a message by an exponent, in as many bytes as the modulus has; none where the modulus is not usable, or the message not below it
unfoldable pub power_of : List ℕ → List ℕ → List ℕ → Option (List ℕ)
power_of modulus exponent message =
    if is_usable (number_of_bytes modulus) && nat_lt (number_of_bytes message) (number_of_bytes modulus)
    then Some (bytes_of_number (length modulus) (number_of_bytes message ^ number_of_bytes exponent % number_of_bytes modulus))
    else None

-- ---- under a private key by its primes

-- the bytes of p, q, dP, dQ and qInv
pub record PrimesKey : Type 0 where
  pub p : List ℕ
  pub q : List ℕ
  pub dp : List ℕ
  pub dq : List ℕ
  pub q_inverse : List ℕ

abbrev pub bytes_of_key : CrtKey → PrimesKey
bytes_of_key k = record { p = k.p.now; q = k.q.now; dp = k.dp.now; dq = k.dq.now; q_inverse = k.q_inverse.now }

-- m of RFC 8017, 5.1.2, step 2.b, of a ciphertext or a representative c
abbrev pub joined_power : PrimesKey → ℕ → ℕ
joined_power k c =
    let p : ℕ = number_of_bytes k.p in
    let q : ℕ = number_of_bytes k.q in
    joined p q (number_of_bytes k.q_inverse) (c ^ number_of_bytes k.dp % p) (c ^ number_of_bytes k.dq % q)

-- p and q are usable, n bytes hold their product, and c is below it
abbrev pub may_join : PrimesKey → ℕ → ℕ → Bool
may_join k c n =
    let p : ℕ = number_of_bytes k.p in
    let q : ℕ = number_of_bytes k.q in
    (is_usable p && is_usable q) && (nat_lt (p * q) (256 ^ n) && nat_lt c (p * q))

-- what the key makes of a message, as n bytes; none where it may not
unfoldable pub crt_power_of : PrimesKey → List ℕ → ℕ → Option (List ℕ)
crt_power_of k message n =
    if may_join k (number_of_bytes message) n then Some (bytes_of_number n (joined_power k (number_of_bytes message))) else None
