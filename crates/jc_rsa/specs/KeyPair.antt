-- Key pairs from a seed (RFC 8017, 3): which numbers are tried, which are taken, and what is made of them.
use Rattle.std.specs.Prelude.{◌≡◌, ℕ, ◌+◌, ◌-◌, ◌*◌, ◌<◌, ◌≤◌, List, [], ◌∷◌, ◌++◌, bit_or, length, slice_index, slice_set, Result, Ok, Err, ⊤}
use Rattle.std.specs.Int.{to_be_bytes, w32}
use Rattle.jc_digests.specs.declared.kept.HashAlgorithm.TheVariants.{Sha256}
use Rattle.jc_numbers.specs.Inverses.{HasInverse, IsInverse}
use Rattle.jc_numbers.specs.Numbers.{number_of_bytes}
use Rattle.jc_rsa.specs.Mgf1.{mgf1}
use Rattle.jc_rsa.specs.Power.{IsUsable}
use Rattle.jc_rsa.specs.Primes.{IsProbablePrime}
use Rattle.jc_rsa.specs.declared.key_pair.KeyPairError.{KeyPairError}
use Rattle.jc_rsa.specs.declared.key_pair.KeyPairError.TheVariants.{ExponentNotUsable, NoPrimesFound}

-- ---- candidates

-- a byte with these bits set
abbrev pub with_bits : ℕ → ℕ → List ℕ → List ℕ
with_bits i bits bytes = slice_set bytes i (bit_or (slice_index bytes i) bits)

-- candidate number i of a seed: the mask of the seed and the number, with the two highest bits and the lowest set
unfoldable pub candidate : List ℕ → ℕ → ℕ → List ℕ
candidate seed size i = with_bits (size - 1) 0x01 (with_bits 0 0xc0 (mgf1 Sha256 (seed ++ to_be_bytes w32 i) size))

-- how many are tried for each prime
abbrev pub most_candidates : ℕ
most_candidates = 16384

-- the bases of the test of Miller and Rabin
abbrev pub bases : List ℕ
bases = 2 ∷ 3 ∷ 5 ∷ 7 ∷ 11 ∷ 13 ∷ 17 ∷ 19 ∷ []

-- p is taken: it is probably a prime, and e has an inverse modulo p - 1
abbrev pub IsTaken : ℕ → ℕ → Type 0
IsTaken e p = IsProbablePrime p bases × HasInverse (p - 1) e

-- candidate i of a seed is taken
abbrev pub IsTakenCandidate : List ℕ → ℕ → ℕ → ℕ → Type 0
IsTakenCandidate seed e size i = IsTaken e (number_of_bytes (candidate seed size i))

-- candidate i is the first that is taken, of those tried from a number on
pub record IsFirstTaken (seed : List ℕ) (e size start i : ℕ) : Type 0 where
  pub low : start ≤ i
  pub within : i < start + most_candidates
  pub taken : IsTakenCandidate seed e size i
  pub before : (k : ℕ) → start ≤ k → k < i → ¬ (IsTakenCandidate seed e size k)

-- none is taken, of those tried from a number on
abbrev pub HasNoneTaken : List ℕ → ℕ → ℕ → ℕ → Type 0
HasNoneTaken seed e size start = (k : ℕ) → start ≤ k → k < start + most_candidates → ¬ (IsTakenCandidate seed e size k)

-- p is the first candidate that is taken, q is the next one, and q has an inverse modulo p, so that they differ
pub record ArePrimesOf (seed : List ℕ) (e size : ℕ) (p q : List ℕ) : Type 0 where
  pub first : ℕ
  pub second : ℕ
  pub first_taken : IsFirstTaken seed e size 0 first
  pub second_taken : IsFirstTaken seed e size (first + 1) second
  pub p_is : p ≡ candidate seed size first
  pub q_is : q ≡ candidate seed size second
  pub apart : HasInverse (number_of_bytes p) (number_of_bytes q)

-- what becomes of two rooms: the primes, or an error with the bytes as they were
abbrev pub PrimesGive : List ℕ → ℕ → List ℕ → List ℕ → List ℕ → List ℕ → Result ⊤ KeyPairError → Type 0
PrimesGive seed e p q new_p new_q (Ok _) = IsUsable e × ArePrimesOf seed e (length p) new_p new_q
PrimesGive seed e p q new_p new_q (Err ExponentNotUsable) = ¬ (IsUsable e) × (new_p ≡ p) × (new_q ≡ q)
PrimesGive seed e p q new_p new_q (Err NoPrimesFound) =
    IsUsable e × ((first second : List ℕ) → ¬ (ArePrimesOf seed e (length p) first second)) × (new_p ≡ p) × (new_q ≡ q)

-- ---- what is made of them

-- d is the inverse of e modulo n
abbrev pub IsInverseBelow : ℕ → ℕ → ℕ → Type 0
IsInverseBelow n e d = IsInverse n e d × (d < n)

-- the bytes of a key pair's parts
pub record Parts : Type 0 where
  pub p : List ℕ
  pub q : List ℕ
  pub dp : List ℕ
  pub dq : List ℕ
  pub q_inverse : List ℕ
  pub modulus : List ℕ
  pub private_exponent : List ℕ

-- p has 32 to 256 bytes, q, dP, dQ and qInv as many, and the modulus and the private exponent twice as many
pub record HasRooms (k : Parts) : Type 0 where
  pub some : 32 ≤ length k.p
  pub few : length k.p ≤ 256
  pub q : length k.q ≡ length k.p
  pub dp : length k.dp ≡ length k.p
  pub dq : length k.dq ≡ length k.p
  pub q_inverse : length k.q_inverse ≡ length k.p
  pub modulus : length k.modulus ≡ length k.p + length k.p
  pub private_exponent : length k.private_exponent ≡ length k.p + length k.p

-- the key pair of two primes for a public exponent (RFC 8017, 3.1 and 3.2), whose private exponent is the inverse modulo (p - 1) (q - 1)
pub record IsKeyPair (e : ℕ) (k : Parts) : Type 0 where
  pub dp : IsInverseBelow (number_of_bytes k.p - 1) e (number_of_bytes k.dp)
  pub dq : IsInverseBelow (number_of_bytes k.q - 1) e (number_of_bytes k.dq)
  pub q_inverse : IsInverseBelow (number_of_bytes k.p) (number_of_bytes k.q) (number_of_bytes k.q_inverse)
  pub modulus : number_of_bytes k.modulus ≡ number_of_bytes k.p * number_of_bytes k.q
  pub private_exponent : IsInverseBelow ((number_of_bytes k.p - 1) * (number_of_bytes k.q - 1)) e (number_of_bytes k.private_exponent)
