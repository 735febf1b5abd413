-- RSAES-OAEP over SHA-1, with an empty label (RFC 8017, 7.1).
use Rattle.std.specs.Str.{bytes_eq}
use Rattle.std.specs.Prelude.{ℕ, ◌+◌, ◌-◌, ◌==◌, ◌&&◌, nat_le, List, [], ◌∷◌, drop, length, take, Option, Some, None, if◌then◌else◌}
use Rattle.jc_digests.specs.declared.kept.HashAlgorithm.TheVariants.{Sha1}
use Rattle.jc_rsa.specs.Bytes.{xor}
use Rattle.jc_rsa.specs.EmeOaep.{oaep}
use Rattle.jc_rsa.specs.Mgf1.{mgf1}
use Rattle.jc_public_keys.specs.Random.{random_bytes}

-- the representative of a message that is at least 42 bytes shorter than the modulus, of n bytes: its encoding under a seed of random bytes
abbrev pub oaep_representative : List ℕ → List ℕ → ℕ → Option (List ℕ)
oaep_representative m seed n = if nat_le (length m + 42) n then Some (oaep Sha1 (random_bytes seed m 20) m n) else None

-- the seed of an encoding, and its data block, without their masks
abbrev pub seed_in : List ℕ → List ℕ
seed_in em = xor (take 20 (drop 1 em)) (mgf1 Sha1 (drop 21 em) 20)

abbrev pub block_in : List ℕ → List ℕ
block_in em = xor (drop 21 em) (mgf1 Sha1 (seed_in em) (length em - 21))

-- what follows the first byte that is not zero
unfoldable pub after_zeros : List ℕ → List ℕ
after_zeros [] = []
after_zeros (x ∷ xs) = if x == 0 then after_zeros xs else xs

-- what stands in the place of a message, after the digest of the label
abbrev pub last_in : List ℕ → List ℕ
last_in em = after_zeros (drop 20 (block_in em))

-- the message of an encoding: with the seed that is in it, it makes the encoding again
unfoldable pub oaep_message : List ℕ → Option (List ℕ)
oaep_message em =
    if nat_le (length (last_in em) + 42) (length em) && bytes_eq em (oaep Sha1 (seed_in em) (last_in em) (length em))
    then Some (last_in em) else None
