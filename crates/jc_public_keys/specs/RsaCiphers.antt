-- Messages as they are encoded to be enciphered by RSA, for a modulus of n bytes (RFC 8017, 7.1 and 7.2).
use Rattle.std.specs.Prelude.{ℕ, suc, ◌+◌, ◌-◌, ◌%◌, ◌==◌, ◌&&◌, nat_le, List, [], ◌∷◌, length, map, Option, Some, None, if◌then◌else◌}
use Rattle.jc_rsa.specs.EmePkcs1.{encryption_block}
use Rattle.jc_rsa.specs.EmsaPkcs1.{signature_block}
use Rattle.jc_public_keys.specs.Random.{random_bytes}
use Rattle.jc_public_keys.specs.declared.rsa_ciphers.CipherPadding.{CipherPadding}
use Rattle.jc_public_keys.specs.declared.rsa_ciphers.CipherPadding.TheVariants.{NoPadding, Pkcs1}

-- random bytes that are not zero
abbrev pub nonzero_bytes : List ℕ → List ℕ → ℕ → List ℕ
nonzero_bytes seed message count = map (λ b. b % 255 + 1) (random_bytes seed message count)

-- the representative of a message for a public key: the message itself, of n bytes, or EME-PKCS1-v1_5
abbrev pub public_representative : CipherPadding → List ℕ → List ℕ → ℕ → Option (List ℕ)
public_representative NoPadding m seed n = if length m == n then Some m else None
public_representative Pkcs1 m seed n =
    if nat_le (length m + 11) n then Some (encryption_block (nonzero_bytes seed m (n - length m - 3)) m) else None

-- for a private key: the message itself, or the form of EMSA-PKCS1-v1_5
abbrev pub private_representative : CipherPadding → List ℕ → ℕ → Option (List ℕ)
private_representative NoPadding m n = if length m == n then Some m else None
private_representative Pkcs1 m n = if nat_le (length m + 11) n then Some (signature_block m n) else None

-- what follows the first zero, if as many bytes as eight stand before it
unfoldable pub after_padding : ℕ → List ℕ → Option (List ℕ)
after_padding count [] = None
after_padding count (x ∷ xs) = if x == 0 then (if nat_le 8 count then Some xs else None) else after_padding (suc count) xs

-- the message that EME-PKCS1-v1_5 encodes
unfoldable pub pkcs1_message : List ℕ → Option (List ℕ)
pkcs1_message [] = None
pkcs1_message (x ∷ []) = None
pkcs1_message (x ∷ y ∷ rest) = if x == 0 && y == 2 then after_padding 0 rest else None

-- the message of a representative under a private key
abbrev pub message_of : CipherPadding → List ℕ → Option (List ℕ)
message_of NoPadding em = Some em
message_of Pkcs1 em = pkcs1_message em
