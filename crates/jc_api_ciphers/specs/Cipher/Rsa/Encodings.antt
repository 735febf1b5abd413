-- What RSA as a cipher makes of a message before its power is taken, and the message in a power.
use Rattle.std.specs.Prelude.{ℕ, List, Option, None}
use Rattle.jc_public_keys.specs.RsaCiphers.{message_of, private_representative, public_representative}
use Rattle.jc_public_keys.specs.declared.rsa_ciphers.CipherPadding.TheVariants as plain
use Rattle.jc_api_ciphers.specs.Cipher.Rsa.Oaep.{oaep_message, oaep_representative}
use Rattle.jc_api_ciphers.specs.declared.cipher.kinds.RsaPadding.{RsaPadding}
use Rattle.jc_api_ciphers.specs.declared.cipher.kinds.RsaPadding.TheVariants.{NoPadding, Oaep, Pkcs1}

-- for a public key with a modulus of n bytes, of a seed of random bytes
abbrev pub public_form : RsaPadding → List ℕ → List ℕ → ℕ → Option (List ℕ)
public_form NoPadding m seed n = public_representative plain.NoPadding m seed n
public_form Pkcs1 m seed n = public_representative plain.Pkcs1 m seed n
public_form Oaep m seed n = oaep_representative m seed n

-- for a private key
abbrev pub private_form : RsaPadding → List ℕ → ℕ → Option (List ℕ)
private_form NoPadding m n = private_representative plain.NoPadding m n
private_form Pkcs1 m n = private_representative plain.Pkcs1 m n
private_form Oaep m n = None

-- the message of what is deciphered
abbrev pub message_in : RsaPadding → List ℕ → Option (List ℕ)
message_in NoPadding em = message_of plain.NoPadding em
message_in Pkcs1 em = message_of plain.Pkcs1 em
message_in Oaep em = oaep_message em
