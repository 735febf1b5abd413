-- All ciphers, by their numbers: ciphers of blocks, and RSA.
use Rattle.std.specs.Ordering.{int_eq}
use Rattle.std.specs.Option.{option_map}
use Rattle.std.specs.Prelude.{ℕ, ℤ, pos, Option, Some, None, if◌then◌else◌}
use Rattle.jc_api_ciphers.specs.Cipher.Block.{cipher_shorts}
use Rattle.jc_api_ciphers.specs.Cipher.Algorithms.{algorithm_number, cipher_named, cipher_number, cipher_of_numbers, padding_number}
use Rattle.jc_api_ciphers.specs.declared.cipher.algorithms.CipherAlgorithm.{CipherAlgorithm}
use Rattle.jc_api_ciphers.specs.declared.cipher.kinds.CipherKind.{CipherKind}
use Rattle.jc_api_ciphers.specs.declared.cipher.kinds.CipherKind.TheVariants.{Block, Rsa}
use Rattle.jc_api_ciphers.specs.declared.cipher.kinds.RsaPadding.{RsaPadding}
use Rattle.jc_api_ciphers.specs.declared.cipher.kinds.RsaPadding.TheVariants.{NoPadding, Oaep, Pkcs1}

-- ---- RSA

-- ALG_RSA_PKCS1, ALG_RSA_NOPAD, ALG_RSA_PKCS1_OAEP
abbrev pub rsa_named : ℤ → Option RsaPadding
rsa_named v =
    if int_eq v (pos 10) then Some Pkcs1 else if int_eq v (pos 12) then Some NoPadding else if int_eq v (pos 15) then Some Oaep else None

abbrev pub rsa_number : RsaPadding → ℤ
rsa_number NoPadding = pos 12
rsa_number Pkcs1 = pos 10
rsa_number Oaep = pos 15

-- PAD_NOPAD, PAD_PKCS1, PAD_PKCS1_OAEP
abbrev pub rsa_padding_named : ℤ → Option RsaPadding
rsa_padding_named v =
    if int_eq v (pos 1) then Some NoPadding else if int_eq v (pos 7) then Some Pkcs1 else if int_eq v (pos 9) then Some Oaep else None

abbrev pub rsa_padding_number : RsaPadding → ℤ
rsa_padding_number NoPadding = pos 1
rsa_padding_number Pkcs1 = pos 7
rsa_padding_number Oaep = pos 9

-- how many shorts a state has: how many bytes came, and room for those of the longest modulus
abbrev pub rsa_shorts : ℕ
rsa_shorts = 257

-- ---- all

-- the cipher of a number
abbrev pub block_or_rsa : Option CipherAlgorithm → ℤ → Option CipherKind
block_or_rsa (Some a) v = Some (Block a)
block_or_rsa None v = option_map Rsa (rsa_named v)

unfoldable pub kind_named : ℤ → Option CipherKind
kind_named v = block_or_rsa (cipher_named v) v

-- of two numbers, of a cipher and a padding: 6 is CIPHER_RSA
unfoldable pub kind_of_numbers : ℤ → ℤ → Option CipherKind
kind_of_numbers cipher padding =
    if int_eq cipher (pos 6) then option_map Rsa (rsa_padding_named padding) else option_map Block (cipher_of_numbers cipher padding)

-- its numbers
abbrev pub kind_number : CipherKind → ℤ
kind_number (Block a) = algorithm_number a.block a.chaining a.padding
kind_number (Rsa p) = rsa_number p

abbrev pub kind_cipher_number : CipherKind → ℤ
kind_cipher_number (Block a) = cipher_number a.block a.chaining
kind_cipher_number (Rsa p) = pos 6

abbrev pub kind_padding_number : CipherKind → ℤ
kind_padding_number (Block a) = padding_number a.padding
kind_padding_number (Rsa p) = rsa_padding_number p

-- how many shorts a state has
abbrev pub kind_shorts : CipherKind → ℕ
kind_shorts (Block a) = cipher_shorts a.block
kind_shorts (Rsa p) = rsa_shorts
