-- The ciphers and their numbers (API specification, javacardx.crypto.Cipher).
use Rattle.std.specs.Ordering.{int_eq}
use Rattle.std.specs.Option.{option_and_then}
use Rattle.std.specs.Prelude.{ℤ, pos, int_le, Option, Some, None, if◌then◌else◌}
use Rattle.jc_ciphers.specs.declared.kept.BlockAlgorithm.{BlockAlgorithm}
use Rattle.jc_ciphers.specs.declared.kept.BlockAlgorithm.TheVariants.{Aes, Des}
use Rattle.jc_ciphers.specs.declared.kept.conversion.Chaining.{Chaining}
use Rattle.jc_ciphers.specs.declared.kept.conversion.Chaining.TheVariants.{Cbc, Ecb}
use Rattle.jc_ciphers.specs.declared.padding.Padding.{Padding}
use Rattle.jc_ciphers.specs.declared.padding.Padding.TheVariants.{Method1, Method2, NoPadding, Pkcs5}
use Rattle.jc_api_ciphers.specs.declared.cipher.algorithms.CipherAlgorithm.{CipherAlgorithm}

-- a block algorithm in a chaining, with a padding
abbrev pub cipher_of : BlockAlgorithm → Chaining → Padding → CipherAlgorithm
cipher_of block chaining padding = record { block = block; chaining = chaining; padding = padding }

-- ---- one number: ALG_DES_CBC_NOPAD to ALG_DES_ECB_PKCS5, ALG_AES_BLOCK_128_CBC_NOPAD and ALG_AES_BLOCK_128_ECB_NOPAD,
-- ALG_AES_CBC_ISO9797_M1 to ALG_AES_ECB_PKCS5

abbrev pub algorithm_number : BlockAlgorithm → Chaining → Padding → ℤ
algorithm_number Des Cbc NoPadding = pos 1
algorithm_number Des Cbc Method1 = pos 2
algorithm_number Des Cbc Method2 = pos 3
algorithm_number Des Cbc Pkcs5 = pos 4
algorithm_number Des Ecb NoPadding = pos 5
algorithm_number Des Ecb Method1 = pos 6
algorithm_number Des Ecb Method2 = pos 7
algorithm_number Des Ecb Pkcs5 = pos 8
algorithm_number Aes Cbc NoPadding = pos 13
algorithm_number Aes Ecb NoPadding = pos 14
algorithm_number Aes Cbc Method1 = pos 22
algorithm_number Aes Cbc Method2 = pos 23
algorithm_number Aes Cbc Pkcs5 = pos 24
algorithm_number Aes Ecb Method1 = pos 25
algorithm_number Aes Ecb Method2 = pos 26
algorithm_number Aes Ecb Pkcs5 = pos 27

-- the cipher of such a number
abbrev pub des_named : ℤ → Option CipherAlgorithm
des_named v =
    if int_eq v (pos 1) then Some (cipher_of Des Cbc NoPadding) else if int_eq v (pos 2) then Some (cipher_of Des Cbc Method1)
    else if int_eq v (pos 3) then Some (cipher_of Des Cbc Method2) else if int_eq v (pos 4) then Some (cipher_of Des Cbc Pkcs5)
    else if int_eq v (pos 5) then Some (cipher_of Des Ecb NoPadding) else if int_eq v (pos 6) then Some (cipher_of Des Ecb Method1)
    else if int_eq v (pos 7) then Some (cipher_of Des Ecb Method2) else if int_eq v (pos 8) then Some (cipher_of Des Ecb Pkcs5) else None

abbrev pub aes_named : ℤ → Option CipherAlgorithm
aes_named v =
    if int_eq v (pos 13) then Some (cipher_of Aes Cbc NoPadding) else if int_eq v (pos 14) then Some (cipher_of Aes Ecb NoPadding)
    else if int_eq v (pos 22) then Some (cipher_of Aes Cbc Method1) else if int_eq v (pos 23) then Some (cipher_of Aes Cbc Method2)
    else if int_eq v (pos 24) then Some (cipher_of Aes Cbc Pkcs5) else if int_eq v (pos 25) then Some (cipher_of Aes Ecb Method1)
    else if int_eq v (pos 26) then Some (cipher_of Aes Ecb Method2) else if int_eq v (pos 27) then Some (cipher_of Aes Ecb Pkcs5) else None

unfoldable pub cipher_named : ℤ → Option CipherAlgorithm
cipher_named v = if int_le v (pos 8) then des_named v else aes_named v

-- ---- two numbers

-- CIPHER_AES_CBC, CIPHER_AES_ECB, CIPHER_DES_CBC, CIPHER_DES_ECB
abbrev pub cipher_number : BlockAlgorithm → Chaining → ℤ
cipher_number Aes Cbc = pos 1
cipher_number Aes Ecb = pos 2
cipher_number Des Cbc = pos 3
cipher_number Des Ecb = pos 4

-- PAD_NOPAD, PAD_ISO9797_M1, PAD_ISO9797_M2, PAD_PKCS5
abbrev pub padding_number : Padding → ℤ
padding_number NoPadding = pos 1
padding_number Method1 = pos 2
padding_number Method2 = pos 3
padding_number Pkcs5 = pos 6

-- what such numbers name
abbrev pub padding_named : ℤ → Option Padding
padding_named v =
    if int_eq v (pos 1) then Some NoPadding else if int_eq v (pos 2) then Some Method1 else if int_eq v (pos 3) then Some Method2
    else if int_eq v (pos 6) then Some Pkcs5 else None

abbrev pub cipher_with : ℤ → Padding → Option CipherAlgorithm
cipher_with v padding =
    if int_eq v (pos 1) then Some (cipher_of Aes Cbc padding) else if int_eq v (pos 2) then Some (cipher_of Aes Ecb padding)
    else if int_eq v (pos 3) then Some (cipher_of Des Cbc padding) else if int_eq v (pos 4) then Some (cipher_of Des Ecb padding) else None

unfoldable pub cipher_of_numbers : ℤ → ℤ → Option CipherAlgorithm
cipher_of_numbers cipher padding = option_and_then (cipher_with cipher) (padding_named padding)
