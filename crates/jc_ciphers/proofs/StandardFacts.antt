-- The standards' first examples under the definitions, so that a wrong step or constant does not check.
use Rattle.std.proofs.Common.{◌≡◌, ℕ, List, [], ◌∷◌, replicate, codes, refl}
use Rattle.jc_ciphers.specs.AesField.{xtimes, times_power, times_low, times, squared, inverse, affine, sub_byte}
use Rattle.jc_ciphers.specs.Aes.{schedule, rounds, cipher_with, encrypted}
use Rattle.jc_ciphers.specs.Des as Des
use Rattle.sha2.specs.Sha256.{first_words, compress, hash_after, digest_bytes, sha256}
use Rattle.sha2.specs.Sha256 as Sha
use Rattle.jc_ciphers.specs.Modes.{chain_after, output, xor_first}
use Rattle.jc_ciphers.specs.Laws.{cbc_encrypted}
use Rattle.jc_ciphers.specs.Macs.{cmac_end, finished_3, hmac, listed}

abbrev key : List ℕ
key = 0x2b ∷ 0x7e ∷ 0x15 ∷ 0x16 ∷ 0x28 ∷ 0xae ∷ 0xd2 ∷ 0xa6 ∷ 0xab ∷ 0xf7 ∷ 0x15 ∷ 0x88 ∷ 0x09 ∷ 0xcf ∷ 0x4f ∷ 0x3c ∷ []

abbrev message : List ℕ
message = 0x6b ∷ 0xc1 ∷ 0xbe ∷ 0xe2 ∷ 0x2e ∷ 0x40 ∷ 0x9f ∷ 0x96 ∷ 0xe9 ∷ 0x3d ∷ 0x7e ∷ 0x11 ∷ 0x73 ∷ 0x93 ∷ 0x17 ∷ 0x2a ∷ []

abbrev first : List ℕ
first = 0x00 ∷ 0x01 ∷ 0x02 ∷ 0x03 ∷ 0x04 ∷ 0x05 ∷ 0x06 ∷ 0x07 ∷ 0x08 ∷ 0x09 ∷ 0x0a ∷ 0x0b ∷ 0x0c ∷ 0x0d ∷ 0x0e ∷ 0x0f ∷ []

-- SP 800-38A, F.2.1
pub cbc_example : cbc_encrypted 16 (encrypted key) first message 1 ≡ 0x76 ∷ 0x49 ∷ 0xab ∷ 0xac ∷ 0x81 ∷ 0x19 ∷ 0xb2 ∷ 0x46 ∷ 0xce ∷ 0xe9 ∷ 0x8e ∷ 0x9b ∷ 0x12 ∷ 0xe9 ∷ 0x19 ∷ 0x7d ∷ []
unfolding xtimes times_power times_low times squared inverse affine sub_byte schedule rounds cipher_with encrypted xor_first chain_after output
cbc_example = refl

-- SP 800-38B, D.1, example 2
pub cmac_example : cmac_end (encrypted key) 16 (replicate 16 0) message 16 ≡ 0x07 ∷ 0x0a ∷ 0x16 ∷ 0xb4 ∷ 0x6b ∷ 0x4d ∷ 0x41 ∷ 0x44 ∷ 0xf7 ∷ 0x9b ∷ 0xdd ∷ 0x9d ∷ 0xd0 ∷ 0x4a ∷ 0x28 ∷ 0x7c ∷ []
unfolding xtimes times_power times_low times squared inverse affine sub_byte schedule rounds cipher_with encrypted xor_first listed
cmac_example = refl

abbrev des : List ℕ → List ℕ
des = Des.encrypted (0x01 ∷ 0x23 ∷ 0x45 ∷ 0x67 ∷ 0x89 ∷ 0xab ∷ 0xcd ∷ 0xef ∷ [])

abbrev des_back : List ℕ → List ℕ
des_back = Des.decrypted (0xfe ∷ 0xdc ∷ 0xba ∷ 0x98 ∷ 0x76 ∷ 0x54 ∷ 0x32 ∷ 0x10 ∷ [])

abbrev last : List ℕ
last = 0x70 ∷ 0xa3 ∷ 0x06 ∷ 0x40 ∷ 0xcc ∷ 0x76 ∷ 0xdd ∷ 0x8b ∷ []

-- ISO 9797-1, annex B: algorithm 1, and the end of algorithm 3
pub mac_1_example : chain_after (λ c b. des (xor_first c b 8)) 8 (replicate 8 0) (codes "Now is the time for all ") 3 ≡ last
unfolding Des.listed Des.schedule Des.halves Des.rounds Des.round Des.mangled Des.right_of Des.crypted Des.encrypted xor_first chain_after
mac_1_example = refl

pub mac_3_example : finished_3 des des_back last ≡ 0xa1 ∷ 0xc7 ∷ 0x2e ∷ 0x74 ∷ 0xea ∷ 0x3f ∷ 0xa9 ∷ 0xb6 ∷ []
unfolding Des.listed Des.schedule Des.halves Des.rounds Des.round Des.mangled Des.right_of Des.crypted Des.encrypted Des.decrypted
mac_3_example = refl

-- RFC 4231, test case 1
pub hmac_example : hmac sha256 64 (replicate 20 0x0b) (codes "Hi There") ≡ 0xb0 ∷ 0x34 ∷ 0x4c ∷ 0x61 ∷ 0xd8 ∷ 0xdb ∷ 0x38 ∷ 0x53 ∷ 0x5c ∷ 0xa8 ∷ 0xaf ∷ 0xce ∷ 0xaf ∷ 0x0b ∷ 0xf1 ∷ 0x2b ∷ 0x88 ∷ 0x1d ∷ 0xc2 ∷ 0x00 ∷ 0xc9 ∷ 0x83 ∷ 0x3d ∷ 0xa7 ∷ 0x26 ∷ 0xe9 ∷ 0x37 ∷ 0x6c ∷ 0x2e ∷ 0x32 ∷ 0xcf ∷ 0xf7 ∷ []
unfolding first_words Sha.schedule Sha.rounds compress hash_after digest_bytes sha256 listed
hmac_example = refl
