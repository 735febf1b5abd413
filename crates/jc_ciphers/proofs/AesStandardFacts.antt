-- Examples of the standard under the definitions (FIPS 197, appendix C), so that a wrong step or constant does not check; and that the
-- inverse of the field is one.
use Rattle.std.proofs.Common.{◌≡◌, ℕ, List, [], ◌∷◌, true, inl, refl, sym, ap, ◌∙◌, slice_index}
use Rattle.std.specs.Prelude.{nat_eq}
use Rattle.std.specs.List.{list_all, range_with_len}
use Rattle.jc_ciphers.specs.AesField.{xtimes, times_power, times_low, times, squared, inverse, affine, sub_byte}
use Rattle.jc_ciphers.proofs.AesTables.{INVERSES}
use Rattle.jc_ciphers.specs.Aes.{schedule, rounds, cipher_with, encrypted, decrypted}
use Rattle.jc_ciphers.proofs.AesInverses.{undoing}
use Rattle.jc_ciphers.proofs.ByteLists.{each_byte}

abbrev plain : List ℕ
plain = 0x00 ∷ 0x11 ∷ 0x22 ∷ 0x33 ∷ 0x44 ∷ 0x55 ∷ 0x66 ∷ 0x77 ∷ 0x88 ∷ 0x99 ∷ 0xaa ∷ 0xbb ∷ 0xcc ∷ 0xdd ∷ 0xee ∷ 0xff ∷ []

abbrev ciphered : List ℕ
ciphered = 0x69 ∷ 0xc4 ∷ 0xe0 ∷ 0xd8 ∷ 0x6a ∷ 0x7b ∷ 0x04 ∷ 0x30 ∷ 0xd8 ∷ 0xcd ∷ 0xb7 ∷ 0x80 ∷ 0x70 ∷ 0xb4 ∷ 0xc5 ∷ 0x5a ∷ []

pub encrypted_example : encrypted (range_with_len 0 16) plain ≡ ciphered
unfolding xtimes times_power times_low times squared inverse affine sub_byte schedule rounds cipher_with encrypted
encrypted_example = refl

pub decrypted_example : decrypted (range_with_len 0 16) ciphered ≡ plain
decrypted_example =
    sym (ap (decrypted (range_with_len 0 16)) encrypted_example)
    ∙ undoing (range_with_len 0 16) plain (inl refl) (record { byte = each_byte (range_with_len 0 16) refl }) refl (record { byte = each_byte plain refl })

-- each byte but 0 times its inverse is 1
pub inverses : list_all (λ b. nat_eq (times b (slice_index INVERSES b)) 1) (range_with_len 1 255) ≡ true
unfolding xtimes times_power times_low times
inverses = refl
