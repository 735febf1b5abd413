-- Known answers under the definitions, so that a wrong step or table does not check.
use Rattle.std.proofs.Common.{◌≡◌, ℕ, List, [], ◌∷◌, refl, sym, ap, ◌∙◌}
use Rattle.jc_ciphers.specs.TripleDes.{parts_of, triple_decrypted, triple_encrypted}
use Rattle.jc_ciphers.specs.Des.{listed, schedule, halves, rounds, round, mangled, right_of, crypted, encrypted, decrypted}
use Rattle.jc_ciphers.proofs.ByteLists.{each_byte}
use Rattle.jc_ciphers.proofs.DesInverses.{deciphered, triple_deciphered}

abbrev key : List ℕ
key = 0x13 ∷ 0x34 ∷ 0x57 ∷ 0x79 ∷ 0x9b ∷ 0xbc ∷ 0xdf ∷ 0xf1 ∷ []

abbrev plain : List ℕ
plain = 0x01 ∷ 0x23 ∷ 0x45 ∷ 0x67 ∷ 0x89 ∷ 0xab ∷ 0xcd ∷ 0xef ∷ []

abbrev ciphered : List ℕ
ciphered = 0x85 ∷ 0xe8 ∷ 0x13 ∷ 0x54 ∷ 0x0f ∷ 0x0a ∷ 0xb4 ∷ 0x05 ∷ []

pub encrypted_example : encrypted key plain ≡ ciphered
unfolding listed schedule halves rounds round mangled right_of crypted encrypted
encrypted_example = refl

pub decrypted_example : decrypted key ciphered ≡ plain
decrypted_example = sym (ap (decrypted key) encrypted_example) ∙ deciphered key plain (record { long = refl; byte = each_byte plain refl })

-- SP 800-67, B.1: the first block under three keys
abbrev keys : List ℕ
keys = 0x01 ∷ 0x23 ∷ 0x45 ∷ 0x67 ∷ 0x89 ∷ 0xab ∷ 0xcd ∷ 0xef ∷ 0x23 ∷ 0x45 ∷ 0x67 ∷ 0x89 ∷ 0xab ∷ 0xcd ∷ 0xef ∷ 0x01 ∷ 0x45 ∷ 0x67 ∷ 0x89 ∷ 0xab ∷ 0xcd ∷ 0xef ∷ 0x01 ∷ 0x23 ∷ []

abbrev triple_plain : List ℕ
triple_plain = 0x54 ∷ 0x68 ∷ 0x65 ∷ 0x20 ∷ 0x71 ∷ 0x75 ∷ 0x66 ∷ 0x63 ∷ []

abbrev triple_ciphered : List ℕ
triple_ciphered = 0xa8 ∷ 0x26 ∷ 0xfd ∷ 0x8c ∷ 0xe5 ∷ 0x3b ∷ 0x85 ∷ 0x5f ∷ []

pub triple_encrypted_example : triple_encrypted (parts_of keys) triple_plain ≡ triple_ciphered
unfolding listed schedule halves rounds round mangled right_of crypted encrypted decrypted triple_encrypted
triple_encrypted_example = refl

pub triple_decrypted_example : triple_decrypted (parts_of keys) triple_ciphered ≡ triple_plain
triple_decrypted_example =
    sym (ap (triple_decrypted (parts_of keys)) triple_encrypted_example)
    ∙ triple_deciphered (parts_of keys) triple_plain (record { long = refl; byte = each_byte triple_plain refl })
