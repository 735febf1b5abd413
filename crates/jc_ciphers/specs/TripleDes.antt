-- Triple DES (FIPS 46-3, TDEA) under a key of 16 or 24 bytes.
use Rattle.std.specs.Prelude.{◌≡◌, ℕ, ◌⊎◌, List, length, take, drop, nat_eq, if◌then◌else◌}
use Rattle.jc_ciphers.specs.Des.{decrypted, encrypted}

-- a key has two parts or three
abbrev pub IsTripleLength : ℕ → Type 0
IsTripleLength n = (n ≡ 16) ⊎ (n ≡ 24)

-- three keys of DES
pub record Parts : Type 0 where
  pub first : List ℕ
  pub second : List ℕ
  pub third : List ℕ

-- where the third part of a key stands: of two parts the first is the third again
abbrev pub third_place : ℕ → ℕ
third_place n = if nat_eq n 16 then 0 else 16

abbrev pub parts_of : List ℕ → Parts
parts_of key = record { first = take 8 (drop 0 key); second = take 8 (drop 8 key); third = take 8 (drop (third_place (length key)) key) }

-- a block under three keys in turn: enciphered, deciphered, enciphered
unfoldable pub triple_encrypted : Parts → List ℕ → List ℕ
triple_encrypted k block = encrypted k.third (decrypted k.second (encrypted k.first block))

unfoldable pub triple_decrypted : Parts → List ℕ → List ℕ
triple_decrypted k block = decrypted k.first (encrypted k.second (decrypted k.third block))
