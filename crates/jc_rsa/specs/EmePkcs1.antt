-- EME-PKCS1-v1_5 (RFC 8017, 7.2).
use Rattle.std.specs.Prelude.{◌≡◌, ◌≢◌, ◌≤◌, ◌<◌, ℕ, List, ◌∷◌, ◌++◌, length, slice_index}

-- no byte is zero
abbrev pub AreNonzero : List ℕ → Type 0
AreNonzero bytes = (i : ℕ) → i < length bytes → slice_index bytes i ≢ 0

-- 00 02 PS 00 M
unfoldable pub encryption_block : List ℕ → List ℕ → List ℕ
encryption_block ps m = 0x00 ∷ 0x02 ∷ ps ++ 0x00 ∷ m

-- em is an encoding of a message: PS has 8 bytes or more, none of them zero
pub record IsEncryptionBlock (m em : List ℕ) : Type 0 where
  pub padding : List ℕ
  pub long : 8 ≤ length padding
  pub nonzero : AreNonzero padding
  pub is : em ≡ encryption_block padding m
