-- What the definitions are to one another.
use Rattle.std.specs.Prelude.{◌≡◌, ℕ, ◌<◌, List, length, slice_index}
use Rattle.jc_ciphers.specs.Aes.{IsKeyLength, decrypted, encrypted}

-- numbers below 256
pub record IsBytes (xs : List ℕ) : Type 0 where
  pub byte : (i : ℕ) → slice_index xs i < 256

-- deciphering undoes enciphering
abbrev pub DecipheringUndoesEnciphering : Type 0
DecipheringUndoesEnciphering =
    (key block : List ℕ) → IsKeyLength (length key) → IsBytes key → length block ≡ 16 → IsBytes block
    → decrypted key (encrypted key block) ≡ block
