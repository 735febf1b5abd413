-- What the definitions are to one another.
use Rattle.std.specs.Prelude.{◌≡◌, ℕ, ◌<◌, List, length, slice_index}
use Rattle.jc_ciphers.specs.Des.{decrypted, encrypted}
use Rattle.jc_ciphers.specs.TripleDes.{Parts, triple_decrypted, triple_encrypted}

-- a block is eight bytes
pub record IsBlock (block : List ℕ) : Type 0 where
  pub long : length block ≡ 8
  pub byte : (i : ℕ) → slice_index block i < 256

-- deciphering undoes enciphering
abbrev pub DecipheringUndoesEnciphering : Type 0
DecipheringUndoesEnciphering = (key block : List ℕ) → IsBlock block → decrypted key (encrypted key block) ≡ block

-- and enciphering undoes deciphering
abbrev pub EncipheringUndoesDeciphering : Type 0
EncipheringUndoesDeciphering = (key block : List ℕ) → IsBlock block → encrypted key (decrypted key block) ≡ block

abbrev pub TripleDecipheringUndoesEnciphering : Type 0
TripleDecipheringUndoesEnciphering = (keys : Parts) (block : List ℕ) → IsBlock block → triple_decrypted keys (triple_encrypted keys block) ≡ block
