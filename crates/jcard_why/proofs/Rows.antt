-- What is found among rows.
use Rattle.std.proofs.Common.{◌≡◌, ◌≢◌, None, ℕ, List, [], ◌∷◌, refl, ne_eqb}
use Rattle.jcard_why.specs.Mnemonics.{Row, mnemonic_in}

-- no row has the opcode
abbrev pub AreOthers : ℕ → List Row → Type 0
AreOthers opcode [] = Unit {0}
AreOthers opcode (row ∷ rows) = (opcode ≢ row.0) × AreOthers opcode rows

pub not_found : (opcode : ℕ) → (rows : List Row) → AreOthers opcode rows → mnemonic_in rows opcode ≡ None
not_found opcode [] _ = refl
not_found opcode (row ∷ rows) others = rw (ne_eqb opcode row.0 others.0) (not_found opcode rows others.1)
