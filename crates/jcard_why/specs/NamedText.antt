-- Texts into which names were put.
use Rattle.std.specs.Prelude.{ℕ, ◌≡◌, List, [], ◌∷◌, ◌++◌, codes, flat_map}

-- a name as it stands in a text: nothing where there is none
abbrev pub shown : List ℕ → List ℕ
shown [] = []
shown (x ∷ xs) = codes " (" ++ (x ∷ xs) ++ codes ")"

-- a piece of a text, and the name that stands after it
abbrev pub Piece : Type 0
Piece = List ℕ × List ℕ

-- names were put into a text: it was cut into pieces, and each has its name after it
abbrev pub HasNames : List ℕ → List ℕ → Type 0
HasNames plain text = (pieces : List Piece) × (plain ≡ flat_map (λ (p : Piece). p.0) pieces) × (text ≡ flat_map (λ (p : Piece). p.0 ++ shown p.1) pieces)
