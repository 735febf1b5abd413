-- Names that are put into a text, piece by piece.
use Rattle.std.proofs.Common.{◌≡◌, ◌∙◌, ◌++◌, ◌∷◌, [], ℕ, List, ap, sym, subst, refl, append-nil, append_assoc}
use Rattle.std.proofs.lemmas.List.{flat_map_more}
use Rattle.jcard_why.specs.NamedText.{HasNames, Piece, shown}

-- one piece more, with its name
pub named_more : (plain text word name : List ℕ) → HasNames plain text → HasNames (plain ++ word) (text ++ (word ++ shown name))
named_more plain text word name h = (
  h.0 ++ (word, name) ∷ [],
  ap (λ (l : List ℕ). l ++ word) h.1 ∙ flat_map_more (λ (p : Piece). p.0) [] h.0 (word, name),
  ap (λ (l : List ℕ). l ++ (word ++ shown name)) h.2 ∙ flat_map_more (λ (p : Piece). p.0 ++ shown p.1) [] h.0 (word, name),
)

-- what is left stands without a name
pub named_rest : (plain text rest : List ℕ) → HasNames plain text → HasNames (plain ++ rest) (text ++ rest)
named_rest plain text rest h = subst (λ (l : List ℕ). HasNames (plain ++ rest) (text ++ l)) (append-nil rest) (named_more plain text rest [] h)

-- names were put into what stands before the rest of a text
abbrev pub AreNamed : List ℕ → List ℕ → List ℕ → Type 0
AreNamed plain rest text = (done : List ℕ) × (plain ≡ done ++ rest) × HasNames done text

pub begun : (plain text : List ℕ) → text ≡ [] → AreNamed plain plain text
begun plain text empty = ([], refl, subst (λ (l : List ℕ). HasNames [] l) (sym empty) ([], refl, refl))

pub next : (plain rest word more text new name : List ℕ) → AreNamed plain rest text → rest ≡ word ++ more → new ≡ text ++ (word ++ shown name) → AreNamed plain more new
next plain rest word more text new name before parts grown = (
  before.0 ++ word,
  before.1 ∙ (ap (λ (l : List ℕ). before.0 ++ l) parts ∙ sym (append_assoc before.0 word more)),
  subst (λ (l : List ℕ). HasNames (before.0 ++ word) l) (sym grown) (named_more before.0 text word name before.2),
)

pub ended : (plain rest text new : List ℕ) → AreNamed plain rest text → new ≡ text ++ rest → HasNames plain new
ended plain rest text new before grown = subst (λ (l : List ℕ). HasNames l new) (sym before.1)
    (subst (λ (l : List ℕ). HasNames (before.0 ++ rest) l) (sym grown) (named_rest before.0 text rest before.2))
