-- Texts by their numbers.
use Rattle.std.proofs.Common.{◌≡◌, ℕ, ◌+◌, List, [], ◌++◌, ◌∙◌, refl, ap, ap₂, sym, append_assoc, append-nil, add-one}
use Rattle.jcard_dump.specs.Texts.{each_text}

-- one text more
pub text_more : (one : ℕ → List ℕ) (n : ℕ) → each_text one (n + 1) ≡ each_text one n ++ one n
unfolding each_text
text_more one n = rw add-one refl

pub text_none : (one : ℕ → List ℕ) → each_text one 0 ≡ []
unfolding each_text
text_none one = refl

-- a text grew by one more of them, after a head
pub text_grown : (one : ℕ → List ℕ) (old head now next : List ℕ) (n : ℕ) → now ≡ old ++ (head ++ each_text one n) → next ≡ now ++ one n
    → next ≡ old ++ (head ++ each_text one (n + 1))
text_grown one old head now next n told more =
    more ∙ ap (λ (l : List ℕ). l ++ one n) told
    ∙ append_assoc old (head ++ each_text one n) (one n)
    ∙ ap (λ (l : List ℕ). old ++ l) (append_assoc head (each_text one n) (one n) ∙ ap (λ (l : List ℕ). head ++ l) (sym (text_more one n)))

-- or by the head alone
pub text_begun : (one : ℕ → List ℕ) (old head now : List ℕ) → now ≡ old ++ head → now ≡ old ++ (head ++ each_text one 0)
text_begun one old head now told = told ∙ ap (λ (l : List ℕ). old ++ l) (sym (append-nil head) ∙ ap (λ (l : List ℕ). head ++ l) (sym (text_none one)))
