-- Texts that stand one after the other.
use Rattle.std.proofs.Common.{◌≡◌, ℕ, List, ◌∷◌, ◌++◌, sym, ap, ◌∙◌, append_assoc}

-- a text, and after it another
pub joined : (bytes text next more rest : List ℕ) → bytes ≡ text ++ next → next ≡ more ++ rest → bytes ≡ (text ++ more) ++ rest
joined bytes text next more rest e f = e ∙ ap (λ (t : List ℕ). text ++ t) f ∙ sym (append_assoc text more rest)

-- a byte, and after it a text
pub headed : (bytes : List ℕ) (b : ℕ) (next text rest : List ℕ) → bytes ≡ b ∷ next → next ≡ text ++ rest → bytes ≡ (b ∷ text) ++ rest
headed bytes b next text rest e f = e ∙ ap (λ (t : List ℕ). b ∷ t) f
