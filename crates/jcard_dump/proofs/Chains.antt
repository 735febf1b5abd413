-- Texts that are written one after another.
use Rattle.std.proofs.Common.{◌≡◌, ◌∙◌, ℕ, List, ◌++◌, ap, append_assoc}

pub push_behind : (old mid new a b : List ℕ) → mid ≡ old ++ a → new ≡ mid ++ b → new ≡ old ++ (a ++ b)
push_behind old mid new a b h e = e ∙ ap (λ (l : List ℕ). l ++ b) h ∙ append_assoc old a b
