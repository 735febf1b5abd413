-- Paths of files beside others.
use Rattle.std.proofs.Common.{◌≡◌, ◌∙◌, ◌==◌, ℕ, List, [], ◌∷◌, ◌++◌, take, drop, refl, ap, ap₂, sym, subst, inr, append_assoc, lit<}
use Rattle.std.specs.Str.{NoCharPasses}
use Rattle.std.specs.Str.Pattern.{RFindsChar, SplitsAroundMatch}
use Rattle.std.proofs.lemmas.List.{take-append-drop}
use Rattle.std.proofs.lemmas.Str.Pattern.{drop_at_char}
use Rattle.jcard_test.specs.TextLines.{IsBeside}

-- the folder is what stands up to the last slash
pub beside_slash : (path front back name text : List ℕ) → SplitsAroundMatch (RFindsChar 47) path front back → text ≡ (front ++ 47 ∷ []) ++ name
    → IsBeside path name text
beside_slash path front back name text split e =
    let at = drop_at_char 47 path split.0 split.1 split.2.1 (lit< tt) in
    let whole : path ≡ (front ++ 47 ∷ []) ++ back = sym (take-append-drop split.0 path) ∙ ap (λ (t : List ℕ). take split.0 path ++ t) at
    ∙ sym (append_assoc (take split.0 path) (47 ∷ []) (drop split.1 path))
    ∙ ap₂ (λ (f b : List ℕ). (f ++ 47 ∷ []) ++ b) (sym split.3) (sym split.4) in
    (front ++ 47 ∷ [], back, whole, subst (λ (t : List ℕ). NoCharPasses (λ c. c == 47) t) (sym split.4) split.2.0, inr (front, refl), e)
