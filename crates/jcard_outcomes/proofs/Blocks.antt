-- Words of two lists that are the same from one place up to another.
use Rattle.std.proofs.Common.{◌≡◌, ◌∙◌, ◌+◌, ◌-◌, ◌<◌, ◌≤◌, ℕ, List, take, drop, get_or, get_or-take, get_or-drop, ap, arith, subst, sym}

pub agree_between : (a b : List ℕ) (from to k : ℕ) → take (to - from) (drop from a) ≡ take (to - from) (drop from b) → from ≤ k → k < to → get_or a k 0 ≡ get_or b k 0
agree_between a b from to k same above below =
    let place : from + (k - from) ≡ k = omega (arith, above) in
    let within : k - from < to - from = omega (arith, above, below) in
    subst (λ (i : ℕ). get_or a i 0 ≡ get_or b i 0) place
    (sym (get_or-drop from a (k - from) 0) ∙ sym (get_or-take (to - from) (drop from a) (k - from) 0 within)
    ∙ ap (λ (u : List ℕ). get_or u (k - from) 0) same ∙ get_or-take (to - from) (drop from b) (k - from) 0 within ∙ get_or-drop from b (k - from) 0)
