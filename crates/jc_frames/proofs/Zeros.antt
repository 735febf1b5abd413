-- Cells that are short 0, put after others.
use Rattle.std.proofs.Common.{◌≡◌, ℕ, ◌+◌, ◌-◌, ◌<◌, List, [], ◌∷◌, ◌++◌, replicate, pos, sym, ◌∙◌, ap, arith}
use Rattle.std.proofs.lemmas.List.{append_assoc, append-nil, replicate-append-replicate}
use Rattle.jc_frames.specs.declared.cell.Cell.{Cell}
use Rattle.jc_frames.specs.declared.cell.Cell.TheVariants.{Short}

abbrev zeros : ℕ → List Cell
zeros n = replicate n (Short (pos 0))

-- one, and then the others
pub one_more : (cells : List Cell) (n : ℕ) → 0 < n → (cells ++ Short (pos 0) ∷ []) ++ replicate (n - 1) (Short (pos 0)) ≡ cells ++ replicate n (Short (pos 0))
one_more cells n some =
    let all : 1 + (n - 1) ≡ n = omega (arith, some) in
    append_assoc cells (zeros 1) (zeros (n - 1)) ∙ ap (λ l. cells ++ l) (replicate-append-replicate 1 (n - 1) (Short (pos 0)) ∙ ap zeros all)

-- none
pub no_more : (cells : List Cell) (n : ℕ) → (0 < n → ⊥) → cells ≡ cells ++ replicate n (Short (pos 0))
no_more cells n none = let zero : n ≡ 0 = omega (arith, none) in sym (ap (λ k. cells ++ zeros k) zero ∙ append-nil cells)
