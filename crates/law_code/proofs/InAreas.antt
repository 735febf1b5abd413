-- Cells of an area beside which others are set.
use Rattle.std.proofs.Common.{◌≡◌, ℕ, ◌+◌, ◌-◌, ◌<◌, ◌≤◌, inl, inr, List, ◌++◌, length, take, drop, get_or, refl, sym, ◌∙◌, ap, subst, arith}
use Rattle.std.proofs.lemmas.List.{length-take-le, length-drop, length-append, get_or-take, get_or-drop, get_or_append_left, get_or-append_right, take_all}
use Rattle.std.proofs.lemmas.Bool.{cases_lt}
use Rattle.jc_transient.specs.declared.cell.CellValue.{CellValue}
use Rattle.jc_transient.specs.State.{with_cells}

in_take : (xs : List CellValue) (a k : ℕ) → k < a → k < length xs → k < length (take a xs)
in_take xs a k lt here = elim (cases_lt (length xs) a) [
  | inl short ↦ subst (λ l. k < length l) (sym (take_all a xs (omega (arith, short)))) here
  | inr long ↦ let e = length-take-le a xs long in omega (arith, e, lt)
]

-- a cell below those that are set
pub below_set : (xs vs : List CellValue) (a k : ℕ) (d : CellValue) → k < a → k < length xs → get_or (with_cells xs a vs) k d ≡ get_or xs k d
below_set xs vs a k d lt here = get_or_append_left (take a xs) (vs ++ drop (a + length vs) xs) d k (in_take xs a k lt here) ∙ get_or-take a xs k d lt

-- a cell above them
pub above_set : (xs vs : List CellValue) (a k : ℕ) (d : CellValue) → a + length vs ≤ k → k < length xs → get_or (with_cells xs a vs) k d ≡ get_or xs k d
above_set xs vs a k d le here =
    let first : a ≤ length xs = omega (arith, le, here) in
    let place : a + length vs + (k - a - length vs) ≡ k = omega (arith, le) in
    get_or-append_right (take a xs) (vs ++ drop (a + length vs) xs) a k d (length-take-le a xs first) (omega (arith, le))
    ∙ get_or-append_right vs (drop (a + length vs) xs) (length vs) (k - a) d refl (omega (arith, le))
    ∙ get_or-drop (a + length vs) xs (k - a - length vs) d
    ∙ ap (λ n. get_or xs n d) place

-- the area gets no shorter
pub as_long : (xs vs : List CellValue) (a : ℕ) → length xs ≤ length (with_cells xs a vs)
as_long xs vs a =
    let whole = length-append (take a xs) (vs ++ drop (a + length vs) xs) in
    let rest = length-append vs (drop (a + length vs) xs) in
    let last = length-drop (a + length vs) xs in
    elim (cases_lt (length xs) a) [
      | inl short ↦ let all = ap length (take_all a xs (omega (arith, short))) in omega (arith, whole, rest, last, all)
      | inr long ↦ let all = length-take-le a xs long in omega (arith, whole, rest, last, all)
    ]
