-- Cells that hold numbers alone.
use Rattle.std.proofs.Common.{◌≡◌, ℕ, zero, suc, ◌+◌, List, [], ◌∷◌, ◌++◌, length, map, take, drop, replicate, set, subst, refl, sym, ◌∙◌, ap}
use Rattle.std.specs.Prelude.{false}
use Rattle.jc_transient.specs.declared.cell.CellValue.{CellValue}
use Rattle.jc_transient.specs.declared.cell.CellValue.TheVariants.{Short, Reference}
use Rattle.jc_transient.specs.Cell.{AreNumbers, default_value, is_reference, number_of, without_dead}
use Rattle.jc_transient.specs.State.{with_cells}
use Rattle.jc_transient.proofs.Clearing.{lent_back}

pub numbers_append : (xs ys : List CellValue) → AreNumbers xs → AreNumbers ys → AreNumbers (xs ++ ys)
numbers_append [] ys h k = k
numbers_append (x ∷ xs) ys h k = (h.0, numbers_append xs ys h.1 k)

pub numbers_take : (n : ℕ) (xs : List CellValue) → AreNumbers xs → AreNumbers (take n xs)
numbers_take zero xs h = tt
numbers_take (suc n) [] h = tt
numbers_take (suc n) (x ∷ xs) h = (h.0, numbers_take n xs h.1)

pub numbers_drop : (n : ℕ) (xs : List CellValue) → AreNumbers xs → AreNumbers (drop n xs)
numbers_drop zero xs h = h
numbers_drop (suc n) [] h = tt
numbers_drop (suc n) (x ∷ xs) h = numbers_drop n xs h.1

pub numbers_set : (n : ℕ) (xs : List CellValue) (x : CellValue) → is_reference x ≡ false → AreNumbers xs → AreNumbers (set xs n x)
numbers_set n [] x e h = tt
numbers_set zero (y ∷ xs) x e h = (e, h.1)
numbers_set (suc n) (y ∷ xs) x e h = (h.0, numbers_set n xs x e h.1)

-- words as numbers
pub numbers_words : (words : List ℕ) → AreNumbers (map number_of words)
numbers_words [] = tt
numbers_words (word ∷ words) = (refl, numbers_words words)

pub numbers_replicate : (n : ℕ) (x : CellValue) → is_reference x ≡ false → AreNumbers (replicate n x)
numbers_replicate zero x e = tt
numbers_replicate (suc n) x e = (e, numbers_replicate n x e)

cleared_number : (x : CellValue) → is_reference x ≡ false → is_reference (default_value x) ≡ false
cleared_number (Short v) e = refl
cleared_number (Reference r) e = e

pub numbers_cleared : (xs : List CellValue) → AreNumbers xs → AreNumbers (map default_value xs)
numbers_cleared [] h = tt
numbers_cleared (x ∷ xs) h = (cleared_number x h.0, numbers_cleared xs h.1)

same_number : (top : ℕ) (x : CellValue) → is_reference x ≡ false → without_dead top x ≡ x
same_number top (Short v) e = refl
same_number top (Reference r) e = cc e

-- no number is a dead reference
pub numbers_same : (top : ℕ) (xs : List CellValue) → AreNumbers xs → map (without_dead top) xs ≡ xs
numbers_same top [] h = refl
numbers_same top (x ∷ xs) h = ap (λ y. y ∷ map (without_dead top) xs) (same_number top x h.0) ∙ ap (λ ys. x ∷ ys) (numbers_same top xs h.1)

-- numbers were put among numbers
pub numbers_with : (place : ℕ) (xs values : List CellValue) → AreNumbers xs → AreNumbers values → AreNumbers (with_cells xs place values)
numbers_with place xs values h k =
    numbers_append (take place xs) (values ++ drop (place + length values) xs) (numbers_take place xs h)
    (numbers_append values (drop (place + length values) xs) k (numbers_drop (place + length values) xs h))

-- the same where the cells were lent as `given`, and came back as `ys`
pub lent_numbers : (place long : ℕ) (xs given values ys : List CellValue) → long ≡ length xs → given ≡ xs → ys ≡ with_cells given place values
    → length ys ≡ length given → AreNumbers values → AreNumbers xs → AreNumbers (take long (ys ++ drop (length ys) xs))
lent_numbers place long xs given values ys is lent are same k h =
    let put : ys ≡ with_cells xs place values = are ∙ ap (λ zs. with_cells zs place values) lent in
    subst AreNumbers (sym (lent_back long xs ys is (same ∙ ap length lent))) (subst AreNumbers (sym put) (numbers_with place xs values h k))
