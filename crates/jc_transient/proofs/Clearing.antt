-- Cells that are as a clearing leaves them, from a place on.
use Rattle.std.proofs.Common.{◌≡◌, ℕ, zero, suc, ◌+◌, ◌-◌, ◌≤◌, ◌<◌, List, [], ◌∷◌, ◌++◌, length, map, max, take, drop, replicate, set, pos, subst, refl, sym}
use Rattle.std.proofs.Common.{◌∙◌, ap, arith, append_assoc}
use Rattle.std.proofs.lemmas.List.{drop-drop, drop-map, drop_at, length-append, length-take-le, map-append, take-append-drop, take-append-le, take_all}
use Rattle.std.proofs.lemmas.List.{drop-set-lt, length-set, length-map}
use Rattle.std.specs.Prelude.{Bool, true, false, nat_lt, if◌then◌else◌}
use Rattle.jc_transient.specs.declared.cell.CellValue.{CellValue}
use Rattle.jc_transient.specs.declared.cell.CellValue.TheVariants.{Short, Reference}
use Rattle.jc_transient.specs.Cell.{AreClearedFrom, default_value, without_dead}
use Rattle.jc_transient.specs.State.{with_cells}

-- a function that changes no cleared cell
abbrev pub Keeps : (CellValue → CellValue) → Type 0
Keeps f = (x : CellValue) → f (default_value x) ≡ default_value x

pub keeps_cleared : Keeps default_value
keeps_cleared (Short v) = refl
keeps_cleared (Reference r) = refl

same_both : {X : Type 0} (b : Bool) (x : X) → (if b then x else x) ≡ x
same_both true x = refl
same_both false x = refl

pub keeps_without_dead : (top : ℕ) → Keeps (without_dead top)
keeps_without_dead top (Short v) = refl
keeps_without_dead top (Reference r) = ap Reference (same_both (nat_lt 0 top) 0)

kept_all : (f : CellValue → CellValue) → Keeps f → (xs : List CellValue) → map f (map default_value xs) ≡ map default_value xs
kept_all f keeps [] = refl
kept_all f keeps (x ∷ xs) = ap (λ y. y ∷ map f (map default_value xs)) (keeps x) ∙ ap (λ ys. default_value x ∷ ys) (kept_all f keeps xs)

kept : (f : CellValue → CellValue) → Keeps f → (n : ℕ) (xs : List CellValue) → AreClearedFrom n xs → map f (drop n xs) ≡ drop n xs
kept f keeps n xs clear = ap (map f) (sym clear) ∙ kept_all f keeps (drop n xs) ∙ clear

-- what is done to the first ones is done to all
pub all_done : (f : CellValue → CellValue) → Keeps f → (n : ℕ) (xs : List CellValue) → AreClearedFrom n xs → map f (take n xs) ++ drop n xs ≡ map f xs
all_done f keeps n xs clear =
    ap (λ ys. map f (take n xs) ++ ys) (sym (kept f keeps n xs clear)) ∙ sym (map-append f (take n xs) (drop n xs)) ∙ ap (map f) (take-append-drop n xs)

-- and leaves the others so
pub still_clear : (f : CellValue → CellValue) → Keeps f → (n : ℕ) (xs : List CellValue) → AreClearedFrom n xs → AreClearedFrom n (map f xs)
still_clear f keeps n xs clear =
    let same = drop-map f n xs ∙ kept f keeps n xs clear in
    ap (map default_value) same ∙ clear ∙ sym same

-- from a later place on they are so too
pub later : (n m : ℕ) (xs : List CellValue) → n ≤ m → AreClearedFrom n xs → AreClearedFrom m xs
later n m xs le clear =
    let parts : drop m xs ≡ drop (m - n) (drop n xs) = ap (λ k. drop k xs) (omega (arith, le)) ∙ sym (drop-drop (m - n) n xs) in
    ap (map default_value) parts ∙ sym (drop-map default_value (m - n) (drop n xs)) ∙ ap (drop (m - n)) clear ∙ sym parts

-- values before a place leave the cells from there on
pub behind_values : (n place m : ℕ) (xs values : List CellValue) → place + length values ≤ length xs → n ≤ m → place + length values ≤ m → AreClearedFrom n xs
    → AreClearedFrom m (with_cells xs place values)
behind_values n place m xs values fits le past clear =
    let front = take place xs ++ values in
    let long : length front ≡ place + length values = length-append (take place xs) values
    ∙ ap (λ k. k + length values) (length-take-le place xs (omega (arith, fits))) in
    let rest = drop (place + length values) xs in
    let j = m - (place + length values) in
    let whole : with_cells xs place values ≡ front ++ rest = sym (append_assoc (take place xs) values rest) in
    let same : drop m (with_cells xs place values) ≡ drop m xs =
    ap (drop m) whole ∙ ap (λ k. drop k (front ++ rest)) (omega (arith, past)) ∙ sym (drop-drop j (place + length values) (front ++ rest))
    ∙ ap (drop j) (drop_at front rest (place + length values) long) ∙ drop-drop j (place + length values) xs ∙ ap (λ k. drop k xs) (omega (arith, past)) in
    ap (map default_value) same ∙ later n m xs le clear ∙ sym same

-- cells of which the first n may be other ones than a clearing leaves
abbrev pub IsArea : ℕ → List CellValue → Type 0
IsArea n cells = (n ≤ length cells) × AreClearedFrom n cells

-- a value was set
pub set_in : (n m place : ℕ) (xs : List CellValue) (x : CellValue) → place < length xs → m ≡ max n (place + 1) → IsArea n xs → IsArea m (set xs place x)
set_in n m place xs x fits is area =
    let same = drop-set-lt m xs place x (omega (arith, is)) in
    (omega (arith, length-set xs place x, is, fits, area.0), ap (map default_value) same ∙ later n m xs (omega (arith, is)) area.1 ∙ sym same)

-- values were set from a place on
pub put_in : (n m place : ℕ) (xs values ys : List CellValue) → ys ≡ with_cells xs place values → length ys ≡ length xs → place + length values ≤ length xs
    → m ≡ max n (place + length values) → IsArea n xs → IsArea m ys
put_in n m place xs values ys are same fits is area = (
  omega (arith, same, fits, is, area.0),
  subst (AreClearedFrom m) (sym are) (behind_values n place m xs values fits (omega (arith, is))
      (omega (arith, is)) area.1),
)

-- the first n were done
pub done_in : (f : CellValue → CellValue) → Keeps f → (n : ℕ) (xs ys : List CellValue) → ys ≡ map f (take n xs) ++ drop n xs → IsArea n xs
    → (ys ≡ map f xs) × IsArea n ys
done_in f keeps n xs ys are area =
    let all = are ∙ all_done f keeps n xs area.1 in
    (all, (omega (arith, ap length all, length-map xs f, area.0), subst (AreClearedFrom n) (sym all) (still_clear f keeps n xs area.1)))

-- all are cleared
pub cleared_in : (xs ys : List CellValue) → ys ≡ map default_value xs → IsArea 0 ys
cleared_in xs ys are = (omega arith, subst (AreClearedFrom 0) (sym are) (kept_all default_value keeps_cleared xs))

-- zeros are cleared
pub zeros_in : (n : ℕ) → map default_value (replicate n (Short (pos 0))) ≡ replicate n (Short (pos 0))
zeros_in zero = refl
zeros_in (suc n) = ap (λ ys. Short (pos 0) ∷ ys) (zeros_in n)

-- what a loan of all cells of a vector leaves
pub lent_back : (n : ℕ) (xs ys : List CellValue) → n ≡ length xs → length ys ≡ length xs → take n (ys ++ drop (length ys) xs) ≡ ys
lent_back n xs ys long same = take-append-le n ys (drop (length ys) xs) (omega (arith, long, same)) ∙ take_all n ys (omega (arith, long, same))

-- the same where the cells were lent as `given`, and came back as `ys`
pub lent_put : (n m place long : ℕ) (xs given values ys : List CellValue) → long ≡ length xs → given ≡ xs → ys ≡ with_cells given place values
    → length ys ≡ length given → place + length values ≤ length given → m ≡ max n (place + length values) → IsArea n xs
    → IsArea m (take long (ys ++ drop (length ys) xs))
lent_put n m place long xs given values ys is lent are same fits most area =
    let kept = same ∙ ap length lent in
    subst (IsArea m) (sym (lent_back long xs ys is kept)) (put_in n m place xs values ys (are ∙ ap (λ zs. with_cells zs place values) lent) kept
    (omega (arith, fits, ap length lent)) most area)

pub lent_done : (f : CellValue → CellValue) → Keeps f → (n long : ℕ) (xs given ys : List CellValue) → long ≡ length xs → given ≡ xs
    → ys ≡ map f (take n given) ++ drop n given → length ys ≡ length given → IsArea n xs →
    (take long (ys ++ drop (length ys) xs) ≡ map f xs) × IsArea n (take long (ys ++ drop (length ys) xs))
lent_done f keeps n long xs given ys is lent are same area =
    let whole = lent_back long xs ys is (same ∙ ap length lent) in
    let done = done_in f keeps n xs ys (are ∙ ap (λ zs. map f (take n zs) ++ drop n zs) lent) area in
    (whole ∙ done.0, subst (IsArea n) (sym whole) done.1)
