-- Cells that are known to be zero.
use Rattle.std.proofs.Common.{◌≡◌, ℕ, zero, suc, ◌+◌, ◌-◌, ◌≤◌, ◌<◌, ◌⊎◌, inl, inr, List, [], ◌∷◌, ◌++◌, length, map, take, drop, replicate, set, pos, subst, refl, sym}
use Rattle.std.proofs.Common.{◌∙◌, ap, arith, append_assoc}
use Rattle.std.proofs.lemmas.List.{drop-drop, get_or-append_right, get_or-drop, get_or-set_other, get_or-take, get_or_append_left, length-drop, length-replicate, length-take-le}
use Rattle.std.proofs.lemmas.List.{replicate-append-replicate}
use Rattle.std.proofs.Math.ListN.{get_or, get_or-map}
use Rattle.jc_transient.specs.declared.cell.CellValue.{CellValue}
use Rattle.jc_transient.specs.declared.cell.CellValue.TheVariants.{Short}
use Rattle.jc_transient.specs.Cell.{AreAmong, AreZeros}
use Rattle.jc_transient.specs.State.{with_cells}
use Rattle.jc_transient.proofs.Clearing.{lent_back}

-- the cell that is zero
abbrev pub nought : CellValue
nought = Short (pos 0)

-- places that are among others, and not from one on and before another
abbrev pub AllAmong : ℕ → ℕ → ℕ → ℕ → ℕ → ℕ → Type 0
AllAmong start end from to first last = (k : ℕ) → first ≤ k → k < last → AreAmong start end from to k

-- cells that are the same beside a stretch
abbrev Beside : ℕ → ℕ → List CellValue → List CellValue → Type 0
Beside from to xs ys = (k : ℕ) → (k < from) ⊎ (to ≤ k) → get_or ys k nought ≡ get_or xs k nought

zeros_beside : (start end from to first last : ℕ) (xs ys : List CellValue) → AllAmong start end from to first last → Beside from to xs ys → AreZeros start end xs
    → AreZeros first last ys
zeros_beside start end from to first last xs ys among same zeros k least most =
    let is = among k least most in
    same k is.2 ∙ zeros k is.0 is.1

-- another one was set
pub zeros_set : (start end place first last : ℕ) (xs : List CellValue) (x : CellValue) → AllAmong start end place (place + 1) first last → AreZeros start end xs
    → AreZeros first last (set xs place x)
zeros_set start end place first last xs x among zeros =
    zeros_beside start end place (place + 1) first last xs (set xs place x) among (λ k is. get_or-set_other xs place k x nought (apart k is)) zeros where
      apart : (k : ℕ) → (k < place) ⊎ (place + 1 ≤ k) → k ≡ place → ⊥
      apart k (inl low) e = omega (arith, low, e)
      apart k (inr high) e = omega (arith, high, e)

-- values were put beside them
beside_values : (place : ℕ) (xs values : List CellValue) → place + length values ≤ length xs → Beside place (place + length values) xs (with_cells xs place values)
beside_values place xs values fits k (inl low) =
    let long = length-take-le place xs (omega (arith, fits)) in
    get_or_append_left (take place xs) _ nought k (omega (arith, long, low)) ∙ get_or-take place xs k nought low
beside_values place xs values fits k (inr high) =
    let long = length-take-le place xs (omega (arith, fits)) in
    let far = (k - place) - length values in
    let there : (place + length values) + far ≡ k = omega (arith, high) in
    get_or-append_right (take place xs) _ place k nought long (omega (arith, high))
    ∙ get_or-append_right values (drop (place + length values) xs) (length values) (k - place) nought refl (omega (arith, high))
    ∙ get_or-drop (place + length values) xs far nought ∙ ap (λ i. get_or xs i nought) there

-- the same where the cells were lent as `given`, and came back as `ys`
pub lent_zeros : (start end place to first last long : ℕ) (xs given values ys : List CellValue) → long ≡ length xs → given ≡ xs → ys ≡ with_cells given place values
    → length ys ≡ length given → place + length values ≤ length given → to ≡ place + length values → AllAmong start end place to first last
    → AreZeros start end xs → AreZeros first last (take long (ys ++ drop (length ys) xs))
lent_zeros start end place to first last long xs given values ys is lent are same fits last_is among zeros =
    let back = lent_back long xs ys is (same ∙ ap length lent) in
    let put : ys ≡ with_cells xs place values = are ∙ ap (λ zs. with_cells zs place values) lent in
    subst (AreZeros first last) (sym (back ∙ put))
    (zeros_beside start end place (place + length values) first last xs (with_cells xs place values)
    (subst (λ n. AllAmong start end place n first last) last_is among)
    (beside_values place xs values (omega (arith, fits, ap length lent))) zeros)

-- a function that keeps zero keeps them
pub zeros_map : (f : CellValue → CellValue) → f nought ≡ nought → (start end : ℕ) (xs : List CellValue) → AreZeros start end xs → AreZeros start end (map f xs)
zeros_map f keeps start end xs zeros k least most =
    ap (get_or (map f xs) k) (sym keeps) ∙ get_or-map f xs k nought ∙ ap f (zeros k least most) ∙ keeps

-- the first ones are zero
zero_front : (n : ℕ) (ys : List CellValue) → n ≤ length ys → ((k : ℕ) → k < n → get_or ys k nought ≡ nought) → ys ≡ replicate n nought ++ drop n ys
zero_front zero ys fits zeros = refl
zero_front (suc n) [] fits zeros = absurd (omega (arith, fits))
zero_front (suc n) (y ∷ ys) fits zeros =
    ap (λ x. x ∷ ys) (zeros 0 (omega arith)) ∙ ap (λ zs. nought ∷ zs) (zero_front n ys (omega (arith, fits)) (λ k less. zeros (suc k) (omega (arith, less))))

-- the first w of them are put, and the others are zero
pub filled : (place count w : ℕ) (xs : List CellValue) → w ≤ count → place + count ≤ length xs → AreZeros (place + w) (place + count) xs
    → with_cells xs place (replicate w nought) ≡ with_cells xs place (replicate count nought)
filled place count w xs few fits zeros =
    let more = count - w in
    let tail = zero_front more (drop (place + w) xs) (omega (arith, few, fits, length-drop (place + w) xs))
    (λ k less. get_or-drop (place + w) xs k nought ∙ zeros (place + w + k) (omega arith) (omega (arith, less, few))) in
    let rest : drop more (drop (place + w) xs) ≡ drop (place + count) xs = drop-drop more (place + w) xs ∙ ap (λ n. drop n xs) (omega (arith, few)) in
    ap (λ n. take place xs ++ (replicate w nought ++ drop (place + n) xs)) (length-replicate w nought)
    ∙ ap (λ ys. take place xs ++ (replicate w nought ++ ys)) (tail ∙ ap (λ ys. replicate more nought ++ ys) rest)
    ∙ ap (λ ys. take place xs ++ ys) (sym (append_assoc (replicate w nought) (replicate more nought) (drop (place + count) xs)))
    ∙ ap (λ ys. take place xs ++ (ys ++ drop (place + count) xs)) (replicate-append-replicate w more nought ∙ ap (λ n. replicate n nought) (omega (arith, few)))
    ∙ ap (λ n. take place xs ++ (replicate count nought ++ drop (place + n) xs)) (sym (length-replicate count nought))

get_replicate : (n k : ℕ) → get_or (replicate n nought) k nought ≡ nought
get_replicate zero k = refl
get_replicate (suc n) zero = refl
get_replicate (suc n) (suc k) = get_replicate n k

-- zeros that were put are zero
pub zeros_put : (place count : ℕ) (xs : List CellValue) → place + count ≤ length xs → AreZeros place (place + count) (with_cells xs place (replicate count nought))
zeros_put place count xs fits k least most =
    let long = length-take-le place xs (omega (arith, fits)) in
    let many = length-replicate count nought in
    get_or-append_right (take place xs) _ place k nought long least
    ∙ get_or_append_left (replicate count nought) _ nought (k - place) (omega (arith, many, least, most)) ∙ get_replicate count (k - place)

-- all are zero
pub zeros_of : (count : ℕ) (xs : List CellValue) → xs ≡ replicate count nought → AreZeros 0 count xs
zeros_of count xs are k least most = ap (λ ys. get_or ys k nought) are ∙ get_replicate count k

-- the cells that are left where some were lent and the first w of a stretch were filled
pub lent_filled : (place count w long : ℕ) (xs given ys : List CellValue) → long ≡ length xs → given ≡ xs → ys ≡ with_cells given place (replicate w nought)
    → length ys ≡ length given → w ≤ count → place + count ≤ length xs → AreZeros (place + w) (place + count) xs
    → take long (ys ++ drop (length ys) xs) ≡ with_cells xs place (replicate count nought)
lent_filled place count w long xs given ys is lent are same few fits zeros =
    lent_back long xs ys is (same ∙ ap length lent) ∙ are ∙ ap (λ zs. with_cells zs place (replicate w nought)) lent ∙ filled place count w xs few fits zeros
