-- An AID object's cells hold the AID that was put into them.
use Rattle.std.proofs.Common.{◌≡◌, ℕ, suc, ◌+◌, ◌*◌, ◌/◌, ◌%◌, ◌<◌, Bool, true, false, List, length, map, get_or, refl, sym, ◌∙◌, ap}
use Rattle.std.proofs.Common.{subst, arith, Some, None}
use Rattle.std.specs.Prelude.{nat_le, ◌==◌, if◌then◌else◌}
use Rattle.std.specs.List.{range_with_len}
use Rattle.std.proofs.lemmas.Bool.{eqb-true, eqb-false, le-leb, leb-true, leb-false}
use Rattle.std.proofs.lemmas.List.{get_or_past}
use Rattle.std.proofs.lemmas.List.FromFn.{fill_by_all, get_or-map-range_with_len}
use Rattle.jc_environment.specs.Aid.{aid_byte, aid_of_cells}
use Rattle.jc_api_framework.specs.Aid.Cells.{aid_cell, cells_of_aid, AreReadBack}

high : (x y : ℕ) → y < 256 → (256 * x + y) / 256 ≡ x
high x y small = omega arith

low : (x y : ℕ) → y < 256 → (256 * x + y) % 256 ≡ y
low x y small = omega arith

even : (k : ℕ) → (k % 2 == 0) ≡ true → 2 * (k / 2) ≡ k
even k e = let none : k % 2 ≡ 0 = eqb-true (k % 2) 0 e in omega (arith, none)

odd : (k : ℕ) → (k % 2 == 0) ≡ false → 2 * (k / 2) + 1 ≡ k
odd k e = let some : k % 2 ≡ 0 → ⊥ = eqb-false (k % 2) 0 e in omega (arith, some)

-- the cell with two of the bytes
cell_at : (aid : List ℕ) (j : ℕ) → j < 8 → get_or (cells_of_aid aid) (1 + j) 0 ≡ aid_cell aid j
cell_at aid j below =
    let next : 1 + j ≡ suc j = omega arith in
    let none : 0 + j ≡ j = omega arith in
    ap (λ i. get_or (cells_of_aid aid) i 0) next ∙ get_or-map-range_with_len (aid_cell aid) 0 8 j j 0 below none

told_by : (aid : List ℕ) (k : ℕ) (b : Bool) → (k % 2 == 0) ≡ b → get_or aid (2 * (k / 2) + 1) 0 < 256
    → get_or aid k 0 ≡ (if b then aid_cell aid (k / 2) / 256 else aid_cell aid (k / 2) % 256)
told_by aid k true e small = sym (high (get_or aid (2 * (k / 2)) 0) (get_or aid (2 * (k / 2) + 1) 0) small ∙ ap (λ i. get_or aid i 0) (even k e))
told_by aid k false e small = sym (low (get_or aid (2 * (k / 2)) 0) (get_or aid (2 * (k / 2) + 1) 0) small ∙ ap (λ i. get_or aid i 0) (odd k e))

told : (aid : List ℕ) (k : ℕ) → k < 16 → get_or aid (2 * (k / 2) + 1) 0 < 256 → get_or aid k 0 ≡ aid_byte (cells_of_aid aid) k
told aid k below small =
    let half : k / 2 < 8 = omega (arith, below) in
    told_by aid k (k % 2 == 0) refl small ∙ ap (λ c. if k % 2 == 0 then c / 256 else c % 256) (sym (cell_at aid (k / 2) half))

small_at : (aid : List ℕ) → ((i : ℕ) → i < length aid → get_or aid i 0 < 256) → (i : ℕ) → get_or aid i 0 < 256
small_at aid bytes i = by_place (nat_le (length aid) i) refl
  where
    by_place : (b : Bool) → nat_le (length aid) i ≡ b → get_or aid i 0 < 256
    by_place true e = subst (λ v. v < 256) (sym (get_or_past aid i 0 (leb-true (length aid) i e))) (omega arith)
    by_place false e = bytes i (leb-false (length aid) i e)

pub read_back : AreReadBack
unfolding aid_of_cells
read_back aid short bytes =
    let few : nat_le (length aid) 16 ≡ true = le-leb (length aid) 16 short in
    let same : aid ≡ map (aid_byte (cells_of_aid aid)) (range_with_len 0 (length aid)) =
    fill_by_all (aid_byte (cells_of_aid aid)) aid (length aid) 0 refl (λ k below. told aid k (omega (arith, below, short))
    (small_at aid bytes (2 * (k / 2) + 1))) in
    ap (λ b. if b then Some (map (aid_byte (cells_of_aid aid)) (range_with_len 0 (length aid))) else None) few ∙ ap Some (sym same)
