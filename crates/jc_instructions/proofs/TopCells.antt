-- Cells on top of a stack.
use Rattle.std.proofs.Common.{◌≡◌, ℕ, ◌≤◌, List, [], ◌∷◌, length, drop, Some, refl, arith}
use Rattle.std.specs.Prelude.{ℤ, slice_get}
use Rattle.jc_frames.specs.declared.cell.Cell.{Cell}
use Rattle.jc_frames.specs.declared.cell.Cell.TheVariants.{Short, Reference, ReturnAddress}
use Rattle.jc_frames.specs.Cell.{short_on, reference_on}

same_reference : (q r : ℕ) → Some (Reference q) ≡ Some (Reference r) → q ≡ r
same_reference q r e = cc

same_short : (x y : ℤ) → Some (Short x) ≡ Some (Short y) → x ≡ y
same_short x y e = cc

-- the reference on top, and what is below it
pub reference_on_top : (stack : List Cell) (r : ℕ) → slice_get stack 0 ≡ Some (Reference r) → reference_on stack ≡ Some (r, drop 1 stack)
reference_on_top [] r e = cc
reference_on_top (Reference q ∷ rest) r e = rw (same_reference q r e) refl
reference_on_top (Short x ∷ rest) r e = cc
reference_on_top (ReturnAddress a ∷ rest) r e = cc

-- the short on top, and what is below it
pub short_on_top : (stack : List Cell) (x : ℤ) → slice_get stack 0 ≡ Some (Short x) → short_on stack ≡ Some (x, drop 1 stack)
short_on_top [] x e = cc
short_on_top (Short y ∷ rest) x e = rw (same_short y x e) refl
short_on_top (Reference r ∷ rest) x e = cc
short_on_top (ReturnAddress a ∷ rest) x e = cc

-- the reference below the top, and what is below it
pub reference_below : (stack : List Cell) (r : ℕ) → slice_get stack 1 ≡ Some (Reference r) → reference_on (drop 1 stack) ≡ Some (r, drop 2 stack)
reference_below [] r e = cc
reference_below (c ∷ rest) r e = reference_on_top rest r e

-- there is a cell on top
pub one_cell : (stack : List Cell) (c : Cell) → slice_get stack 0 ≡ Some c → 1 ≤ length stack
one_cell [] c e = cc
one_cell (d ∷ rest) c e = omega arith

-- there is one below it
pub two_cells : (stack : List Cell) (c : Cell) → slice_get stack 1 ≡ Some c → 2 ≤ length stack
two_cells [] c e = cc
two_cells (d ∷ []) c e = cc
two_cells (d ∷ b ∷ rest) c e = omega arith
