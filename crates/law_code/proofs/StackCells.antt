-- Cells that are taken from a stack, and those that come onto it, where something is so of each reference.
use Rattle.std.proofs.Common.{◌≡◌, ℕ, List, [], ◌∷◌, Option, Some, None, refl, subst}
use Rattle.std.proofs.lemmas.List.Elements.{All-cons, All-head, All-nil, All-tail, All-weaker}
use Rattle.std.proofs.lemmas.Option.{none-some, option_and_then_some, same_Some}
use Rattle.std.specs.List.{All}
use Rattle.std.specs.Option.{option_map}
use Rattle.std.specs.Prelude.{ℤ}
use Rattle.jc_transient.specs.declared.cell.CellValue.{CellValue}
use Rattle.jc_frames.specs.declared.instr.ValueType.{ValueType}
use Rattle.jc_frames.specs.declared.instr.ValueType.TheVariants as types
use Rattle.jc_frames.specs.declared.cell.Cell.{Cell}
use Rattle.jc_frames.specs.declared.cell.Cell.TheVariants.{Short, Reference, ReturnAddress}
use Rattle.jc_frames.specs.Cell.{cell_on, reference_on, short_on, storable_on, two_references_on, two_shorts_on}
use Rattle.jc_frames.specs.Frames.{Frame, Frames}
use Rattle.jc_world.specs.Values.{value_on, with_top}
use Rattle.jc_api.specs.Referring.{CellRefersSo}
use Rattle.law_code.specs.FrameReferences.{FrameRefersSo}

-- what is so of each value that this may be
pub mapped_some : {A B : Type 0} (f : A → B) (o : Option A) (y : B) (P : B → Type 0) → option_map f o ≡ Some y → ((a : A) → o ≡ Some a → P (f a)) → P y
mapped_some f None y P is each = absurd (none-some y is)
mapped_some f (Some a) y P is each = subst P (same_Some (f a) y is) (each a refl)

module _ (L : ℕ → Type 0) where
  -- ---- what is taken from a stack, and what is left there

  pub cell_taken : (cells : List Cell) (q : Cell × List Cell) → All (CellRefersSo L) cells → cell_on cells ≡ Some q
      → CellRefersSo L q.0 × All (CellRefersSo L) q.1
  cell_taken [] q all is = absurd (none-some q is)
  cell_taken (c ∷ rest) q all is = subst (λ a. CellRefersSo L a.0 × All (CellRefersSo L) a.1) (same_Some (c, rest) q is)
      (All-head (CellRefersSo L) c rest all, All-tail (CellRefersSo L) c rest all)

  pub short_taken : (cells : List Cell) (q : ℤ × List Cell) → All (CellRefersSo L) cells → short_on cells ≡ Some q → All (CellRefersSo L) q.1
  short_taken [] q all is = absurd (none-some q is)
  short_taken (Short x ∷ rest) q all is = subst (λ a. All (CellRefersSo L) a.1) (same_Some (x, rest) q is) (All-tail (CellRefersSo L) (Short x) rest all)
  short_taken (Reference r ∷ rest) q all is = absurd (none-some q is)
  short_taken (ReturnAddress a ∷ rest) q all is = absurd (none-some q is)

  pub reference_taken : (cells : List Cell) (q : ℕ × List Cell) → All (CellRefersSo L) cells → reference_on cells ≡ Some q
      → L q.0 × All (CellRefersSo L) q.1
  reference_taken [] q all is = absurd (none-some q is)
  reference_taken (Short x ∷ rest) q all is = absurd (none-some q is)
  reference_taken (Reference r ∷ rest) q all is = subst (λ a. L a.0 × All (CellRefersSo L) a.1) (same_Some (r, rest) q is)
      (All-head (CellRefersSo L) (Reference r) rest all, All-tail (CellRefersSo L) (Reference r) rest all)
  reference_taken (ReturnAddress a ∷ rest) q all is = absurd (none-some q is)

  pub storable_taken : (cells : List Cell) (q : Cell × List Cell) → All (CellRefersSo L) cells → storable_on cells ≡ Some q
      → CellRefersSo L q.0 × All (CellRefersSo L) q.1
  storable_taken [] q all is = absurd (none-some q is)
  storable_taken (Short x ∷ rest) q all is = absurd (none-some q is)
  storable_taken (Reference r ∷ rest) q all is = cell_taken (Reference r ∷ rest) q all is
  storable_taken (ReturnAddress a ∷ rest) q all is = cell_taken (ReturnAddress a ∷ rest) q all is

  pub two_shorts_taken : (cells : List Cell) (q : ℤ × ℤ × List Cell) → All (CellRefersSo L) cells → two_shorts_on cells ≡ Some q → All (CellRefersSo L) q.2
  two_shorts_taken cells q all is = option_and_then_some _ (short_on cells) q is (λ a there both.
      mapped_some (λ b. (b.0, a.0, b.1)) (short_on a.1) q (λ x. All (CellRefersSo L) x.2) both
      (λ b under. short_taken a.1 b (short_taken cells a all there) under))

  pub two_references_taken : (cells : List Cell) (q : ℕ × ℕ × List Cell) → All (CellRefersSo L) cells → two_references_on cells ≡ Some q
      → All (CellRefersSo L) q.2
  two_references_taken cells q all is = option_and_then_some _ (reference_on cells) q is (λ a there both.
      mapped_some (λ b. (b.0, a.0, b.1)) (reference_on a.1) q (λ x. All (CellRefersSo L) x.2) both
      (λ b under. (reference_taken a.1 b (reference_taken cells a all there).1 under).1))

  pub value_taken : (t : ValueType) (cells : List Cell) (v : CellValue × List Cell) → All (CellRefersSo L) cells → value_on t cells ≡ Some v
      → All (CellRefersSo L) v.1
  value_taken types.Reference cells v all is = mapped_some _ (reference_on cells) v (λ x. All (CellRefersSo L) x.1) is
      (λ q on. (reference_taken cells q all on).1)
  value_taken types.Byte cells v all is = mapped_some _ (short_on cells) v (λ x. All (CellRefersSo L) x.1) is (λ q on. short_taken cells q all on)
  value_taken types.Short cells v all is = mapped_some _ (short_on cells) v (λ x. All (CellRefersSo L) x.1) is (λ q on. short_taken cells q all on)

  -- ---- frames with other cells on the stack

  pub with_cells : (f : Frame) (cells : List Cell) → FrameRefersSo L f → All (CellRefersSo L) cells → FrameRefersSo L (record f { stack = cells })
  with_cells f cells so all = record { locals = so.locals; stack = all }

  pub without_cells : (f : Frame) → FrameRefersSo L f → FrameRefersSo L (record f { stack = [] })
  without_cells f so = with_cells f [] so (All-nil (CellRefersSo L))

  pub topped : (s : Frames) (c : Cell) → FrameRefersSo L s.current → CellRefersSo L c → FrameRefersSo L (with_top c s).current
  topped s c so one = with_cells s.current (c ∷ s.current.stack) so (All-cons (CellRefersSo L) c s.current.stack one so.stack)

-- what is so of the references is so in another way, where that follows of each
module _ (L K : ℕ → Type 0) (stays : (r : ℕ) → L r → K r) where
  cell_kept : (c : Cell) → CellRefersSo L c → CellRefersSo K c
  cell_kept (Short v) so = tt
  cell_kept (Reference r) so = stays r so
  cell_kept (ReturnAddress a) so = tt

  cells_kept : (cells : List Cell) → All (CellRefersSo L) cells → All (CellRefersSo K) cells
  cells_kept cells all = All-weaker (CellRefersSo L) (CellRefersSo K) cell_kept cells all

  pub frame_kept : (f : Frame) → FrameRefersSo L f → FrameRefersSo K f
  frame_kept f so = record { locals = cells_kept f.locals so.locals; stack = cells_kept f.stack so.stack }
