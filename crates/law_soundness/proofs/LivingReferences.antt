-- References in cells: what is taken from cells and put onto them, and what stays of them.
use Rattle.std.proofs.Common.{◌≡◌, ℕ, ◌<◌, ◌-◌, List, [], ◌∷◌, length, map, take, reverse, Some, refl, sym, subst, arith}
use Rattle.std.proofs.lemmas.List.{get_or-reverse, length-reverse}
use Rattle.std.proofs.lemmas.List.Elements.{All-append, All-cons, All-map, All-nil, All-replicate, All-take, All-weaker}
use Rattle.std.proofs.lemmas.Option.{get_or_from_slice_get, none-some, option_and_then_some, same_Some, slice_get_within}
use Rattle.std.specs.Option.{option_and_then}
use Rattle.std.specs.Prelude.{nat_le, pos, replicate, slice_get}
use Rattle.jc_heap.specs.Heap.{HeapState}
use Rattle.jc_heap.specs.WholeHeap.{IsReference}
use Rattle.jc_frames.specs.declared.cell.Cell.{Cell}
use Rattle.jc_frames.specs.declared.cell.Cell.TheVariants.{Short, Reference, ReturnAddress}
use Rattle.jc_frames.specs.Cell.{as_reference, without_dead}
use Rattle.jc_frames.specs.Calls.{arguments_on, caller_without_dead, first_frame, frame_without_dead}
use Rattle.jc_frames.specs.declared.method.Origin.{Origin}
use Rattle.jc_frames.specs.declared.outcome.FrameExit.TheVariants.{End}
use Rattle.jc_frames.specs.declared.outcome.Outcome.{Outcome}
use Rattle.jc_frames.specs.Frames.{Caller, Frame}
use Rattle.jc_api.proofs.Exits.{IsPlainExit, plain_end}
use Rattle.law_code.proofs.Receivers.{args_are}
use Rattle.law_code.proofs.StackCells.{frame_kept}
use Rattle.law_soundness.specs.LivingReferences.{AreLivingCallers, AreLivingCells, IsLivingCell, IsLivingFrame, IsLivingOutcome, KeepsReferences}
use Rattle.law_soundness.specs.LivingReferences.{KeepsReferencesBelow}

module _ (h : HeapState) where
  abbrev IsLiving : Cell → Type 0
  IsLiving c = IsLivingCell h c

  pub more_living : (c : Cell) (cells : List Cell) → IsLivingCell h c → AreLivingCells h cells → AreLivingCells h (c ∷ cells)
  more_living c cells one rest = All-cons IsLiving c cells one rest

  pub none_living : AreLivingCells h []
  none_living = All-nil IsLiving

  -- an exception or a code fault
  pub plain_living : (o : Outcome) → IsPlainExit (End o) → IsLivingOutcome h o
  plain_living o plain = plain_end (IsLivingOutcome h) tt o plain

  -- ---- what stands at a place

  cell_living : (cells : List Cell) (n : ℕ) (c : Cell) → AreLivingCells h cells → slice_get cells n ≡ Some c → IsLivingCell h c
  cell_living cells n c all is = subst (IsLivingCell h) (get_or_from_slice_get cells n c c is) (all n c (slice_get_within cells n c is))

  as_living : (c : Cell) (r : ℕ) → IsLivingCell h c → as_reference c ≡ Some r → IsReference h r
  as_living (Short x) r living is = absurd (none-some r is)
  as_living (Reference q) r living is = subst (IsReference h) (same_Some q r is) living
  as_living (ReturnAddress a) r living is = absurd (none-some r is)

  pub reference_living : (cells : List Cell) (n r : ℕ) → AreLivingCells h cells → option_and_then as_reference (slice_get cells n) ≡ Some r → IsReference h r
  reference_living cells n r all is = option_and_then_some as_reference (slice_get cells n) r is
      (λ c there refers. as_living c r (cell_living cells n c all there) refers)

  -- ---- the arguments of a call

  pub reverse_living : (cells : List Cell) → AreLivingCells h cells → AreLivingCells h (reverse cells)
  reverse_living cells all k d lt =
      let long = length-reverse cells in
      let within : k < length cells = omega (arith, lt, long) in
      subst (IsLivingCell h) (sym (get_or-reverse cells k d within)) (all (length cells - 1 - k) d (omega (arith, within)))

  -- the locals of a method as it begins
  pub first_living : (arguments : List Cell) (locals limit place : ℕ) (origin : Origin) → AreLivingCells h arguments
      → IsLivingFrame h (first_frame arguments locals limit place origin)
  first_living arguments locals limit place origin all = record {
    locals = All-append IsLiving arguments (replicate locals (Short (pos 0))) all (All-replicate IsLiving locals (Short (pos 0)) tt);
    stack = none_living;
  }

  pub arguments_living : (n : ℕ) (stack args : List Cell) → AreLivingCells h stack → arguments_on n stack ≡ Some args → AreLivingCells h args
  arguments_living n stack args all is = subst (AreLivingCells h) (args_are n stack args (nat_le n (length stack)) refl is).1
      (reverse_living (take n stack) (All-take IsLiving n stack all))

-- ---- what stays of them in another heap

pub callers_kept : (h g : HeapState) → KeepsReferences h g → (callers : List Caller) → AreLivingCallers h callers → AreLivingCallers g callers
callers_kept h g keeps [] living = tt
callers_kept h g keeps (c ∷ callers) living = (
  frame_kept (IsReference h) (IsReference g) keeps c.frame living.0,
  callers_kept h g keeps callers living.1,
)

-- ---- and where dead references become null

module _ (h g : HeapState) (keeps : KeepsReferencesBelow h g) where
  cell_nulled : (c : Cell) → IsLivingCell h c → IsLivingCell g (without_dead g.top c)
  cell_nulled (Short x) living = tt
  cell_nulled (Reference r) living = keeps r living
  cell_nulled (ReturnAddress a) living = tt

  cells_nulled : (cells : List Cell) → AreLivingCells h cells → AreLivingCells g (map (without_dead g.top) cells)
  cells_nulled cells all = All-map (λ c. IsLivingCell g c) (without_dead g.top) cells
      (All-weaker (λ c. IsLivingCell h c) (λ c. IsLivingCell g (without_dead g.top c)) cell_nulled cells all)

  pub frame_nulled : (f : Frame) → IsLivingFrame h f → IsLivingFrame g (frame_without_dead g.top f)
  frame_nulled f living = record { locals = cells_nulled f.locals living.locals; stack = cells_nulled f.stack living.stack }

  pub callers_nulled : (callers : List Caller) → AreLivingCallers h callers → AreLivingCallers g (map (caller_without_dead g.top) callers)
  callers_nulled [] living = tt
  callers_nulled (c ∷ callers) living = (frame_nulled c.frame living.0, callers_nulled callers living.1)
