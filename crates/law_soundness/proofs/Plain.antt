-- Constants, locals, the stack's order, arithmetic and branches: the method stays, and what its frame refers to is there.
use Rattle.std.proofs.Common.{◌≡◌, ℕ, ◌++◌, Bool, true, false, inl, List, length, take, drop, Option, Some, None, refl, if◌then◌else◌}
use Rattle.std.proofs.lemmas.List.Elements.{All-append, All-drop, All-set, All-take}
use Rattle.std.specs.Option.{option_and_then}
use Rattle.std.specs.Prelude.{ℤ, pos, ◌+◌, ◌+ℤ◌, ◌&&◌, nat_le, nat_lt, slice_get}
use Rattle.jc_frames.specs.declared.instr.ArithmeticOp.{ArithmeticOp}
use Rattle.jc_frames.specs.declared.instr.ArithmeticOp.TheVariants.{Two, Negate, S2b}
use Rattle.jc_frames.specs.declared.instr.BranchOp.{BranchOp}
use Rattle.jc_frames.specs.declared.instr.BranchOp.TheVariants.{If, Goto, Jsr, Ret, Table, Lookup}
use Rattle.jc_frames.specs.declared.instr.Condition.{Condition}
use Rattle.jc_frames.specs.declared.instr.Condition.TheVariants.{Zero, IsNull, NotNull, SameReference, OtherReference, Shorts}
use Rattle.jc_frames.specs.declared.instr.ConstantOp.{ConstantOp}
use Rattle.jc_frames.specs.declared.instr.ConstantOp.TheVariants.{Null, Number}
use Rattle.jc_frames.specs.declared.instr.LocalOp.{LocalOp}
use Rattle.jc_frames.specs.declared.instr.LocalOp.TheVariants.{Aload, Sload, Astore, Sstore, Sinc}
use Rattle.jc_frames.specs.declared.instr.StackOp.{StackOp}
use Rattle.jc_frames.specs.declared.instr.StackOp.TheVariants.{Pop, Pop2, Dup, Dup2, DupX, SwapX}
use Rattle.jc_frames.specs.Short.{answer_of, wrap}
use Rattle.jc_frames.specs.declared.cell.Cell.{Cell}
use Rattle.jc_frames.specs.declared.cell.Cell.TheVariants.{Short, Reference, ReturnAddress}
use Rattle.jc_frames.specs.declared.method.Origin.{Origin}
use Rattle.jc_frames.specs.Cell.{as_address, as_reference, as_short, cell_on, reference_on, short_on, storable_on, two_references_on, two_shorts_on}
use Rattle.jc_frames.specs.Frames.{Frame, Next, GoesOn, Throws, Ends, copy_below, exchange_cells, if_some, push, store_local}
use Rattle.jc_frames.specs.ArithmeticOps.{with_quotient, arithmetic_instruction}
use Rattle.jc_frames.specs.BranchOps.{branch_instruction, pair_offset, table_offset, jump_to, branch_target, place_in, condition_on, at_target}
use Rattle.jc_frames.specs.ConstantOps.{constant_instruction}
use Rattle.jc_frames.specs.LocalOps.{local_instruction}
use Rattle.jc_frames.specs.StackOps.{stack_instruction}
use Rattle.jc_heap.specs.Heap.{HeapState}
use Rattle.jc_heap.specs.WholeHeap.{IsReference}
use Rattle.law_soundness.specs.LivingReferences.{AreLivingCells, IsLivingCell, IsLivingFrame, IsLivingOutcome}
use Rattle.law_code.proofs.StackCells.{cell_taken, mapped_some, reference_taken, short_taken, storable_taken, two_references_taken, two_shorts_taken}
use Rattle.law_code.proofs.StackCells.{with_cells, without_cells}
use Rattle.law_soundness.proofs.LivingReferences.{more_living, reference_living}

-- its method stays, and each reference in it is null or names an object
abbrev pub Keeps : HeapState → Origin → Next Frame → Type 0
Keeps h origin (GoesOn f) = (f.origin ≡ origin) × IsLivingFrame h f
Keeps h origin (Throws e f) = (f.origin ≡ origin) × IsLivingFrame h f
Keeps h origin (Ends o) = IsLivingOutcome h o

module _ (h : HeapState) where
  abbrev Refers : ℕ → Type 0
  Refers = IsReference h

  keeps_if : (origin : Origin) (b : Bool) (x y : Next Frame) → Keeps h origin x → Keeps h origin y → Keeps h origin (if b then x else y)
  keeps_if origin true x y first second = first
  keeps_if origin false x y first second = second

  keeps_some : {A : Type 0} (origin : Origin) (o : Option A) (go : A → Next Frame) → ((a : A) → o ≡ Some a → Keeps h origin (go a))
      → Keeps h origin (if_some o go)
  keeps_some origin None go keeps = tt
  keeps_some origin (Some a) go keeps = keeps a refl

  module _ (s : Frame) (living : IsLivingFrame h s) where
    -- with other cells on the stack
    stacked : (cells : List Cell) → AreLivingCells h cells → Keeps h s.origin (GoesOn (record s { stack = cells }))
    stacked cells all = (refl, with_cells Refers s cells living all)

    pub keeps_pushed : (cell : Cell) → IsLivingCell h cell → Keeps h s.origin (push cell s)
    keeps_pushed cell one = keeps_if s.origin (nat_lt (length s.stack) s.limit) _ _ (stacked _ (more_living h cell s.stack one living.stack)) tt

    pub keeps_stored : (n : ℕ) (cell : Cell) → IsLivingCell h cell → Keeps h s.origin (store_local n cell s)
    keeps_stored n cell one = keeps_if s.origin (nat_lt n (length s.locals)) _ _
        (refl, record { locals = All-set (IsLivingCell h) s.locals n cell one living.locals; stack = living.stack }) tt

    pub keeps_put : (constant : ConstantOp) → Keeps h s.origin (constant_instruction constant s)
    keeps_put Null = keeps_pushed (Reference 0) (inl refl)
    keeps_put (Number v) = keeps_pushed (Short v) tt

    keeps_copied : (m n : ℕ) → Keeps h s.origin (copy_below m n s)
    keeps_copied m n = keeps_if s.origin (nat_le m (length s.stack) && nat_le n (length s.stack) && nat_le (length s.stack + m) s.limit) _ _
        (stacked _ (All-append (IsLivingCell h) (take n s.stack) (take m s.stack ++ drop n s.stack) (All-take (IsLivingCell h) n s.stack living.stack)
        (All-append (IsLivingCell h) (take m s.stack) (drop n s.stack) (All-take (IsLivingCell h) m s.stack living.stack)
        (All-drop (IsLivingCell h) n s.stack living.stack)))) tt

    keeps_exchanged : (m n : ℕ) → Keeps h s.origin (exchange_cells m n s)
    keeps_exchanged m n = keeps_if s.origin (nat_le (m + n) (length s.stack)) _ _
        (stacked _ (All-append (IsLivingCell h) (take n (drop m s.stack)) (take m s.stack ++ drop (m + n) s.stack)
        (All-take (IsLivingCell h) n (drop m s.stack) (All-drop (IsLivingCell h) m s.stack living.stack))
        (All-append (IsLivingCell h) (take m s.stack) (drop (m + n) s.stack) (All-take (IsLivingCell h) m s.stack living.stack)
        (All-drop (IsLivingCell h) (m + n) s.stack living.stack)))) tt

    pub keeps_arranged : (stack : StackOp) → Keeps h s.origin (stack_instruction stack s)
    keeps_arranged Pop = keeps_some s.origin (cell_on s.stack) _ (λ q on. stacked q.1 (cell_taken Refers s.stack q living.stack on).1)
    keeps_arranged Pop2 = keeps_some s.origin (cell_on s.stack) _ (λ q on. keeps_some s.origin (cell_on q.1) _
        (λ r under. stacked r.1 (cell_taken Refers q.1 r (cell_taken Refers s.stack q living.stack on).1 under).1))
    keeps_arranged Dup = keeps_copied 1 0
    keeps_arranged Dup2 = keeps_copied 2 0
    keeps_arranged (DupX m n) = keeps_copied m n
    keeps_arranged (SwapX m n) = keeps_exchanged m n

    keeps_answered : (o : Option ℤ) (rest : List Cell) → AreLivingCells h rest → Keeps h s.origin (with_quotient o rest s)
    keeps_answered None rest all = (refl, without_cells Refers s living)
    keeps_answered (Some r) rest all = stacked _ (more_living h (Short r) rest tt all)

    pub keeps_computed : (arithmetic : ArithmeticOp) → Keeps h s.origin (arithmetic_instruction arithmetic s)
    keeps_computed (Two operation) = keeps_some s.origin (two_shorts_on s.stack) _
        (λ q on. keeps_answered (answer_of operation q.0 q.1) q.2 (two_shorts_taken Refers s.stack q living.stack on))
    keeps_computed Negate = keeps_some s.origin (short_on s.stack) _
        (λ q on. stacked _ (more_living h (Short _) q.1 tt (short_taken Refers s.stack q living.stack on)))
    keeps_computed S2b = keeps_some s.origin (short_on s.stack) _
        (λ q on. stacked _ (more_living h (Short _) q.1 tt (short_taken Refers s.stack q living.stack on)))

    pub keeps_place : (o : Option ℕ) → Keeps h s.origin (at_target o s)
    keeps_place None = tt
    keeps_place (Some target) = (refl, record { locals = living.locals; stack = living.stack })

    condition_taken : (condition : Condition) (q : Bool × List Cell) → condition_on condition s.stack ≡ Some q → AreLivingCells h q.1
    condition_taken (Zero comparison) q on = mapped_some _ (short_on s.stack) q (λ x. AreLivingCells h x.1) on
        (λ a is. short_taken Refers s.stack a living.stack is)
    condition_taken IsNull q on = mapped_some _ (reference_on s.stack) q (λ x. AreLivingCells h x.1) on
        (λ a is. (reference_taken Refers s.stack a living.stack is).1)
    condition_taken NotNull q on = mapped_some _ (reference_on s.stack) q (λ x. AreLivingCells h x.1) on
        (λ a is. (reference_taken Refers s.stack a living.stack is).1)
    condition_taken SameReference q on = mapped_some _ (two_references_on s.stack) q (λ x. AreLivingCells h x.1) on
        (λ a is. two_references_taken Refers s.stack a living.stack is)
    condition_taken OtherReference q on = mapped_some _ (two_references_on s.stack) q (λ x. AreLivingCells h x.1) on
        (λ a is. two_references_taken Refers s.stack a living.stack is)
    condition_taken (Shorts comparison) q on = mapped_some _ (two_shorts_on s.stack) q (λ x. AreLivingCells h x.1) on
        (λ a is. two_shorts_taken Refers s.stack a living.stack is)

  pub keeps_accessed : (local : LocalOp) (s : Frame) → IsLivingFrame h s → Keeps h s.origin (local_instruction local s)
  keeps_accessed (Aload n) s living = keeps_some s.origin (option_and_then as_reference (slice_get s.locals n)) _
      (λ r there. keeps_pushed s living (Reference r) (reference_living h s.locals n r living.locals there))
  keeps_accessed (Sload n) s living = keeps_some s.origin (option_and_then as_short (slice_get s.locals n)) _ (λ x there. keeps_pushed s living (Short x) tt)
  keeps_accessed (Astore n) s living = keeps_some s.origin (storable_on s.stack) _ (λ q on. (let taken = storable_taken Refers s.stack q living.stack on in
      keeps_stored (record s { stack = q.1 }) (with_cells Refers s q.1 living taken.1) n q.0 taken.0))
  keeps_accessed (Sstore n) s living = keeps_some s.origin (short_on s.stack) _
      (λ q on. keeps_stored (record s { stack = q.1 }) (with_cells Refers s q.1 living (short_taken Refers s.stack q living.stack on)) n (Short q.0) tt)
  keeps_accessed (Sinc n v) s living = keeps_some s.origin (option_and_then as_short (slice_get s.locals n)) _
      (λ x there. keeps_stored s living n (Short (wrap (x +ℤ v))) tt)

  keeps_jumped : (origin : Origin) (next : Next Frame) (o : Option ℕ) → Keeps h origin next → Keeps h origin (jump_to next o)
  keeps_jumped origin (GoesOn s) None kept = tt
  keeps_jumped origin (GoesOn s) (Some target) kept = (kept.0, (keeps_place s kept.1 (Some target)).1)
  keeps_jumped origin (Throws e s) o kept = kept
  keeps_jumped origin (Ends e) o kept = kept

  pub keeps_branched : (code : List ℕ) (pc : ℕ) (branch : BranchOp) (s : Frame) → IsLivingFrame h s → Keeps h s.origin (branch_instruction code pc branch s)
  keeps_branched code pc (If condition offset) s living =
      keeps_some s.origin (condition_on condition s.stack) _ (λ q on.
      let all = condition_taken s living condition q on in
      keeps_if s.origin q.0 _ _ (keeps_place (record s { stack = q.1 }) (with_cells Refers s q.1 living all) (branch_target s.origin.method code pc offset))
      (stacked s living q.1 all))
  keeps_branched code pc (Goto offset) s living = keeps_place s living (branch_target s.origin.method code pc offset)
  keeps_branched code pc (Jsr offset) s living = keeps_jumped s.origin _ (branch_target s.origin.method code pc offset)
      (keeps_pushed s living (ReturnAddress s.place) tt)
  keeps_branched code pc (Ret n) s living = keeps_some s.origin (option_and_then as_address (slice_get s.locals n)) _
      (λ a there. keeps_place s living (place_in s.origin.method code (pos a)))
  keeps_branched code pc (Table otherwise low high) s living =
      keeps_some s.origin (short_on s.stack) _ (λ q on. keeps_some s.origin (table_offset code otherwise low high (pc + 7) q.0) _
      (λ offset there. keeps_place (record s { stack = q.1 }) (with_cells Refers s q.1 living (short_taken Refers s.stack q living.stack on))
      (branch_target s.origin.method code pc offset)))
  keeps_branched code pc (Lookup otherwise count) s living =
      keeps_some s.origin (short_on s.stack) _ (λ q on. keeps_some s.origin (pair_offset code otherwise count (pc + 5) q.0) _
      (λ offset there. keeps_place (record s { stack = q.1 }) (with_cells Refers s q.1 living (short_taken Refers s.stack q living.stack on))
      (branch_target s.origin.method code pc offset)))
