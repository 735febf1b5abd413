-- Instructions that need nothing but frames stay in their method.
use Rattle.std.proofs.Common.{◌≡◌, ℕ, ◌+◌, List, [], ◌∷◌, ◌++◌, length, take, drop, Bool, true, false, Option, Some, None, refl}
use Rattle.std.specs.Prelude.{ℤ, pos, ◌+ℤ◌, ◌&&◌, nat_lt, nat_le, slice_get, slice_set, if◌then◌else◌}
use Rattle.std.specs.Option.{option_and_then}
use Rattle.jc_frames.specs.declared.instr.ConstantOp.{ConstantOp}
use Rattle.jc_frames.specs.declared.instr.ConstantOp.TheVariants.{Null, Number}
use Rattle.jc_frames.specs.declared.instr.LocalOp.{LocalOp}
use Rattle.jc_frames.specs.declared.instr.LocalOp.TheVariants.{Aload, Sload, Astore, Sstore, Sinc}
use Rattle.jc_frames.specs.declared.instr.StackOp.{StackOp}
use Rattle.jc_frames.specs.declared.instr.StackOp.TheVariants.{Pop, Pop2, Dup, Dup2, DupX, SwapX}
use Rattle.jc_frames.specs.declared.instr.ArithmeticOp.{ArithmeticOp}
use Rattle.jc_frames.specs.declared.instr.ArithmeticOp.TheVariants.{Two, Negate, S2b}
use Rattle.jc_frames.specs.declared.instr.BranchOp.{BranchOp}
use Rattle.jc_frames.specs.declared.instr.BranchOp.TheVariants.{If, Goto, Jsr, Ret, Table, Lookup}
use Rattle.jc_frames.specs.Short.{wrap, answer_of, negate, low_byte}
use Rattle.jc_frames.specs.declared.cell.Cell.{Cell}
use Rattle.jc_frames.specs.declared.cell.Cell.TheVariants.{Short, Reference, ReturnAddress}
use Rattle.jc_frames.specs.declared.exceptions.Exception.{Exception}
use Rattle.jc_frames.specs.declared.exceptions.Exception.TheVariants.{ArithmeticException}
use Rattle.jc_frames.specs.declared.outcome.Outcome.{Outcome}
use Rattle.jc_frames.specs.declared.outcome.Outcome.TheVariants.{Fault}
use Rattle.jc_frames.specs.Cell.{as_short, as_reference, as_address, cell_on, short_on, storable_on, two_shorts_on}
use Rattle.jc_frames.specs.Frames.{Frame, Frames, Next, GoesOn, Throws, Ends, if_some, in_frame, push, store_local, copy_below, exchange_cells}
use Rattle.jc_frames.specs.ConstantOps.{constant_instruction}
use Rattle.jc_frames.specs.LocalOps.{local_instruction}
use Rattle.jc_frames.specs.StackOps.{stack_instruction}
use Rattle.jc_frames.specs.ArithmeticOps.{with_quotient, arithmetic_instruction}
use Rattle.jc_frames.specs.BranchOps.{branch_instruction, pair_offset, table_offset, jump_to, branch_target, place_in, condition_on, at_target}

-- what goes on is the same method
unfoldable pub stays : Frame → Next Frame → Type 0
stays s (GoesOn f) = f.origin ≡ s.origin
stays s (Throws e f) = Unit {0}
stays s (Ends o) = Unit {0}

frames_of_goes : (s t : Frames) → GoesOn t ≡ GoesOn s → t ≡ s
frames_of_goes s t e = cc

pub same_origin : (s t : Frames) (n : Next Frame) → stays s.current n → GoesOn t ≡ in_frame s n → t.current.origin ≡ s.current.origin
unfolding stays
same_origin s t (GoesOn f) stay e = rw (frames_of_goes (record s { current = f }) t e) stay
same_origin s t (Throws x f) stay e = cc
same_origin s t (Ends o) stay e = cc

module _ (s : Frame) where
  on : (f : Frame) → f.origin ≡ s.origin → stays s (GoesOn f)
  unfolding stays
  on f e = e

  thrown : (e : Exception) (f : Frame) → stays s (Throws e f)
  unfolding stays
  thrown e f = tt

  ended : (o : Outcome) → stays s (Ends o)
  unfolding stays
  ended o = tt

  some_stays : {A : Type 0} (o : Option A) (go : A → Next Frame) → ((a : A) → stays s (go a)) → stays s (if_some o go)
  some_stays None go each = ended Fault
  some_stays (Some a) go each = each a

  if_stays : (b : Bool) (x y : Next Frame) → stays s x → stays s y → stays s (if b then x else y)
  if_stays true x y first second = first
  if_stays false x y first second = second

  place_stays : (o : Option ℕ) (f : Frame) → f.origin ≡ s.origin → stays s (at_target o f)
  place_stays None f e = ended Fault
  place_stays (Some t) f e = on (record f { place = t }) e

  jump_stays : (n : Next Frame) (o : Option ℕ) → stays s n → stays s (jump_to n o)
  unfolding stays
  jump_stays (GoesOn f) o stay = place_stays o f stay
  jump_stays (Throws e f) o stay = tt
  jump_stays (Ends e) o stay = tt

  answer_stays : (o : Option ℤ) (rest : List Cell) → stays s (with_quotient o rest s)
  answer_stays None rest = thrown ArithmeticException (record s { stack = [] })
  answer_stays (Some r) rest = on (record s { stack = Short r ∷ rest }) refl

  pushed_stays : (cell : Cell) (f : Frame) → f.origin ≡ s.origin → stays s (push cell f)
  pushed_stays cell f e = if_stays (nat_lt (length f.stack) f.limit) (GoesOn (record f { stack = cell ∷ f.stack })) (Ends Fault) (on _ e) (ended Fault)

  stored_stays : (n : ℕ) (cell : Cell) (f : Frame) → f.origin ≡ s.origin → stays s (store_local n cell f)
  stored_stays n cell f e = if_stays (nat_lt n (length f.locals)) (GoesOn (record f { locals = slice_set f.locals n cell })) (Ends Fault) (on _ e) (ended Fault)

  copied_stays : (m n : ℕ) → stays s (copy_below m n s)
  copied_stays m n = if_stays (nat_le m (length s.stack) && nat_le n (length s.stack) && nat_le (length s.stack + m) s.limit)
      (GoesOn (record s { stack = take n s.stack ++ (take m s.stack ++ drop n s.stack) })) (Ends Fault) (on _ refl) (ended Fault)

  exchanged_stays : (m n : ℕ) → stays s (exchange_cells m n s)
  exchanged_stays m n = if_stays (nat_le (m + n) (length s.stack))
      (GoesOn (record s { stack = take n (drop m s.stack) ++ (take m s.stack ++ drop (m + n) s.stack) })) (Ends Fault) (on _ refl) (ended Fault)

  pub put_stays : (constant : ConstantOp) → stays s (constant_instruction constant s)
  put_stays Null = pushed_stays (Reference 0) s refl
  put_stays (Number v) = pushed_stays (Short v) s refl

  pub accessed_stays : (local : LocalOp) → stays s (local_instruction local s)
  accessed_stays (Aload n) = some_stays (option_and_then as_reference (slice_get s.locals n)) _ (λ r. pushed_stays (Reference r) s refl)
  accessed_stays (Sload n) = some_stays (option_and_then as_short (slice_get s.locals n)) _ (λ x. pushed_stays (Short x) s refl)
  accessed_stays (Astore n) = some_stays (storable_on s.stack) _ (λ p. stored_stays n p.0 (record s { stack = p.1 }) refl)
  accessed_stays (Sstore n) = some_stays (short_on s.stack) _ (λ p. stored_stays n (Short p.0) (record s { stack = p.1 }) refl)
  accessed_stays (Sinc n v) = some_stays (option_and_then as_short (slice_get s.locals n)) _ (λ x. stored_stays n (Short (wrap (x +ℤ v))) s refl)

  pub arranged_stays : (stack : StackOp) → stays s (stack_instruction stack s)
  arranged_stays Pop = some_stays (cell_on s.stack) _ (λ p. on (record s { stack = p.1 }) refl)
  arranged_stays Pop2 = some_stays (cell_on s.stack) _ (λ p. some_stays (cell_on p.1) _ (λ q. on (record s { stack = q.1 }) refl))
  arranged_stays Dup = copied_stays 1 0
  arranged_stays Dup2 = copied_stays 2 0
  arranged_stays (DupX m n) = copied_stays m n
  arranged_stays (SwapX m n) = exchanged_stays m n

  pub computed_stays : (arithmetic : ArithmeticOp) → stays s (arithmetic_instruction arithmetic s)
  computed_stays (Two operation) = some_stays (two_shorts_on s.stack) _ (λ p. answer_stays (answer_of operation p.0 p.1) p.2)
  computed_stays Negate = some_stays (short_on s.stack) _ (λ p. on (record s { stack = Short (negate p.0) ∷ p.1 }) refl)
  computed_stays S2b = some_stays (short_on s.stack) _ (λ p. on (record s { stack = Short (low_byte p.0) ∷ p.1 }) refl)

  pub branched_stays : (code : List ℕ) (pc : ℕ) (branch : BranchOp) → stays s (branch_instruction code pc branch s)
  branched_stays code pc (If condition offset) = some_stays (condition_on condition s.stack) _
      (λ p. if_stays p.0 (at_target (branch_target s.origin.method code pc offset) (record s { stack = p.1 })) (GoesOn (record s { stack = p.1 }))
      (place_stays _ (record s { stack = p.1 }) refl) (on (record s { stack = p.1 }) refl))
  branched_stays code pc (Goto offset) = place_stays (branch_target s.origin.method code pc offset) s refl
  branched_stays code pc (Jsr offset) = jump_stays (push (ReturnAddress s.place) s) (branch_target s.origin.method code pc offset)
      (pushed_stays (ReturnAddress s.place) s refl)
  branched_stays code pc (Ret n) = some_stays (option_and_then as_address (slice_get s.locals n)) _
      (λ a. place_stays (place_in s.origin.method code (pos a)) s refl)
  branched_stays code pc (Table otherwise low high) = some_stays (short_on s.stack) _
      (λ p. some_stays (table_offset code otherwise low high (pc + 7) p.0) _ (λ offset. place_stays _ (record s { stack = p.1 }) refl))
  branched_stays code pc (Lookup otherwise count) = some_stays (short_on s.stack) _
      (λ p. some_stays (pair_offset code otherwise count (pc + 5) p.0) _ (λ offset. place_stays _ (record s { stack = p.1 }) refl))
