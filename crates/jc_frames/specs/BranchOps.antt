-- Branches: where the run goes on.
use Rattle.std.specs.Option.{option_map, option_and_then}
use Rattle.std.specs.Prelude.{ℕ, zero, suc, ◌+◌, ◌*◌, ℤ, pos, negsuc, ◌+ℤ◌, ◌-ℤ◌, unsigned_abs, int_lt, ◌==◌, ◌&&◌, nat_lt, nat_le, not, Bool, if◌then◌else◌}
use Rattle.std.specs.Prelude.{List, length, slice_get, Option, Some, None}
use Rattle.std.specs.Ordering.{int_eq}
use Rattle.jc_frames.specs.declared.instr.Condition.{Condition}
use Rattle.jc_frames.specs.declared.instr.Condition.TheVariants.{Zero, IsNull, NotNull, SameReference, OtherReference, Shorts}
use Rattle.jc_frames.specs.declared.instr.BranchOp.{BranchOp}
use Rattle.jc_frames.specs.declared.instr.BranchOp.TheVariants.{If, Goto, Jsr, Ret, Table, Lookup}
use Rattle.jc_frames.specs.Operands.{s2}
use Rattle.jc_frames.specs.Short.{compare}
use Rattle.jc_frames.specs.declared.cell.Cell.{Cell}
use Rattle.jc_frames.specs.declared.cell.Cell.TheVariants.{ReturnAddress}
use Rattle.jc_frames.specs.declared.outcome.Outcome.TheVariants.{Fault}
use Rattle.jc_frames.specs.Cell.{as_address, short_on, reference_on, two_shorts_on, two_references_on}
use Rattle.jc_frames.specs.Frames.{Frame, Next, GoesOn, Throws, Ends, if_some, push}

-- a place of the method whose header begins at this one: from there to the end of the code
abbrev pub place_in : ℕ → List ℕ → ℤ → Option ℕ
place_in method code (pos t) = if nat_le method t && nat_lt t (length code) then Some t else None
place_in method code (negsuc t) = None

-- where a branch at pc leads by its offset
abbrev pub branch_target : ℕ → List ℕ → ℕ → ℤ → Option ℕ
branch_target method code pc offset = place_in method code (pos pc +ℤ offset)

-- whether a condition holds of the cells on top, and the cells below them
abbrev pub condition_on : Condition → List Cell → Option (Bool × List Cell)
condition_on (Zero comparison) cells = option_map (λ p. (compare comparison p.0 (pos 0), p.1)) (short_on cells)
condition_on IsNull cells = option_map (λ p. (p.0 == 0, p.1)) (reference_on cells)
condition_on NotNull cells = option_map (λ p. (not (p.0 == 0), p.1)) (reference_on cells)
condition_on SameReference cells = option_map (λ p. (p.0 == p.1, p.2)) (two_references_on cells)
condition_on OtherReference cells = option_map (λ p. (not (p.0 == p.1), p.2)) (two_references_on cells)
condition_on (Shorts comparison) cells = option_map (λ p. (compare comparison p.0 p.1, p.2)) (two_shorts_on cells)

-- the offset that a table of offsets for low to high, which begins at a place, has for a key
abbrev pub table_offset : List ℕ → ℤ → ℤ → ℤ → ℕ → ℤ → Option ℤ
table_offset code otherwise low high at key =
    if int_lt key low then Some otherwise else
    if int_lt high key then Some otherwise else s2 code (at + 2 * unsigned_abs (key -ℤ low))

-- the offset of the first of this many pairs, from a place on, whose match is the key
abbrev pub pair_offset : List ℕ → ℤ → ℕ → ℕ → ℤ → Option ℤ
pair_offset code otherwise zero at key = Some otherwise
pair_offset code otherwise (suc n) at key =
    option_and_then (λ first. if int_eq first key then s2 code (at + 2) else pair_offset code otherwise n (at + 4) key) (s2 code at)

-- on at a place; a code fault where there is no such place
abbrev pub at_target : Option ℕ → Frame → Next Frame
at_target None s = Ends Fault
at_target (Some t) s = GoesOn (record s { place = t })

abbrev pub jump_to : Next Frame → Option ℕ → Next Frame
jump_to (GoesOn s) place = at_target place s
jump_to (Throws e s) place = Throws e s
jump_to (Ends o) place = Ends o

-- ifeq, ifne, iflt, ifge, ifgt, ifle, ifnull, ifnonnull, if_acmpeq, if_acmpne, if_scmpeq, if_scmpne, if_scmplt,
-- if_scmpge, if_scmpgt, if_scmple, ifeq_w, ifne_w, iflt_w, ifge_w, ifgt_w, ifle_w, ifnull_w, ifnonnull_w,
-- if_acmpeq_w, if_acmpne_w, if_scmpeq_w, if_scmpne_w, if_scmplt_w, if_scmpge_w, if_scmpgt_w, if_scmple_w, goto,
-- goto_w, jsr, ret, stableswitch, slookupswitch: the frame after a branch at pc, whose next instruction was the
-- one after the branch
abbrev pub branch_instruction : List ℕ → ℕ → BranchOp → Frame → Next Frame
branch_instruction code pc (If condition offset) s =
    if_some (condition_on condition s.stack) (λ p. if p.0 then at_target (branch_target s.origin.method code pc offset) (record s { stack = p.1 }) else GoesOn
    (record s { stack = p.1 }))
branch_instruction code pc (Goto offset) s = at_target (branch_target s.origin.method code pc offset) s
branch_instruction code pc (Jsr offset) s = jump_to (push (ReturnAddress s.place) s) (branch_target s.origin.method code pc offset)
branch_instruction code pc (Ret n) s = if_some (option_and_then as_address (slice_get s.locals n)) (λ a. at_target (place_in s.origin.method code (pos a)) s)
branch_instruction code pc (Table otherwise low high) s =
    if_some (short_on s.stack) (λ p. if_some (table_offset code otherwise low high (pc + 7) p.0)
    (λ offset. at_target (branch_target s.origin.method code pc offset) (record s { stack = p.1 })))
branch_instruction code pc (Lookup otherwise count) s =
    if_some (short_on s.stack) (λ p. if_some (pair_offset code otherwise count (pc + 5) p.0)
    (λ offset. at_target (branch_target s.origin.method code pc offset) (record s { stack = p.1 })))
