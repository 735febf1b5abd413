-- What the operations on shorts answer. A short is a number from -32768 to 32767.
use Rattle.std.specs.Ordering.{int_eq}
use Rattle.std.specs.Prelude.{zero, suc, ℕ, ◌/◌, ◌^◌, ℤ, pos, negsuc, neg_ℤ, ◌+ℤ◌, ◌-ℤ◌, ◌*ℤ◌, int_div, int_rem, int_lt, unsigned_abs, Bool, not, Option, Some}
use Rattle.std.specs.Prelude.{None}
use Rattle.std.specs.Int.{w8, w16, w32, int_wrap, int_rem_euclid, int_shr, int_bit_and, int_bit_or, int_bit_xor, cast_unsigned}
use Rattle.jc_frames.specs.declared.instr.BinaryOp.{BinaryOp}
use Rattle.jc_frames.specs.declared.instr.BinaryOp.TheVariants.{Add, Subtract, Multiply, Divide, Remainder, ShiftLeft, ShiftRight, ShiftRightUnsigned, And, Or}
use Rattle.jc_frames.specs.declared.instr.BinaryOp.TheVariants.{Xor}
use Rattle.jc_frames.specs.declared.instr.Comparison.{Comparison}
use Rattle.jc_frames.specs.declared.instr.Comparison.TheVariants.{Equal, NotEqual, Less, GreaterOrEqual, Greater, LessOrEqual}

-- the short that is equal to a number modulo 2^16
abbrev pub wrap : ℤ → ℤ
wrap z = int_wrap w16 z

-- the low five bits of a short
abbrev pub low_five : ℤ → ℕ
low_five y = unsigned_abs (int_rem_euclid y (pos 32))

-- the short as 32 bits, without a sign
abbrev pub as_32_bits : ℤ → ℕ
as_32_bits x = cast_unsigned w32 x

-- a number, or none where the divisor is 0
abbrev pub unless_zero : ℤ → ℤ → Option ℤ
unless_zero (pos zero) z = None
unless_zero (pos (suc n)) z = Some z
unless_zero (negsuc n) z = Some z

-- the answer of an operation on two shorts; none where it divides by 0
abbrev pub answer_of : BinaryOp → ℤ → ℤ → Option ℤ
answer_of Add x y = Some (wrap (x +ℤ y))
answer_of Subtract x y = Some (wrap (x -ℤ y))
answer_of Multiply x y = Some (wrap (x *ℤ y))
-- toward zero
answer_of Divide x y = unless_zero y (wrap (int_div x y))
answer_of Remainder x y = unless_zero y (int_rem x y)
answer_of ShiftLeft x y = Some (wrap (x *ℤ pos (2 ^ low_five y)))
-- rounded down
answer_of ShiftRight x y = Some (int_shr x (low_five y))
answer_of ShiftRightUnsigned x y = Some (wrap (pos (as_32_bits x / 2 ^ low_five y)))
answer_of And x y = Some (int_bit_and w16 x y)
answer_of Or x y = Some (int_bit_or w16 x y)
answer_of Xor x y = Some (int_bit_xor w16 x y)

abbrev pub negate : ℤ → ℤ
negate x = wrap (neg_ℤ x)

-- the low byte, with its sign
abbrev pub low_byte : ℤ → ℤ
low_byte x = int_wrap w8 x

-- whether a comparison holds
abbrev pub compare : Comparison → ℤ → ℤ → Bool
compare Equal x y = int_eq x y
compare NotEqual x y = not (int_eq x y)
compare Less x y = int_lt x y
compare GreaterOrEqual x y = not (int_lt x y)
compare Greater x y = int_lt y x
compare LessOrEqual x y = not (int_lt y x)
