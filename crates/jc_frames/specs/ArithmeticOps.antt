-- Arithmetic on shorts. The kinds of the operands are tested before a divisor is.
use Rattle.std.specs.Prelude.{ℤ, List, ◌∷◌, Option, Some, None}
use Rattle.jc_frames.specs.declared.instr.ArithmeticOp.{ArithmeticOp}
use Rattle.jc_frames.specs.declared.instr.ArithmeticOp.TheVariants.{Two, Negate, S2b}
use Rattle.jc_frames.specs.Short.{answer_of, negate, low_byte}
use Rattle.jc_frames.specs.declared.cell.Cell.{Cell}
use Rattle.jc_frames.specs.declared.cell.Cell.TheVariants.{Short}
use Rattle.jc_frames.specs.declared.exceptions.Exception.TheVariants.{ArithmeticException}
use Rattle.jc_frames.specs.Cell.{short_on, two_shorts_on}
use Rattle.jc_frames.specs.Frames.{Frame, Next, GoesOn, if_some, thrown_at}

-- the answer on top of what is left; without one, a division by 0 was asked
abbrev pub with_quotient : Option ℤ → List Cell → Frame → Next Frame
with_quotient None rest s = thrown_at ArithmeticException s
with_quotient (Some r) rest s = GoesOn (record s { stack = Short r ∷ rest })

-- sadd, ssub, smul, sdiv, srem, sneg, sshl, sshr, sushr, sand, sor, sxor, s2b: the result in place of the
-- operands; a division by 0 throws
abbrev pub arithmetic_instruction : ArithmeticOp → Frame → Next Frame
arithmetic_instruction (Two operation) s = if_some (two_shorts_on s.stack) (λ p. with_quotient (answer_of operation p.0 p.1) p.2 s)
arithmetic_instruction Negate s = if_some (short_on s.stack) (λ p. GoesOn (record s { stack = Short (negate p.0) ∷ p.1 }))
arithmetic_instruction S2b s = if_some (short_on s.stack) (λ p. GoesOn (record s { stack = Short (low_byte p.0) ∷ p.1 }))
