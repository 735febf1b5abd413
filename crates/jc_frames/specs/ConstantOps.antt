-- Constants: a value put on the stack.
use Rattle.jc_frames.specs.declared.instr.ConstantOp.{ConstantOp}
use Rattle.jc_frames.specs.declared.instr.ConstantOp.TheVariants.{Null, Number}
use Rattle.jc_frames.specs.declared.cell.Cell.TheVariants.{Short, Reference}
use Rattle.jc_frames.specs.Frames.{Frame, Next, push}

-- aconst_null, sconst_m1, sconst_0, sconst_1, sconst_2, sconst_3, sconst_4, sconst_5, bspush, sspush: a
-- constant is pushed
abbrev pub constant_instruction : ConstantOp → Frame → Next Frame
constant_instruction Null s = push (Reference 0) s
constant_instruction (Number v) s = push (Short v) s
