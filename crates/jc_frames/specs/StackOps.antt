-- The stack's order. Cells of any kind may be moved.
use Rattle.jc_frames.specs.declared.instr.StackOp.{StackOp}
use Rattle.jc_frames.specs.declared.instr.StackOp.TheVariants.{Pop, Pop2, Dup, Dup2, DupX, SwapX}
use Rattle.jc_frames.specs.Cell.{cell_on}
use Rattle.jc_frames.specs.Frames.{Frame, Next, GoesOn, if_some, copy_below, exchange_cells}

-- pop, pop2, dup, dup2, dup_x, swap_x: the stack reordered
abbrev pub stack_instruction : StackOp → Frame → Next Frame
stack_instruction Pop s = if_some (cell_on s.stack) (λ p. GoesOn (record s { stack = p.1 }))
stack_instruction Pop2 s = if_some (cell_on s.stack) (λ p. if_some (cell_on p.1) (λ q. GoesOn (record s { stack = q.1 })))
stack_instruction Dup s = copy_below 1 0 s
stack_instruction Dup2 s = copy_below 2 0 s
stack_instruction (DupX m n) s = copy_below m n s
stack_instruction (SwapX m n) s = exchange_cells m n s
