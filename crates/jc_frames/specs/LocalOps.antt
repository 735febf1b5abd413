-- Locals: each is read or written by its number, with the kind that the instruction names.
use Rattle.std.specs.Prelude.{◌+ℤ◌, slice_get}
use Rattle.std.specs.Option.{option_and_then}
use Rattle.jc_frames.specs.declared.instr.LocalOp.{LocalOp}
use Rattle.jc_frames.specs.declared.instr.LocalOp.TheVariants.{Aload, Sload, Astore, Sstore, Sinc}
use Rattle.jc_frames.specs.Short.{wrap}
use Rattle.jc_frames.specs.declared.cell.Cell.TheVariants.{Short, Reference}
use Rattle.jc_frames.specs.Cell.{as_short, as_reference, short_on, storable_on}
use Rattle.jc_frames.specs.Frames.{Frame, Next, if_some, push, store_local}

-- aload, sload, aload_0, aload_1, aload_2, aload_3, sload_0, sload_1, sload_2, sload_3, astore, sstore,
-- astore_0, astore_1, astore_2, astore_3, sstore_0, sstore_1, sstore_2, sstore_3, sinc, sinc_w: a local is
-- pushed, popped into or incremented
abbrev pub local_instruction : LocalOp → Frame → Next Frame
local_instruction (Aload n) s = if_some (option_and_then as_reference (slice_get s.locals n)) (λ r. push (Reference r) s)
local_instruction (Sload n) s = if_some (option_and_then as_short (slice_get s.locals n)) (λ x. push (Short x) s)
local_instruction (Astore n) s = if_some (storable_on s.stack) (λ p. store_local n p.0 (record s { stack = p.1 }))
local_instruction (Sstore n) s = if_some (short_on s.stack) (λ p. store_local n (Short p.0) (record s { stack = p.1 }))
local_instruction (Sinc n v) s = if_some (option_and_then as_short (slice_get s.locals n)) (λ x. store_local n (Short (wrap (x +ℤ v))) s)
