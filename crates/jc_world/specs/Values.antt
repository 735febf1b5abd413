-- Values of fields and of elements of arrays: on the stack, and as they are kept. A byte is a short on the stack.
use Rattle.std.specs.Prelude.{ℕ, ℤ, pos, ◌%◌, ◌<◌, List, ◌∷◌, Option, Result, Ok, Err}
use Rattle.std.specs.Option.{option_map}
use Rattle.std.specs.Int.{w8, w16, cast_signed, cast_unsigned}
use Rattle.jc_transient.specs.declared.cell.CellValue.{CellValue}
use Rattle.jc_transient.specs.declared.cell.CellValue.TheVariants as kept
use Rattle.jc_frames.specs.declared.instr.ValueType.{ValueType}
use Rattle.jc_frames.specs.declared.instr.ValueType.TheVariants as types
use Rattle.jc_frames.specs.declared.cell.Cell.{Cell}
use Rattle.jc_frames.specs.declared.cell.Cell.TheVariants.{Short, Reference}
use Rattle.jc_frames.specs.declared.outcome.FrameExit.{FrameExit}
use Rattle.jc_frames.specs.Cell.{short_on, reference_on}
use Rattle.jc_frames.specs.Frames.{Frames, with_stack}
use Rattle.jc_memory.specs.State.{MemoryState}
use Rattle.jc_memory.specs.Cells.{word_at, short_at, byte_at}
use Rattle.jc_linker.specs.Values.{Packages}
use Rattle.jc_world.specs.Objects.{storable_of}

-- the low byte of a short, as a number from 0 to 255
abbrev pub low_byte : ℤ → ℕ
low_byte x = cast_unsigned w16 x % 256

-- a byte with its sign
abbrev pub signed_byte : ℕ → ℤ
signed_byte b = cast_signed w8 b

-- the value of this type on top of a stack, as it is kept: of a byte the low eight bits; and the cells below it
abbrev pub value_on : ValueType → List Cell → Option (CellValue × List Cell)
value_on types.Reference cells = option_map (λ p. (kept.Reference p.0, p.1)) (reference_on cells)
value_on types.Byte cells = option_map (λ p. (kept.Short (pos (low_byte p.0)), p.1)) (short_on cells)
value_on types.Short cells = option_map (λ p. (kept.Short p.0, p.1)) (short_on cells)

-- the value of this type in a cell of an object, as it comes on the stack: a byte with its sign
abbrev pub value_at : ValueType → MemoryState → ℕ → ℕ → Cell
value_at types.Reference m r i = Reference (word_at m r i)
value_at types.Byte m r i = Short (signed_byte (byte_at m r i))
value_at types.Short m r i = Short (short_at m r i)

-- the value, where it may be kept
abbrev pub value_if_allowed : CellValue → Result (Unit {0}) FrameExit → Result CellValue FrameExit
value_if_allowed value (Ok u) = Ok value
value_if_allowed value (Err e) = Err e

-- a value to be kept: a reference where the firewall lets it be, a number always
abbrev pub keepable : Packages → MemoryState → CellValue → Result CellValue FrameExit
keepable p m (kept.Short x) = Ok (kept.Short x)
keepable p m (kept.Reference r) = value_if_allowed (kept.Reference r) (storable_of p m r)

-- a value of this type, as it is kept
abbrev pub IsValueOf : ValueType → CellValue → Type 0
IsValueOf types.Reference (kept.Short x) = ⊥
IsValueOf types.Reference (kept.Reference r) = Unit {0}
IsValueOf types.Byte (kept.Short x) = cast_unsigned w16 x < 256
IsValueOf types.Byte (kept.Reference r) = ⊥
IsValueOf types.Short (kept.Short x) = Unit {0}
IsValueOf types.Short (kept.Reference r) = ⊥

-- a cell comes on the stack
abbrev pub with_top : Cell → Frames → Frames
with_top cell s = with_stack s (cell ∷ s.current.stack)
