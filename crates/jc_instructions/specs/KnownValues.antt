-- Values of words.
use Rattle.std.specs.Prelude.{ℕ, ◌%◌}
use Rattle.std.specs.Int.{w16, cast_signed}
use Rattle.jc_frames.specs.declared.instr.ValueType.{ValueType}
use Rattle.jc_frames.specs.declared.instr.ValueType.TheVariants as types
use Rattle.jc_frames.specs.declared.cell.Cell.{Cell}
use Rattle.jc_frames.specs.declared.cell.Cell.TheVariants.{Short, Reference}
use Rattle.jc_world.specs.Values.{signed_byte}

-- the value of this type in a cell with this word, as it comes on the stack: a byte with its sign
abbrev pub value_of_word : ValueType → ℕ → Cell
value_of_word types.Reference word = Reference word
value_of_word types.Byte word = Short (signed_byte (word % 256))
value_of_word types.Short word = Short (cast_signed w16 word)
