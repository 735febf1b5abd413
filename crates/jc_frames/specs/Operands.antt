-- The operands of instructions: u1, s1, u2, s2, as the instruction set names them.
use Rattle.std.specs.Prelude.{ℕ, ◌+◌, ◌*◌, ℤ, pos, ◌-ℤ◌, nat_lt, if◌then◌else◌, List, Option, slice_get}
use Rattle.std.specs.Option.{option_map, option_and_then}

-- a byte as a number from -128 to 127
abbrev pub signed_byte : ℕ → ℤ
signed_byte b = if nat_lt b 128 then pos b else (pos b -ℤ pos 256)

-- two bytes, the high one first
abbrev pub two_bytes : ℕ → ℕ → ℕ
two_bytes high low = 256 * high + low

-- two bytes as a number from -32768 to 32767
abbrev pub signed_two : ℕ → ℕ → ℤ
signed_two high low = if nat_lt high 128 then pos (two_bytes high low) else (pos (two_bytes high low) -ℤ pos 65536)

-- the byte at a place of the code, if there is one
abbrev pub u1 : List ℕ → ℕ → Option ℕ
u1 code at = slice_get code at

abbrev pub s1 : List ℕ → ℕ → Option ℤ
s1 code at = option_map signed_byte (u1 code at)

-- the number that begins at a place of the code, if both its bytes are there
abbrev pub u2 : List ℕ → ℕ → Option ℕ
u2 code at = option_and_then (λ high. option_map (two_bytes high) (u1 code (at + 1))) (u1 code at)

abbrev pub s2 : List ℕ → ℕ → Option ℤ
s2 code at = option_and_then (λ high. option_map (signed_two high) (u1 code (at + 1))) (u1 code at)
