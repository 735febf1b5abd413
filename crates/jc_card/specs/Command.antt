-- Command APDUs (ISO/IEC 7816-4).
use Rattle.std.specs.Prelude.{ℕ, ◌+◌, ◌==◌, ◌&&◌, ◌||◌, nat_lt, nat_le, if◌then◌else◌, Bool, List, length, slice_index, Option, Some, None}
use Rattle.jc_memory.specs.Commands.{data_of, has_extended_length, two_bytes}
use Rattle.jc_card.specs.declared.command.Command.{Command}

-- a command: its class, its instruction, two parameters and its data
pub record Apdu : Type 0 where
  pub class : ℕ
  pub instruction : ℕ
  pub p1 : ℕ
  pub p2 : ℕ
  pub content : List ℕ

-- The short form: a header of four bytes; then nothing, or one byte, the expected length; or the length of the data, 1 to 255, the data, and
-- perhaps the expected length
abbrev pub has_short_form : List ℕ → Bool
has_short_form c = nat_le 4 (length c) && (nat_le (length c) 5
    || (nat_lt 0 (slice_index c 4) && (length c == 5 + slice_index c 4 || length c == 6 + slice_index c 4)))

-- The extended form: a header of four bytes and a byte of 0; then two bytes, the expected length; or two bytes, the length of the data, 1 to
-- 65,535, the data, and perhaps two bytes, the expected length
abbrev pub has_extended_form : List ℕ → Bool
has_extended_form c = has_extended_length c && (length c == 7
    || (nat_lt 0 (two_bytes c 5) && (length c == 7 + two_bytes c 5 || length c == 9 + two_bytes c 5)))

-- the command of these bytes; bytes of another form are none
abbrev pub apdu_of : List ℕ → Option Apdu
apdu_of c =
    if has_short_form c || has_extended_form c
    then Some (record { class = slice_index c 0; instruction = slice_index c 1; p1 = slice_index c 2; p2 = slice_index c 3; content = data_of c })
    else None

-- ---- A command as the code holds it

-- the command without where its data lie in memory
abbrev pub apdu_value : Command → Apdu
apdu_value c = record { class = c.class; instruction = c.instruction; p1 = c.p1; p2 = c.p2; content = c.data.now }
