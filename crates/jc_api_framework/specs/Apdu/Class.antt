-- The class byte of a command (ISO/IEC 7816-4; runtime environment specification, logical channels).
use Rattle.std.specs.Prelude.{ℕ, ◌+◌, ◌/◌, ◌%◌, ◌==◌, ◌&&◌, nat_lt, not, Bool, List, slice_index, if◌then◌else◌}

-- the class byte; 0 where no command is carried out
abbrev pub class_byte : List ℕ → ℕ
class_byte command = slice_index command 0

-- a class of ISO: its first bit is 0
abbrev pub is_interindustry : ℕ → Bool
is_interindustry c = nat_lt c 128

-- no class begins with the bits 001, nor is FF one
abbrev pub is_valid_class : ℕ → Bool
is_valid_class c = not (c / 32 == 1) && not (c == 255)

-- more commands of the chain follow: the fifth bit from the right
abbrev pub is_chained : ℕ → Bool
is_chained c = (c / 16) % 2 == 1

-- the class is for one of the channels 4 to 19: its second bit
abbrev pub is_further : ℕ → Bool
is_further c = (c / 64) % 2 == 1

-- secure messaging: two bits say so on the channels 0 to 3, and one on the others
abbrev pub is_secured : ℕ → Bool
is_secured c = if is_further c then (c / 32) % 2 == 1 else not ((c / 4) % 4 == 0)

-- the channel: 0 to 3 by two bits, 4 to 19 by four; 0 where the class is none
abbrev pub channel_of : ℕ → ℕ
channel_of c = if is_valid_class c then (if is_further c then 4 + c % 16 else c % 4) else 0
