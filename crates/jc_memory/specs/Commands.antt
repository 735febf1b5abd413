-- The bytes of a command (ISO/IEC 7816-4): its form, and where its data stand.
use Rattle.std.specs.Prelude.{ℕ, ◌+◌, ◌*◌, ◌==◌, ◌&&◌, nat_lt, nat_le, min, Bool, List, length, slice_index, slice_range, if◌then◌else◌}
use Rattle.jc_transient.specs.declared.sizes.RamSizes.{RamSizes}

-- the most bytes of a command: seven, 65,535 bytes of data, and two that say how many are expected
abbrev pub most_command : ℕ
most_command = 65544

-- the most bytes of data of an answer
abbrev pub most_sent : ℕ
most_sent = 32767

-- the most bytes of data of an answer to a command in the short form
abbrev pub most_short : ℕ
most_short = 256

-- contents of these sizes have an APDU buffer that is longer than usual: the image takes commands in the extended form
abbrev pub takes_extended_length : RamSizes → Bool
takes_extended_length sizes = nat_lt sizes.deselect sizes.reset

-- two bytes of a command from one on, as a number
abbrev pub two_bytes : List ℕ → ℕ → ℕ
two_bytes c i = 256 * slice_index c i + slice_index c (i + 1)

-- the command has the extended form: its fifth byte is 0, and more follow
abbrev pub has_extended_length : List ℕ → Bool
has_extended_length c = nat_lt 5 (length c) && slice_index c 4 == 0

-- Lc: how many bytes of data a command says that it has. In the extended form seven bytes have no Lc
abbrev pub lc_of : List ℕ → ℕ
lc_of c =
    if has_extended_length c then (if nat_le (length c) 7 then 0 else two_bytes c 5) else
    if nat_le (length c) 5 then 0 else slice_index c 4

-- where its data begin
abbrev pub data_offset : List ℕ → ℕ
data_offset c = if has_extended_length c && nat_lt 7 (length c) then 7 else 5

-- its data: as many bytes as it says, or as it has
unfoldable pub data_of : List ℕ → List ℕ
data_of c = slice_range c (data_offset c) (min (data_offset c + lc_of c) (length c))

-- the bytes that stand in the APDU buffer before anything is received: all before the data
abbrev pub header_length : List ℕ → ℕ
header_length c = if has_extended_length c then 7 else 5

-- the most bytes of data of an answer to this command
abbrev pub most_answer : List ℕ → ℕ
most_answer c = if has_extended_length c then most_sent else most_short
