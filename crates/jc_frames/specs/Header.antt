-- Headers of methods (method_header_info and extended_method_header_info of the CAP format).
use Rattle.std.specs.Prelude.{ℕ, ◌+◌, ◌/◌, ◌%◌, ◌==◌, nat_lt, if◌then◌else◌, Bool, List, Option}
use Rattle.std.specs.Option.{option_map, option_and_then}
use Rattle.jc_frames.specs.Operands.{u1}
use Rattle.jc_frames.specs.declared.header.Header.{Header}

-- the flag of a method that is abstract
abbrev pub says_abstract : ℕ → Bool
says_abstract first = first / 64 % 2 == 1

-- the flags and the stack have half a byte each, and so have the arguments and the other locals
abbrev pub short_header : ℕ → ℕ → ℕ → Header
short_header place first second = record {
  is_abstract = says_abstract first;
  arguments = second / 16;
  locals = second % 16;
  limit = first % 16;
  place = place + 2;
}

-- the flags, and then a byte each
abbrev pub long_header : ℕ → ℕ → ℕ → ℕ → ℕ → Header
long_header place first limit arguments locals = record {
  is_abstract = says_abstract first;
  arguments = arguments;
  locals = locals;
  limit = limit;
  place = place + 4;
}

abbrev pub long_header_at : List ℕ → ℕ → ℕ → Option Header
long_header_at text place first =
    option_and_then (λ limit. option_and_then (λ arguments. option_map (long_header place first limit arguments) (u1 text (place + 3))) (u1 text (place + 2)))
    (u1 text (place + 1))

-- the header that begins at a place of a Method component, if there is room for one: the highest bit says that it is extended
unfoldable pub header_in : List ℕ → ℕ → Option Header
header_in text place =
    option_and_then (λ first. if nat_lt first 128 then option_map (short_header place first) (u1 text (place + 1)) else long_header_at text place first)
    (u1 text place)
