-- Reading the Method component.
use Rattle.std.specs.Prelude.{ℕ, ◌+◌, ◌*◌, ◌/◌, ◌%◌, ◌-◌, Bool, true, false, List, [], ◌∷◌, length, drop, Option, Some, None, is_some, Result, Ok, nat_lt, ◌==◌}
use Rattle.std.specs.Prelude.{if◌then◌else◌}
use Rattle.jc_cap.specs.declared.fault.CapFault.{CapFault}
use Rattle.jc_cap.specs.declared.handlers.Handler.{Handler}
use Rattle.jc_cap.specs.declared.methods.MethodHeader.{MethodHeader}
use Rattle.jc_cap.specs.Methods.{MethodParts, MethodText}
use Rattle.jc_cap.specs.Reading.{◌>>=◌, Field, u1_at, u2_at, many_at}

-- two bytes: the stop bit, and a length in the other 15 bits
unfoldable pub active_at : List ℕ → Field (Bool × ℕ)
active_at bytes = do
  high ← u1_at bytes
  low ← u1_at high.1
  if nat_lt high.0 128 then Ok ((false, high.0 * 256 + low.0), low.1) else Ok ((true, (high.0 - 128) * 256 + low.0), low.1)

-- the start, the stop bit and the length, where it goes on, and what it catches
unfoldable pub handler_at : List ℕ → Field Handler
handler_at bytes = do
  start ← u2_at bytes
  active ← active_at start.1
  target ← u2_at active.1
  catch_type ← u2_at target.1
  Ok (
    record { start_offset = start.0; stop = active.0.0; active_length = active.0.1; handler_offset = target.0; catch_type_index = catch_type.0 },
    catch_type.1,
  )

-- the handlers after their count, and all that is left
unfoldable pub methods_of : List ℕ → Result MethodParts CapFault
methods_of info = do
  count ← u1_at info
  handlers ← many_at handler_at count.0 count.1
  Ok (record { handlers = handlers.0; code = handlers.1 })

-- the offset of the first byte after the handlers
abbrev pub methods_start : MethodParts → ℕ
methods_start m = 1 + 8 * length m.handlers

-- the flags (8 extended, 4 abstract) and the stack; the arguments and the locals
abbrev pub short_header : ℕ → List ℕ → Option MethodHeader
short_header first [] = None
short_header first (second ∷ rest) = Some (record {
  extended = false;
  is_abstract = first / 64 % 2 == 1;
  max_stack = first % 16;
  nargs = second / 16;
  max_locals = second % 16;
})

-- the flags; the stack, the arguments and the locals have a byte each
abbrev pub extended_header : ℕ → List ℕ → Option MethodHeader
extended_header first [] = None
extended_header first (a ∷ []) = None
extended_header first (a ∷ b ∷ []) = None
extended_header first (stack ∷ arguments ∷ locals ∷ rest) = Some (record {
  extended = true;
  is_abstract = first / 64 % 2 == 1;
  max_stack = stack;
  nargs = arguments;
  max_locals = locals;
})

-- the header that the bytes begin with, if there is room for one
unfoldable pub header_of : List ℕ → Option MethodHeader
header_of [] = None
header_of (first ∷ rest) = if nat_lt 127 first then extended_header first rest else short_header first rest

abbrev pub with_bytes : List ℕ → Option MethodHeader → Option MethodText
with_bytes bytes (Some header) = Some (record { header = header; bytes = bytes })
with_bytes bytes None = None

-- the method whose header begins at the offset, counted from the first byte of the info
unfoldable pub method_at : MethodParts → ℕ → Option MethodText
method_at m offset = if nat_lt offset (methods_start m) then None
    else with_bytes (drop (offset - methods_start m) m.code) (header_of (drop (offset - methods_start m) m.code))

-- a method's header begins at the offset: it lies after the handlers, and there is room for the header
abbrev pub has_room : MethodParts → ℕ → Bool
has_room m offset = is_some (method_at m offset)
