-- Exception handlers (exception_handler_info of the CAP format).
use Rattle.std.specs.Prelude.{ℕ, ◌+◌, ◌%◌, ◌&&◌, nat_lt, nat_le, Bool, List, Option}
use Rattle.std.specs.Option.{option_map, option_and_then}
use Rattle.jc_frames.specs.Operands.{u2}
use Rattle.jc_frames.specs.declared.handlers.Handler.{Handler}

-- the highest bit of the length is the stop bit
abbrev pub handler : ℕ → ℕ → ℕ → ℕ → Handler
handler start active target catch_type = record { start = start; length = active % 32768; target = target; catch_type = catch_type }

-- the handler that begins at a place of a Method component: where it starts, how far it reaches, where it goes on, and what it catches
unfoldable pub handler_in : List ℕ → ℕ → Option Handler
handler_in text at =
    option_and_then (λ start. option_and_then (λ active. option_and_then (λ target. option_map (handler start active target) (u2 text (at + 6)))
    (u2 text (at + 4))) (u2 text (at + 2))) (u2 text at)

-- the handler watches over an instruction whose opcode stands at a place
abbrev pub watches : Handler → ℕ → Bool
watches h place = nat_le h.start place && nat_lt place (h.start + h.length)
