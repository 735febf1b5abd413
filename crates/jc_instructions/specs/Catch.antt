-- Which handler of a method catches what is thrown.
use Rattle.std.specs.Prelude.{ℕ, zero, suc, ◌+◌, ◌==◌, ◌&&◌, nat_lt, nat_le, List, length, Option, Some, None, unwrap_or, if◌then◌else◌}
use Rattle.jc_linker.specs.declared.target.Target.{Target}
use Rattle.jc_linker.specs.declared.target.Target.TheVariants.{Class}
use Rattle.jc_linker.specs.Values.{Packages}
use Rattle.jc_linker.specs.Classes.{is_below}
use Rattle.jc_linker.specs.Lookups.{target_at}
use Rattle.jc_frames.specs.Operands.{u1}
use Rattle.jc_frames.specs.declared.method.Origin.{Origin}
use Rattle.jc_frames.specs.declared.handlers.Handler.{Handler}
use Rattle.jc_frames.specs.Handlers.{handler_in, watches}
use Rattle.jc_instructions.specs.declared.catch.HandlerResult.{HandlerResult}
use Rattle.jc_instructions.specs.declared.catch.HandlerResult.TheVariants.{Caught, NotCaught, CodeFault}
use Rattle.jc_instructions.specs.MethodComponent.{method_component_of}

-- a handler goes on within the method, from its header to the end of the component; else a code fault
abbrev pub handler_target : ℕ → List ℕ → ℕ → HandlerResult
handler_target method text target = if nat_le method target && nat_lt target (length text) then Caught target else CodeFault

-- a handler of this class catches an exception of a class below it; an entry that names no class is a code fault
abbrev pub catch_by_class : Packages → ℕ → Option Target → HandlerResult → HandlerResult
catch_by_class p thrown (Some (Class class)) caught = if is_below p thrown class then caught else NotCaught
catch_by_class p thrown _ caught = CodeFault

-- a handler that watches over the place catches all, or what is of its class
abbrev pub catch_by_handler : Packages → ℕ → Origin → ℕ → List ℕ → Handler → HandlerResult
catch_by_handler p thrown origin place text h =
    if watches h place then (if h.catch_type == 0 then handler_target origin.method text h.target else catch_by_class p thrown
    (target_at p origin.package_number h.catch_type) (handler_target origin.method text h.target)) else NotCaught

-- a handler that the component's end cuts is a code fault
unfoldable pub catch_by_entry : Packages → ℕ → Origin → ℕ → List ℕ → Option Handler → HandlerResult
catch_by_entry p thrown origin place text None = CodeFault
catch_by_entry p thrown origin place text (Some h) = catch_by_handler p thrown origin place text h

-- the next one is tried where one doesn't catch
abbrev pub or_next_handler : HandlerResult → HandlerResult → HandlerResult
or_next_handler NotCaught next = next
or_next_handler (Caught target) next = Caught target
or_next_handler CodeFault next = CodeFault

-- the first that catches, of this many handlers that stand from a place on
abbrev pub catch_from : Packages → ℕ → Origin → ℕ → List ℕ → ℕ → ℕ → HandlerResult
catch_from p thrown origin place text zero at = NotCaught
catch_from p thrown origin place text (suc n) at = or_next_handler (catch_by_entry p thrown origin place text (handler_in text at))
    (catch_from p thrown origin place text n (at + 8))

-- the first handler of a component that catches an exception of this class, thrown in a method by the instruction at this place:
-- the component begins with their number
abbrev pub catch_in_component : Packages → ℕ → Origin → ℕ → List ℕ → HandlerResult
catch_in_component p thrown origin place text = catch_from p thrown origin place text (unwrap_or (u1 text 0) 0) 1

unfoldable pub catch_in_method : Packages → ℕ → Origin → ℕ → HandlerResult
catch_in_method p thrown origin place = catch_in_component p thrown origin place (method_component_of p origin.package_number)
