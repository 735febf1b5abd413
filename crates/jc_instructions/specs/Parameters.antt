-- The arguments that the methods of the platform take after their receivers (API specification).
use Rattle.std.specs.Prelude.{Bool, true, List, length}
use Rattle.jc_memory.specs.State.{MemoryState}
use Rattle.jc_frames.specs.declared.cell.Cell.{Cell}
use Rattle.jc_frames.specs.Calls.{arguments_on}
use Rattle.jc_platform.specs.declared.kinds.ParameterKind.{ParameterKind}
use Rattle.jc_platform.specs.declared.names.PlatformMethod.{PlatformMethod}
use Rattle.jc_platform.specs.Signatures.{parameters_of}
use Rattle.jc_linker.specs.declared.target.Method.{Method}
use Rattle.jc_linker.specs.declared.target.Method.TheVariants.{Code, Native}
use Rattle.jc_linker.specs.Values.{Packages}
use Rattle.jc_api.specs.Kinds.{have_kinds, is_present_and}

-- the cells on the top of the stack are of these kinds, the last one's on top
abbrev pub kinds_fit : List ParameterKind → Packages → MemoryState → List Cell → Bool
kinds_fit kinds p m stack = is_present_and (arguments_on (length kinds) stack) (have_kinds kinds p m)

-- the cells on the top of the stack are of the kinds of a method's parameters
abbrev pub native_fits : PlatformMethod → Packages → MemoryState → List Cell → Bool
native_fits method p m stack = kinds_fit (parameters_of method) p m stack

-- methods in bytecode look at what they are given as they use it
unfoldable pub fits : Method → Packages → MemoryState → List Cell → Bool
fits (Code number offset) p m stack = true
fits (Native method) p m stack = native_fits method p m stack
