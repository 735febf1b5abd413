-- `Util.getShort`, where its answer is known at once.
use Rattle.std.proofs.Common.{◌≡◌, ℕ, ℤ, List, false, drop, Some, Ok, refl}
use Rattle.jc_memory.specs.State.{MemoryState}
use Rattle.jc_platform.specs.declared.names.PlatformMethod.TheVariants.{Utilities}
use Rattle.jc_platform.specs.declared.names.UtilitiesMethod.TheVariants.{UtilGetShort}
use Rattle.jc_platform.specs.Names.{utilities_rows}
use Rattle.jc_platform.specs.Signatures.{argument_cells, is_constructor}
use Rattle.jc_linker.specs.declared.target.Method.TheVariants.{Native}
use Rattle.jc_linker.specs.Values.{Packages}
use Rattle.jc_frames.specs.declared.cell.Cell.{Cell}
use Rattle.jc_frames.specs.declared.cell.Cell.TheVariants.{Short}
use Rattle.jc_frames.specs.Calls.{arguments_on}
use Rattle.jc_frames.specs.Frames.{Frames, with_stack}
use Rattle.jc_world.specs.declared.native_result.NativeResult.TheVariants.{ReturnValue}
use Rattle.jc_api.specs.Forms.{tells}
use Rattle.jc_api_framework.specs.Util.{util_answer, util_call, util_get_short}
use Rattle.jc_instructions.specs.Invoke.{arguments_of, invokestatic}
use Rattle.jc_interp.specs.Natives.{native_call}
use Rattle.jc_interp.specs.Calling.{after_native_return, native_invoke, static_invoke}

two : argument_cells (Utilities UtilGetShort) ≡ 2
unfolding argument_cells utilities_rows
two = refl

no_constructor : is_constructor (Utilities UtilGetShort) ≡ false
unfolding is_constructor utilities_rows
no_constructor = refl

-- its arguments are taken, and the short is put in their place
pub got : (place : ℕ) (args : List Cell) (v : ℤ) (p : Packages) (s : Frames) (m : MemoryState) → arguments_on 2 s.current.stack ≡ Some args
    → util_get_short args p m ≡ Ok (tells v)
    → static_invoke (Native (Utilities UtilGetShort)) place p s m ≡ after_native_return (ReturnValue (Short v)) place p (with_stack s (drop 2 s.current.stack)) m
unfolding native_invoke native_call util_call util_answer invokestatic arguments_of
got place args v p s m here is = rw (no_constructor, two, here, is) refl
