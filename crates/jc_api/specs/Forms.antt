-- Forms of calls: a function of what was read says what is to be done, and the form does it.
use Rattle.std.specs.Prelude.{ℕ, ℤ, pos, Bool, true, false, List, length, Option, Some, None, Result, if◌then◌else◌}
use Rattle.jc_frames.specs.declared.cell.Cell.TheVariants.{Short}
use Rattle.jc_frames.specs.declared.outcome.FrameExit.{FrameExit}
use Rattle.jc_memory.specs.State.{MemoryState}
use Rattle.jc_memory.specs.Programs.{Perform, bind}
use Rattle.jc_memory.specs.Changes.{nonatomic_store}
use Rattle.jc_memory.specs.Cells.{cells_refusal, cells_effect}
use Rattle.jc_linker.specs.Values.{Packages}
use Rattle.jc_world.specs.declared.arrays.Stretch.{Stretch}
use Rattle.jc_world.specs.declared.native_result.NativeResult.{NativeResult}
use Rattle.jc_world.specs.declared.native_result.NativeResult.TheVariants.{ReturnVoid, ReturnValue}
use Rattle.jc_world.specs.NativeCalls.{NativeProgram, return_value, if_ok, unless}
use Rattle.jc_api.specs.Arguments.{elements_at}
use Rattle.jc_api.specs.Exits.{plainly}

-- ---- what a call answers

-- bytes for elements of an array that the caller named, from one on
pub record Output : Type 0 where
  pub array : ℕ
  pub start : ℤ
  pub bytes : List ℕ

-- what a call that reads puts into an array, if anything, as one change, or one after another and each for good; and the number that it
-- returns, if it returns one. It returns no reference
pub record CallAnswer : Type 0 where
  pub output : Option Output
  pub lasting : Bool
  pub result : Option ℤ

-- bytes for elements that were asked for
abbrev pub elements_for : Stretch → List ℕ → Output
elements_for e bytes = record { array = e.array; start = pos e.start; bytes = bytes }

-- it only returns a number
abbrev pub tells : ℤ → CallAnswer
tells v = record { output = None; lasting = false; result = Some v }

-- or whether something holds
abbrev pub tells_whether : Bool → CallAnswer
tells_whether b = tells (if b then pos 1 else pos 0)

-- it puts bytes into elements that it asked for, as one change, and returns a number
abbrev pub puts : Stretch → List ℕ → ℤ → CallAnswer
puts e bytes v = record { output = Some (elements_for e bytes); lasting = false; result = Some v }

-- one after another, each for good
abbrev pub puts_for_good : Stretch → List ℕ → ℤ → CallAnswer
puts_for_good e bytes v = record { output = Some (elements_for e bytes); lasting = true; result = Some v }

-- it puts bytes into as many elements of an array, from one on, which are not asked for yet; it returns a number
abbrev pub puts_at : ℕ → ℤ → List ℕ → ℤ → CallAnswer
puts_at array start bytes v = record { output = Some (record { array = array; start = start; bytes = bytes }); lasting = false; result = Some v }

-- ---- form 1: a call that reads, and then puts bytes into an array of the caller and returns, as its answer says

abbrev pub result_value : Option ℤ → NativeResult
result_value None = ReturnVoid
result_value (Some v) = ReturnValue (Short v)

-- bytes are put, and then it goes on
abbrev pub put_then : Bool → List ℕ → MemoryState → Stretch → NativeProgram → NativeProgram
put_then false bytes m e rest = unless (cells_refusal m e.array e.start bytes) (Perform (cells_effect m e.array e.start bytes) rest)
put_then true bytes m e rest = bind (nonatomic_store m e.array e.start bytes) m (λ u v. rest)

-- the form itself asks for the elements of an output, as many as there are bytes: null, firewall and bounds. A call that asked before gets
-- the same elements, and no answer can name others
abbrev pub output_then : Option Output → Bool → Packages → MemoryState → NativeProgram → NativeProgram
output_then None lasting p m rest = rest
output_then (Some o) lasting p m rest = if_ok (elements_at p m o.array o.start (pos (length o.bytes))) (λ e. put_then lasting o.bytes m e rest)

-- what such a call does
abbrev pub reading_call : Result CallAnswer FrameExit → Packages → MemoryState → NativeProgram
reading_call answer p m = if_ok (plainly answer) (λ a. output_then a.output a.lasting p m (return_value (result_value a.result)))
