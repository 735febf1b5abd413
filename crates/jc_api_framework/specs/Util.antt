-- Util (API specification).
use Rattle.std.specs.Prelude.{ℕ, ℤ, pos, negsuc, ◌+◌, ◌*◌, ◌/◌, ◌%◌, List, [], ◌∷◌, replicate, length, ◌≡◌, Bool, true, false, Some, Result, Ok, Err}
use Rattle.std.specs.Int.{w16, cast_signed, cast_unsigned}
use Rattle.std.specs.Cmp.Lexicographic.{slice_cmp}
use Rattle.std.specs.Ordering.{nat_cmp}
use Rattle.std.specs.declared.cmp.Ordering.{Ordering}
use Rattle.std.specs.declared.cmp.Ordering.TheVariants.{Less, Equal, Greater}
use Rattle.jc_frames.specs.declared.cell.Cell.{Cell}
use Rattle.jc_frames.specs.declared.outcome.FrameExit.{FrameExit}
use Rattle.jc_frames.specs.declared.outcome.FrameExit.TheVariants.{End}
use Rattle.jc_frames.specs.declared.outcome.Outcome.TheVariants.{Fault}
use Rattle.jc_memory.specs.State.{MemoryState}
use Rattle.jc_memory.specs.Cells.{byte_at}
use Rattle.jc_linker.specs.Values.{Packages}
use Rattle.jc_platform.specs.declared.names.UtilitiesMethod.{UtilitiesMethod}
use Rattle.jc_platform.specs.declared.names.UtilitiesMethod.TheVariants.{UtilArrayCompare, UtilArrayCopy, UtilArrayFill, UtilGetShort, UtilMakeShort}
use Rattle.jc_platform.specs.declared.names.UtilitiesMethod.TheVariants.{UtilSetShort, UtilArrayCopyNonAtomic, UtilArrayFillNonAtomic}
use Rattle.jc_platform.specs.declared.names.PlatformMethod.TheVariants.{Utilities}
use Rattle.jc_platform.specs.Signatures.{parameters_of}
use Rattle.jc_world.specs.NativeCalls.{NativeProgram}
use Rattle.jc_world.specs.Objects.{short_argument, some_or_fault}
use Rattle.jc_world.specs.declared.arrays.Stretch.{Stretch}
use Rattle.jc_world.specs.Answers.{and_then}
use Rattle.jc_world.specs.Arrays.{bytes_in}
use Rattle.jc_api.specs.Arguments.{pair_arguments, pair_of, two_of, counted_of, elements_at}
use Rattle.jc_api.specs.declared.arguments.Pair.{Pair}
use Rattle.jc_api.specs.Kinds.{have_kinds}
use Rattle.jc_api.specs.Forms.{CallAnswer, elements_for, reading_call, tells}

-- the bytes of a number, the high one first
abbrev pub bytes_of_short : ℤ → List ℕ
bytes_of_short v = cast_unsigned w16 v / 256 ∷ cast_unsigned w16 v % 256 ∷ []

-- the number of these bytes, the high one first
abbrev pub short_of : ℕ → ℕ → ℤ
short_of high low = cast_signed w16 (high * 256 + low)

-- the index after the last of some elements
abbrev pub end_of : Stretch → ℤ
end_of e = cast_signed w16 (e.start + e.count)

-- the low byte of a number, once for each element
abbrev pub filling_of : ℤ → Stretch → List ℕ
filling_of value e = replicate e.count (cast_unsigned w16 value % 256)

-- which comes first, by the first byte that differs
abbrev pub sign_of : Ordering → ℤ
sign_of Less = negsuc 0
sign_of Equal = pos 0
sign_of Greater = pos 1

-- ---- what each call answers

-- the elements of both arrays that a call names
unfoldable pub named_pair : List Cell → Packages → MemoryState → Result Pair FrameExit
named_pair args p m = and_then (pair_arguments args) (λ n. pair_of p m n)

-- what is copied fills the elements that were asked for
abbrev pub Fits : Packages → MemoryState → Pair → Type 0
Fits p m a = elements_at p m a.to.array (pos a.to.start) (pos (length (bytes_in m a.from))) ≡ Ok a.to

-- bytes for elements that it asked for, as one change, or one after another and each for good; the index after the last one is returned
abbrev pub stores : Bool → Stretch → List ℕ → CallAnswer
stores lasting e bytes = record { output = Some (elements_for e bytes); lasting = lasting; result = Some (end_of e) }

-- bytes copied as if through a copy
abbrev pub array_copy : Bool → List Cell → Packages → MemoryState → Result CallAnswer FrameExit
array_copy lasting args p m = and_then (named_pair args p m) (λ a. Ok (stores lasting a.to (bytes_in m a.from)))

-- elements set to the low byte of a number
abbrev pub array_fill : Bool → List Cell → Packages → MemoryState → Result CallAnswer FrameExit
array_fill lasting args p m = and_then (some_or_fault (short_argument args 3)) (λ value. and_then (counted_of 0 args p m)
    (λ e. Ok (stores lasting e (filling_of value e))))

-- Util.arrayCopy: as one change
unfoldable pub util_array_copy : List Cell → Packages → MemoryState → Result CallAnswer FrameExit
util_array_copy args p m = array_copy false args p m

-- Util.arrayFill: as one change
unfoldable pub util_array_fill : List Cell → Packages → MemoryState → Result CallAnswer FrameExit
util_array_fill args p m = array_fill false args p m

-- Util.arrayCopyNonAtomic: the same bytes, those of a persistent array one after another and each for good; no room is asked for
unfoldable pub util_array_copy_non_atomic : List Cell → Packages → MemoryState → Result CallAnswer FrameExit
util_array_copy_non_atomic args p m = array_copy true args p m

-- Util.arrayFillNonAtomic: elements set likewise
unfoldable pub util_array_fill_non_atomic : List Cell → Packages → MemoryState → Result CallAnswer FrameExit
util_array_fill_non_atomic args p m = array_fill true args p m

-- Util.arrayCompare: -1, 0 or 1, the bytes as numbers from 0 to 255
unfoldable pub util_array_compare : List Cell → Packages → MemoryState → Result CallAnswer FrameExit
util_array_compare args p m = and_then (named_pair args p m)
    (λ a. Ok (tells (sign_of (slice_cmp nat_cmp (bytes_in m a.from) (bytes_in m a.to)))))

-- Util.getShort: the short of two bytes
unfoldable pub util_get_short : List Cell → Packages → MemoryState → Result CallAnswer FrameExit
util_get_short args p m = and_then (two_of args p m) (λ e. Ok (tells (short_of (byte_at m e.array e.start) (byte_at m e.array (e.start + 1)))))

-- Util.setShort: two bytes set as one change; the index after them is returned
unfoldable pub util_set_short : List Cell → Packages → MemoryState → Result CallAnswer FrameExit
util_set_short args p m = and_then (some_or_fault (short_argument args 2)) (λ v. and_then (two_of args p m)
    (λ e. Ok (stores false e (bytes_of_short v))))

-- Util.makeShort: the short of the low bytes of two numbers
unfoldable pub util_make_short : List Cell → Result CallAnswer FrameExit
util_make_short args = and_then (some_or_fault (short_argument args 0)) (λ high. and_then (some_or_fault (short_argument args 1))
    (λ low. Ok (tells (short_of (cast_unsigned w16 high % 256) (cast_unsigned w16 low % 256)))))

unfoldable pub util_answer : UtilitiesMethod → List Cell → Packages → MemoryState → Result CallAnswer FrameExit
util_answer UtilArrayCompare args p m = util_array_compare args p m
util_answer UtilArrayCopy args p m = util_array_copy args p m
util_answer UtilArrayCopyNonAtomic args p m = util_array_copy_non_atomic args p m
util_answer UtilArrayFill args p m = util_array_fill args p m
util_answer UtilArrayFillNonAtomic args p m = util_array_fill_non_atomic args p m
util_answer UtilGetShort args p m = util_get_short args p m
util_answer UtilMakeShort args p m = util_make_short args
util_answer UtilSetShort args p m = util_set_short args p m

-- what a call of a method of Util may do: what its answer says
unfoldable pub util_call : UtilitiesMethod → List Cell → Packages → MemoryState → NativeProgram
util_call method args p m = reading_call (util_answer method args p m) p m

-- each call reads its arguments by the kinds in its row: where they are not of these, it is a code fault
abbrev pub AreReadByKinds : Type 0
AreReadByKinds = (method : UtilitiesMethod) (args : List Cell) (p : Packages) (m : MemoryState)
    → have_kinds (parameters_of (Utilities method)) p m args ≡ false → util_answer method args p m ≡ Err (End Fault)
