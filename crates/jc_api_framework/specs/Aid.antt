-- AID (API specification).
pub mod Cells
use Rattle.std.specs.Prelude.{ℕ, ℤ, ◌+◌, ◌==◌, ◌&&◌, nat_le, pos, Bool, false, List, length, take, drop, Option, Some, None, if◌then◌else◌, Result, Ok, Err}
use Rattle.std.specs.Str.{bytes_eq}
use Rattle.jc_heap.specs.declared.object.Facts.{Facts}
use Rattle.jc_frames.specs.declared.cell.Cell.{Cell}
use Rattle.jc_frames.specs.declared.exceptions.Exception.TheVariants.{ArrayIndexOutOfBoundsException}
use Rattle.jc_frames.specs.declared.outcome.FrameExit.{FrameExit}
use Rattle.jc_frames.specs.declared.outcome.FrameExit.TheVariants.{Throw}
use Rattle.jc_frames.specs.Reasons.{illegal_value}
use Rattle.jc_memory.specs.State.{MemoryState}
use Rattle.jc_memory.specs.Cells.{header_at}
use Rattle.jc_platform.specs.declared.names.PlatformClass.TheVariants.{Aid}
use Rattle.jc_platform.specs.declared.names.AidsMethod.{AidsMethod}
use Rattle.jc_platform.specs.declared.names.AidsMethod.TheVariants.{AidInit, AidEquals, AidEqualsBytes, AidGetBytes, AidRidEquals, AidPartialEquals}
use Rattle.jc_platform.specs.declared.names.AidsMethod.TheVariants.{AidGetPartialBytes}
use Rattle.jc_platform.specs.NamePlaces.{class_word}
use Rattle.jc_linker.specs.Values.{Packages}
use Rattle.jc_world.specs.NativeCalls.{NativeProgram}
use Rattle.jc_world.specs.Objects.{is_instance_of, reference_argument, short_argument, some_or_fault}
use Rattle.jc_environment.specs.Aid.{aid_at}
use Rattle.jc_environment.specs.Registry.{is_aid}
use Rattle.jc_world.specs.Answers.{and_then}
use Rattle.jc_world.specs.Arrays.{bytes_in}
use Rattle.jc_world.specs.Numbers.{not_negative}
use Rattle.jc_world.specs.Instances.{instance_at}
use Rattle.jc_world.specs.declared.arrays.Stretch.{Stretch}
use Rattle.jc_api.specs.Arguments.{argument_bytes, array_arguments}
use Rattle.jc_api.specs.declared.arguments.ArrayArguments.{ArrayArguments}
use Rattle.jc_api.specs.Forms.{CallAnswer, puts_at, reading_call, tells_whether}
use Rattle.jc_api_framework.specs.Constructing.{constructing_call}
use Rattle.jc_api_framework.specs.Aid.Cells.{is_aid_length, cells_of_aid}
use Rattle.jc_api_framework.specs.declared.aid.Extent.{Extent}
use Rattle.jc_api_framework.specs.declared.aid.Extent.TheVariants.{Beginning, Whole}

-- the AID of an instance of AID; other objects have none
abbrev pub aid_behind : Packages → MemoryState → ℕ → Option Facts → Option (List ℕ)
aid_behind p m r None = None
aid_behind p m r (Some f) = if is_instance_of p f (class_word p.platform Aid) then aid_at m r else None

abbrev pub aid_of_object : Packages → MemoryState → ℕ → Option (List ℕ)
aid_of_object p m r = if r == 0 then None else aid_behind p m r (header_at m r)

-- ---- the words that the constructor answers for the cells of its object

-- those of the AID that elements of an array are, if an AID has as many bytes
abbrev pub cells_of_elements : MemoryState → Stretch → Result (List ℕ) FrameExit
cells_of_elements m e = if is_aid_length e.count then Ok (cells_of_aid (bytes_in m e)) else Err (Throw illegal_value)

-- AID.<init>: the AID is given by elements of an array, which are looked at after the object
unfoldable pub aid_init : List Cell → Packages → MemoryState → Result (List ℕ) FrameExit
aid_init args p m = and_then (some_or_fault (reference_argument args 0)) (λ own. and_then (array_arguments 1 args m)
    (λ given. and_then (instance_at m own 9) (λ f. and_then (argument_bytes given p m) (cells_of_elements m))))

-- ---- what the calls answer that only read their receiver

-- the provider's part of an AID: its first five bytes
abbrev pub rid_of : List ℕ → List ℕ
rid_of aid = take 5 aid

-- an AID has all bytes of another one, or those of its provider; none has those of no AID
abbrev pub agree : Extent → List ℕ → List ℕ → Bool
agree Whole aid other = is_aid aid (Some other)
agree Beginning aid other = bytes_eq (rid_of aid) (rid_of other)

abbrev pub agrees_with_aid : Extent → List ℕ → Option (List ℕ) → Bool
agrees_with_aid extent aid None = false
agrees_with_aid extent aid (Some other) = agree extent aid other

-- an AID begins with these bytes
abbrev pub begins_with : List ℕ → List ℕ → Bool
begins_with aid bytes = nat_le (length bytes) (length aid) && bytes_eq (take (length bytes) aid) bytes

-- an AID has these bytes, or begins with them
abbrev pub agrees_with_bytes : Extent → List ℕ → List ℕ → Bool
agrees_with_bytes Whole aid bytes = is_aid aid (Some bytes)
agrees_with_bytes Beginning aid bytes = begins_with aid bytes

-- whether the AID agrees with that of another object; false for null
abbrev pub compared_with_object : Extent → List Cell → Packages → MemoryState → Result CallAnswer FrameExit
compared_with_object extent args p m =
    and_then (some_or_fault (reference_argument args 0)) (λ own. and_then (some_or_fault (reference_argument args 1))
    (λ other. and_then (some_or_fault (aid_at m own)) (λ aid. Ok (tells_whether (agrees_with_aid extent aid (aid_of_object p m other))))))

-- whether the AID agrees with elements of an array; false for null
abbrev pub compared_with_bytes : Extent → List Cell → Packages → MemoryState → Result CallAnswer FrameExit
compared_with_bytes extent args p m = and_then (some_or_fault (reference_argument args 0)) (λ own. and_then (array_arguments 1 args m)
    (λ given. and_then (some_or_fault (aid_at m own)) (λ aid. if given.array == 0 then Ok (tells_whether false) else
    and_then (argument_bytes given p m) (λ e. Ok (tells_whether (agrees_with_bytes extent aid (bytes_in m e)))))))

-- AID.equals: whether the other is an AID of the same bytes
unfoldable pub aid_equals : List Cell → Packages → MemoryState → Result CallAnswer FrameExit
aid_equals args p m = compared_with_object Whole args p m

-- AID.RIDEquals: whether the other is an AID of the same provider; false for null
unfoldable pub aid_rid_equals : List Cell → Packages → MemoryState → Result CallAnswer FrameExit
aid_rid_equals args p m = compared_with_object Beginning args p m

-- AID.equals(byte[], short, byte): whether these are the bytes; false for null
unfoldable pub aid_equals_bytes : List Cell → Packages → MemoryState → Result CallAnswer FrameExit
aid_equals_bytes args p m = compared_with_bytes Whole args p m

-- AID.partialEquals: whether the AID begins with these bytes; false for null
unfoldable pub aid_partial_equals : List Cell → Packages → MemoryState → Result CallAnswer FrameExit
aid_partial_equals args p m = compared_with_bytes Beginning args p m

-- AID.getBytes: the bytes are copied, as one change; their number is returned
unfoldable pub aid_get_bytes : List Cell → MemoryState → Result CallAnswer FrameExit
aid_get_bytes args m = and_then (some_or_fault (reference_argument args 0)) (λ own. and_then (some_or_fault (reference_argument args 1))
    (λ array. and_then (some_or_fault (short_argument args 2)) (λ start. and_then (some_or_fault (aid_at m own))
    (λ aid. Ok (puts_at array start aid (pos (length aid)))))))

-- a number of bytes of an AID from an offset on, all the rest where the number is 0; none where it has no such part
abbrev pub part_within : List ℕ → Option ℕ → Option ℕ → Option (List ℕ)
part_within aid None count = None
part_within aid (Some start) None = None
part_within aid (Some start) (Some count) =
    if nat_le (start + count) (length aid) then Some (if count == 0 then drop start aid else take count (drop start aid)) else None

-- the part that was asked for; where there is none the call throws
abbrev pub part_or_throw : Option (List ℕ) → Result (List ℕ) FrameExit
part_or_throw None = Err (Throw ArrayIndexOutOfBoundsException)
part_or_throw (Some part) = Ok part

-- what is answered with that part: it is copied, as one change, and the number of its bytes is returned
abbrev pub part_answer : List ℕ → ℤ → ArrayArguments → Result CallAnswer FrameExit
part_answer aid from given = and_then (part_or_throw (part_within aid (not_negative from) (not_negative given.count)))
    (λ part. Ok (puts_at given.array given.start part (pos (length part))))

-- AID.getPartialBytes: a part of the bytes is copied, as one change; their number is returned
unfoldable pub aid_get_partial_bytes : List Cell → MemoryState → Result CallAnswer FrameExit
aid_get_partial_bytes args m = and_then (some_or_fault (reference_argument args 0)) (λ own. and_then (some_or_fault (short_argument args 1)) (λ from.
    and_then (array_arguments 2 args m) (λ given. and_then (some_or_fault (aid_at m own)) (λ aid. part_answer aid from given))))

-- what a call of a method of AID may do: what its answer says, which for its constructor are the words of the object's cells
unfoldable pub aid_call : AidsMethod → List Cell → Packages → MemoryState → NativeProgram
aid_call AidInit args p m = constructing_call (aid_init args p m) args m
aid_call AidEquals args p m = reading_call (aid_equals args p m) p m
aid_call AidEqualsBytes args p m = reading_call (aid_equals_bytes args p m) p m
aid_call AidGetBytes args p m = reading_call (aid_get_bytes args m) p m
aid_call AidRidEquals args p m = reading_call (aid_rid_equals args p m) p m
aid_call AidPartialEquals args p m = reading_call (aid_partial_equals args p m) p m
aid_call AidGetPartialBytes args p m = reading_call (aid_get_partial_bytes args m) p m
