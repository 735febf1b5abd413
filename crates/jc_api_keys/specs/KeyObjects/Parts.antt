-- Keys of pairs as calls find them: where their parts stand, and what they are.
use Rattle.std.specs.Int.{to_be_bytes, w16}
use Rattle.std.specs.Prelude.{ℕ, ◌+◌, ◌*◌, ◌==◌, ◌&&◌, nat_le, Bool, true, List, [], ◌∷◌, ◌++◌, Result, Ok, Err, if◌then◌else◌}
use Rattle.jc_frames.specs.declared.cell.Cell.{Cell}
use Rattle.jc_frames.specs.declared.outcome.FrameExit.{FrameExit}
use Rattle.jc_frames.specs.declared.outcome.FrameExit.TheVariants.{End, Throw}
use Rattle.jc_frames.specs.declared.outcome.Outcome.TheVariants.{Fault}
use Rattle.jc_memory.specs.Cells.{byte_at}
use Rattle.jc_memory.specs.State.{MemoryState}
use Rattle.jc_linker.specs.Values.{Packages}
use Rattle.jc_world.specs.Answers.{and_then}
use Rattle.jc_world.specs.Arrays.{bytes_in}
use Rattle.jc_world.specs.Objects.{reference_argument, short_argument, some_or_fault}
use Rattle.jc_world.specs.declared.arrays.Stretch.{Stretch}
use Rattle.jc_api.specs.Arguments.{counted_of}
use Rattle.jc_api.specs.Forms.{CallAnswer}
use Rattle.jc_api_keys.specs.Exceptions.{illegal_value, uninitialized_key}
use Rattle.jc_api_keys.specs.KeyObjects.Contents.{puts_bytes, receiver_key, sets_at}
use Rattle.jc_api_keys.specs.KeyParts.{crt_parts, has_part, holder_of, place_of, room_of, rsa_parts, size_of}
use Rattle.jc_api_keys.specs.KeyTypes.{pair_key_named}
use Rattle.jc_api_keys.specs.declared.key_objects.contents.Key.{Key}
use Rattle.jc_api_keys.specs.declared.key_parts.KeyPart.{KeyPart}
use Rattle.jc_api_keys.specs.declared.key_parts.KeyPart.TheVariants.{Modulus, Field, A, B, G, R, W, S}
use Rattle.jc_api_keys.specs.declared.key_types.PairKey.{PairKey}
use Rattle.jc_api_keys.specs.declared.key_types.PairKey.TheVariants.{RsaPublic, RsaPrivate, RsaCrtPrivate, EcPublic, EcPrivate}

-- ---- where parts stand

-- the elements in which a part of a key of size n stands, its length first. A key that has no such part is a code fault
abbrev pub place_if : Key → KeyPart → PairKey → ℕ → Result Stretch FrameExit
place_if key part k n = if has_part k part then Ok (record { array = key.elements.array; start = place_of n part; count = 2 + room_of n part })
    else Err (End Fault)

-- in which a part of a key stands. What is no key of a pair, and data that are of none, are a code fault
unfoldable pub part_place : Key → KeyPart → Result Stretch FrameExit
part_place key part = and_then (some_or_fault (pair_key_named key.number)) (λ k. and_then (some_or_fault (size_of k key.elements.count)) (place_if key part k))

-- ---- what they are

-- the number that two bytes are, the first one high
abbrev pub number_at : MemoryState → Stretch → ℕ
number_at m e = byte_at m e.array e.start * 256 + byte_at m e.array (e.start + 1)

-- the elements that are a part of n bytes. One that is not set throws; one that is longer than its room is a code fault
abbrev pub part_if_set : Stretch → ℕ → Result Stretch FrameExit
part_if_set e n = if n == 0 then Err (Throw uninitialized_key) else if nat_le (2 + n) e.count
    then Ok (record { array = e.array; start = e.start + 2; count = n }) else Err (End Fault)

-- the elements that are a part of a key
unfoldable pub key_part : MemoryState → Key → KeyPart → Result Stretch FrameExit
key_part m key part = and_then (part_place key part) (λ e. part_if_set e (number_at m e))

-- all of some parts are set, or what is thrown for the first that is not
unfoldable pub are_set : MemoryState → Key → List KeyPart → Result (Unit {0}) FrameExit
are_set m key [] = Ok tt
are_set m key (part ∷ rest) = and_then (key_part m key part) (λ e. are_set m key rest)

-- the domain parameters without which a curve is not set; the cofactor may be left out
abbrev pub curve_parts : List KeyPart
curve_parts = Field ∷ A ∷ B ∷ G ∷ R ∷ []

-- all parts of a key but the cofactor are set, or what is thrown
unfoldable pub all_parts : MemoryState → Key → PairKey → Result (Unit {0}) FrameExit
all_parts m key RsaPublic = are_set m key rsa_parts
all_parts m key RsaPrivate = are_set m key rsa_parts
all_parts m key RsaCrtPrivate = are_set m key crt_parts
all_parts m key EcPublic = and_then (are_set m key curve_parts) (λ u. are_set m key (W ∷ []))
all_parts m key EcPrivate = and_then (are_set m key curve_parts) (λ u. are_set m key (S ∷ []))

-- ---- setters and getters

-- a part may be bytes with this first byte, that fill its room or not: a modulus fills it, and its highest bit is set; a field fills it; a point fills
-- it, and is not compressed
abbrev pub is_allowed : KeyPart → Bool → ℕ → Bool
is_allowed Modulus fills first = fills && nat_le 128 first
is_allowed Field fills first = fills
is_allowed G fills first = fills && first == 4
is_allowed W fills first = fills && first == 4
is_allowed _ fills first = true

-- a part that stands in these elements may be those: some bytes, and no more than its room has
abbrev pub fits_part : MemoryState → KeyPart → Stretch → Stretch → Bool
fits_part m part place from =
    nat_le 1 from.count && (nat_le (2 + from.count) place.count && is_allowed part (2 + from.count == place.count) (byte_at m from.array from.start))

-- the part is what they are, as one change
abbrev pub sets_part : MemoryState → Stretch → Stretch → CallAnswer
sets_part m place from = sets_at place.array place.start (to_be_bytes w16 from.count ++ bytes_in m from)

abbrev pub sets_if_allowed : MemoryState → KeyPart → Stretch → Stretch → Result CallAnswer FrameExit
sets_if_allowed m part place from = if fits_part m part place from then Ok (sets_part m place from) else Err (Throw illegal_value)

-- a setter: the part is some elements
unfoldable pub set_part : KeyPart → List Cell → Packages → MemoryState → Result CallAnswer FrameExit
set_part part args p m = and_then (receiver_key (holder_of part) args p m) (λ key. and_then (part_place key part) (λ place.
    and_then (counted_of 1 args p m) (sets_if_allowed m part place)))

-- a getter: the bytes of the part are put, as one change
unfoldable pub get_part : KeyPart → List Cell → Packages → MemoryState → Result CallAnswer FrameExit
get_part part args p m = and_then (receiver_key (holder_of part) args p m) (λ key. and_then (some_or_fault (reference_argument args 1)) (λ array.
    and_then (some_or_fault (short_argument args 2)) (λ start. and_then (key_part m key part) (λ from. Ok (puts_bytes array start (bytes_in m from))))))
