-- The calls of key objects (API specification): Key, DESKey, AESKey and HMACKey.
pub mod Contents
pub mod Parts
pub mod Arguments
use Rattle.std.specs.Prelude.{ℕ, pos, ◌*◌, ◌==◌, ◌&&◌, nat_le, not, is_ok, Bool, List, Result, Ok, Err, if◌then◌else◌}
use Rattle.jc_frames.specs.declared.cell.Cell.{Cell}
use Rattle.jc_frames.specs.declared.outcome.FrameExit.{FrameExit}
use Rattle.jc_frames.specs.declared.outcome.FrameExit.TheVariants.{Throw}
use Rattle.jc_memory.specs.State.{MemoryState}
use Rattle.jc_platform.specs.declared.names.PlatformClass.TheVariants.{HmacKeyObject, KeyObject}
use Rattle.jc_linker.specs.Values.{Packages}
use Rattle.jc_world.specs.Answers.{and_then}
use Rattle.jc_world.specs.Arrays.{bytes_in}
use Rattle.jc_world.specs.Objects.{reference_argument, short_argument, some_or_fault}
use Rattle.jc_world.specs.declared.arrays.Stretch.{Stretch}
use Rattle.jc_api.specs.Arguments.{counted_of, elements_at}
use Rattle.jc_api.specs.Forms.{CallAnswer, tells, tells_whether}
use Rattle.jc_api_keys.specs.Exceptions.{illegal_value}
use Rattle.jc_api_keys.specs.KeyObjects.Contents.{capacity, clears, key_elements, key_length, kind_of, puts_bytes, receiver_key, receiver_secret, sets_key}
use Rattle.jc_api_keys.specs.KeyObjects.Parts.{all_parts}
use Rattle.jc_api_keys.specs.KeyParts.{size_of}
use Rattle.jc_api_keys.specs.KeyTypes.{bits_of}
use Rattle.jc_api_keys.specs.Receivers.{receiver_of}
use Rattle.jc_api_keys.specs.declared.key_objects.contents.Key.{Key}
use Rattle.jc_api_keys.specs.declared.key_types.KeyKind.{KeyKind}
use Rattle.jc_api_keys.specs.declared.key_types.KeyKind.TheVariants.{Secret, OfPair}

-- Key.getType: the number of its type
unfoldable pub key_object_get_type : List Cell → Packages → MemoryState → Result CallAnswer FrameExit
key_object_get_type args p m = and_then (receiver_of KeyObject args p m) (λ own. Ok (tells own.number))

-- how many bits a key has, an HMAC key at most
abbrev pub key_bits : Key → KeyKind → Result ℕ FrameExit
key_bits key (Secret a) = Ok (8 * capacity key)
key_bits key (OfPair k) = and_then (some_or_fault (size_of k key.elements.count)) (λ n. Ok (bits_of n))

-- Key.getSize: how many bits the key has
unfoldable pub key_object_get_size : List Cell → Packages → MemoryState → Result CallAnswer FrameExit
key_object_get_size args p m = and_then (receiver_key KeyObject args p m) (λ key. and_then (some_or_fault (kind_of key)) (λ kind.
    and_then (key_bits key kind) (λ bits. Ok (tells (pos bits)))))

-- a key is set: it has bytes, or all its parts but the cofactor
abbrev pub is_key_set : MemoryState → Key → KeyKind → Bool
is_key_set m key (Secret a) = not (key_length m key == 0)
is_key_set m key (OfPair k) = is_ok (all_parts m key k)

-- Key.isInitialized: whether the key is set
unfoldable pub key_object_is_initialized : List Cell → Packages → MemoryState → Result CallAnswer FrameExit
key_object_is_initialized args p m = and_then (receiver_key KeyObject args p m) (λ key. and_then (some_or_fault (kind_of key)) (λ kind.
    Ok (tells_whether (is_key_set m key kind))))

-- Key.clearKey: all data are 0, so that the key is not set
unfoldable pub key_object_clear_key : List Cell → Packages → MemoryState → Result CallAnswer FrameExit
key_object_clear_key args p m = and_then (receiver_key KeyObject args p m) (λ key. Ok (clears key))

-- DESKey.getKey, AESKey.getKey, HMACKey.getKey: the bytes of the key are put, as one change
unfoldable pub key_object_get_key : List Cell → Packages → MemoryState → Result CallAnswer FrameExit
key_object_get_key args p m = and_then (receiver_secret KeyObject args p m) (λ key. and_then (some_or_fault (reference_argument args 1)) (λ array.
    and_then (some_or_fault (short_argument args 2)) (λ start. and_then (key_elements m key) (λ from. Ok (puts_bytes array start (bytes_in m from))))))

-- DESKey.setKey, AESKey.setKey: the key is as many elements as it has bytes
unfoldable pub key_object_set_key : List Cell → Packages → MemoryState → Result CallAnswer FrameExit
key_object_set_key args p m = and_then (receiver_secret KeyObject args p m) (λ key. and_then (some_or_fault (reference_argument args 1)) (λ array.
    and_then (some_or_fault (short_argument args 2)) (λ start. and_then (elements_at p m array start (pos (capacity key))) (λ from. Ok (sets_key m key from)))))

-- a key of some bytes, and of no more than it may have
abbrev pub sets_if_fitting : MemoryState → Key → Stretch → Result CallAnswer FrameExit
sets_if_fitting m key from = if nat_le 1 from.count && nat_le from.count (capacity key) then Ok (sets_key m key from) else Err (Throw illegal_value)

-- HMACKey.setKey: the key is some elements
unfoldable pub hmac_key_object_set_key : List Cell → Packages → MemoryState → Result CallAnswer FrameExit
hmac_key_object_set_key args p m = and_then (receiver_secret HmacKeyObject args p m) (λ key. and_then (counted_of 1 args p m) (sets_if_fitting m key))
