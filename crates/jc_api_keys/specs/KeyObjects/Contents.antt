-- Key objects as calls find them: their type, and their data.
use Rattle.std.specs.Option.{option_map}
use Rattle.std.specs.Prelude.{ℕ, ℤ, pos, ◌+◌, ◌-◌, ◌≤◌, ◌==◌, ◌&&◌, nat_le, Bool, true, false, List, ◌∷◌, length, replicate, Option, Some, None, Result, Ok, Err, if◌then◌else◌}
use Rattle.jc_heap.specs.declared.object.Facts.{Facts}
use Rattle.jc_frames.specs.declared.cell.Cell.{Cell}
use Rattle.jc_frames.specs.declared.outcome.FrameExit.{FrameExit}
use Rattle.jc_frames.specs.declared.outcome.FrameExit.TheVariants.{End, Throw}
use Rattle.jc_frames.specs.declared.outcome.Outcome.TheVariants.{Fault}
use Rattle.jc_memory.specs.Cells.{byte_at, header_at}
use Rattle.jc_memory.specs.State.{MemoryState}
use Rattle.jc_platform.specs.declared.names.PlatformClass.{PlatformClass}
use Rattle.jc_linker.specs.Values.{Packages}
use Rattle.jc_world.specs.Answers.{and_then}
use Rattle.jc_world.specs.Arrays.{IsInArray, bytes_in}
use Rattle.jc_world.specs.Objects.{some_or_fault}
use Rattle.jc_world.specs.declared.arrays.Stretch.{Stretch}
use Rattle.jc_api.specs.Arguments.{elements_at}
use Rattle.jc_api.specs.Forms.{CallAnswer, puts_at}
use Rattle.jc_api_keys.specs.Exceptions.{uninitialized_key}
use Rattle.jc_api_keys.specs.KeyParts.{most_data}
use Rattle.jc_api_keys.specs.KeyTypes.{key_type_named}
use Rattle.jc_api_keys.specs.Receivers.{receiver_of}
use Rattle.jc_api_keys.specs.declared.key_objects.contents.Key.{Key}
use Rattle.jc_api_keys.specs.declared.key_types.KeyKind.{KeyKind}
use Rattle.jc_api_keys.specs.declared.key_types.KeyKind.TheVariants.{Secret, OfPair}
use Rattle.jc_api_keys.specs.declared.receivers.Receiver.{Receiver}

-- how many bytes a key has at most
abbrev pub most_key : ℕ
most_key = 128

-- ---- the data of a key: an array of bytes. Of a secret key the first says how many bytes the key has, 0 where it is not set; then the key, and
-- what it leaves

-- all elements of the data. An array of another kind, an empty one, or one longer than the longest data is a code fault
abbrev pub data_in : Packages → MemoryState → ℕ → Facts → Result Stretch FrameExit
data_in p m array f = if nat_le 1 f.length && nat_le f.length most_data then elements_at p m array (pos 0) (pos f.length) else Err (End Fault)

unfoldable pub key_data : Packages → MemoryState → ℕ → Result Stretch FrameExit
key_data p m array = and_then (some_or_fault (header_at m array)) (data_in p m array)

-- the data of a key are there
pub record IsKey (m : MemoryState) (key : Key) : Type 0 where
  pub there : IsInArray m key.elements
  pub some : 1 ≤ key.elements.count
  pub few : key.elements.count ≤ most_data

-- the key object that is called
abbrev pub key_of : Packages → MemoryState → Receiver → Result Key FrameExit
key_of p m own = and_then (key_data p m own.array) (λ e. Ok (record { own = own.own; number = own.number; elements = e }))

unfoldable pub receiver_key : PlatformClass → List Cell → Packages → MemoryState → Result Key FrameExit
receiver_key class args p m = and_then (receiver_of class args p m) (key_of p m)

-- what a key is, by its type
abbrev pub kind_of : Key → Option KeyKind
kind_of key = option_map (λ t. t.kind) (key_type_named key.number)

-- a secret key, or a code fault
abbrev pub is_secret : Option KeyKind → Bool
is_secret (Some (Secret a)) = true
is_secret (Some (OfPair k)) = false
is_secret None = false

abbrev pub if_secret : Key → Result Key FrameExit
if_secret key = if is_secret (kind_of key) && nat_le key.elements.count (most_key + 1) then Ok key else Err (End Fault)

-- the secret key that is called
abbrev pub receiver_secret : PlatformClass → List Cell → Packages → MemoryState → Result Key FrameExit
receiver_secret class args p m = and_then (receiver_key class args p m) if_secret

-- how many bytes a secret key has, an HMAC key at most
abbrev pub capacity : Key → ℕ
capacity key = key.elements.count - 1

-- how many it has, 0 where it is not set
abbrev pub key_length : MemoryState → Key → ℕ
key_length m key = byte_at m key.elements.array 0

-- the elements that are the key. One that is not set throws; one that is longer than its data or the longest key is a code fault
abbrev pub elements_if_set : Key → ℕ → Result Stretch FrameExit
elements_if_set key n = if n == 0 then Err (Throw uninitialized_key) else if nat_le n (capacity key) && nat_le n most_key then Ok (record { array = key.elements.array; start = 1; count = n })
    else Err (End Fault)

abbrev pub key_elements : MemoryState → Key → Result Stretch FrameExit
key_elements m key = elements_if_set key (key_length m key)

-- ---- changes of the data

-- bytes of them are set from a place on, as one change, and nothing is returned
abbrev pub sets_at : ℕ → ℕ → List ℕ → CallAnswer
sets_at array start bytes = record { output = Some (record { array = array; start = pos start; bytes = bytes }); lasting = false; result = None }

-- the first bytes
abbrev pub sets_data : Key → List ℕ → CallAnswer
sets_data key bytes = sets_at key.elements.array 0 bytes

-- the first bytes are set, one after another, each for good
abbrev pub sets_for_good : Key → List ℕ → CallAnswer
sets_for_good key bytes = record { output = Some (record { array = key.elements.array; start = pos 0; bytes = bytes }); lasting = true; result = None }

-- all are 0: of a secret key as one change; else one after another, each for good, since the journal need not have room for all
abbrev pub clears : Key → CallAnswer
clears key = if is_secret (kind_of key) then sets_data key (replicate key.elements.count 0) else sets_for_good key (replicate key.elements.count 0)

-- bytes of them are put into an array, and their number is returned
abbrev pub puts_bytes : ℕ → ℤ → List ℕ → CallAnswer
puts_bytes array start bytes = puts_at array start bytes (pos (length bytes))

-- the key is what these elements are
abbrev pub sets_key : MemoryState → Key → Stretch → CallAnswer
sets_key m key from = sets_data key (from.count ∷ bytes_in m from)
