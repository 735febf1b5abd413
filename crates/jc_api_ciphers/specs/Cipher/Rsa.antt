-- RSA as a cipher (API specification, javacardx.crypto.Cipher): a message is gathered, and converted as a whole.
pub mod Encodings
pub mod Oaep
use Rattle.std.specs.Ordering.{int_eq}
use Rattle.std.specs.Option.{option_and_then}
use Rattle.std.specs.Prelude.{ℕ, ℤ, pos, ◌≡◌, ◌≤◌, ◌+◌, ◌==◌, nat_le, List, [], ◌++◌, length, replicate, Option, Some, None, Result, Ok, Err, if◌then◌else◌}
use Rattle.jc_frames.specs.declared.cell.Cell.{Cell}
use Rattle.jc_frames.specs.declared.outcome.FrameExit.{FrameExit}
use Rattle.jc_frames.specs.declared.outcome.FrameExit.TheVariants.{End, Throw}
use Rattle.jc_frames.specs.declared.outcome.Outcome.TheVariants.{Fault}
use Rattle.jc_memory.specs.State.{MemoryState}
use Rattle.jc_platform.specs.declared.names.PlatformClass.TheVariants as class
use Rattle.jc_linker.specs.Values.{Packages}
use Rattle.jc_world.specs.Answers.{and_then}
use Rattle.jc_world.specs.Arrays.{bytes_in}
use Rattle.jc_world.specs.declared.arrays.Stretch.{Stretch}
use Rattle.jc_api.specs.Arguments.{counted_of}
use Rattle.jc_api.specs.Changing.{EngineAnswer, IsState, state_at}
use Rattle.jc_api.specs.Initializing.{FieldsAnswer}
use Rattle.jc_api_ciphers.specs.Cipher.Kinds.{rsa_shorts}
use Rattle.jc_api_ciphers.specs.Gathered.{gathered, state_of}
use Rattle.jc_api_ciphers.specs.Initialized.{initializes, taken_mode}
use Rattle.jc_api_ciphers.specs.Outputs.{puts_output}
use Rattle.jc_api_ciphers.specs.Signature.Pair.Keys.{pair_parts, sized_key}
use Rattle.jc_api_ciphers.specs.Signature.Pair.Signing.{AreParts, HasSize, key_power, seed_of}
use Rattle.jc_api_ciphers.specs.Cipher.Rsa.Encodings.{message_in, private_form, public_form}
use Rattle.jc_api_ciphers.specs.Signature.Purpose.{initialized_for}
use Rattle.jc_api_ciphers.specs.declared.cipher.kinds.RsaPadding.{RsaPadding}
use Rattle.jc_api_ciphers.specs.declared.cipher.kinds.RsaPadding.TheVariants as paddings
use Rattle.jc_api_ciphers.specs.declared.cipher.rsa.RsaKey.{RsaKey}
use Rattle.jc_api_ciphers.specs.declared.cipher.rsa.RunningRsa.{RunningRsa}
use Rattle.jc_api_ciphers.specs.declared.cipher.rsa.Way.{Way}
use Rattle.jc_api_ciphers.specs.declared.cipher.rsa.Way.TheVariants.{Decipher, ForPrivate, ForPublic}
use Rattle.jc_api_ciphers.specs.declared.initialized.KeyedEngine.{KeyedEngine}
use Rattle.jc_api_ciphers.specs.declared.signature.pair.keys.SizedKey.{SizedKey}
use Rattle.jc_api_ciphers.specs.declared.signature.purpose.Purpose.TheVariants.{Either}
use Rattle.jc_api_keys.specs.Exceptions.{illegal_use, illegal_value}
use Rattle.jc_api_keys.specs.KeyObjects.Arguments.{key_argument, key_at}
use Rattle.jc_api_keys.specs.Shorts.{shorts_of}
use Rattle.jc_api_keys.specs.declared.key_objects.contents.Key.{Key}
use Rattle.jc_api_keys.specs.declared.key_types.PairKey.{PairKey}
use Rattle.jc_api_keys.specs.declared.key_types.PairKey.TheVariants.{EcPrivate, EcPublic, RsaCrtPrivate, RsaPrivate, RsaPublic}

-- ---- keys

-- MODE_DECRYPT takes a private key, MODE_ENCRYPT both, but for OAEP a public one alone
abbrev pub way_to_encipher : RsaPadding → Option Way
way_to_encipher paddings.NoPadding = Some ForPrivate
way_to_encipher paddings.Pkcs1 = Some ForPrivate
way_to_encipher paddings.Oaep = None

abbrev pub way_of_private : RsaPadding → ℤ → Option Way
way_of_private padding mode = if int_eq mode (pos 1) then Some Decipher else if int_eq mode (pos 2) then way_to_encipher padding else None

abbrev pub way_of : RsaPadding → ℤ → PairKey → Option Way
way_of _ mode RsaPublic = if int_eq mode (pos 2) then Some ForPublic else None
way_of padding mode RsaPrivate = way_of_private padding mode
way_of padding mode RsaCrtPrivate = way_of_private padding mode
way_of _ mode EcPublic = None
way_of _ mode EcPrivate = None

-- a key, and what becomes of a message under it with a padding in a mode
abbrev pub with_way : SizedKey → Option Way → Option RsaKey
with_way key None = None
with_way key (Some way) = Some (record { key = key; way = way })

abbrev pub with_way_of : RsaPadding → ℤ → Option SizedKey → Option RsaKey
with_way_of _ mode None = None
with_way_of padding mode (Some key) = with_way key (way_of padding mode key.kind)

abbrev pub rsa_key_of : RsaPadding → ℤ → Key → Option RsaKey
rsa_key_of padding mode key = with_way_of padding mode (sized_key key)

-- one that is taken, or what ends the call
abbrev pub key_or : FrameExit → Option RsaKey → Result RsaKey FrameExit
key_or exit None = Err exit
key_or exit (Some key) = Ok key

-- the key after the receiver, of a kind that is taken in a mode
unfoldable pub taken_rsa_key : RsaPadding → ℤ → List Cell → Packages → MemoryState → Result RsaKey FrameExit
taken_rsa_key padding mode args p m = and_then (key_argument 1 args p m) (λ key. key_or (Throw illegal_value) (rsa_key_of padding mode key))

-- and the key that an object has kept, or a code fault
unfoldable pub kept_rsa_key : RsaPadding → KeyedEngine → Packages → MemoryState → Result RsaKey FrameExit
kept_rsa_key padding own p m = and_then (key_at p m own.key) (λ key. key_or (End Fault) (rsa_key_of padding own.mode key))

-- ---- init

-- init by a key and a mode: the mode, the key, and its parts; then all of it is set, as one change, and nothing came
unfoldable pub rsa_init : RsaPadding → KeyedEngine → List Cell → Packages → MemoryState → Result FieldsAnswer FrameExit
rsa_init padding own args p m = and_then (taken_mode args) (λ mode. and_then (taken_rsa_key padding mode args p m) (λ key.
    and_then (pair_parts m key.key) (λ parts. Ok (initializes class.Cipher rsa_shorts own mode []))))

-- with a vector, which RSA does not take
unfoldable pub rsa_init_with_vector : RsaPadding → List Cell → Packages → MemoryState → Result FieldsAnswer FrameExit
rsa_init_with_vector padding args p m = and_then (taken_mode args) (λ mode. and_then (taken_rsa_key padding mode args p m) (λ key.
    and_then (counted_of 3 args p m) (λ e. Err (Throw illegal_value))))

-- ---- the message

-- these cells of its state, and the parts of its key, are there
pub record IsRunningRsa (m : MemoryState) (own : RunningRsa) : Type 0 where
  pub state : IsState m own.state
  pub all : own.state.count ≡ rsa_shorts
  pub parts : AreParts m own.parts
  pub size : HasSize own.size own.parts
  pub few : own.size ≤ 512

-- the message under an object: first the cells of its state, then whether it is initialized, then its key and the parts of that
unfoldable pub running_rsa : RsaPadding → KeyedEngine → Packages → MemoryState → Result RunningRsa FrameExit
running_rsa padding own p m = and_then (state_at p m own.array 0 rsa_shorts) (λ state. and_then (initialized_for Either own.mode) (λ u.
    and_then (kept_rsa_key padding own p m) (λ key. and_then (pair_parts m key.key) (λ parts. Ok (record {
      padding = padding;
      way = key.way;
      state = state;
      key = key.key.key.own;
      size = key.key.size;
      parts = parts;
    })))))

-- what came, and these elements, if together they are no more than the modulus has
abbrev pub message_with : MemoryState → RunningRsa → Stretch → Option (List ℕ)
message_with m own e =
    if nat_le (length (gathered m own.state) + e.count) own.size then Some (gathered m own.state ++ bytes_in m e) else None

-- ---- update

abbrev pub gathers : RunningRsa → Option (List ℕ) → List Cell → Packages → MemoryState → Result EngineAnswer FrameExit
gathers own None args p m = Err (Throw illegal_use)
gathers own (Some all) args p m = puts_output own.state.array (shorts_of (state_of all)) [] args p m

-- update: the bytes follow the message, and nothing is put
unfoldable pub rsa_update : RsaPadding → KeyedEngine → List Cell → Packages → MemoryState → Result EngineAnswer FrameExit
rsa_update padding own args p m = and_then (running_rsa padding own p m) (λ run. and_then (counted_of 1 args p m)
    (λ e. gathers run (message_with m run e) args p m))

-- ---- doFinal

-- what becomes of a message: it is encoded and enciphered, or deciphered and decoded
abbrev pub converted_by : Way → Packages → MemoryState → RunningRsa → List ℕ → Option (List ℕ)
converted_by ForPublic p m own all = option_and_then (key_power m own.parts) (public_form own.padding all (seed_of p own.key) own.size)
converted_by ForPrivate p m own all = option_and_then (key_power m own.parts) (private_form own.padding all own.size)
converted_by Decipher p m own all = if length all == own.size then option_and_then (message_in own.padding) (key_power m own.parts all) else None

abbrev pub converted : Packages → MemoryState → RunningRsa → Option (List ℕ) → Option (List ℕ)
converted p m own all = option_and_then (converted_by own.way p m own) all

abbrev pub ends : RunningRsa → Option (List ℕ) → List Cell → Packages → MemoryState → Result EngineAnswer FrameExit
ends own None args p m = Err (Throw illegal_use)
ends own (Some bytes) args p m = puts_output own.state.array (replicate rsa_shorts 0) bytes args p m

-- doFinal: the message ends with these bytes; what becomes of it is put, and nothing came from now on
unfoldable pub rsa_do_final : RsaPadding → KeyedEngine → List Cell → Packages → MemoryState → Result EngineAnswer FrameExit
rsa_do_final padding own args p m = and_then (running_rsa padding own p m) (λ run. and_then (counted_of 1 args p m)
    (λ e. ends run (converted p m run (message_with m run e)) args p m))
