-- Objects of the platform with an algorithm and a key: what their cells say, and how they are initialized.
use Rattle.std.specs.Ordering.{int_eq}
use Rattle.std.specs.Int.{cast_unsigned, w16}
use Rattle.std.specs.Prelude.{ℕ, ℤ, pos, ◌-◌, ◌*◌, ◌/◌, ◌==◌, ◌&&◌, ◌||◌, not, Bool, true, false, List, [], ◌∷◌, ◌++◌, length, map, replicate, Option, Some, None}
use Rattle.std.specs.Prelude.{Result, Ok, Err, if◌then◌else◌}
use Rattle.jc_heap.specs.declared.object.Facts.{Facts}
use Rattle.jc_frames.specs.declared.cell.Cell.{Cell}
use Rattle.jc_frames.specs.declared.outcome.FrameExit.{FrameExit}
use Rattle.jc_frames.specs.declared.outcome.FrameExit.TheVariants.{End, Throw}
use Rattle.jc_frames.specs.declared.outcome.Outcome.TheVariants.{Fault}
use Rattle.jc_memory.specs.Cells.{short_at, word_at, words_at}
use Rattle.jc_memory.specs.State.{MemoryState}
use Rattle.jc_platform.specs.NamePlaces.{class_word}
use Rattle.jc_platform.specs.declared.names.PlatformClass.{PlatformClass}
use Rattle.jc_linker.specs.Values.{Packages}
use Rattle.jc_world.specs.Answers.{and_then}
use Rattle.jc_world.specs.Arrays.{bytes_in}
use Rattle.jc_world.specs.Instances.{instance_at}
use Rattle.jc_world.specs.Objects.{check_or_fault, is_instance_of, reference_argument, short_argument, some_or_fault}
use Rattle.jc_world.specs.declared.arrays.Stretch.{Stretch}
use Rattle.jc_api.specs.Arguments.{counted_of}
use Rattle.jc_api.specs.Initializing.{FieldsAnswer, sets_fields}
use Rattle.jc_api.specs.declared.initializing.FieldValue.{FieldValue}
use Rattle.jc_api.specs.declared.initializing.FieldValue.TheVariants.{Argument, Word}
use Rattle.jc_api_keys.specs.Exceptions.{illegal_value}
use Rattle.jc_api_keys.specs.KeyTypes.{key_type_named}
use Rattle.jc_api_keys.specs.KeyObjects.Arguments.{key_argument, key_at}
use Rattle.jc_api_keys.specs.KeyObjects.Contents.{key_elements}
use Rattle.jc_api_keys.specs.Shorts.{bytes_of_shorts, first_shorts}
use Rattle.jc_api_ciphers.specs.declared.initialized.KeyedEngine.{KeyedEngine}
use Rattle.jc_api_ciphers.specs.declared.initialized.Requirements.{Requirements}
use Rattle.jc_api_keys.specs.declared.key_types.KeyAlgorithm.{KeyAlgorithm}
use Rattle.jc_api_keys.specs.declared.key_types.KeyAlgorithm.TheVariants.{Aes, Des, Hmac}
use Rattle.jc_api_keys.specs.declared.key_types.KeyKind.{KeyKind}
use Rattle.jc_api_keys.specs.declared.key_types.KeyKind.TheVariants.{Secret, OfPair}
use Rattle.jc_api_keys.specs.declared.key_types.KeyType.{KeyType}
use Rattle.jc_api_keys.specs.declared.key_objects.contents.Key.{Key}

-- ---- their cells: the number of the algorithm, the array of the state, the key, the mode, and the vector, two bytes in a cell

abbrev pub key_cell : ℕ
key_cell = 2

abbrev pub mode_cell : ℕ
mode_cell = 3

abbrev pub vector_cell : ℕ
vector_cell = 4

-- how many cells the vector has, and the object
abbrev pub vector_cells : ℕ
vector_cells = 8

abbrev pub keyed_cells : ℕ
keyed_cells = 12

-- what the cells say, if it is of this class; before init no key and mode 0
abbrev pub engine_in : PlatformClass → Packages → MemoryState → ℕ → Facts → Result KeyedEngine FrameExit
engine_in class p m own f = if is_instance_of p f (class_word p.platform class)
    then Ok (record { own = own; number = short_at m own 0; array = word_at m own 1; key = word_at m own key_cell; mode = short_at m own mode_cell })
    else Err (End Fault)

-- the receiver of a call: null throws, and anything but an instance of the class is a code fault
unfoldable pub engine_of : PlatformClass → List Cell → Packages → MemoryState → Result KeyedEngine FrameExit
engine_of class args p m =
    and_then (some_or_fault (reference_argument args 0)) (λ own. and_then (instance_at m own keyed_cells) (engine_in class p m own))

-- the first bytes of the vector
abbrev pub vector_at : MemoryState → ℕ → ℕ → List ℕ
vector_at m own size = bytes_of_shorts (words_at m own vector_cell (size / 2))

-- ---- what an algorithm requires

-- a key type is one of an algorithm's
abbrev pub is_for : KeyAlgorithm → KeyAlgorithm → Bool
is_for Des Des = true
is_for Des Aes = false
is_for Des Hmac = false
is_for Aes Des = false
is_for Aes Aes = true
is_for Aes Hmac = false
is_for Hmac Des = false
is_for Hmac Aes = false
is_for Hmac Hmac = true

abbrev pub takes_kind : KeyAlgorithm → KeyKind → Bool
takes_kind a (Secret b) = is_for a b
takes_kind a (OfPair k) = false

abbrev pub takes_type : KeyAlgorithm → Option KeyType → Bool
takes_type a None = false
takes_type a (Some t) = takes_kind a t.kind

-- MODE_DECRYPT and MODE_ENCRYPT, MODE_SIGN and MODE_VERIFY
abbrev pub is_mode : ℤ → Bool
is_mode v = int_eq v (pos 1) || int_eq v (pos 2)

-- a vector of n bytes is allowed: of the length that the algorithm requires, which is 0 where it takes none
abbrev pub takes_vector : Requirements → ℕ → Bool
takes_vector needs n = not (n == 0) && n == needs.vector

-- ---- init

-- the key with a place among the arguments, of a type that the algorithm takes
abbrev pub taken_if : Requirements → Key → Result Key FrameExit
taken_if needs key = if takes_type needs.keys (key_type_named key.number) then Ok key else Err (Throw illegal_value)

unfoldable pub taken_key : Requirements → List Cell → Packages → MemoryState → Result Key FrameExit
taken_key needs args p m = and_then (key_argument 1 args p m) (taken_if needs)

-- the mode after it
abbrev pub taken_mode : List Cell → Result ℤ FrameExit
taken_mode args = and_then (some_or_fault (short_argument args 2)) (λ mode. if is_mode mode then Ok mode else Err (Throw illegal_value))

-- the elements after it that are the vector
abbrev pub taken_if_long : Requirements → Stretch → Result Stretch FrameExit
taken_if_long needs e = if takes_vector needs e.count then Ok e else Err (Throw illegal_value)

unfoldable pub taken_vector : Requirements → List Cell → Packages → MemoryState → Result Stretch FrameExit
taken_vector needs args p m = and_then (counted_of 3 args p m) (taken_if_long needs)

-- the words of the cells of a vector: its bytes, and zeros after them
abbrev pub vector_words : List ℕ → List ℕ
vector_words bytes = first_shorts (bytes ++ replicate (2 * vector_cells - length bytes) 0) vector_cells

-- the values of the cells from the key on: the first argument, the mode, and the vector
abbrev pub values_given : ℤ → List ℕ → List FieldValue
values_given mode bytes = Argument 1 ∷ Word (cast_unsigned w16 mode) ∷ map Word (vector_words bytes)

-- these are set, as one change, and nothing came: the n shorts of the state are 0
abbrev pub initializes : PlatformClass → ℕ → KeyedEngine → ℤ → List ℕ → FieldsAnswer
initializes class shorts own mode bytes = sets_fields class key_cell (values_given mode bytes) own.array (replicate shorts 0)

-- init of an object of a class by a key and a mode: the key is one that the algorithm takes, then the mode one of the two, then the key is set.
-- The vector is zeros
unfoldable pub key_init : PlatformClass → Requirements → KeyedEngine → List Cell → Packages → MemoryState → Result FieldsAnswer FrameExit
key_init class needs own args p m = and_then (taken_key needs args p m) (λ key. and_then (taken_mode args) (λ mode.
    and_then (key_elements m key) (λ set. Ok (initializes class needs.state own mode []))))

-- and with a vector, of which the algorithm requires its length
unfoldable pub vector_init : PlatformClass → Requirements → KeyedEngine → List Cell → Packages → MemoryState → Result FieldsAnswer FrameExit
vector_init class needs own args p m = and_then (taken_key needs args p m) (λ key. and_then (taken_mode args) (λ mode.
    and_then (taken_vector needs args p m) (λ e. and_then (key_elements m key) (λ set. Ok (initializes class needs.state own mode (bytes_in m e))))))

-- ---- calls after init

-- the key that an engine has kept: of a type that the algorithm takes, or a code fault; one that is not set throws
unfoldable pub kept_key : Requirements → KeyedEngine → Packages → MemoryState → Result Stretch FrameExit
kept_key needs own p m = and_then (key_at p m own.key) (λ key. and_then (check_or_fault (takes_type needs.keys (key_type_named key.number))) (λ u. key_elements m key))
