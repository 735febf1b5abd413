-- KeyBuilder (API specification).
use Rattle.std.specs.Ordering.{int_eq}
use Rattle.std.specs.Option.{option_map}
use Rattle.std.specs.Prelude.{ℕ, ℤ, pos, ◌+◌, List, Option, Some, None, Result, Ok, Err, if◌then◌else◌}
use Rattle.jc_transient.specs.declared.cell.ClearEvent.{ClearEvent}
use Rattle.jc_frames.specs.declared.cell.Cell.{Cell}
use Rattle.jc_frames.specs.declared.outcome.FrameExit.{FrameExit}
use Rattle.jc_frames.specs.declared.outcome.FrameExit.TheVariants.{Throw}
use Rattle.jc_memory.specs.State.{MemoryState}
use Rattle.jc_linker.specs.Values.{Packages}
use Rattle.jc_world.specs.Answers.{and_then}
use Rattle.jc_world.specs.Objects.{short_argument, some_or_fault}
use Rattle.jc_api.specs.Factory.{is_in_table}
use Rattle.jc_api.specs.TransientEvents.{allowed_event}
use Rattle.jc_api.specs.declared.factory.NewEngine.{NewEngine}
use Rattle.jc_api.specs.declared.factory.StateKind.TheVariants.{Bytes}
use Rattle.jc_api_keys.specs.Exceptions.{no_such_algorithm}
use Rattle.jc_api_keys.specs.KeyParts.{data_length}
use Rattle.jc_api_keys.specs.KeyTypes.{capacity_named, key_class, key_type_named, size_named}
use Rattle.jc_api_keys.specs.Receivers.{named_or_throw}
use Rattle.jc_api_keys.specs.declared.key_types.KeyKind.{KeyKind}
use Rattle.jc_api_keys.specs.declared.key_types.KeyKind.TheVariants.{Secret, OfPair}
use Rattle.jc_api_keys.specs.declared.key_types.KeyType.{KeyType}

-- how many bytes the data of a key of a length have: of a secret key one more than the key, of a key of a pair its parts
abbrev pub data_named : KeyKind → ℤ → Option ℕ
data_named (Secret a) v = option_map (λ n. n + 1) (capacity_named a v)
data_named (OfPair k) v = option_map (data_length k) (size_named k v)

-- the type of a number, of which the platform table has the class
abbrev pub if_in_table : Packages → Option KeyType → Option KeyType
if_in_table p None = None
if_in_table p (Some t) = if is_in_table (key_class t.kind) p then Some t else None

-- ---- new keys

-- the code that runs may make what this event clears
abbrev pub allowed_with : Option ClearEvent → MemoryState → Result (Unit {0}) FrameExit
allowed_with None m = Ok tt
allowed_with (Some event) m = allowed_event event m

-- a key object that is not set: its type, and its data
abbrev pub new_key : ℤ → KeyType → ℕ → NewEngine
new_key number t long = record { class = key_class t.kind; number = number; elements = Bytes; event = t.event; state = long }

-- such an object, where the code that runs may make it; there is no interface for keys that encrypt keys
abbrev pub key_if_allowed : ℤ → KeyType → ℕ → ℤ → MemoryState → Result NewEngine FrameExit
key_if_allowed number t long encrypts m = if int_eq encrypts (pos 0) then and_then (allowed_with t.event m) (λ u. Ok (new_key number t long))
    else Err (Throw no_such_algorithm)

-- that of a type and a length, which are looked at in this order
unfoldable pub key_named : ℤ → ℤ → ℤ → Packages → MemoryState → Result NewEngine FrameExit
key_named number bits encrypts p m = and_then (named_or_throw (if_in_table p (key_type_named number))) (λ t. and_then (named_or_throw (data_named t.kind bits))
    (λ long. key_if_allowed number t long encrypts m))

-- KeyBuilder.buildKey: a new key object
unfoldable pub key_builder_build_key : List Cell → Packages → MemoryState → Result NewEngine FrameExit
key_builder_build_key args p m = and_then (some_or_fault (short_argument args 0)) (λ number. and_then (some_or_fault (short_argument args 1)) (λ bits.
    and_then (some_or_fault (short_argument args 2)) (λ encrypts. key_named number bits encrypts p m)))
