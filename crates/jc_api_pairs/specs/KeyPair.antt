-- KeyPair (API specification): a public and a private key.
pub mod Kinds
pub mod Keys
pub mod Changes
pub mod NewKeys
pub mod Curves
pub mod RsaKeys
use Rattle.std.specs.Prelude.{ℕ, ℤ, pos, List, Option, Some, None, Result, Ok, Err}
use Rattle.jc_frames.specs.declared.cell.Cell.{Cell}
use Rattle.jc_frames.specs.declared.outcome.FrameExit.{FrameExit}
use Rattle.jc_frames.specs.declared.outcome.FrameExit.TheVariants.{Throw}
use Rattle.jc_memory.specs.State.{MemoryState}
use Rattle.jc_platform.specs.declared.names.PlatformClass.TheVariants as class
use Rattle.jc_linker.specs.Values.{Packages}
use Rattle.jc_world.specs.Answers.{and_then}
use Rattle.jc_world.specs.Objects.{short_argument, some_or_fault}
use Rattle.jc_api.specs.declared.factory.NewEngine.{NewEngine}
use Rattle.jc_api.specs.declared.pairing.NamedObject.TheVariants.{Argument, New}
use Rattle.jc_api.specs.declared.pairing.NewPair.{NewPair}
use Rattle.jc_api_keys.specs.Exceptions.{illegal_value}
use Rattle.jc_api_keys.specs.KeyBuilder.{key_named}
use Rattle.jc_api_keys.specs.KeyObjects.Arguments.{key_argument}
use Rattle.jc_api_keys.specs.Receivers.{named_or_throw}
use Rattle.jc_api_pairs.specs.KeyPair.Changes.{PairChange}
use Rattle.jc_api_pairs.specs.KeyPair.Curves.{curve_change}
use Rattle.jc_api_pairs.specs.KeyPair.Keys.{pair_called}
use Rattle.jc_api_pairs.specs.KeyPair.Kinds.{kind_named, kind_of_keys, private_type, public_type}
use Rattle.jc_api_pairs.specs.KeyPair.RsaKeys.{rsa_change}
use Rattle.jc_api_pairs.specs.declared.key_pair.keys.KeysOfPair.{KeysOfPair}
use Rattle.jc_api_pairs.specs.declared.key_pair.kinds.PairKind.{PairKind}
use Rattle.jc_api_pairs.specs.declared.key_pair.kinds.PairKind.TheVariants.{Rsa, Curve}

-- ---- constructors: no keys were made yet

-- the pair names two new keys
abbrev pub of_new_keys : NewEngine → NewEngine → NewPair
of_new_keys public private = record { class = class.KeyPair; number = pos 0; first = New public; second = New private }

-- or the keys among the arguments
abbrev pub of_given_keys : NewPair
of_given_keys = record { class = class.KeyPair; number = pos 0; first = Argument 1; second = Argument 2 }

-- persistent keys of this kind and length that are not set
abbrev pub keys_of_length : ℤ → Packages → MemoryState → PairKind → Result NewPair FrameExit
keys_of_length bits p m kind = and_then (key_named (public_type kind) bits (pos 0) p m) (λ public.
    and_then (key_named (private_type kind) bits (pos 0) p m) (λ private. Ok (of_new_keys public private)))

-- KeyPair.<init> by an algorithm and a length: new keys, which are not set
unfoldable pub key_pair_init : List Cell → Packages → MemoryState → Result NewPair FrameExit
key_pair_init args p m = and_then (some_or_fault (short_argument args 1)) (λ number. and_then (some_or_fault (short_argument args 2)) (λ bits.
    and_then (named_or_throw (kind_named number)) (keys_of_length bits p m)))

-- two keys are a public and a private one of a pair, or illegal
abbrev pub given_if : Option PairKind → Result NewPair FrameExit
given_if (Some kind) = Ok of_given_keys
given_if None = Err (Throw illegal_value)

-- KeyPair.<init> by two keys
unfoldable pub key_pair_init_of_keys : List Cell → Packages → MemoryState → Result NewPair FrameExit
key_pair_init_of_keys args p m = and_then (key_argument 1 args p m) (λ public. and_then (key_argument 2 args p m) (λ private.
    given_if (kind_of_keys public private)))

-- ---- generation

-- new keys of a pair
abbrev pub change_of_kind : PairKind → Packages → MemoryState → KeysOfPair → Result PairChange FrameExit
change_of_kind (Rsa form) p m pair = rsa_change form p m pair
change_of_kind Curve p m pair = curve_change p m pair

-- KeyPair.genKeyPair: the keys of the pair become new ones
unfoldable pub key_pair_gen_key_pair : List Cell → Packages → MemoryState → Result PairChange FrameExit
key_pair_gen_key_pair args p m = and_then (pair_called args p m) (λ pair. change_of_kind pair.kind p m pair)
