-- Signature (API specification, javacard.security).
pub mod Algorithms
pub mod Codes
pub mod Kinds
pub mod Purpose
pub mod PairAlgorithms
pub mod Pair
use Rattle.std.specs.Prelude.{ℤ, List, Some, Result, Ok}
use Rattle.jc_transient.specs.declared.cell.ClearEvent.TheVariants.{Reset}
use Rattle.jc_frames.specs.declared.cell.Cell.{Cell}
use Rattle.jc_frames.specs.declared.outcome.FrameExit.{FrameExit}
use Rattle.jc_memory.specs.State.{MemoryState}
use Rattle.jc_platform.specs.declared.names.PlatformClass.TheVariants as class
use Rattle.jc_linker.specs.Values.{Packages}
use Rattle.jc_world.specs.Answers.{and_then}
use Rattle.jc_world.specs.Objects.{short_argument, some_or_fault}
use Rattle.jc_api.specs.Changing.{EngineAnswer}
use Rattle.jc_api.specs.Forms.{CallAnswer, tells}
use Rattle.jc_api.specs.Initializing.{FieldsAnswer}
use Rattle.jc_api.specs.declared.factory.NewEngine.{NewEngine}
use Rattle.jc_api.specs.declared.factory.StateKind.TheVariants.{Shorts}
use Rattle.jc_api_ciphers.specs.Initialized.{engine_of}
use Rattle.jc_api_ciphers.specs.Signature.Codes.{code_get_length, code_init, code_init_with_vector, code_sign, code_update, code_verify}
use Rattle.jc_api_ciphers.specs.Signature.Kinds.{kind_cipher_number, kind_digest_number, kind_named, kind_of_numbers, kind_padding_number, kind_shorts}
use Rattle.jc_api_ciphers.specs.Signature.Pair.{pair_get_length, pair_init, pair_init_with_vector, pair_sign, pair_update, pair_verify}
use Rattle.jc_api_ciphers.specs.declared.initialized.KeyedEngine.{KeyedEngine}
use Rattle.jc_api_ciphers.specs.declared.signature.OwnSignature.{OwnSignature}
use Rattle.jc_api_ciphers.specs.declared.signature.kinds.SignatureKind.{SignatureKind}
use Rattle.jc_api_ciphers.specs.declared.signature.kinds.SignatureKind.TheVariants.{Code, Pair as PairKind}
use Rattle.jc_api_keys.specs.Receivers.{named_or_throw}

-- ---- the objects

-- a new object with a signature of this number, to which nothing came
abbrev pub new_signature : ℤ → SignatureKind → NewEngine
new_signature number kind = record { class = class.Signature; number = number; elements = Shorts; event = Some Reset; state = kind_shorts kind }

abbrev pub signature_of_one : ℤ → Result NewEngine FrameExit
signature_of_one number = and_then (named_or_throw (kind_named number)) (λ kind. Ok (new_signature number kind))

-- Signature.getInstance by one number: a new object; whether it is for access from outside does not matter
unfoldable pub signature_get_instance : List Cell → Result NewEngine FrameExit
signature_get_instance args = and_then (some_or_fault (short_argument args 0)) (λ number. and_then (some_or_fault (short_argument args 1))
    (λ external. signature_of_one number))

-- Signature.getInstance by three numbers: the same object as by the one number of that signature
unfoldable pub signature_get_instance_of_digest_cipher_and_padding : List Cell → Result NewEngine FrameExit
signature_get_instance_of_digest_cipher_and_padding args = and_then (some_or_fault (short_argument args 0)) (λ digest.
    and_then (some_or_fault (short_argument args 1)) (λ cipher. and_then (some_or_fault (short_argument args 2)) (λ padding.
    and_then (some_or_fault (short_argument args 3)) (λ external. and_then (named_or_throw (kind_of_numbers digest cipher padding)) signature_of_one))))

-- the receiver of a call: what its cells say, and what its number names
unfoldable pub own_signature : List Cell → Packages → MemoryState → Result OwnSignature FrameExit
own_signature args p m = and_then (engine_of class.Signature args p m) (λ engine. and_then (some_or_fault (kind_named engine.number))
    (λ kind. Ok (record { engine = engine; kind = kind })))

-- Signature.getAlgorithm: its one number
unfoldable pub signature_get_algorithm : List Cell → Packages → MemoryState → Result CallAnswer FrameExit
signature_get_algorithm args p m = and_then (engine_of class.Signature args p m) (λ own. Ok (tells own.number))

-- Signature.getMessageDigestAlgorithm: the number of its hash function
unfoldable pub signature_get_message_digest_algorithm : List Cell → Packages → MemoryState → Result CallAnswer FrameExit
signature_get_message_digest_algorithm args p m = and_then (own_signature args p m) (λ own. Ok (tells (kind_digest_number own.kind)))

-- Signature.getCipherAlgorithm: that of its cipher
unfoldable pub signature_get_cipher_algorithm : List Cell → Packages → MemoryState → Result CallAnswer FrameExit
signature_get_cipher_algorithm args p m = and_then (own_signature args p m) (λ own. Ok (tells (kind_cipher_number own.kind)))

-- Signature.getPaddingAlgorithm: that of its padding
unfoldable pub signature_get_padding_algorithm : List Cell → Packages → MemoryState → Result CallAnswer FrameExit
signature_get_padding_algorithm args p m = and_then (own_signature args p m) (λ own. Ok (tells (kind_padding_number own.kind)))

-- ---- calls of which each kind of signatures has its own

abbrev pub init_of : SignatureKind → KeyedEngine → List Cell → Packages → MemoryState → Result FieldsAnswer FrameExit
init_of (Code a) own args p m = code_init a own args p m
init_of (PairKind a) own args p m = pair_init a own args p m

abbrev pub init_with_vector_of : SignatureKind → KeyedEngine → List Cell → Packages → MemoryState → Result FieldsAnswer FrameExit
init_with_vector_of (Code a) own args p m = code_init_with_vector a own args p m
init_with_vector_of (PairKind a) own args p m = pair_init_with_vector a args p m

abbrev pub get_length_of : SignatureKind → KeyedEngine → Packages → MemoryState → Result CallAnswer FrameExit
get_length_of (Code a) own p m = code_get_length a own p m
get_length_of (PairKind a) own p m = pair_get_length a own p m

abbrev pub update_of : SignatureKind → KeyedEngine → List Cell → Packages → MemoryState → Result EngineAnswer FrameExit
update_of (Code a) own args p m = code_update a own args p m
update_of (PairKind a) own args p m = pair_update a own args p m

abbrev pub sign_of : SignatureKind → KeyedEngine → List Cell → Packages → MemoryState → Result EngineAnswer FrameExit
sign_of (Code a) own args p m = code_sign a own args p m
sign_of (PairKind a) own args p m = pair_sign a own args p m

abbrev pub verify_of : SignatureKind → KeyedEngine → List Cell → Packages → MemoryState → Result EngineAnswer FrameExit
verify_of (Code a) own args p m = code_verify a own args p m
verify_of (PairKind a) own args p m = pair_verify a own args p m

-- Signature.init by a key and a mode, and with a vector
unfoldable pub signature_init : List Cell → Packages → MemoryState → Result FieldsAnswer FrameExit
signature_init args p m = and_then (own_signature args p m) (λ own. init_of own.kind own.engine args p m)

unfoldable pub signature_init_with_vector : List Cell → Packages → MemoryState → Result FieldsAnswer FrameExit
signature_init_with_vector args p m = and_then (own_signature args p m) (λ own. init_with_vector_of own.kind own.engine args p m)

-- Signature.getLength: how many bytes a signature has, of an object that is initialized, and at most where they differ
unfoldable pub signature_get_length : List Cell → Packages → MemoryState → Result CallAnswer FrameExit
signature_get_length args p m = and_then (own_signature args p m) (λ own. get_length_of own.kind own.engine p m)

-- Signature.update: the bytes follow the message
unfoldable pub signature_update : List Cell → Packages → MemoryState → Result EngineAnswer FrameExit
signature_update args p m = and_then (own_signature args p m) (λ own. update_of own.kind own.engine args p m)

-- Signature.sign: the message ends with these bytes
unfoldable pub signature_sign : List Cell → Packages → MemoryState → Result EngineAnswer FrameExit
signature_sign args p m = and_then (own_signature args p m) (λ own. sign_of own.kind own.engine args p m)

-- Signature.verify: the message ends with these bytes
unfoldable pub signature_verify : List Cell → Packages → MemoryState → Result EngineAnswer FrameExit
signature_verify args p m = and_then (own_signature args p m) (λ own. verify_of own.kind own.engine args p m)
