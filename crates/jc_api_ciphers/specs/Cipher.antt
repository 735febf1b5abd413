-- Cipher (API specification, javacardx.crypto).
pub mod Algorithms
pub mod Block
pub mod Kinds
pub mod Rsa
use Rattle.std.specs.Prelude.{ℤ, List, Some, Result, Ok}
use Rattle.jc_transient.specs.declared.cell.ClearEvent.TheVariants.{Reset}
use Rattle.jc_frames.specs.declared.cell.Cell.{Cell}
use Rattle.jc_frames.specs.declared.outcome.FrameExit.{FrameExit}
use Rattle.jc_memory.specs.State.{MemoryState}
use Rattle.jc_platform.specs.declared.names.PlatformClass.TheVariants as class
use Rattle.jc_linker.specs.Values.{Packages}
use Rattle.jc_world.specs.Answers.{and_then}
use Rattle.jc_world.specs.Objects.{short_argument, some_or_fault}
use Rattle.jc_api.specs.Changing.{EngineAnswer}
use Rattle.jc_api.specs.Forms.{CallAnswer, tells}
use Rattle.jc_api.specs.Initializing.{FieldsAnswer}
use Rattle.jc_api.specs.declared.factory.NewEngine.{NewEngine}
use Rattle.jc_api.specs.declared.factory.StateKind.TheVariants.{Shorts}
use Rattle.jc_api_ciphers.specs.Cipher.Block.{block_do_final, block_init, block_init_with_vector, block_update}
use Rattle.jc_api_ciphers.specs.Cipher.Kinds.{kind_cipher_number, kind_named, kind_number, kind_of_numbers, kind_padding_number, kind_shorts}
use Rattle.jc_api_ciphers.specs.Initialized.{engine_of}
use Rattle.jc_api_ciphers.specs.Cipher.Rsa.{rsa_do_final, rsa_init, rsa_init_with_vector, rsa_update}
use Rattle.jc_api_ciphers.specs.declared.cipher.OwnCipher.{OwnCipher}
use Rattle.jc_api_ciphers.specs.declared.cipher.kinds.CipherKind.{CipherKind}
use Rattle.jc_api_ciphers.specs.declared.cipher.kinds.CipherKind.TheVariants.{Block as BlockKind, Rsa as RsaKind}
use Rattle.jc_api_ciphers.specs.declared.initialized.KeyedEngine.{KeyedEngine}
use Rattle.jc_api_keys.specs.Receivers.{named_or_throw}

-- ---- the objects

-- a new object with a cipher of this number, to which nothing came
abbrev pub new_cipher : ℤ → CipherKind → NewEngine
new_cipher number kind = record { class = class.Cipher; number = number; elements = Shorts; event = Some Reset; state = kind_shorts kind }

-- Cipher.getInstance by one number: a new object; whether it is for access from outside does not matter
unfoldable pub cipher_get_instance : List Cell → Result NewEngine FrameExit
cipher_get_instance args = and_then (some_or_fault (short_argument args 0)) (λ number. and_then (some_or_fault (short_argument args 1))
    (λ external. and_then (named_or_throw (kind_named number)) (λ kind. Ok (new_cipher number kind))))

-- Cipher.getInstance by two numbers: the same object as by the one number of that cipher
unfoldable pub cipher_get_instance_of_cipher_and_padding : List Cell → Result NewEngine FrameExit
cipher_get_instance_of_cipher_and_padding args = and_then (some_or_fault (short_argument args 0)) (λ cipher. and_then (some_or_fault (short_argument args 1))
    (λ padding. and_then (some_or_fault (short_argument args 2)) (λ external. and_then (named_or_throw (kind_of_numbers cipher padding))
    (λ kind. Ok (new_cipher (kind_number kind) kind)))))

-- the receiver of a call: what its cells say, and what its number names
unfoldable pub own_cipher : List Cell → Packages → MemoryState → Result OwnCipher FrameExit
own_cipher args p m = and_then (engine_of class.Cipher args p m) (λ engine. and_then (some_or_fault (kind_named engine.number))
    (λ kind. Ok (record { engine = engine; kind = kind })))

-- Cipher.getAlgorithm: its one number
unfoldable pub cipher_get_algorithm : List Cell → Packages → MemoryState → Result CallAnswer FrameExit
cipher_get_algorithm args p m = and_then (engine_of class.Cipher args p m) (λ own. Ok (tells own.number))

-- Cipher.getCipherAlgorithm: the number of its block algorithm and chaining, or of RSA
unfoldable pub cipher_get_cipher_algorithm : List Cell → Packages → MemoryState → Result CallAnswer FrameExit
cipher_get_cipher_algorithm args p m = and_then (own_cipher args p m) (λ own. Ok (tells (kind_cipher_number own.kind)))

-- Cipher.getPaddingAlgorithm: that of its padding
unfoldable pub cipher_get_padding_algorithm : List Cell → Packages → MemoryState → Result CallAnswer FrameExit
cipher_get_padding_algorithm args p m = and_then (own_cipher args p m) (λ own. Ok (tells (kind_padding_number own.kind)))

-- ---- calls of which each kind of ciphers has its own

abbrev pub init_of : CipherKind → KeyedEngine → List Cell → Packages → MemoryState → Result FieldsAnswer FrameExit
init_of (BlockKind a) own args p m = block_init a own args p m
init_of (RsaKind padding) own args p m = rsa_init padding own args p m

abbrev pub init_with_vector_of : CipherKind → KeyedEngine → List Cell → Packages → MemoryState → Result FieldsAnswer FrameExit
init_with_vector_of (BlockKind a) own args p m = block_init_with_vector a own args p m
init_with_vector_of (RsaKind padding) own args p m = rsa_init_with_vector padding args p m

abbrev pub update_of : CipherKind → KeyedEngine → List Cell → Packages → MemoryState → Result EngineAnswer FrameExit
update_of (BlockKind a) own args p m = block_update a own args p m
update_of (RsaKind padding) own args p m = rsa_update padding own args p m

abbrev pub do_final_of : CipherKind → KeyedEngine → List Cell → Packages → MemoryState → Result EngineAnswer FrameExit
do_final_of (BlockKind a) own args p m = block_do_final a own args p m
do_final_of (RsaKind padding) own args p m = rsa_do_final padding own args p m

-- Cipher.init by a key and a mode, and with a vector
unfoldable pub cipher_init : List Cell → Packages → MemoryState → Result FieldsAnswer FrameExit
cipher_init args p m = and_then (own_cipher args p m) (λ own. init_of own.kind own.engine args p m)

unfoldable pub cipher_init_with_vector : List Cell → Packages → MemoryState → Result FieldsAnswer FrameExit
cipher_init_with_vector args p m = and_then (own_cipher args p m) (λ own. init_with_vector_of own.kind own.engine args p m)

-- Cipher.update: the bytes follow the message
unfoldable pub cipher_update : List Cell → Packages → MemoryState → Result EngineAnswer FrameExit
cipher_update args p m = and_then (own_cipher args p m) (λ own. update_of own.kind own.engine args p m)

-- Cipher.doFinal: the message ends with these bytes
unfoldable pub cipher_do_final : List Cell → Packages → MemoryState → Result EngineAnswer FrameExit
cipher_do_final args p m = and_then (own_cipher args p m) (λ own. do_final_of own.kind own.engine args p m)
