-- KeyAgreement (API specification).
pub mod Algorithms
pub mod Keys
pub mod Secrets
use Rattle.std.specs.Prelude.{ℕ, ℤ, List, [], ◌∷◌, Some, Result, Ok, Err, if◌then◌else◌}
use Rattle.jc_transient.specs.declared.cell.ClearEvent.TheVariants.{Reset}
use Rattle.jc_heap.specs.declared.object.Facts.{Facts}
use Rattle.jc_frames.specs.declared.cell.Cell.{Cell}
use Rattle.jc_frames.specs.declared.outcome.FrameExit.{FrameExit}
use Rattle.jc_frames.specs.declared.outcome.FrameExit.TheVariants.{End}
use Rattle.jc_frames.specs.declared.outcome.Outcome.TheVariants.{Fault}
use Rattle.jc_memory.specs.Cells.{short_at, word_at}
use Rattle.jc_memory.specs.State.{MemoryState}
use Rattle.jc_platform.specs.NamePlaces.{class_word}
use Rattle.jc_platform.specs.declared.names.PlatformClass.TheVariants as class
use Rattle.jc_linker.specs.Values.{Packages}
use Rattle.jc_world.specs.Answers.{and_then}
use Rattle.jc_world.specs.Instances.{instance_at}
use Rattle.jc_world.specs.Objects.{is_instance_of, reference_argument, short_argument, some_or_fault}
use Rattle.jc_api.specs.Arguments.{counted_of}
use Rattle.jc_api.specs.Forms.{CallAnswer, tells}
use Rattle.jc_api.specs.Initializing.{FieldsAnswer, sets_fields}
use Rattle.jc_api.specs.declared.factory.NewEngine.{NewEngine}
use Rattle.jc_api.specs.declared.factory.StateKind.TheVariants.{Shorts}
use Rattle.jc_api_keys.specs.Receivers.{named_or_throw}
use Rattle.jc_api_pairs.specs.KeyAgreement.Algorithms.{agreement_named}
use Rattle.jc_api.specs.declared.initializing.FieldValue.TheVariants.{Argument}
use Rattle.jc_api_pairs.specs.KeyAgreement.Keys.{factor_of, kept_key, key_given, private_parts}
use Rattle.jc_api_pairs.specs.KeyAgreement.Secrets.{puts_shared}
use Rattle.jc_api_pairs.specs.declared.key_agreement.Agreement.{Agreement}

-- ---- the objects: the number of the algorithm, the array of the state, in which nothing has to stand, and the private key

abbrev pub key_cell : ℕ
key_cell = 2

abbrev pub agreement_cells : ℕ
agreement_cells = 3

-- what the cells say, if it is of the class; before init no key
abbrev pub agreement_in : Packages → MemoryState → ℕ → Facts → Result Agreement FrameExit
agreement_in p m own f = if is_instance_of p f (class_word p.platform class.KeyAgreement)
    then Ok (record { own = own; number = short_at m own 0; array = word_at m own 1; key = word_at m own key_cell })
    else Err (End Fault)

-- the receiver of a call: null throws, and anything but an instance of the class is a code fault
unfoldable pub agreement_of : List Cell → Packages → MemoryState → Result Agreement FrameExit
agreement_of args p m =
    and_then (some_or_fault (reference_argument args 0)) (λ own. and_then (instance_at m own agreement_cells) (agreement_in p m own))

-- a new object with the algorithm of this number
abbrev pub new_agreement : ℤ → NewEngine
new_agreement number = record { class = class.KeyAgreement; number = number; elements = Shorts; event = Some Reset; state = 0 }

-- KeyAgreement.getInstance: a new object; whether it is for access from outside does not matter
unfoldable pub key_agreement_get_instance : List Cell → Result NewEngine FrameExit
key_agreement_get_instance args = and_then (some_or_fault (short_argument args 0)) (λ number. and_then (some_or_fault (short_argument args 1))
    (λ external. and_then (named_or_throw (agreement_named number)) (λ a. Ok (new_agreement number))))

-- KeyAgreement.getAlgorithm: its number
unfoldable pub key_agreement_get_algorithm : List Cell → Packages → MemoryState → Result CallAnswer FrameExit
key_agreement_get_algorithm args p m = and_then (agreement_of args p m) (λ own. Ok (tells own.number))

-- KeyAgreement.init: the private key is set
unfoldable pub key_agreement_init : List Cell → Packages → MemoryState → Result FieldsAnswer FrameExit
key_agreement_init args p m = and_then (agreement_of args p m) (λ own. and_then (some_or_fault (agreement_named own.number)) (λ a.
    and_then (key_given a args p m) (λ u. Ok (sets_fields class.KeyAgreement key_cell (Argument 1 ∷ []) own.array []))))

-- KeyAgreement.generateSecret: the secret of the private key and this public key is put
unfoldable pub key_agreement_generate_secret : List Cell → Packages → MemoryState → Result CallAnswer FrameExit
key_agreement_generate_secret args p m = and_then (agreement_of args p m) (λ own. and_then (some_or_fault (agreement_named own.number)) (λ a.
    and_then (kept_key own p m) (λ key. and_then (private_parts m key) (λ parts. and_then (factor_of m a key) (λ factor.
    and_then (counted_of 1 args p m) (λ public. puts_shared a.secret parts factor public args p m))))))
