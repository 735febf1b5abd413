-- The calls of keys on elliptic curves (API specification): ECKey, ECPublicKey and ECPrivateKey.
use Rattle.std.specs.Int.{cast_signed, cast_unsigned, to_be_bytes, w16}
use Rattle.std.specs.Option.{option_and_then}
use Rattle.std.specs.Prelude.{ℕ, ◌==◌, ◌&&◌, is_ok, Bool, true, false, List, ◌∷◌, Option, Some, None, Result, Ok, Err, if◌then◌else◌}
use Rattle.jc_frames.specs.declared.cell.Cell.{Cell}
use Rattle.jc_frames.specs.declared.outcome.FrameExit.{FrameExit}
use Rattle.jc_frames.specs.declared.outcome.FrameExit.TheVariants.{End, Throw}
use Rattle.jc_frames.specs.declared.outcome.Outcome.TheVariants.{Fault}
use Rattle.jc_memory.specs.State.{MemoryState}
use Rattle.jc_platform.specs.declared.key_methods.EcKeysMethod.{EcKeysMethod}
use Rattle.jc_platform.specs.declared.key_methods.EcKeysMethod.TheVariants.{EcKeyObjectSetFieldFp, EcKeyObjectSetFieldF2m, EcKeyObjectSetFieldF2mOfThree}
use Rattle.jc_platform.specs.declared.key_methods.EcKeysMethod.TheVariants.{EcKeyObjectSetA, EcKeyObjectSetB, EcKeyObjectSetG, EcKeyObjectSetR, EcKeyObjectSetK}
use Rattle.jc_platform.specs.declared.key_methods.EcKeysMethod.TheVariants.{EcKeyObjectGetField, EcKeyObjectGetA, EcKeyObjectGetB, EcKeyObjectGetG, EcKeyObjectGetR}
use Rattle.jc_platform.specs.declared.key_methods.EcKeysMethod.TheVariants.{EcKeyObjectGetK, EcKeyObjectCopyDomainParametersFrom}
use Rattle.jc_platform.specs.declared.key_methods.EcKeysMethod.TheVariants.{EcPublicKeyObjectSetW, EcPublicKeyObjectGetW, EcPrivateKeyObjectSetS, EcPrivateKeyObjectGetS}
use Rattle.jc_platform.specs.declared.names.PlatformClass.TheVariants as class
use Rattle.jc_linker.specs.Values.{Packages}
use Rattle.jc_world.specs.Answers.{and_then}
use Rattle.jc_world.specs.Arrays.{bytes_in}
use Rattle.jc_world.specs.NativeCalls.{NativeProgram}
use Rattle.jc_world.specs.Objects.{short_argument, some_or_fault}
use Rattle.jc_world.specs.declared.arrays.Stretch.{Stretch}
use Rattle.jc_api.specs.Forms.{CallAnswer, reading_call, tells}
use Rattle.jc_api_keys.specs.Exceptions.{illegal_value}
use Rattle.jc_api_keys.specs.KeyObjects.Arguments.{key_argument}
use Rattle.jc_api_keys.specs.KeyObjects.Contents.{receiver_key, sets_at}
use Rattle.jc_api_keys.specs.KeyObjects.Parts.{are_set, curve_parts, get_part, key_part, number_at, part_place, set_part}
use Rattle.jc_api_keys.specs.KeyParts.{bytes_of_parts, domain_parts, size_of}
use Rattle.jc_api_keys.specs.KeyTypes.{pair_key_named}
use Rattle.jc_api_keys.specs.declared.key_objects.contents.Key.{Key}
use Rattle.jc_api_keys.specs.declared.key_parts.KeyPart.TheVariants as part
use Rattle.jc_api_keys.specs.declared.key_types.PairKey.{PairKey}
use Rattle.jc_api_keys.specs.declared.key_types.PairKey.TheVariants.{RsaPublic, RsaPrivate, RsaCrtPrivate, EcPublic, EcPrivate}

-- ECKey.setFieldF2M: no key is on a curve over a field of characteristic 2
unfoldable pub ec_key_object_set_field_f2m : List Cell → Packages → MemoryState → Result CallAnswer FrameExit
ec_key_object_set_field_f2m args p m = and_then (receiver_key class.EcKeyObject args p m) (λ key. Err (Throw illegal_value))

-- ---- the cofactor

-- ECKey.setK: the cofactor is a number, of two bytes
unfoldable pub ec_key_object_set_k : List Cell → Packages → MemoryState → Result CallAnswer FrameExit
ec_key_object_set_k args p m = and_then (receiver_key class.EcKeyObject args p m) (λ key. and_then (part_place key part.K) (λ place.
    and_then (some_or_fault (short_argument args 1)) (λ k. Ok (sets_at place.array place.start (0 ∷ 2 ∷ to_be_bytes w16 (cast_unsigned w16 k))))))

-- a cofactor of another number of bytes is a code fault
abbrev pub tells_cofactor : MemoryState → Stretch → Result CallAnswer FrameExit
tells_cofactor m e = if e.count == 2 then Ok (tells (cast_signed w16 (number_at m e))) else Err (End Fault)

-- ECKey.getK: that number
unfoldable pub ec_key_object_get_k : List Cell → Packages → MemoryState → Result CallAnswer FrameExit
ec_key_object_get_k args p m = and_then (receiver_key class.EcKeyObject args p m) (λ key. and_then (key_part m key part.K) (tells_cofactor m))

-- ---- all domain parameters

-- a key is on a curve
abbrev pub is_on_curve : PairKey → Bool
is_on_curve RsaPublic = false
is_on_curve RsaPrivate = false
is_on_curve RsaCrtPrivate = false
is_on_curve EcPublic = true
is_on_curve EcPrivate = true

-- the size of a key on a curve
abbrev pub curve_size : Key → Option ℕ
curve_size key = option_and_then (λ k. if is_on_curve k then size_of k key.elements.count else None) (pair_key_named key.number)

-- the elements in which the domain parameters of a key of size n stand: the first ones
abbrev pub domain_elements : Key → ℕ → Stretch
domain_elements key n = record { array = key.elements.array; start = 0; count = bytes_of_parts n domain_parts }

-- they, of a key of size n of which they are set
abbrev pub domain_if : MemoryState → ℕ → Key → Option ℕ → Option Stretch
domain_if m n other (Some its) = if its == n && is_ok (are_set m other curve_parts) then Some (domain_elements other its) else None
domain_if m n other None = None

abbrev pub domain_of : MemoryState → ℕ → Key → Option Stretch
domain_of m n other = domain_if m n other (curve_size other)

-- the domain parameters are these, as one change
abbrev pub copies_from : MemoryState → Key → Option Stretch → Result CallAnswer FrameExit
copies_from m key (Some e) = Ok (sets_at key.elements.array 0 (bytes_in m e))
copies_from m key None = Err (Throw illegal_value)

abbrev pub copies_domain : MemoryState → Key → ℕ → Key → Result CallAnswer FrameExit
copies_domain m key n other = copies_from m key (domain_of m n other)

-- ECKey.copyDomainParametersFrom: the domain parameters are those of a key of the same size, of which they are set
unfoldable pub ec_key_object_copy_domain_parameters_from : List Cell → Packages → MemoryState → Result CallAnswer FrameExit
ec_key_object_copy_domain_parameters_from args p m = and_then (receiver_key class.EcKeyObject args p m) (λ key. and_then (some_or_fault (curve_size key)) (λ n.
    and_then (key_argument 1 args p m) (copies_domain m key n)))

-- ---- all calls

-- what a call of a method of a key on an elliptic curve answers
abbrev pub ec_key_answer : EcKeysMethod → List Cell → Packages → MemoryState → Result CallAnswer FrameExit
ec_key_answer EcKeyObjectSetFieldFp args p m = set_part part.Field args p m
ec_key_answer EcKeyObjectSetFieldF2m args p m = ec_key_object_set_field_f2m args p m
ec_key_answer EcKeyObjectSetFieldF2mOfThree args p m = ec_key_object_set_field_f2m args p m
ec_key_answer EcKeyObjectSetA args p m = set_part part.A args p m
ec_key_answer EcKeyObjectSetB args p m = set_part part.B args p m
ec_key_answer EcKeyObjectSetG args p m = set_part part.G args p m
ec_key_answer EcKeyObjectSetR args p m = set_part part.R args p m
ec_key_answer EcKeyObjectSetK args p m = ec_key_object_set_k args p m
ec_key_answer EcKeyObjectGetField args p m = get_part part.Field args p m
ec_key_answer EcKeyObjectGetA args p m = get_part part.A args p m
ec_key_answer EcKeyObjectGetB args p m = get_part part.B args p m
ec_key_answer EcKeyObjectGetG args p m = get_part part.G args p m
ec_key_answer EcKeyObjectGetR args p m = get_part part.R args p m
ec_key_answer EcKeyObjectGetK args p m = ec_key_object_get_k args p m
ec_key_answer EcKeyObjectCopyDomainParametersFrom args p m = ec_key_object_copy_domain_parameters_from args p m
ec_key_answer EcPublicKeyObjectSetW args p m = set_part part.W args p m
ec_key_answer EcPublicKeyObjectGetW args p m = get_part part.W args p m
ec_key_answer EcPrivateKeyObjectSetS args p m = set_part part.S args p m
ec_key_answer EcPrivateKeyObjectGetS args p m = get_part part.S args p m

-- what it may do
unfoldable pub ec_key_call : EcKeysMethod → List Cell → Packages → MemoryState → NativeProgram
ec_key_call method args p m = reading_call (ec_key_answer method args p m) p m
