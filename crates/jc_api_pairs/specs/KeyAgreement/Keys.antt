-- The private keys of key agreement.
use Rattle.std.specs.Prelude.{ℕ, ◌==◌, Bool, true, false, List, Option, Some, None, Result, Ok, Err, if◌then◌else◌}
use Rattle.jc_frames.specs.declared.cell.Cell.{Cell}
use Rattle.jc_frames.specs.declared.outcome.FrameExit.{FrameExit}
use Rattle.jc_frames.specs.declared.outcome.FrameExit.TheVariants.{End, Throw}
use Rattle.jc_frames.specs.declared.outcome.Outcome.TheVariants.{Fault}
use Rattle.jc_memory.specs.State.{MemoryState}
use Rattle.jc_linker.specs.Values.{Packages}
use Rattle.jc_world.specs.Answers.{and_then}
use Rattle.jc_world.specs.Arrays.{IsInArray}
use Rattle.jc_world.specs.Objects.{check_or_fault}
use Rattle.jc_world.specs.declared.arrays.Stretch.{Stretch}
use Rattle.jc_api_keys.specs.Exceptions.{illegal_value, invalid_init}
use Rattle.jc_api_keys.specs.KeyObjects.Arguments.{key_argument, key_at}
use Rattle.jc_api_keys.specs.KeyObjects.Parts.{key_part, number_at}
use Rattle.jc_api_keys.specs.KeyTypes.{pair_key_named}
use Rattle.jc_api_keys.specs.declared.key_objects.contents.Key.{Key}
use Rattle.jc_api_keys.specs.declared.key_parts.KeyPart.TheVariants as part
use Rattle.jc_api_keys.specs.declared.key_types.PairKey.{PairKey}
use Rattle.jc_api_keys.specs.declared.key_types.PairKey.TheVariants.{RsaPublic, RsaPrivate, RsaCrtPrivate, EcPublic, EcPrivate}
use Rattle.jc_api_pairs.specs.CurveParts.{AreCurveParts, curve_parts_of}
use Rattle.jc_api_pairs.specs.declared.key_agreement.Agreement.{Agreement}
use Rattle.jc_api_pairs.specs.declared.key_agreement.algorithms.AgreementAlgorithm.{AgreementAlgorithm}
use Rattle.jc_api_pairs.specs.declared.key_agreement.keys.PrivateParts.{PrivateParts}

-- a key of a pair is a private key on a curve
abbrev pub is_ec_private : Option PairKey → Bool
is_ec_private None = false
is_ec_private (Some RsaPublic) = false
is_ec_private (Some RsaPrivate) = false
is_ec_private (Some RsaCrtPrivate) = false
is_ec_private (Some EcPublic) = false
is_ec_private (Some EcPrivate) = true

-- the parts of such a key, or what is thrown for the first that is not set
abbrev pub private_parts : MemoryState → Key → Result PrivateParts FrameExit
private_parts m key = and_then (curve_parts_of m key) (λ curve. and_then (key_part m key part.S) (λ secret.
    Ok (record { curve = curve; secret = secret })))

-- they are there
pub record ArePartsThere (m : MemoryState) (parts : PrivateParts) : Type 0 where
  pub curve : AreCurveParts m parts.curve
  pub secret : IsInArray m parts.secret

-- by what the multiple is taken besides the private key: the cofactor, two bytes, or 1
abbrev pub factor_if : MemoryState → Stretch → Result ℕ FrameExit
factor_if m e = if e.count == 2 then Ok (number_at m e) else Err (End Fault)

abbrev pub factor_of : MemoryState → AgreementAlgorithm → Key → Result ℕ FrameExit
factor_of m a key = if a.with_cofactor then and_then (key_part m key part.K) (factor_if m) else Ok 1

-- the key after the receiver is a private key on a curve, and what the algorithm takes of it is set
abbrev pub ec_private_or_illegal : Key → Result (Unit {0}) FrameExit
ec_private_or_illegal key = if is_ec_private (pair_key_named key.number) then Ok tt else Err (Throw illegal_value)

abbrev pub key_given : AgreementAlgorithm → List Cell → Packages → MemoryState → Result (Unit {0}) FrameExit
key_given a args p m = and_then (key_argument 1 args p m) (λ key. and_then (ec_private_or_illegal key) (λ u. and_then (private_parts m key) (λ parts.
    and_then (factor_of m a key) (λ factor. Ok tt))))

-- the key that an object has kept, which is one of that type, or a code fault
abbrev pub kept_key : Agreement → Packages → MemoryState → Result Key FrameExit
kept_key own p m = if own.key == 0 then Err (Throw invalid_init) else and_then (key_at p m own.key) (λ key.
    and_then (check_or_fault (is_ec_private (pair_key_named key.number))) (λ u. Ok key))
