-- The secret that a private key shares with the holder of a public one.
use Rattle.std.specs.Prelude.{ℕ, pos, ◌+◌, ◌*◌, ◌==◌, ◌&&◌, nat_le, Bool, List, length, Option, Some, None, Result, Ok, Err, if◌then◌else◌}
use Rattle.sha1.specs.Sha1.{sha1}
use Rattle.jc_frames.specs.declared.cell.Cell.{Cell}
use Rattle.jc_frames.specs.declared.outcome.FrameExit.{FrameExit}
use Rattle.jc_frames.specs.declared.outcome.FrameExit.TheVariants.{Throw}
use Rattle.jc_memory.specs.State.{MemoryState}
use Rattle.jc_linker.specs.Values.{Packages}
use Rattle.jc_world.specs.Answers.{and_then}
use Rattle.jc_world.specs.Arrays.{bytes_in}
use Rattle.jc_world.specs.declared.arrays.Stretch.{Stretch}
use Rattle.jc_api.specs.Forms.{CallAnswer, puts}
use Rattle.jc_public_keys.specs.SharedSecrets.{secret_x}
use Rattle.jc_api_keys.specs.Exceptions.{illegal_value}
use Rattle.jc_api_keys.specs.Receivers.{output_of}
use Rattle.jc_api_pairs.specs.CurveParts.{are_curve_parts_short, curve_of_parts, most_number}
use Rattle.jc_api_pairs.specs.declared.key_agreement.algorithms.Secret.{Secret}
use Rattle.jc_api_pairs.specs.declared.key_agreement.algorithms.Secret.TheVariants.{Hashed, Plain}
use Rattle.jc_api_pairs.specs.declared.key_agreement.keys.PrivateParts.{PrivateParts}

-- the parts of a key have no more bytes than the numbers of a curve, and a public key with this many bytes is as long as an uncompressed point
abbrev pub are_short : PrivateParts → ℕ → Bool
are_short parts public = are_curve_parts_short parts.curve && (nat_le parts.secret.count most_number && public == 2 * (parts.curve).field.count + 1)

-- the x that both sides share (SEC 1, 3.3)
abbrev pub shared_x : MemoryState → PrivateParts → ℕ → Stretch → Option (List ℕ)
shared_x m parts factor public = secret_x (curve_of_parts m parts.curve) (bytes_in m parts.secret) factor (bytes_in m public)

-- what is made of it
abbrev pub secret_of : Secret → List ℕ → List ℕ
secret_of Hashed x = sha1 x
secret_of Plain x = x

-- bytes are put into as many elements from the place of the second array on, as one change, and their number is returned
abbrev pub puts_secret : List ℕ → List Cell → Packages → MemoryState → Result CallAnswer FrameExit
puts_secret bytes args p m = and_then (output_of 4 (length bytes) args p m) (λ to. Ok (puts to bytes (pos (length bytes))))

abbrev pub puts_of : Secret → List ℕ → List Cell → Packages → MemoryState → Result CallAnswer FrameExit
puts_of secret x args p m = puts_secret (secret_of secret x) args p m

-- where there is none it throws
abbrev pub puts_if_shared : Secret → List Cell → Packages → MemoryState → Option (List ℕ) → Result CallAnswer FrameExit
puts_if_shared secret args p m None = Err (Throw illegal_value)
puts_if_shared secret args p m (Some x) = puts_of secret x args p m

abbrev pub puts_shared : Secret → PrivateParts → ℕ → Stretch → List Cell → Packages → MemoryState → Result CallAnswer FrameExit
puts_shared secret parts factor public args p m =
    if are_short parts public.count then puts_if_shared secret args p m (shared_x m parts factor public) else Err (Throw illegal_value)
