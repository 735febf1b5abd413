-- InitializedMessageDigest (API specification).
use Rattle.std.specs.Prelude.{ℕ, zero, suc, ◌+◌, ◌*◌, ◌%◌, ◌^◌, ◌==◌, ◌&&◌, not, nat_lt, Bool, true, List, length, slice_index, Option, Some, None, Result, Ok, Err}
use Rattle.std.specs.Prelude.{if◌then◌else◌}
use Rattle.std.specs.Option.{option_and_then}
use Rattle.jc_digests.specs.Kept.{block_size, hash_size, state_from}
use Rattle.jc_digests.specs.declared.kept.HashAlgorithm.{HashAlgorithm}
use Rattle.jc_digests.specs.declared.kept.HashAlgorithm.TheVariants.{Md5, Sha1, Sha224, Sha256, Sha384, Sha512}
use Rattle.jc_frames.specs.declared.cell.Cell.{Cell}
use Rattle.jc_frames.specs.declared.outcome.FrameExit.{FrameExit}
use Rattle.jc_frames.specs.declared.outcome.FrameExit.TheVariants.{Throw}
use Rattle.jc_memory.specs.State.{MemoryState}
use Rattle.jc_platform.specs.declared.names.PlatformClass.TheVariants.{InitializedMessageDigest}
use Rattle.jc_linker.specs.Values.{Packages}
use Rattle.jc_world.specs.Answers.{and_then}
use Rattle.jc_world.specs.Arrays.{bytes_in}
use Rattle.jc_world.specs.declared.arrays.Stretch.{Stretch}
use Rattle.jc_api.specs.Arguments.{counted_of}
use Rattle.jc_api.specs.Changing.{EngineAnswer}
use Rattle.jc_api_keys.specs.Exceptions.{illegal_value}
use Rattle.jc_api_crypto.specs.MessageDigest.{running_digest, sets_state}
use Rattle.jc_api_keys.specs.Shorts.{shorts_of}
use Rattle.jc_api_keys.specs.declared.digest_states.RunningDigest.{RunningDigest}

-- the number that the first n bytes are, the high one first
unfoldable pub first_number : List ℕ → ℕ → ℕ
first_number bytes zero = 0
first_number bytes (suc n) = first_number bytes n * 256 + slice_index bytes n

-- the number that bytes are, where a state can count up to it
abbrev pub count_in : List ℕ → Option ℕ
count_in bytes = if nat_lt (first_number bytes (length bytes)) (2 ^ 64) then Some (first_number bytes (length bytes)) else None

-- the length that ends the padding, in bits, can be that of n bytes: it has 64 bits, for SHA-384 and SHA-512 128
abbrev pub is_counted : HashAlgorithm → ℕ → Bool
is_counted Md5 n = nat_lt n (2 ^ 61)
is_counted Sha1 n = nat_lt n (2 ^ 61)
is_counted Sha224 n = nat_lt n (2 ^ 61)
is_counted Sha256 n = nat_lt n (2 ^ 61)
is_counted Sha384 n = true
is_counted Sha512 n = true

-- n bytes are whole blocks, at least one
abbrev pub is_whole : HashAlgorithm → ℕ → Bool
is_whole a n = not (n == 0) && n % block_size a == 0

-- how many bytes came before a hash value, which is of this many bytes, if it may be set
abbrev pub count_before : HashAlgorithm → ℕ → List ℕ → Option ℕ
count_before a long bytes = if long == hash_size a
    then option_and_then (λ n. if is_whole a n && is_counted a n then Some n else None) (count_in bytes) else None

-- the first elements are a hash value, the others the number of bytes before it
abbrev pub begins_after : MemoryState → RunningDigest → Stretch → Option ℕ → Result EngineAnswer FrameExit
begins_after m own hash None = Err (Throw illegal_value)
begins_after m own hash (Some n) = Ok (sets_state own (shorts_of (state_from own.algorithm (bytes_in m hash) n)))

abbrev pub begins_from : MemoryState → RunningDigest → Stretch → Stretch → Result EngineAnswer FrameExit
begins_from m own hash count = begins_after m own hash (count_before own.algorithm hash.count (bytes_in m count))

-- InitializedMessageDigest.setInitialDigest: the hash value of the first bytes of a message is given, and how many these are: some whole blocks
unfoldable pub initialized_message_digest_set_initial_digest : List Cell → Packages → MemoryState → Result EngineAnswer FrameExit
initialized_message_digest_set_initial_digest args p m = and_then (running_digest InitializedMessageDigest args p m) (λ own.
    and_then (counted_of 1 args p m) (λ hash. and_then (counted_of 4 args p m) (λ count. begins_from m own hash count)))
