-- The first bytes of a message, which a signature by ISO/IEC 9796-2 keeps until it ends.
use Rattle.std.specs.Prelude.{ℕ, ◌-◌, List, [], ◌++◌, length, min}
use Rattle.jc_memory.specs.State.{MemoryState}
use Rattle.jc_world.specs.Arrays.{bytes_in}
use Rattle.jc_world.specs.declared.arrays.Stretch.{Stretch}
use Rattle.jc_api_ciphers.specs.Gathered.{gathered, state_of}
use Rattle.jc_api_ciphers.specs.declared.signature.pair.RunningPair.{RunningPair}
use Rattle.jc_api_ciphers.specs.declared.signature.pair_algorithms.PairSignature.{PairSignature}
use Rattle.jc_api_ciphers.specs.declared.signature.pair_algorithms.PairSignature.TheVariants.{Ecdsa, Iso9796, Rsa}
use Rattle.jc_api_keys.specs.Shorts.{shorts_of}

-- elements, no more of them than this
abbrev pub no_more_than : ℕ → Stretch → Stretch
no_more_than most e = record { array = e.array; start = e.start; count = min e.count most }

-- what was kept and elements after it, as many bytes as the longest modulus has
abbrev pub kept_with : MemoryState → Stretch → Stretch → List ℕ
kept_with m kept e = gathered m kept ++ bytes_in m (no_more_than (512 - length (gathered m kept)) e)

-- the first bytes of the message with these elements, of which a signature is made: none but for ISO/IEC 9796-2
abbrev pub first_bytes : PairSignature → MemoryState → RunningPair → Stretch → List ℕ
first_bytes (Rsa padding h) m own e = []
first_bytes (Ecdsa h) m own e = []
first_bytes Iso9796 m own e = kept_with m own.kept e

-- the shorts that keep them
abbrev pub kept_words : PairSignature → MemoryState → RunningPair → Stretch → List ℕ
kept_words (Rsa padding h) m own e = []
kept_words (Ecdsa h) m own e = []
kept_words Iso9796 m own e = shorts_of (state_of (kept_with m own.kept e))
