-- Random bytes of a seed and a message.
use Rattle.std.specs.Prelude.{ℕ, List, ◌++◌}
use Rattle.jc_digests.specs.declared.kept.HashAlgorithm.TheVariants.{Sha256}
use Rattle.jc_rsa.specs.Mgf1.{mgf1}

-- this many bytes: SHA-256 (seed ‖ message ‖ number) for the numbers 0, 1, 2 .. of four bytes
abbrev pub random_bytes : List ℕ → List ℕ → ℕ → List ℕ
random_bytes seed message count = mgf1 Sha256 (seed ++ message) count
