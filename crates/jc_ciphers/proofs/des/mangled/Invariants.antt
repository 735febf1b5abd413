use Rattle.std.proofs.Common.{◌≡◌, ◌/◌, List, ℕ, slice_index}
use Rattle.jc_ciphers.specs.Des.{keyed, select, substituted_bit}
use Rattle.jc_ciphers.specs.DesNumbers.{IsBits, number_of, sixes, source}
use Rattle.jc_ciphers.specs.DesTables.{expansion, permutation}
use Rattle.jc_ciphers.proofs.DesNumbers.{gathered_bit}
use Rattle.jc_ciphers.proofs.des.mangled.Given as goal

abbrev pub invariant-boxes : goal.invariant-boxes
invariant-boxes l =
    (half bits : List ℕ) → IsBits half → IsBits bits → l.fn.right ≡ number_of (slice_index half) 32 → l.keys ≡ sixes bits
    → l.mixed ≡ number_of (gathered_bit (λ j. source permutation j / 4) (λ j. substituted_bit (keyed (select expansion half) bits l.fn.n) (source permutation j)) l.i) 32
