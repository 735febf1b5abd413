use Rattle.std.proofs.Common.{◌≡◌, ◌/◌, List, ℕ}
use Rattle.jc_ciphers.specs.DesNumbers.{AreBits, number_of, nibble_table, source}
use Rattle.jc_ciphers.proofs.DesNumbers.{gathered_bit}
use Rattle.jc_ciphers.proofs.des.permuted.Given as goal

abbrev pub invariant-nibbles : goal.invariant-nibbles
invariant-nibbles l =
    (f : ℕ → ℕ) (p : List ℕ) → AreBits f → l.x ≡ number_of f 64 → l.table ≡ nibble_table p
    → l.to ≡ number_of (gathered_bit (λ j. source p j / 4) (λ j. f (source p j)) l.i) 64
