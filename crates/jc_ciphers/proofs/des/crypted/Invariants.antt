use Rattle.std.proofs.Common.{◌≡◌, ◌<◌, ◌^◌, List, ℕ}
use Rattle.jc_ciphers.specs.Des.{bits_of, rounds, select}
use Rattle.jc_ciphers.specs.DesNumbers.{IsBits, sixes, IsHalves}
use Rattle.jc_ciphers.specs.DesTables.{initial_permutation}
use Rattle.jc_ciphers.proofs.des.crypted.Given as goal

abbrev pub invariant-rounds : goal.invariant-rounds
invariant-rounds l =
    (l.right < 2 ^ 32) × ((bits : List ℕ) → IsBits bits → l.keys ≡ sixes bits
    → IsHalves (rounds l.backwards bits (select initial_permutation (bits_of l.block)) l.n) l.left l.right)
