-- How many bytes of a message under a cipher are handed out at once.
use Rattle.std.proofs.Common.{◌≡◌, ◌+◌, ◌*◌, ◌≤◌, ◌++◌, ℕ, Bool, true, false, List, drop, length, arith}
use Rattle.std.proofs.lemmas.List.{length-append, length-drop, length-take}
use Rattle.std.specs.Prelude.{slice_index}
use Rattle.jc_ciphers.specs.Kept.Conversion.{holds_back, released, size_of}
use Rattle.jc_ciphers.specs.Kept.{block_size, open_in, ready_blocks, state_size}
use Rattle.jc_ciphers.specs.declared.kept.BlockAlgorithm.{BlockAlgorithm}
use Rattle.jc_ciphers.specs.declared.kept.BlockAlgorithm.TheVariants.{Aes, Des}
use Rattle.jc_ciphers.specs.declared.kept.conversion.Conversion.{Conversion}

-- no more than there are
ready_few : (a : BlockAlgorithm) (holds : Bool) (n : ℕ) → ready_blocks holds (block_size a) n * block_size a ≤ n
ready_few Aes true n = omega arith
ready_few Aes false n = omega arith
ready_few Des true n = omega arith
ready_few Des false n = omega arith

-- the open block is a block at most
open_few : (a : BlockAlgorithm) (state : List ℕ) → length state ≡ state_size a → length (open_in (block_size a) state) ≤ 16
open_few Aes state all =
    let part = length-take (slice_index state 1) (drop 18 state) in let rest = length-drop 18 state in grind (arith, part, rest, all)
open_few Des state all =
    let part = length-take (slice_index state 1) (drop 10 state) in let rest = length-drop 10 state in grind (arith, part, rest, all)

pub released_few : (v : Conversion) (state piece : List ℕ) → length state ≡ state_size v.algorithm
    → released v (length (open_in (size_of v) state ++ piece)) ≤ 16 + length piece
released_few v state piece all =
    let m : List ℕ = open_in (size_of v) state ++ piece in
    let few = open_few v.algorithm state all in
    let ready = ready_few v.algorithm (holds_back v.direction v.padding) (length m) in
    let long = length-append (open_in (size_of v) state) piece in omega (arith, few, ready, long)
