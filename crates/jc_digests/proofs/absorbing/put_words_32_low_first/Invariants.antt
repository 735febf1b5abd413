use Rattle.std.proofs.Common.{◌≡◌, ◌*◌, length, take}
use Rattle.std.specs.Int.{to_le_bytes, w32}
use Rattle.jc_digests.specs.Pieces.{bytes_of_words}
use Rattle.jc_digests.proofs.absorbing.put_words_32_low_first.Given as goal

abbrev pub invariant-words : goal.invariant-words
invariant-words l = (take (4 * l.i) l.to ≡ bytes_of_words (to_le_bytes w32) l.words l.i) × (length l.to ≡ 4 * l.count)
