use Rattle.std.proofs.Common.{◌≡◌, ◌*◌, length, take}
use Rattle.std.specs.Int.{to_be_bytes, w64}
use Rattle.jc_digests.specs.Pieces.{bytes_of_words}
use Rattle.jc_digests.proofs.absorbing.put_words_64.Given as goal

abbrev pub invariant-words : goal.invariant-words
invariant-words l = (take (8 * l.i) l.to ≡ bytes_of_words (to_be_bytes w64) l.words l.i) × (length l.to ≡ 8 * l.count)
