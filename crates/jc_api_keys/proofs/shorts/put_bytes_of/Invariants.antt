use Rattle.std.proofs.Common.{◌≡◌, ◌*◌, length, take}
use Rattle.std.specs.Int.{to_be_bytes, w16}
use Rattle.jc_digests.specs.Pieces.{bytes_of_words}
use Rattle.jc_api_keys.proofs.shorts.put_bytes_of.Given as goal

abbrev pub invariant-words : goal.invariant-words
invariant-words l = (take (2 * l.i) l.to ≡ bytes_of_words (to_be_bytes w16) l.words l.i) × (length l.to ≡ 2 * length l.words)
