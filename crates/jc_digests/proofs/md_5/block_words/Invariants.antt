use Rattle.std.proofs.Common.{◌≡◌, length, take}
use Rattle.md5.specs.Md5.{block_words}
use Rattle.jc_digests.proofs.md_5.block_words.Given as goal

abbrev pub invariant-words : goal.invariant-words
invariant-words l = (take l.i l.words ≡ block_words l.block l.i) × (length l.words ≡ 16)
