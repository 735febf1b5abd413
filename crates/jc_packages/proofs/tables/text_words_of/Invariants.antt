use Rattle.std.proofs.Common.{◌≡◌, take}
use Rattle.jc_heap.specs.Image.{text_words}
use Rattle.jc_packages.proofs.tables.text_words_of.Given as goal

abbrev pub invariant-loop-j : goal.invariant-loop-j
invariant-loop-j g l = l.words.items ≡ take l.j (text_words (g.W.ImageWords.words l.image))
