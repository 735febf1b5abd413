use Rattle.std.proofs.Common.{◌≡◌, ℕ, ◌<◌, slice_index}
use Rattle.jc_heap.specs.Image.{text_words}
use Rattle.jc_packages.proofs.tables.agrees_with_text.Given as goal

abbrev pub invariant-loop-j : goal.invariant-loop-j
invariant-loop-j g l = (i : ℕ) → i < l.j → slice_index l.words i ≡ slice_index (text_words (g.W.ImageWords.words l.image)) i
