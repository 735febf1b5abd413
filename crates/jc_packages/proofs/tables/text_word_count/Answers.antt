use Rattle.std.proofs.Common.{arith}
use Rattle.jc_packages.proofs.ImageTables.{length-text_words}
use Rattle.jc_packages.proofs.tables.text_word_count.Goals as goal

pub returns-clause-exact : goal.returns-clause-exact
returns-clause-exact g c = let long = length-text_words (g.W.ImageWords.words c.args.image.now) c.requires in omega (arith, long, c.word.ensures, c.from.ensures)
