use Rattle.std.proofs.Common.{◌∙◌, sym}
use Rattle.jc_packages.proofs.ImageTables.{text_words-word}
use Rattle.jc_packages.proofs.tables.text_word.Goals as goal

pub returns : goal.returns
returns g c = c.word.ensures ∙ sym (text_words-word (g.W.ImageWords.words c.args.image.now) c.args.j c.requires.text c.requires.word)
