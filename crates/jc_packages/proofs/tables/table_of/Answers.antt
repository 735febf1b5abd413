use Rattle.std.proofs.Common.{◌∙◌, arith}
use Rattle.jc_packages.proofs.ImageTables.{table_told, too_long}
use Rattle.jc_packages.proofs.tables.table_of.Goals as goal

pub returns-then-from-gt-LARGEST_TEXT : goal.returns-then-from-gt-LARGEST_TEXT
returns-then-from-gt-LARGEST_TEXT g c = λ t table. too_long (g.W.ImageWords.words c.args.image.now)
    (omega (arith, c.word.ensures, c.from.ensures, c.if-from-gt-LARGEST_TEXT.true)) t table

pub returns : goal.returns
returns g c = table_told c.table_in.result (g.W.ImageWords.words c.args.image.now) c.as_slice.result.now (c.has_text.ensures.0 c.if-not-has_text.false)
    (c.as_slice.ensures.value ∙ c.in_ok-text.ensures) c.table_in.ensures
