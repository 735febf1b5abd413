use Rattle.std.proofs.Common.{◌∙◌, Some, None, ap, lit<}
use Rattle.std.proofs.lemmas.Str.Pattern.{strip_prefix_char}
use Rattle.clap.proofs.LexerLemmas.{strip_byte-from}
use Rattle.jcard_arguments.specs.Numbers.{lines_by}
use Rattle.jcard_arguments.proofs.numbers.lines_of.Goals as goal

pub returns-in-Some : goal.returns-in-Some
returns-in-Some c = c.last_lines.ensures ∙ ap (λ s. lines_by s c.args.text.now)
    (strip_byte-from 45 c.args.text.now (Some c.in-Some.digits) (strip_prefix_char 45 c.args.text.now (Some c.in-Some.digits) c.in-Some.ensures.cases (lit< tt)))

pub returns-in-None : goal.returns-in-None
returns-in-None c = c.first_lines.ensures ∙ ap (λ s. lines_by s c.args.text.now)
    (strip_byte-from 45 c.args.text.now None (strip_prefix_char 45 c.args.text.now None c.in-None.ensures.cases (lit< tt)))
