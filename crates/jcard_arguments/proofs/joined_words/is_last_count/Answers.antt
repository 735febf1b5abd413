use Rattle.std.proofs.Common.{◌∙◌, Some, None, ap, lit<}
use Rattle.std.proofs.lemmas.Str.Pattern.{strip_prefix_char}
use Rattle.clap.proofs.LexerLemmas.{strip_byte-from}
use Rattle.jcard_arguments.specs.JoinedWords.{are_digits}
use Rattle.jcard_arguments.proofs.joined_words.is_last_count.Goals as goal

pub returns-in-Some : goal.returns-in-Some
returns-in-Some c = c.are_digits.ensures ∙ ap are_digits
    (strip_byte-from 45 c.args.word.now (Some c.in-Some.digits) (strip_prefix_char 45 c.args.word.now (Some c.in-Some.digits) c.in-Some.ensures.cases (lit< tt)))

pub returns-in-None : goal.returns-in-None
returns-in-None c = ap are_digits
    (strip_byte-from 45 c.args.word.now None (strip_prefix_char 45 c.args.word.now None c.in-None.ensures.cases (lit< tt)))
