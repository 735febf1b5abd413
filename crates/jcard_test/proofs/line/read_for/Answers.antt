use Rattle.std.proofs.Common.{refl}
use Rattle.jcard_test.proofs.LineMeanings.{loop_named, loop_unnamed}
use Rattle.jcard_test.proofs.line.read_for.Goals as goal

pub returns-in-Some : goal.returns-in-Some
returns-in-Some c = loop_named c.args.words.now c.in_ok-word.word.now c.in_ok-word.more.now c.in-Some.first.now c.in-Some.last.now c.read_numbers.result
    c.in_ok-word.ensures.cases c.in-Some.ensures.cases c.read_numbers.ensures

pub returns : goal.returns
returns c = loop_unnamed c.args.words.now c.in_ok-word.word.now c.in_ok-word.more.now c.read_numbers-2.result c.in_ok-word.ensures.cases
    (c.in_default.ensures.cases, refl) c.read_numbers-2.ensures
