use Rattle.std.proofs.Common.{◌≢◌, get_or, ◌∙◌, rules}
use Rattle.jcard_arguments.proofs.Digits.{number-parsed}
use Rattle.jcard_arguments.proofs.numbers.number_of.Goals as goal

pub returns : goal.returns
returns c =
    let plain : get_or c.args.text.now 0 0 ≢ 43 = search rules in
    c.ok.ensures.value ∙ number-parsed c.args.text.now c.parse.result c.parse.ensures.value.0 plain
