use Rattle.std.proofs.Common.{◌≢◌, sym, get_or, ◌∙◌, rules}
use Rattle.jc_platform.proofs.Digits.{number-no_text, number-parsed}
use Rattle.jc_platform.proofs.words.number.Goals as goal

pub returns-in-Ok : goal.returns-in-Ok
returns-in-Ok c =
    let plain : get_or c.args.word.now 0 0 ≢ 43 = search rules in
    c.ok.ensures.value ∙ number-parsed c.args.word.now c.parse.result (rw c.in-Ok.ensures.cases.0 at c.parse.ensures.value.0) plain

pub returns-in-Err : goal.returns-in-Err
returns-in-Err c = sym (number-no_text c.args.word.now c.in-Err.ensures.cases.0)
