use Rattle.std.proofs.Common.{arith, rules, ◌<◌, ◌≤◌}
use Rattle.jcard_outcomes.proofs.ShareLists.{count_is, count_of_no_more}
use Rattle.jcard_outcomes.proofs.command_shares.tells_more.Goals as goal

pub returns-in_default-word_of : goal.returns-in_default-word_of
returns-in_default-word_of c = λ m more late small e. c.in_default-word_of.ensures m small
    (count_is c.args.rest.now c.in-Some.rest.now c.in-Some-cut_once.digits.now c.in-Some-cut_once._rest.now c.in-Some.ensures c.in-Some-cut_once.ensures.0
    c.in-Some-cut_once.ensures.1 m more small e)

pub returns : goal.returns
returns c =
    let fits : c.in-Some-word_of.shares < 65536 = search rules in
    let low : c.in-Some-word_of.shares ≤ c.args.count = omega (arith, c.from.ensures, c.if-from-count.false) in
    count_of_no_more c.args.rest.now c.in-Some.rest.now c.in-Some-cut_once.digits.now c.in-Some-cut_once._rest.now c.in-Some-word_of.shares c.args.count
    c.in-Some.ensures c.in-Some-cut_once.ensures.0 c.in-Some-cut_once.ensures.1 c.in-Some-word_of.ensures fits low
