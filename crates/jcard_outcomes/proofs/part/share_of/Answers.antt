use Rattle.std.proofs.Common.{◌<◌, rules}
use Rattle.jcard_outcomes.proofs.Shares.{no_later, no_rank, no_step, no_zero}
use Rattle.jcard_outcomes.proofs.part.share_of.Goals as goal

pub returns-in_default-word_of : goal.returns-in_default-word_of
returns-in_default-word_of c = no_rank c.args.text.now c.in-Some.digits.now c.in-Some.rest.now c.in-Some.ensures.0 c.in-Some.ensures.1 c.in_default-word_of.ensures

pub returns-in_default-word_of-2 : goal.returns-in_default-word_of-2
returns-in_default-word_of-2 c = no_step c.args.text.now c.in-Some.digits.now c.in-Some.rest.now c.in-Some.ensures.0 c.in-Some.ensures.1
    c.in_default-word_of-2.ensures

pub returns-then-rank-eq0 : goal.returns-then-rank-eq0
returns-then-rank-eq0 c =
    let low : c.in-Some-word_of.rank < 65536 = search rules in
    let small : c.in-Some-word_of-2.step < 65536 = search rules in
    no_zero c.args.text.now c.in-Some.digits.now c.in-Some.rest.now c.in-Some-word_of.rank c.in-Some-word_of-2.step c.in-Some.ensures.0 c.in-Some.ensures.1
    c.in-Some-word_of.ensures c.in-Some-word_of-2.ensures low small c.if-rank-eq0.true

pub returns-then-rank-step : goal.returns-then-rank-step
returns-then-rank-step c =
    let low : c.in-Some-word_of.rank < 65536 = search rules in
    let small : c.in-Some-word_of-2.step < 65536 = search rules in
    no_later c.args.text.now c.in-Some.digits.now c.in-Some.rest.now c.in-Some-word_of.rank c.in-Some-word_of-2.step c.in-Some.ensures.0 c.in-Some.ensures.1
    c.in-Some-word_of.ensures c.in-Some-word_of-2.ensures low small c.if-rank-step.true
