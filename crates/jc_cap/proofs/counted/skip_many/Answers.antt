use Rattle.std.proofs.lemmas.Result.{err_from_is_err_and}
use Rattle.jc_cap.specs.Reading.{many_at, rest_after}
use Rattle.jc_cap.proofs.Many.{goes_on, ends, is_done, after_ok, after_err}
use Rattle.jc_cap.proofs.counted.skip_many.Goals as goal

pub returns-in_err-rest : goal.returns-in_err-rest
returns-in_err-rest g c =
    let p = err_from_is_err_and c.from_residual.result c.from_residual.ensures.1 in
    rw (p.1, p.2) (ends c.in_err-rest.field-0.0 g.K.Part.at c.args.count c.loop.counter c.loop.rest.now
    (rest_after (many_at g.K.Part.at c.args.count c.args.bytes.now)) c.loop-test.true
    (after_err (g.K.Part.at c.loop.rest.now) c.in_err-rest.field-0.0 c.in_err-rest.ensures) c.loop.invariant)

pub loop-preserved : goal.loop-preserved
loop-preserved g c =
    let r = after_ok (g.K.Part.at c.loop.rest.now) c.in_ok-rest.rest.now c.in_ok-rest.ensures in
    goes_on g.K.Part.at c.args.count c.loop.counter c.loop.rest.now r.0 c.in_ok-rest.rest.now
    (rest_after (many_at g.K.Part.at c.args.count c.args.bytes.now)) c.loop-test.true r.1 c.loop.invariant

pub returns : goal.returns
returns g c = is_done g.K.Part.at c.args.count c.loop.counter c.loop.rest.now (rest_after (many_at g.K.Part.at c.args.count c.args.bytes.now)) c.loop-test.false
    c.loop.invariant
