use Rattle.std.proofs.lemmas.Result.{err_from_is_err_and}
use Rattle.jc_cap.specs.Reading.{many_at, rest_after}
use Rattle.jc_cap.specs.ClassReading.{super_at, is_known_class}
use Rattle.jc_cap.proofs.Many.{goes_on, ends, is_done}
use Rattle.jc_cap.proofs.class_reading.after_supers.Goals as goal

pub returns-in_err-next : goal.returns-in_err-next
returns-in_err-next c =
    let p = err_from_is_err_and c.from_residual.result c.from_residual.ensures.1 in
    rw (p.1, p.2) (ends c.in_err-next.field-0.0 (super_at (is_known_class c.args.known)) c.args.count c.loop.counter c.loop.rest.now
    (rest_after (many_at (super_at (is_known_class c.args.known)) c.args.count c.args.bytes.now)) c.loop-test.true c.in_err-next.ensures c.loop.invariant)

pub loop-preserved : goal.loop-preserved
loop-preserved c = goes_on (super_at (is_known_class c.args.known)) c.args.count c.loop.counter c.loop.rest.now c.in_ok-next.field-0-0 c.in_ok-next.next.now
    (rest_after (many_at (super_at (is_known_class c.args.known)) c.args.count c.args.bytes.now)) c.loop-test.true c.in_ok-next.ensures c.loop.invariant

pub returns : goal.returns
returns c = is_done (super_at (is_known_class c.args.known)) c.args.count c.loop.counter c.loop.rest.now
    (rest_after (many_at (super_at (is_known_class c.args.known)) c.args.count c.args.bytes.now)) c.loop-test.false c.loop.invariant
