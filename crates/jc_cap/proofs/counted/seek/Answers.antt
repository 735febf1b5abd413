use Rattle.std.proofs.Common.{◌≡◌, ◌-◌, ℕ, subst, arith, drop}
use Rattle.jc_cap.specs.Reading.{many_at, list_or_empty, BeginsWithList}
use Rattle.jc_cap.proofs.Many.{BeginsWithList-length}
use Rattle.jc_cap.proofs.Walk.{step_at, found_at, no_fault_there}
use Rattle.jc_cap.proofs.counted.seek.Goals as goal

pub unreachable-requires : goal.unreachable-requires
unreachable-requires g c = no_fault_there g.K.Part.at c.loop.counter c.args.count c.loop.rest.now
    (list_or_empty (many_at g.K.Part.at c.args.count c.args.bytes.now)) c.in-Err.field-0
    (omega (arith, c.loop-test.true, c.requires.within)) c.loop.invariant c.in-Err.ensures

pub loop-preserved : goal.loop-preserved
loop-preserved g c =
    let xs = list_or_empty (many_at g.K.Part.at c.args.count c.args.bytes.now) in
    step_at g.K.Part.at c.loop.counter c.args.count c.loop.rest.now c.in-Ok.next.now xs
    (BeginsWithList-length g.K.Part.at c.args.count c.args.bytes.now xs c.requires.list)
    (omega (arith, c.loop-test.true, c.requires.within)) c.loop.invariant c.in-Ok.ensures

pub returns : goal.returns
returns g c =
    let xs = list_or_empty (many_at g.K.Part.at c.args.count c.args.bytes.now) in
    let here : c.loop.counter ≡ c.args.index = omega (arith, c.loop-test.false, c.loop.auto.counter-end) in
    let held : BeginsWithList g.K.Part.at (c.args.count - c.args.index) c.loop.rest.now (drop c.args.index xs) =
    subst (λ (k : ℕ). BeginsWithList g.K.Part.at (c.args.count - k) c.loop.rest.now (drop k xs)) here c.loop.invariant in
    found_at g.K.Part.at c.args.index c.args.count c.loop.rest.now xs (BeginsWithList-length g.K.Part.at c.args.count c.args.bytes.now xs c.requires.list)
    c.requires.within held
