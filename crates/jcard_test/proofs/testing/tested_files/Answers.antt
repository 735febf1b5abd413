use Rattle.std.proofs.Common.{subst}
use Rattle.std.proofs.lemmas.List.{take_all}
use Rattle.jcard_test.specs.Tests.{AreTested}
use Rattle.jcard_test.proofs.RowTests.{tested_next, tested_none}
use Rattle.jcard_test.proofs.testing.tested_files.Goals as goal

pub loop-file-init : goal.loop-file-init
loop-file-init g c = rw c.new-tested.ensures.items (tested_none c.args.plan.now)

pub loop-file-preserved : goal.loop-file-preserved
loop-file-preserved g c =
    let next = c.in_ok-add_tested.ensures in
    tested_next c.args.plan.now c.args.files.now c.loop-file.file-index c.file-item.result c.loop-file.tested.items _ next.0
    c.loop-file-test.true c.file-item.is c.loop-file.invariant next.1 next.2

pub returns : goal.returns
returns g c = subst (λ files. AreTested c.args.plan.now files c.loop-file.tested.items)
    (take_all c.loop-file.file-index c.args.files.now c.loop-file-test.false) c.loop-file.invariant
