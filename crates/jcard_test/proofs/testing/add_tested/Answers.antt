use Rattle.jcard_test.proofs.RowTests.{tested_pushed}
use Rattle.jcard_test.proofs.testing.add_tested.Goals as goal

pub returns : goal.returns
returns g c = tested_pushed c.push_tested.result c.args.plan.now c.args.file.now _ _ c.in_ok-one.one c.in_ok-one.ensures c.push_tested.ensures.pushed
    c.push_tested.ensures.refused
