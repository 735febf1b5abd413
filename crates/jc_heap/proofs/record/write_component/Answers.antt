use Rattle.jc_heap.proofs.FreshRuns.{keeps_then}
use Rattle.jc_heap.proofs.record.write_component.Goals as goal

pub returns-in_err-write_packed-clause-below : goal.returns-in_err-write_packed-clause-below
returns-in_err-write_packed-clause-below g c = keeps_then c.args.at 2 c.args.journal.now c.write_run.new.journal c.write_packed.new.journal
    c.write_run.ensures.below c.write_packed.ensures.below

pub returns-clause-below : goal.returns-clause-below
returns-clause-below g c = keeps_then c.args.at 2 c.args.journal.now c.write_run.new.journal c.write_packed.new.journal c.write_run.ensures.below
    c.write_packed.ensures.below
