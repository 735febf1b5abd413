use Rattle.std.proofs.Common.{length}
use Rattle.jc_heap.proofs.FreshRuns.{keeps_then}
use Rattle.jc_heap.proofs.fresh.write_record.Goals as goal

pub returns-in_err-write_zeros-clause-below : goal.returns-in_err-write_zeros-clause-below
returns-in_err-write_zeros-clause-below g c =
    keeps_then c.args.at (length c.args.header.now) c.args.journal.now c.write_run.new.journal c.write_zeros.new.journal c.write_run.ensures.below
    c.write_zeros.ensures.below

pub returns-clause-below : goal.returns-clause-below
returns-clause-below g c =
    keeps_then c.args.at (length c.args.header.now) c.args.journal.now c.write_run.new.journal c.write_zeros.new.journal c.write_run.ensures.below
    c.write_zeros.ensures.below
