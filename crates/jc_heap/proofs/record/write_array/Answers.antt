use Rattle.std.proofs.Common.{arith}
use Rattle.jc_heap.specs.Package.{array_init}
use Rattle.jc_heap.proofs.FreshRuns.{keeps_then}
use Rattle.jc_heap.proofs.Packing.{length-elements}
use Rattle.jc_heap.proofs.record.write_array.Goals as goal

pub overflow_cast-cells : goal.overflow_cast-cells
overflow_cast-cells g c = omega (arith, length-elements (array_init c.args.array.now), c.requires.small, c.cell_count-cells.ensures)

pub returns-in_err-write_packed-clause-below : goal.returns-in_err-write_packed-clause-below
returns-in_err-write_packed-clause-below g c = keeps_then c.args.at 4 c.args.journal.now c.write_run.new.journal c.write_packed.new.journal
    c.write_run.ensures.below c.write_packed.ensures.below

pub returns-clause-below : goal.returns-clause-below
returns-clause-below g c = keeps_then c.args.at 4 c.args.journal.now c.write_run.new.journal c.write_packed.new.journal c.write_run.ensures.below
    c.write_packed.ensures.below
