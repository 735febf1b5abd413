use Rattle.std.proofs.Common.{None, subst}
use Rattle.jcard_sweeps.specs.ScriptLines.{line_of}
use Rattle.jcard_tear.specs.Sweep.{IsLineSwept}
use Rattle.jcard_sweeps.specs.declared.command.Behind.{Behind}
use Rattle.jcard_test.proofs.RowSweeps.{told_all}
use Rattle.jcard_test.proofs.row_sweep.told_of_line.Goals as goal

pub returns-in-Ok : goal.returns-in-Ok
returns-in-Ok c =
    let swept = subst (λ (b : Behind). IsLineSwept c.args.words.now None b (line_of c.args.command) c.in-Ok.sweep) c.nothing_more-behind.ensures c.in-Ok.ensures in
    told_all (λ v. v.items) c.args.budget c.args.words.now (line_of c.args.command) c.in-Ok.sweep c.broken.result swept (rw c.deref.ensures.value at c.broken.ensures)
