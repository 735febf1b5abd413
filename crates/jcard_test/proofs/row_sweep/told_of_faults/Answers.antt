use Rattle.std.proofs.Common.{◌∙◌}
use Rattle.jcard_sweeps.specs.ScriptLines.{line_of}
use Rattle.jcard_test.proofs.RowSweeps.{struck_all}
use Rattle.jcard_test.proofs.row_sweep.told_of_faults.Goals as goal

pub returns-in-Ok : goal.returns-in-Ok
returns-in-Ok c =
    let is = c.attacked_in-attacked.ensures in
    let probe = is.probe ∙ (c.deref.ensures.value ∙ c.in_ok-probe.ensures) in
    struck_all (λ v. v.items) c.args.budget c.args.words.now (line_of c.args.command) c.args.probe.now c.in-Ok.sweep c.accepted.result
    (c.attacked_in-attacked.result, c.usual_faults.result, (is.before, is.line, probe, is.instructions), c.usual_faults.ensures, c.in-Ok.ensures)
    (rw c.deref-in-Ok.ensures.value at c.accepted.ensures)
