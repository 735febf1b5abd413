use Rattle.std.proofs.Common.{◌++◌, codes}
use Rattle.jcard_outcomes.specs.Report.{ended, in_line, rows_text}
use Rattle.jcard_texts.proofs.Items.{appended_flat}
use Rattle.jcard_outcomes.proofs.report.push_told_rows.Goals as goal

pub returns : goal.returns
returns c =
    let sweep = c.args.sweep.now in
    appended_flat c.push_uncut.result _ c.push_rows.new.text.items c.args.text.now.items (rows_text sweep.cuts.items) (codes "no cut, answer ")
    sweep.answer.items (ended (in_line sweep.after.answers.items ++ codes "as after")) (rw c.deref.ensures.value at c.in_ok-push_rows.ensures)
    (rw (c.deref-3.ensures.value, c.deref-4.ensures.value, c.in_ok-outcome.ensures, c.deref-2.ensures.value) at c.push_uncut.ensures)
