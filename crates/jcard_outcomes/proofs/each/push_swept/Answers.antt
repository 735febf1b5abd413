use Rattle.jcard_outcomes.specs.Report.{line_recoveries_text, verdict_text}
use Rattle.jcard_texts.proofs.Items.{appended_again}
use Rattle.jcard_outcomes.proofs.each.push_swept.Goals as goal

pub returns : goal.returns
returns c =
    let sweep = c.args.sweep.now in
    let head = c.args.head.now in
    appended_again c.push_line_recoveries.result _ c.push_verdict.new.text.items c.extend_from_slice.new.self.items c.args.text.now.items head
    (verdict_text sweep.answer.items sweep.cuts.items) (line_recoveries_text sweep.depth head sweep.cuts.items) c.in_ok-extend_from_slice.ensures.items
    (rw (c.deref.ensures.value, c.deref-2.ensures.value) at c.in_ok-push_verdict.ensures) (rw c.deref-3.ensures.value at c.push_line_recoveries.ensures)
