use Rattle.std.proofs.Common.{codes}
use Rattle.jcard_outcomes.specs.Recoveries.{earlier_text, ended_number}
use Rattle.jcard_texts.proofs.Items.{appended_again}
use Rattle.jcard_outcomes.proofs.recoveries.push_writes.Goals as goal

pub returns : goal.returns
returns c = appended_again c.push_ended_number.result _ c.push_earlier.new.text.items c.extend_from_slice.new.self.items c.args.text.now.items
    (codes ", recoveries cut after ") (earlier_text c.args.depth) (ended_number c.args.writes)
    c.in_ok-extend_from_slice.ensures.items c.in_ok-push_earlier.ensures (rw c.from.ensures at c.push_ended_number.ensures)
