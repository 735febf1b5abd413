use Rattle.std.proofs.Common.{codes, decimal}
use Rattle.jcard_outcomes.specs.Recoveries.{writes_text}
use Rattle.jcard_texts.proofs.Items.{appended_again}
use Rattle.jcard_outcomes.proofs.recoveries.push_different.Goals as goal

pub returns : goal.returns
returns c = appended_again c.push_writes.result _ c.push_number.new.text.items c.extend_from_slice.new.self.items c.args.text.now.items
    (codes "a recovery made a difference: first at cut ") (decimal c.args.number) (writes_text c.args.depth c.args.writes)
    c.in_ok-extend_from_slice.ensures.items c.in_ok-push_number.ensures c.push_writes.ensures
