use Rattle.std.proofs.Common.{codes}
use Rattle.jcard_outcomes.specs.Recoveries.{depth_text, ways_text}
use Rattle.jcard_texts.proofs.Items.{appended_again}
use Rattle.jcard_outcomes.proofs.recoveries.push_same.Goals as goal

pub returns : goal.returns
returns c = appended_again c.push_depth.result _ c.push_ways.new.text.items c.extend_from_slice.new.self.items c.args.text.now.items
    (codes "no recovery made a difference: ") (ways_text c.args.ways) (depth_text c.args.depth)
    c.in_ok-extend_from_slice.ensures.items c.in_ok-push_ways.ensures c.push_depth.ensures
