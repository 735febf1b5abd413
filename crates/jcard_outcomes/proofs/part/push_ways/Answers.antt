use Rattle.std.proofs.Common.{codes, decimal}
use Rattle.jcard_outcomes.proofs.RecoveryReports.{in_three}
use Rattle.jcard_outcomes.proofs.part.push_ways.Goals as goal

pub returns : goal.returns
returns c = in_three c.extend_from_slice-2.new.self.items c.push_count.new.text.items c.extend_from_slice.new.self.items c.args.text.now.items (codes "recoveries ")
    (decimal c.args.ways) (codes " ") c.in_ok-extend_from_slice.ensures.items c.in_ok-push_count.ensures c.in_ok-extend_from_slice-2.ensures.items
