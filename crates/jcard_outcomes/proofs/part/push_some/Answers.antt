use Rattle.jcard_outcomes.specs.Part.{difference_told}
use Rattle.jcard_outcomes.proofs.RecoveryReports.{some_pushed}
use Rattle.jcard_outcomes.proofs.part.push_some.Goals as goal

pub returns : goal.returns
returns c = some_pushed c.extend_from_slice.new.self.items c.push_difference.new.text.items c.push_ways.new.text.items c.args.text.now.items
    c.args.recoveries.ways (difference_told c.args.recoveries.difference) c.in_ok-push_ways.ensures c.in_ok-push_difference.ensures c.in_ok-extend_from_slice.ensures.items
