use Rattle.std.proofs.Common.{codes, if◌then◌else◌}
use Rattle.jcard_texts.proofs.Items.{appended}
use Rattle.jcard_outcomes.proofs.verdict.push_claim.Goals as goal

pub returns : goal.returns
returns c = appended c.push_either.result _ c.extend_from_slice.new.self.items c.args.text.now.items (codes "all or nothing")
    (if c.args.tries then codes " but for PIN tries: " else codes ": ") c.in_ok-extend_from_slice.ensures.items c.push_either.ensures
