use Rattle.std.proofs.Common.{◌++◌, codes}
use Rattle.jcard_texts.proofs.Items.{appended}
use Rattle.jcard_outcomes.proofs.verdict.push_no_write.Goals as goal

pub returns : goal.returns
returns c = appended c.push_ending.result _ c.extend_from_slice.new.self.items c.args.text.now.items (codes "no write: answered ")
    (c.args.answer.now ++ codes "\n") c.in_ok-extend_from_slice.ensures.items c.push_ending.ensures
