use Rattle.std.proofs.Common.{◌++◌, codes}
use Rattle.jcard_outcomes.specs.Part.{line_start}
use Rattle.jcard_texts.proofs.Items.{appended}
use Rattle.jcard_outcomes.proofs.part.push_line.Goals as goal

pub returns : goal.returns
returns c = appended c.push_ending.result _ c.push_line_start.new.text.items c.args.text.now.items (line_start c.args.number) (c.args.told.now ++ codes "\n")
    c.in_ok-push_line_start.ensures c.push_ending.ensures
