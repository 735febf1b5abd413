use Rattle.std.proofs.Common.{◌∙◌, sym}
use Rattle.jcard_test.proofs.Numbering.{ended_open}
use Rattle.jcard_test.proofs.lines.ended.Goals as goal

pub returns : goal.returns
returns c = ended_open (λ v. v.items) c.args.loops.items c.args.lines.items c.args.loops.len c.swap_remove.result c.without_end.result c.args.loops.ok.0
    (sym c.is_empty.ensures ∙ c.if-is_empty.false) c.swap_remove.ensures.value c.without_end.ensures
