use Rattle.std.proofs.Common.{◌∙◌, ap, sym}
use Rattle.jc_instructions.specs.Invoke.{header_of}
use Rattle.jc_instructions.proofs.invoke.header_by.Goals as goal

pub returns-then-is_same : goal.returns-then-is_same
returns-then-is_same c = c.requires ∙ ap (header_of c.args.linked.now) (sym (c.is_same.ensures c.if-is_same.true))
