use Rattle.std.proofs.Common.{◌∙◌, sym}
use Rattle.jc_platform.proofs.Constructors.{if_not_static, if_static}
use Rattle.jc_platform.proofs.names.PlatformMethod.is_constructor.Goals as goal

pub returns-then-is : goal.returns-then-is
returns-then-is c = if_static c.args.self _ c.row-row.ensures c.cells.result (sym c.is.ensures ∙ c.if-is.true) c.cells.ensures

pub returns-else-is : goal.returns-else-is
returns-else-is c = c.if-is.false ∙ if_not_static c.args.self _ c.row-row.ensures (sym c.is.ensures ∙ c.if-is.false)
