use Rattle.std.proofs.Common.{rules}
use Rattle.jcard_why.specs.Mnemonics.{constants_and_locals}
use Rattle.jcard_why.proofs.Rows.{not_found}
use Rattle.jcard_why.proofs.mnemonics.constant_or_local.Goals as goal

pub returns-in_default : goal.returns-in_default
returns-in_default c = not_found c.args.opcode constants_and_locals (search rules)
