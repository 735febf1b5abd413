use Rattle.std.proofs.Common.{rules}
use Rattle.jcard_why.specs.Mnemonics.{branches_and_returns}
use Rattle.jcard_why.proofs.Rows.{not_found}
use Rattle.jcard_why.proofs.mnemonics.branch_or_return.Goals as goal

pub returns-in_default : goal.returns-in_default
returns-in_default c = not_found c.args.opcode branches_and_returns (search rules)
