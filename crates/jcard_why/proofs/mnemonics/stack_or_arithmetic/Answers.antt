use Rattle.std.proofs.Common.{rules}
use Rattle.jcard_why.specs.Mnemonics.{stack_and_arithmetic}
use Rattle.jcard_why.proofs.Rows.{not_found}
use Rattle.jcard_why.proofs.mnemonics.stack_or_arithmetic.Goals as goal

pub returns-in_default : goal.returns-in_default
returns-in_default c = not_found c.args.opcode stack_and_arithmetic (search rules)
