use Rattle.std.proofs.Common.{arith}
use Rattle.jc_instructions.proofs.Kept.{may_have}
use Rattle.jc_instructions.proofs.array_access.element_write_by_rules.Goals as goal

pub set_known-requires-clause-value : goal.set_known-requires-clause-value
set_known-requires-clause-value g c = grind (arith, may_have)
