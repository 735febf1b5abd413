use Rattle.std.proofs.Common.{rules}
use Rattle.jcard_why.specs.Mnemonics.{fields_calls_and_objects}
use Rattle.jcard_why.proofs.Rows.{not_found}
use Rattle.jcard_why.proofs.mnemonics.field_call_or_object.Goals as goal

pub returns-in_default : goal.returns-in_default
returns-in_default c = not_found c.args.opcode fields_calls_and_objects (search rules)
