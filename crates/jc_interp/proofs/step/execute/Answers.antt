-- A package has each field that does not end by a code fault anyway.
use Rattle.std.proofs.Common.{sym, subst}
use Rattle.jc_memory.specs.Programs.{Executes}
use Rattle.jc_world.specs.Instructions.{after_instruction}
use Rattle.jc_interp.proofs.Lent.{had_field}
use Rattle.jc_interp.proofs.step.execute.Goals as goal

pub returns-in-Field : goal.returns-in-Field
returns-in-Field g c =
    let after = after_instruction c.field_instruction.result c.field_instruction.new.frames c.field_instruction.new.memory in
    rw c.in-Field.is (subst (λ program. Executes program c.args.memory.now after)
    (sym (had_field c.in-Field.field c.args.linked.now c.args.frames.now c.args.memory.now)) c.field_instruction.ensures)
