use Rattle.std.proofs.Common.{ap, sym, ◌∙◌}
use Rattle.jc_instructions.specs.ArrayElements.{has_elements}
use Rattle.jc_instructions.proofs.Kept.{may_have}
use Rattle.jc_instructions.proofs.array_access.element_write.Goals as goal

pub set_known-requires-clause-value : goal.set_known-requires-clause-value
set_known-requires-clause-value g c =
    let there = c.in-Some.ensures.there in
    may_have c.args.of_type c.args.memory.now c.args.reference c.args.value (ap (λ f. has_elements c.args.of_type f.kind) (sym there.1.is) ∙ there.2)
    c.requires.value (c.is_number.ensures.refers c.args.memory.now c.if-is_number.true)
