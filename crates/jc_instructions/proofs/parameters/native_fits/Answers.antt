use Rattle.std.proofs.Common.{◌∙◌, ap, sym}
use Rattle.jc_instructions.specs.Parameters.{kinds_fit}
use Rattle.jc_instructions.proofs.Few.{few, none_fit}
use Rattle.jc_instructions.proofs.parameters.native_fits.Goals as goal

pub kinds_fit-requires-clause-few : goal.kinds_fit-requires-clause-few
kinds_fit-requires-clause-few g c = rw c.parameters-kinds.ensures (few c.args.method)

pub returns-then-is_empty : goal.returns-then-is_empty
returns-then-is_empty g c =
    let p = c.args.linked.now in
    let m = c.args.memory.now in
    let stack = c.args.frames.now.current.stack in
    let none = none_fit c.parameters-kinds.result.now p m stack (sym c.is_empty.ensures ∙ c.if-is_empty.true) in
    c.if-is_empty.true ∙ sym none ∙ ap (λ kinds. kinds_fit kinds p m stack) c.parameters-kinds.ensures
