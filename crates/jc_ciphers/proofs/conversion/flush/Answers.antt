use Rattle.std.proofs.Common.{◌∙◌, ◌+◌, ◌++◌, List, ℕ, append_assoc, length, take, sym, ap}
use Rattle.jc_ciphers.proofs.Pieces.{block_done}
use Rattle.jc_ciphers.proofs.conversion.flush.Goals as goal

pub returns-clause-converted : goal.returns-clause-converted
returns-clause-converted g c = λ first m out was.
    let step = c.args.step.now in
    let before : List ℕ = take c.args.written c.args.to.now in
    let made = c.step.new.block in
    block_done (g.S.Step.chained step) (g.S.Step.written step) g.S.Step.size first m c.args.chain.now c.args.block.now c.step.new.chain made
    (out ++ before) (out ++ take (c.args.written + length made) c.put.new.to) was c.requires.block c.step.ensures.chained c.step.ensures.written
    (ap (λ (xs : List ℕ). out ++ xs) c.put.ensures ∙ sym (append_assoc out before made))
