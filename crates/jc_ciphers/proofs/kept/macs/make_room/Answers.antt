use Rattle.std.proofs.Common.{◌≡◌, ◌++◌, ℕ, List, refl, subst, arith}
use Rattle.jc_ciphers.specs.Modes.{IsUnderWay}
use Rattle.jc_ciphers.proofs.Pieces.{block_done}
use Rattle.jc_ciphers.proofs.kept.macs.make_room.Goals as goal

pub returns-clause-under : goal.returns-clause-under
returns-clause-under g c = λ first m out was.
    let f = g.S.Step.chained c.args.step.now in
    let w = g.S.Step.written c.args.step.now in
    let size = g.S.Step.size in
    let chain = c.args.chain.now in
    let block = c.args.block.now in
    let full : c.args.used ≡ size = omega (arith, c.if-used-block.false, c.requires.used, c.requires.block) in
    let P : ℕ → Type 0 = λ n. IsUnderWay f w size first m chain block n out in (
      out ++ c.step.new.block,
      block_done f w size first m chain block c.step.new.chain c.step.new.block out (out ++ c.step.new.block) (subst P full was)
          c.requires.block c.step.ensures.chained c.step.ensures.written refl,
    )
