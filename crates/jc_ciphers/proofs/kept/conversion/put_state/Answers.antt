use Rattle.std.proofs.Common.{List, ℕ, length, length-take-le, take, arith}
use Rattle.jc_ciphers.proofs.Ready.{laid_out}
use Rattle.jc_ciphers.proofs.kept.conversion.put_state.Goals as goal

pub returns : goal.returns
returns c =
    let block = c.args.block.now in
    let used = c.args.used in
    let part : List ℕ = take used block in
    let long = c.requires.state in
    laid_out (length block) used c.args.chain.now part c.put.new.to c.put-2.new.to c.put-3.new.to c.clear_from.new.to
    (length-take-le used block c.requires.used) c.requires.chain
    (omega (arith, long, c.put.auto.to, c.put-2.auto.to, c.put-3.auto.to)) c.put.ensures c.put-2.ensures c.put-3.ensures c.clear_from.ensures
