use Rattle.std.proofs.Common.{◌≡◌, ◌≤◌, ◌+◌, ◌-◌, length, slice_set, arith}
use Rattle.std.proofs.lemmas.List.{length-set}
use Rattle.jc_ciphers.proofs.KeptBlocks.{state_put}
use Rattle.jc_ciphers.proofs.kept.macs.put_state.Goals as goal

pub returns : goal.returns
returns c =
    let state = c.args.state.now in
    let chain = c.args.chain.now in
    let rest = c.args.rest.now in
    let n = length rest in
    let left : length c.put-2.new.to - (2 + length chain + n) ≡ length chain - n =
    omega (arith, c.put-2.auto.to, c.put.auto.to, length-set (slice_set state 0 1) 1 n, length-set state 0 1, c.requires.state) in
    state_put state c.put.new.to c.put-2.new.to c.clear_from.new.to chain rest n (length c.put-2.new.to - (2 + length chain + n))
    (omega (arith, c.requires.state)) c.put.ensures c.put-2.ensures c.clear_from.ensures left
