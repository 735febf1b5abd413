use Rattle.std.proofs.Common.{◌++◌, ◌≤◌, ℕ, List, length, take, arith}
use Rattle.jc_digests.proofs.Pieces.{absorbed_here, hash_is, rest_is}
use Rattle.jc_digests.proofs.absorbing.take_in.Goals as goal

pub returns-clause-hash : goal.returns-clause-hash
returns-clause-hash g c =
    let f = g.H.Compression.compressed in
    let size = g.H.Compression.size in
    let h = g.H.Compression.words c.args.hash.now in
    let b = c.args.block.now in
    let m : List ℕ = take c.args.used b in
    let fits : c.args.used ≤ length b = omega arith in
    hash_is f size h (m ++ c.args.piece.now) _ _ _ (c.absorb.ensures.absorbed h m (absorbed_here f size h b c.args.used fits)) c.absorb.ensures.within

pub returns-clause-rest : goal.returns-clause-rest
returns-clause-rest g c =
    let f = g.H.Compression.compressed in
    let size = g.H.Compression.size in
    let h = g.H.Compression.words c.args.hash.now in
    let b = c.args.block.now in
    let m : List ℕ = take c.args.used b in
    let fits : c.args.used ≤ length b = omega arith in
    rest_is f size h (m ++ c.args.piece.now) _ _ _ (c.absorb.ensures.absorbed h m (absorbed_here f size h b c.args.used fits)) c.absorb.ensures.within
