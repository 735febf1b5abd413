use Rattle.std.proofs.Common.{◌≡◌, ◌∙◌, ◌+◌, ◌-◌, ◌/◌, ◌%◌, ◌++◌, ◌∷◌, ◌≤◌, ℕ, List, length, replicate, take, ap, arith}
use Rattle.jc_digests.specs.Pieces.{filling, hash_after}
use Rattle.jc_digests.proofs.Pieces.{absorbed_here, filling_is, hash_is}
use Rattle.jc_digests.proofs.absorbing.close.Goals as goal

pub returns : goal.returns
returns g c =
    let f = g.H.Compression.compressed in
    let size = g.H.Compression.size in
    let h = g.H.Compression.words c.args.hash.now in
    let b = c.args.block.now in
    let used = c.args.used in
    let m : List ℕ = take used b in
    let fill = c.filling.result.now in
    let field = c.args.field.now in
    let known : length b ≡ size = c.requires.block in
    let fits : used ≤ length b = omega arith in
    let zeros : (length b + length b - length b / 8 - 1 - used) % length b ≡ (size + size - size / 8 - 1 - used) % size =
    ap (λ (n : ℕ). (n + n - n / 8 - 1 - used) % n) known in
    let is : fill ≡ filling size (length m) = c.filling.ensures ∙ ap (λ (n : ℕ). 0x80 ∷ replicate n 0) zeros ∙ filling_is size used b c.requires.used fits in
    let first = c.absorb-filled.ensures.absorbed h m (absorbed_here f size h b used fits) in
    let last = c.absorb.ensures.absorbed h (m ++ fill) first in
    hash_is f size h ((m ++ fill) ++ field) _ _ _ last c.absorb.ensures.within
    ∙ ap (λ (p : List ℕ). hash_after f size h ((m ++ p) ++ field) (length ((m ++ p) ++ field) / size)) is
