use Rattle.std.proofs.Common.{◌≡◌, ◌∙◌, ◌-◌, ◌%◌, ◌∷◌, ◌++◌, ℕ, length, replicate, ap, arith}
use Rattle.jc_digests.specs.Pieces.{filling}
use Rattle.jc_digests.proofs.Pieces.{closed_64}
use Rattle.jc_digests.proofs.absorbing.close_64.Goals as goal

pub returns : goal.returns
returns g c = λ i m was.
    let fill = c.filling.result.now in
    let kept = was.count in
    let zeros : (119 - c.args.count % 64) % 64 ≡ (119 - length m % 64) % 64 = omega (arith, kept) in
    let is : fill ≡ filling 64 (length m) = c.filling.ensures ∙ ap (λ (n : ℕ). 0x80 ∷ replicate n 0) zeros in
    closed_64 g.H.Compression.compressed i m _ _ fill c.args.field.now _
    (c.update_64-2.ensures i (m ++ fill) (c.update_64.ensures i m was)) is
