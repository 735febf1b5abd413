use Rattle.std.proofs.Common.{◌≡◌, ◌∙◌, ◌-◌, ◌%◌, ◌∷◌, ◌++◌, ℕ, length, replicate, ap, arith}
use Rattle.jc_digests.specs.Pieces.{filling}
use Rattle.jc_digests.proofs.Pieces.{closed_128}
use Rattle.jc_digests.proofs.absorbing.close_128.Goals as goal

pub returns : goal.returns
returns g c = λ i m was.
    let fill = c.filling.result.now in
    let kept = was.count in
    let zeros : (239 - c.args.count % 128) % 128 ≡ (239 - length m % 128) % 128 = omega (arith, kept) in
    let is : fill ≡ filling 128 (length m) = c.filling.ensures ∙ ap (λ (n : ℕ). 0x80 ∷ replicate n 0) zeros in
    closed_128 g.H.Compression.compressed i m _ _ fill c.args.field.now _
    (c.update_128-2.ensures i (m ++ fill) (c.update_128.ensures i m was)) is
