use Rattle.std.proofs.Common.{◌≡◌, ◌+◌, length, refl, arith}
use Rattle.jc_digests.proofs.Pieces.{absorbed_full, absorbed_open}
use Rattle.jc_digests.proofs.absorbing.absorb_part.Goals as goal

pub returns-then-end-block-clause-absorbed : goal.returns-then-end-block-clause-absorbed
returns-then-end-block-clause-absorbed g c = λ i m was.
    absorbed_open g.H.Compression.compressed g.H.Compression.size i m (g.H.Compression.words c.args.hash.now) c.args.block.now c.put.new.block
    c.args.part.now c.args.used (c.args.used + length c.args.part.now) was refl c.put.ensures

pub returns-clause-absorbed : goal.returns-clause-absorbed
returns-clause-absorbed g c = λ i m was.
    let size = g.H.Compression.size in
    let known = c.requires.block in
    let fits = c.requires.fits in
    let kept = c.put.auto.block in
    let long : length c.put.new.block ≡ size = omega (arith, known, kept) in
    let full : c.args.used + length c.args.part.now ≡ size = omega (arith, known, kept, fits) in
    absorbed_full g.H.Compression.compressed size i m (g.H.Compression.words c.args.hash.now) (g.H.Compression.words c.compress.new.self)
    c.args.block.now c.put.new.block c.args.part.now c.args.used was long full c.put.ensures c.compress.ensures
