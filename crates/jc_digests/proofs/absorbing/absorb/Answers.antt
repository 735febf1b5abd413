use Rattle.std.proofs.Common.{◌≡◌, ◌∙◌, ◌+◌, ◌-◌, ◌++◌, ℕ, List, take, subst, arith}
use Rattle.jc_digests.specs.Pieces.{HasAbsorbed}
use Rattle.jc_digests.proofs.Pieces.{joined}
use Rattle.jc_digests.proofs.absorbing.absorb.Goals as goal

pub parts-preserved : goal.parts-preserved
parts-preserved g c =
    let done = c.parts.done in
    let count = c.min-count.result in
    let piece = c.args.piece.now in
    let inv = c.parts.invariant in
    let least = c.min-count.ensures in
    let all : done + count - done ≡ count = omega arith in
    record {
      done = omega (arith, least);
      long = c.absorb_part-filled.auto.block ∙ inv.long;
      filled = c.absorb_part-filled.ensures.within;
      absorbed = λ i m was.
          let P : List ℕ → Type 0 = λ xs. HasAbsorbed g.H.Compression.compressed g.H.Compression.size i xs
          (g.H.Compression.words c.absorb_part-filled.new.hash) c.absorb_part-filled.new.block c.absorb_part-filled.result in
          subst P (joined m piece done count (done + count - done) all)
          (c.absorb_part-filled.ensures.absorbed i (m ++ take done piece) (inv.absorbed i m was));
    }
