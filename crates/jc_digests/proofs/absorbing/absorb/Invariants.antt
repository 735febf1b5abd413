use Rattle.std.proofs.Common.{◌≡◌, ◌≤◌, ◌<◌, ◌-◌, ◌++◌, ℕ, List, length, take}
use Rattle.jc_digests.specs.Pieces.{HasAbsorbed}
use Rattle.jc_digests.proofs.absorbing.absorb.Given as goal

abbrev pub invariant-parts : goal.invariant-parts
invariant-parts g l = record {
  done : l.done ≤ length l.piece;
  long : length l.block ≡ g.H.Compression.size;
  filled : l.filled < g.H.Compression.size;
  absorbed : (i m : List ℕ)
      → HasAbsorbed g.H.Compression.compressed g.H.Compression.size i m (g.H.Compression.words l.fn.hash) l.fn.block l.fn.used
      → HasAbsorbed g.H.Compression.compressed g.H.Compression.size i (m ++ take l.done l.piece) (g.H.Compression.words l.hash) l.block l.filled;
}

abbrev pub decreases-parts : goal.decreases-parts
decreases-parts g l = length l.piece - l.done
