use Rattle.std.proofs.Common.{◌≡◌, ◌*◌, length, min, take}
use Rattle.jc_digests.specs.Kept.{digest_size}
use Rattle.jc_rsa.specs.Mgf1.{mask_blocks}
use Rattle.jc_rsa.proofs.mgf1.put_mask.Given as goal

abbrev pub invariant-parts : goal.invariant-parts
invariant-parts l = record {
  long : length l.to ≡ length l.fn.to;
  written : take (min (l.i * digest_size l.algorithm) (length l.fn.to)) l.to ≡ take (length l.fn.to) (mask_blocks l.algorithm l.seed l.i);
}
