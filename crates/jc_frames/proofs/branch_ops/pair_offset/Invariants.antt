use Rattle.std.proofs.Common.{◌≡◌, ◌+◌, ◌-◌, ◌*◌}
use Rattle.jc_frames.specs.BranchOps.{pair_offset}
use Rattle.jc_frames.proofs.branch_ops.pair_offset.Given as goal

abbrev pub invariant-loop-pair : goal.invariant-loop-pair
invariant-loop-pair l = record {
  same : pair_offset l.code l.otherwise l.count l.table l.key ≡ pair_offset l.code l.otherwise (l.count - l._pair) l.at l.key;
  place : l.at ≡ l.table + 4 * l._pair;
}
