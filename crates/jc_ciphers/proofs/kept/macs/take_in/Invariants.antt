use Rattle.std.proofs.Common.{◌≡◌, ◌≤◌, ◌+◌, ◌++◌, ℕ, List, length, take}
use Rattle.jc_ciphers.specs.Modes.{IsUnderWay}
use Rattle.jc_ciphers.proofs.kept.macs.take_in.Given as goal

abbrev pub invariant-bytes : goal.invariant-bytes
invariant-bytes g l = record {
  chain : length l.chain ≡ g.S.Step.size;
  block : length l.block ≡ g.S.Step.size;
  within : l.filled ≤ g.S.Step.size;
  some : 1 ≤ l.fn.used + l.i → 1 ≤ l.filled;
  under : (out : List ℕ)
      × IsUnderWay (g.S.Step.chained l.step) (g.S.Step.written l.step) g.S.Step.size l.fn.chain (take l.fn.used l.fn.block ++ take l.i l.piece)
      l.chain l.block l.filled out;
}
