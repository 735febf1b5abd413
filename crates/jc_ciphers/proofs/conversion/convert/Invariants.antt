use Rattle.std.proofs.Common.{◌≡◌, ◌≤◌, ◌+◌, ◌-◌, ◌++◌, ℕ, List, length, take}
use Rattle.jc_ciphers.specs.Modes.{IsUnderWay}
use Rattle.jc_ciphers.proofs.conversion.convert.Given as goal

abbrev pub invariant-parts : goal.invariant-parts
invariant-parts g l = record {
  done : l.done ≤ length l.piece;
  used : l.progress.used ≤ g.S.Step.size;
  filled : 1 ≤ l.fn.used + l.done → 1 ≤ l.progress.used;
  chain : length l.chain ≡ g.S.Step.size;
  block : length l.block ≡ g.S.Step.size;
  bytes : l.progress.written + l.progress.used ≡ l.fn.used + l.done;
  converted : (first m out : List ℕ)
      → IsUnderWay (g.S.Step.chained l.step) (g.S.Step.written l.step) g.S.Step.size first m l.fn.chain l.fn.block l.fn.used out
      → IsUnderWay (g.S.Step.chained l.step) (g.S.Step.written l.step) g.S.Step.size first (m ++ take l.done l.piece) l.chain l.block l.progress.used
      (out ++ take l.progress.written l.to);
}

abbrev pub decreases-parts : goal.decreases-parts
decreases-parts g l = length l.piece - l.done
