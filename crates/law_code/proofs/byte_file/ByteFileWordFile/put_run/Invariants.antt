use Rattle.std.proofs.Common.{◌≡◌, ◌+◌, ◌*◌, ◌≤◌, length, drop}
use Rattle.jc_words.specs.WordRuns.{bytes_with_run}
use Rattle.law_code.proofs.byte_file.ByteFileWordFile.put_run.Given as goal

abbrev pub invariant-loop-k : goal.invariant-loop-k
invariant-loop-k l = 2 * (l.i + length l.run) ≤ length l.initial.self.bytes.items
    → (length l.self.bytes.items ≡ length l.initial.self.bytes.items)
    × (bytes_with_run (l.i + l.k) (drop l.k l.run) l.self.bytes.items ≡ bytes_with_run l.i l.run l.initial.self.bytes.items)
