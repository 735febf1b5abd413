use Rattle.std.proofs.Common.{◌≡◌, take}
use Rattle.std.specs.Str.{bytes_eq}
use Rattle.jc_memory.specs.Cells.{bytes_at}
use Rattle.jc_environment.proofs.pins.checks.begins_with.Given as goal

abbrev pub invariant-loop-k : goal.invariant-loop-k
invariant-loop-k g l = l.same ≡ bytes_eq (take l.k l.bytes) (bytes_at l.memory l.array 0 l.k)
