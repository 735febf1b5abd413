use Rattle.std.proofs.Common.{◌≤◌}
use Rattle.bench_ciphers.proofs.messages.taken_in.Given as goal

abbrev pub invariant-pieces : goal.invariant-pieces
invariant-pieces g l = l.blocks.used ≤ g.S.Step.size
