-- The words before the place are written.
use Rattle.std.proofs.Common.{true}
use Rattle.jc_words.specs.WordRuns.{WroteRun}
use Rattle.jc_words.proofs.store.WordStore.write_run.Given as goal

abbrev pub invariant-loop-k : goal.invariant-loop-k
invariant-loop-k g l = WroteRun g.Self.WordStore.words g.Self.WordStore.down g.Self.WordStore.passed g.Self.WordStore.refusals l.i l.run l.k true l.initial.self l.self
