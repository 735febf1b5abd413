use Rattle.std.proofs.Common.{◌≡◌, ◌++◌, take}
use Rattle.jcard_test.specs.Sources.{names_in, paths_of}
use Rattle.jcard_test.proofs.sources.add_sources.Given as goal

abbrev pub invariant-loop-source : goal.invariant-loop-source
invariant-loop-source l = names_in l.operands.items ≡ names_in l.fn.operands.items ++ paths_of (take l.source-index l.sources)
