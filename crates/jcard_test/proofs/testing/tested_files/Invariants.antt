use Rattle.std.proofs.Common.{take}
use Rattle.jcard_test.specs.Tests.{AreTested}
use Rattle.jcard_test.proofs.testing.tested_files.Given as goal

abbrev pub invariant-loop-file : goal.invariant-loop-file
invariant-loop-file g l = AreTested l.plan (take l.file-index l.files) l.tested.items
