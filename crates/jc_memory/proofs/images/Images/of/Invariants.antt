use Rattle.jc_memory.specs.Images.{AreImages}
use Rattle.jc_memory.proofs.images.Images.of.Given as goal

abbrev pub invariant-loop-k : goal.invariant-loop-k
invariant-loop-k g l = AreImages l.images l.heap.now l.heap.durable
