use Rattle.jc_memory.proofs.Burying.{buries}
use Rattle.jc_memory.proofs.program_laws.aborts_null_dead_references.Goals as goal

pub returns : goal.returns
returns c = buries
