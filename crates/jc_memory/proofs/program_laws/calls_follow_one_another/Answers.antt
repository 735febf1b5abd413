use Rattle.jc_memory.proofs.ProgramLemmas.{in_sequence}
use Rattle.jc_memory.proofs.program_laws.calls_follow_one_another.Goals as goal

pub returns : goal.returns
returns g c = in_sequence
