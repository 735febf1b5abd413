use Rattle.jc_memory.proofs.ProgramLemmas.{by_effects}
use Rattle.jc_memory.proofs.program_laws.losses_fall_before_a_move.Goals as goal

pub returns : goal.returns
returns g c = by_effects
