use Rattle.jc_interp.proofs.Opposites.{opposites_differ}
use Rattle.jc_interp.proofs.attack_law.opposite_conditions_hold_where_others_do_not.Goals as goal

pub returns : goal.returns
returns c = opposites_differ
