use Rattle.jcard_outcomes.proofs.ShareLists.{no_verdicts}
use Rattle.jcard_outcomes.proofs.command_shares.verdicts_in.Goals as goal

pub returns-in-None : goal.returns-in-None
returns-in-None c = no_verdicts c.args.text.now c.in_default.ensures c.in-None.ensures
