use Rattle.std.proofs.Common.{◌∙◌, sym}
use Rattle.jc_environment.specs.Registry.{has_aid}
use Rattle.jc_environment.proofs.RegistrySearch.{find_next}
use Rattle.jc_environment.proofs.applets.applet_with_aid.Goals as goal

pub loop-n-preserved : goal.loop-n-preserved
loop-n-preserved g c =
    find_next (has_aid c.args.memory.now c.args.aid.now) c.loop-n.n _ c.loop-n-test.true (sym c.has_aid.ensures ∙ c.if-has_aid.false) ∙ c.loop-n.invariant
