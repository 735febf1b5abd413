use Rattle.std.proofs.Common.{[]}
use Rattle.jcard_script.specs.HeldCard.{state_of_held}
use Rattle.jcard_script.proofs.begun.is_fed.Goals as goal

pub returns-clause-fed : goal.returns-clause-fed
returns-clause-fed g c fed =
    let went = c.in-Ok-feed.ensures.goes [] [] (state_of_held c.args.session.now.held) c.requires.stands in
    (c.in-Ok.is, (went.0, went.3))
