use Rattle.std.proofs.Common.{◌∙◌}
use Rattle.jc_memory.proofs.ProgramLemmas.{down_did}
use Rattle.jc_card.specs.Answers.{exchange}
use Rattle.jc_card.proofs.state.SessionState.exchange.Goals as goal

pub returns-in-Ok-clause-up : goal.returns-in-Ok-clause-up
returns-in-Ok-clause-up g c =
    let up = rw c.in-Card.is at c.requires.up in
    down_did (exchange c.args.command.now c.in-Card.card) c.in-Card.card.memory c.exchange.new.self.memory _ c.in-Ok.ensures.executes ∙ up
