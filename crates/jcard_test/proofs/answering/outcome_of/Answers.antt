use Rattle.jcard_test.proofs.answering.outcome_of.Goals as goal

pub returns : goal.returns
returns g c = (c.in_ok-outcome.outcome, c.in_ok-outcome.ensures, c.with_a_row.ensures)
