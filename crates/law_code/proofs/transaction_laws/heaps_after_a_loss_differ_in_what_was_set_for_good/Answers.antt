use Rattle.law_code.proofs.Same.{differ}
use Rattle.law_code.proofs.transaction_laws.heaps_after_a_loss_differ_in_what_was_set_for_good.Goals as goal

pub returns : goal.returns
returns c = differ
