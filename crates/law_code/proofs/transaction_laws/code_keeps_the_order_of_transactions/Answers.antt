use Rattle.law_code.proofs.TransactionOrder.{step_orderly, run_orderly}
use Rattle.law_code.proofs.transaction_laws.code_keeps_the_order_of_transactions.Goals as goal

pub returns : goal.returns
returns c = record { step = step_orderly; run = run_orderly }
