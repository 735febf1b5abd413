use Rattle.law_code.proofs.AtomicEffects.{torn}
use Rattle.law_code.proofs.transaction_laws.what_a_transaction_found_stays.Goals as goal

pub returns : goal.returns
returns g c = torn
