use Rattle.law_code.proofs.MethodLaws.{run_their_methods}
use Rattle.law_code.proofs.method_laws.virtual_calls_run_the_method_of_their_receiver.Goals as goal

pub returns : goal.returns
returns c = run_their_methods
