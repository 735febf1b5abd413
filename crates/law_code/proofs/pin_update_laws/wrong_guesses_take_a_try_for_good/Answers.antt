use Rattle.law_code.proofs.Guesses.{take_a_try}
use Rattle.law_code.proofs.pin_update_laws.wrong_guesses_take_a_try_for_good.Goals as goal

pub returns : goal.returns
returns c = take_a_try
