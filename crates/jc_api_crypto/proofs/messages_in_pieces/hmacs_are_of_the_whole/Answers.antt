use Rattle.jc_api_crypto.proofs.HmacWhole.{hmacs_of_the_whole}
use Rattle.jc_api_crypto.proofs.messages_in_pieces.hmacs_are_of_the_whole.Goals as goal

pub returns : goal.returns
returns c = hmacs_of_the_whole
