use Rattle.jc_api_crypto.proofs.Whole.{of_the_whole}
use Rattle.jc_api_crypto.proofs.messages_in_pieces.digests_are_of_the_whole.Goals as goal

pub returns : goal.returns
returns c = of_the_whole
