use Rattle.jc_api_framework.proofs.AidCalls.ReadBack.{read_back}
use Rattle.jc_api_framework.proofs.aid.law.aids_are_read_back.Goals as goal

pub returns : goal.returns
returns c = read_back
