use Rattle.law_code.proofs.ByteTokens.{have_bytes}
use Rattle.law_code.proofs.method_laws.platform_tokens_are_bytes.Goals as goal

pub returns : goal.returns
returns c = have_bytes
