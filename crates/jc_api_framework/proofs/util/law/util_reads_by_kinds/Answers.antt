use Rattle.jc_api_framework.proofs.UtilCalls.Kinds.{by_kinds}
use Rattle.jc_api_framework.proofs.util.law.util_reads_by_kinds.Goals as goal

pub returns : goal.returns
returns c = by_kinds
