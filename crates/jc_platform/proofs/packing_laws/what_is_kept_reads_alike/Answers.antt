use Rattle.jc_platform.proofs.Packed.{reads_alike}
use Rattle.jc_platform.proofs.packing_laws.what_is_kept_reads_alike.Goals as goal

pub returns : goal.returns
returns c = reads_alike
