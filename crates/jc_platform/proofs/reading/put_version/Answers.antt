use Rattle.std.proofs.Common.{ℕ, Some, set, ap}
use Rattle.jc_platform.proofs.reading.put_version.Goals as goal

pub returns : goal.returns
returns c = ap (λ (i : ℕ). set c.args.versions.now i (Some c.args.version)) c.index.ensures.place
