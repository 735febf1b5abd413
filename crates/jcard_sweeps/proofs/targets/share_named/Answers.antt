use Rattle.std.proofs.Common.{ap, refl}
use Rattle.jcard_sweeps.specs.Texts.{text_of}
use Rattle.jcard_sweeps.proofs.targets.share_named.Goals as goal

pub returns-in-None-clause-found : goal.returns-in-None-clause-found
returns-in-None-clause-found c = (refl, (c.in-Some.text.now, ap text_of c.in-Some.is, rw c.as_bytes.ensures.value at c.in-None.ensures))
