use Rattle.jc_platform.proofs.Above.{above-extended_in}
use Rattle.jc_platform.proofs.reading.Reading.put_extended.Goals as goal

pub returns : goal.returns
returns c = above-extended_in c.args.self.now
