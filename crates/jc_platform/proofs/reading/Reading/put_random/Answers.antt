use Rattle.jc_platform.proofs.Above.{above-random_in_reader}
use Rattle.jc_platform.proofs.reading.Reading.put_random.Goals as goal

pub returns : goal.returns
returns c = above-random_in_reader c.args.self.now c.args.bytes
