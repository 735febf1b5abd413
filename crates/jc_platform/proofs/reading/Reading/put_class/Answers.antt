use Rattle.std.proofs.Common.{arith}
use Rattle.jc_platform.proofs.Above.{above-class_in}
use Rattle.jc_platform.proofs.reading.Reading.put_class.Goals as goal

pub returns : goal.returns
returns c = above-class_in c.args.self.now c.index.result c.args.class c.args.token c.index.ensures.place (omega arith)
