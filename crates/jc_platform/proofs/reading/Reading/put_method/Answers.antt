use Rattle.std.proofs.Common.{arith}
use Rattle.jc_platform.proofs.Above.{above-method_in}
use Rattle.jc_platform.proofs.reading.Reading.put_method.Goals as goal

pub returns : goal.returns
returns c = above-method_in c.args.self.now c.index.result c.args.method c.args.token c.index.ensures.place (omega arith)
