use Rattle.std.proofs.Common.{arith}
use Rattle.jc_platform.proofs.Above.{above-package_in}
use Rattle.jc_platform.proofs.Numbers.{package_below}
use Rattle.jc_platform.proofs.reading.Reading.put_package.Goals as goal

pub returns : goal.returns
returns c = above-package_in c.args.self.now c.put_version.new.versions c.first_of.result c.args.named c.args.version c.put_version.ensures c.first_of.ensures
    (omega (arith, package_below c.args.named))
