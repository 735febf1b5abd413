use Rattle.std.proofs.Common.{arith}
use Rattle.jc_image.proofs.Stepping.{base_bounded}
use Rattle.jc_image.proofs.steps.first_record.Goals as goal

pub overflow_cast-result : goal.overflow_cast-result
overflow_cast-result g c = omega (arith, base_bounded c.args.journal.now.plain c.requires.bounds, c.requires.bounds.based, c.requires.bounds.fits)

pub returns : goal.returns
returns g c = omega (arith, base_bounded c.args.journal.now.plain c.requires.bounds)
