use Rattle.std.proofs.Common.{refl}
use Rattle.jc_public_keys.proofs.CurvesFound.{found_numbers, good_numbers}
use Rattle.jc_public_keys.proofs.curves.curve_with_numbers.Goals as goal

pub returns-clause-curve : goal.returns-clause-curve
returns-clause-curve c = found_numbers _ refl c.curve_of.result c.curve_of.ensures

pub returns-clause-numbers : goal.returns-clause-numbers
returns-clause-numbers c = good_numbers _ refl c.curve_of.result c.curve_of.ensures
