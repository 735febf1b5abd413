use Rattle.std.proofs.Common.{rules, tests}
use Rattle.std.proofs.lemmas.Iterator.{YieldsList-from_slice}
use Rattle.std.proofs.lemmas.Iterator.Search.{all_from_yields_List}
use Rattle.jc_platform.specs.Reading.{above_of}
use Rattle.jc_platform.specs.Rows.{has_class}
use Rattle.jc_platform.proofs.reading.Reading.has_classes.Goals as goal

pub returns : goal.returns
returns c =
    all_from_yields_List (has_class (above_of c.args.self.now)) _ _ _ c.all.ensures.ran
    (YieldsList-from_slice c.args.classes.now cc) (λ x b q k. search (rules, tests))
