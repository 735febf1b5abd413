use Rattle.std.proofs.Common.{◌∙◌, sym}
use Rattle.jc_api_keys.proofs.PartPlaces.{domain_within_if}
use Rattle.jc_api_keys.proofs.ec_keys.curve_size.Goals as goal

pub returns-then-is_on_curve-clause-within : goal.returns-then-is_on_curve-clause-within
returns-then-is_on_curve-clause-within c =
    domain_within_if c.in_ok-pair.pair c.size_of.result _ (sym c.is_on_curve.ensures ∙ c.if-is_on_curve.true) c.size_of.ensures.all
