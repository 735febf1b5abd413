use Rattle.jc_cap.proofs.Wholes.{is_found, is_only}
use Rattle.jc_cap.specs.Exports.{exports_at, IsExports}
use Rattle.jc_cap.proofs.ToldLists.{exports_tells}
use Rattle.jc_cap.proofs.exports.read_exports.Goals as goal

pub returns-clause-found : goal.returns-clause-found
returns-clause-found c = is_found (λ y. y) exports_at IsExports exports_tells c.args.info.now c.whole_exports.result c.whole_exports.ensures

pub returns-clause-only : goal.returns-clause-only
returns-clause-only c = is_only (λ y. y) exports_at IsExports exports_tells c.args.info.now c.whole_exports.result c.whole_exports.ensures
