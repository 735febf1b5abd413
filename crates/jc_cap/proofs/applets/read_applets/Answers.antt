use Rattle.jc_cap.proofs.Wholes.{is_found, is_only}
use Rattle.jc_cap.specs.Applets.{applets_at, IsApplets}
use Rattle.jc_cap.proofs.ToldLists.{applets_tells}
use Rattle.jc_cap.proofs.applets.read_applets.Goals as goal

pub returns-clause-found : goal.returns-clause-found
returns-clause-found c = is_found (λ y. y) applets_at IsApplets applets_tells c.args.info.now c.whole_applets.result c.whole_applets.ensures

pub returns-clause-only : goal.returns-clause-only
returns-clause-only c = is_only (λ y. y) applets_at IsApplets applets_tells c.args.info.now c.whole_applets.result c.whole_applets.ensures
