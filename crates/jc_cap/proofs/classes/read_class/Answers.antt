use Rattle.jc_cap.proofs.RecordWalk.{classes_found, classes_only}
use Rattle.jc_cap.proofs.classes.read_class.Goals as goal

pub returns-clause-found : goal.returns-clause-found
returns-clause-found c = classes_found (λ x. x) c.args.format c.args.info.now c.read_classes.result c.read_classes.ensures

pub returns-clause-only : goal.returns-clause-only
returns-clause-only c = classes_only (λ x. x) c.args.format c.args.info.now c.read_classes.result c.read_classes.ensures
