use Rattle.jc_cap.specs.MethodViews.{method_parts}
use Rattle.jc_cap.proofs.MethodTelling.{methods_found, methods_only}
use Rattle.jc_cap.proofs.methods.read_method.Goals as goal

pub returns-clause-found : goal.returns-clause-found
returns-clause-found c = methods_found method_parts c.args.info.now c.read_parts.result c.read_parts.ensures

pub returns-clause-only : goal.returns-clause-only
returns-clause-only c = methods_only method_parts c.args.info.now c.read_parts.result c.read_parts.ensures
