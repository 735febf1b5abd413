use Rattle.jc_cap.proofs.Wholes.{is_found, is_only}
use Rattle.jc_cap.specs.StaticReading.{statics_at}
use Rattle.jc_cap.specs.Statics.{AreStatics}
use Rattle.jc_cap.specs.StaticViews.{static_parts}
use Rattle.jc_cap.proofs.StaticTelling.{statics_tells}
use Rattle.jc_cap.proofs.statics.read_static_field.Goals as goal

pub returns-clause-found : goal.returns-clause-found
returns-clause-found c = is_found static_parts statics_at AreStatics statics_tells c.args.info.now c.read_whole.result c.read_whole.ensures

pub returns-clause-only : goal.returns-clause-only
returns-clause-only c = is_only static_parts statics_at AreStatics statics_tells c.args.info.now c.read_whole.result c.read_whole.ensures
