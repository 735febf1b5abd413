use Rattle.law_code.proofs.Statics.{resolve_statics}
use Rattle.law_code.proofs.isolation_laws.entries_resolve_to_static_methods.Goals as goal

pub returns : goal.returns
returns c = resolve_statics
