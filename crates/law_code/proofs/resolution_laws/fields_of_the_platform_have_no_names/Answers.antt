use Rattle.law_code.proofs.Fields.{hide_fields}
use Rattle.law_code.proofs.resolution_laws.fields_of_the_platform_have_no_names.Goals as goal

pub returns : goal.returns
returns c = hide_fields
