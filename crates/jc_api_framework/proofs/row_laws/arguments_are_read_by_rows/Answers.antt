use Rattle.jc_api_framework.proofs.Rows.{by_rows}
use Rattle.jc_api_framework.proofs.row_laws.arguments_are_read_by_rows.Goals as goal

pub returns : goal.returns
returns c = by_rows
