use Rattle.std.proofs.Common.{refl}
use Rattle.jc_platform.proofs.OneAnswer.{no_fault}
use Rattle.jc_packages.proofs.tables.table_in.Goals as goal

pub returns-in-Err : goal.returns-in-Err
returns-in-Err c = (refl, λ t reads. no_fault c.args.text.now t c.in-Err.field-0 reads c.in-Err.ensures)
