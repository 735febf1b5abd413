use Rattle.std.proofs.Common.{inr, refl, subst, arith}
use Rattle.jc_platform.specs.Rows.{Above}
use Rattle.jc_platform.specs.Table.{IsMissing}
use Rattle.jc_platform.proofs.read.read_table.Goals as goal

pub returns-in-None : goal.returns-in-None
returns-in-None c =
    let read = c.in_ok-reading.ensures in
    inr (inr (omega arith, refl, (read.0, read.1, subst (λ (a : Above). IsMissing a) read.2 c.in-None.ensures)))
