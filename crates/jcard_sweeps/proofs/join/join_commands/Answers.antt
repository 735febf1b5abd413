use Rattle.std.proofs.Common.{[], ap, refl, subst, Err, inl, inr}
use Rattle.jcard_texts.proofs.Known.{appends_same}
use Rattle.jcard_sweeps.specs.Output.{IsReportTold}
use Rattle.jcard_files.proofs.Effects.{unfailed}
use Rattle.jcard_sweeps.proofs.join.join_commands.Goals as goal

pub returns-in-Ok : goal.returns-in-Ok
returns-in-Ok g c =
    let written = c.write_report.ensures.0 in
    let told = subst (λ report. IsReportTold report c.in-Ok.joined.is_all_or_nothing c.write_report.result written.0) c.deref.ensures.value written.2 in
    ((written.0, written.1, inl (c.in-Ok.joined, c.in-Ok.ensures, told)), c.write_report.ensures.1)

pub returns-in-Err : goal.returns-in-Err
returns-in-Err g c = (
  ([], appends_same _, inr (c.in-Err.cause, c.in-Err.ensures, ap Err c.share_fault.ensures.told, refl)),
  unfailed _ c.share_fault.result c.share_fault.ensures.unwritten,
)
