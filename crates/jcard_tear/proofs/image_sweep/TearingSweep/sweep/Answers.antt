use Rattle.std.proofs.Common.{[], refl, inl, inr, subst}
use Rattle.jcard_texts.proofs.Known.{appends_same}
use Rattle.jcard_sweeps.specs.Output.{IsReportTold}
use Rattle.jcard_files.proofs.Effects.{unfailed}
use Rattle.jcard_tear.proofs.image_sweep.TearingSweep.sweep.Goals as goal

pub returns-in-Ok : goal.returns-in-Ok
returns-in-Ok g c =
    let written = c.write_report.ensures.0 in
    let told = subst (λ report. IsReportTold report c.in-Ok.told.is_whole c.write_report.result written.0) c.deref.ensures.value written.2 in
    ((written.0, written.1, inr (c.in-Ok.told, c.in-Ok.ensures, (told, refl))), c.write_report.ensures.1)

pub returns-in-Err : goal.returns-in-Err
returns-in-Err g c =
    let fault = c.tear_fault.result in (
      ([], appends_same _, inl (fault, refl, refl, refl, (c.in-Err.cause, c.in-Err.ensures, c.tear_fault.ensures.told))),
      unfailed _ fault c.tear_fault.ensures.unwritten,
    )
