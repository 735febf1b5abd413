use Rattle.std.proofs.Common.{[], subst}
use Rattle.jcard_texts.proofs.Known.{appends_same}
use Rattle.jcard_sweeps.specs.Texts.{texts_of}
use Rattle.jcard_sweeps.specs.Output.{IsReportTold}
use Rattle.jcard_sweeps.proofs.PartJoins.{joined_told, unjoined}
use Rattle.jcard_files.proofs.Effects.{unfailed}
use Rattle.jcard_sweeps.proofs.join.join_cuts.Goals as goal

pub returns-in-Ok : goal.returns-in-Ok
returns-in-Ok g c =
    let j = c.in-Ok.joined in
    let written = c.write_report.ensures.0 in
    let told = subst (λ report. IsReportTold report j.is_all_or_nothing c.write_report.result written.0) c.deref.ensures.value written.2 in (
      (
        written.0,
        written.1,
        joined_told c.args.depth (texts_of c.args.texts.now) j c.write_report.result written.0 c.in-Ok.ensures.joined c.in-Ok.ensures.parts told,
      ),
      c.write_report.ensures.1,
    )

pub returns-in-Err : goal.returns-in-Err
returns-in-Err g c = (
  (
    [],
    appends_same _,
    unjoined c.args.depth (texts_of c.args.texts.now) c.in-Err.cause c.join_fault.result c.join_fault.ensures.told c.in-Err.ensures.joined
        c.in-Err.ensures.parts,
  ),
  unfailed _ c.join_fault.result c.join_fault.ensures.unwritten,
)
