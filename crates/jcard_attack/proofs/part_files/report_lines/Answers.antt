use Rattle.std.proofs.Common.{[], subst}
use Rattle.jcard_texts.proofs.Known.{appends_same}
use Rattle.jcard_attack.specs.Output.{IsAttackTold}
use Rattle.jcard_attack.proofs.FileJoins.{lines_told, lines_untold}
use Rattle.jcard_files.proofs.Effects.{unfailed}
use Rattle.jcard_attack.proofs.part_files.report_lines.Goals as goal

pub returns-in-Ok : goal.returns-in-Ok
returns-in-Ok g c =
    let j = c.in-Ok.joined in
    let written = c.write_attack.ensures.0 in
    let told = subst (λ report. IsAttackTold report j.is_accepted c.write_attack.result written.0) c.deref.ensures.value written.2 in (
      (
        written.0,
        written.1,
        lines_told c.args.parts c.args.lines.now j c.write_attack.result written.0 c.in-Ok.ensures.joined c.in-Ok.ensures.whole told,
      ),
      c.write_attack.ensures.1,
    )

pub returns-in-Err : goal.returns-in-Err
returns-in-Err g c = (
  (
    [],
    appends_same _,
    lines_untold c.args.parts c.args.lines.now c.in-Err.cause c.share_fault.result c.share_fault.ensures.told c.in-Err.ensures.joined c.in-Err.ensures.whole,
  ),
  unfailed _ c.share_fault.result c.share_fault.ensures.unwritten,
)
