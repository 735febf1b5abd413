use Rattle.std.proofs.Common.{codes}
use Rattle.jcard_outcomes.specs.RowReport.{rows_text}
use Rattle.jcard_texts.proofs.Items.{appended}
use Rattle.jcard_outcomes.proofs.row_report.push_held.Goals as goal

pub returns : goal.returns
returns c = appended c.push_rows.result _ c.extend_from_slice.new.self.items c.args.text.now.items (codes ": ") (rows_text c.args.rows)
    c.in_ok-extend_from_slice.ensures.items c.push_rows.ensures
