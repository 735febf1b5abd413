use Rattle.std.proofs.Common.{◌∙◌, Some, None, ap, sym}
use Rattle.std.specs.Prelude.{option_map}
use Rattle.std.proofs.lemmas.Result.{IfOk-weaker}
use Rattle.jcard_attack.specs.Report.{row_by, told_by}
use Rattle.jcard_attack.proofs.RowSteps.{row_begins, row_ends, row_grows}
use Rattle.jcard_attack.proofs.rows.with_fault.Goals as goal

pub returns-in_default : goal.returns-in_default
returns-in_default c = rw c.in_default.is (IfOk-weaker c.new_row.result _ _ (λ r is. row_begins c.args.text.now.items (told_by c.args.fault) (row_by r) is) c.new_row.ensures)

pub returns-then-is_alike : goal.returns-then-is_alike
returns-then-is_alike c = rw c.in-Some.is (IfOk-weaker c.longer_row.result _ _
    (λ r is. row_grows c.args.text.now.items (told_by c.args.fault) (row_by c.in-Some.row) (row_by r) is (sym c.is_alike.ensures ∙ c.if-is_alike.true)) c.longer_row.ensures)

pub returns : goal.returns
returns c = rw c.in-Some.is (IfOk-weaker c.new_row-2.result _ _
    (λ r is. row_ends c.args.text.now.items c.push_row.new.text.items (told_by c.args.fault) (row_by c.in-Some.row) (row_by r) is
    (sym c.is_alike.ensures ∙ c.if-is_alike.false) c.in_ok-push_row.ensures) c.new_row-2.ensures)
