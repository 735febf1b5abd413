use Rattle.std.proofs.Common.{◌≡◌, ◌∙◌, List, ℕ, Some, map, subst, sym}
use Rattle.std.specs.Prelude.{option_map}
use Rattle.jcard_outcomes.proofs.RowSteps.{rows_told}
use Rattle.jcard_attack.specs.Report.{FaultTold, fault_told, open_text, row_by, told_by}
use Rattle.jcard_attack.proofs.RowSteps.{GoesOn, rows_done, rows_next}
use Rattle.jcard_attack.proofs.rows.push_rows.Goals as goal

pub loop-struck-preserved : goal.loop-struck-preserved
loop-struck-preserved c =
    let all : List (List ℕ) = map (λ line. line.items) c.args.instructions.now in
    let s = c.struck-item.result in
    let here : told_by c.lent.result ≡ fault_told all s = c.lent.ensures ∙ c.in_ok-texts.ensures in
    let on = subst (GoesOn c.with_fault.new.text.items (Some (row_by c.in_ok-next.next)) c.loop-struck.text.items (option_map row_by c.loop-struck.row)) here
    c.in_ok-next.ensures in
    rows_next (fault_told all) c.args.strikes.now c.loop-struck.struck-index s c.with_fault.new.text.items c.loop-struck.text.items
    (Some (row_by c.in_ok-next.next)) (option_map row_by c.loop-struck.row) c.loop-struck-test.true c.struck-item.is on ∙ c.loop-struck.invariant

pub returns : goal.returns
returns c =
    let all : List (List ℕ) = map (λ line. line.items) c.args.instructions.now in
    let row = option_map row_by c.loop-struck.row in
    rows_told c.push_open.result c.loop-struck.text.items _ _ (open_text row)
    (sym (rows_done (fault_told all) c.args.strikes.now c.loop-struck.struck-index c.loop-struck.text.items row c.loop-struck-test.false) ∙ c.loop-struck.invariant)
    c.push_open.ensures
