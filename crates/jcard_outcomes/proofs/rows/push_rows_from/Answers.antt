use Rattle.std.proofs.Common.{arith, ◌≡◌, ◌∙◌, ◌++◌, ap, sym, true, false}
use Rattle.std.specs.Str.{bytes_eq}
use Rattle.jcard_outcomes.specs.Report.{outcome_text, row_text}
use Rattle.jcard_outcomes.proofs.RowSteps.{rows_end, rows_other, rows_same, rows_told}
use Rattle.jcard_outcomes.proofs.rows.push_rows_from.Goals as goal
use Rattle.jcard_outcomes.proofs.rows.push_rows_from.Goals.{then-not-is_same+in_ok-push_row, else-not-is_same}

pub loop-cut-preserved : goal.loop-cut-preserved
loop-cut-preserved c =
    let compared = sym c.is_same.ensures in
    elim c.if-not-is_same.branch [
      | then-not-is_same+in_ok-push_row w ↦
          let other : bytes_eq c.loop-cut.outcome.items (outcome_text c.cut-item.result) ≡ false =
          rw (← c.in_ok-next.ensures, ← c.deref.ensures.value, ← c.deref-in-loop-cut.ensures.value) (compared ∙ w.if-not-is_same.true) in
          let told : w.push_row.new.text.items ≡ c.loop-cut.text.items ++ row_text c.loop-cut.first c.loop-cut.last c.loop-cut.outcome.items =
          rw (← w.deref-then-not-is_same.ensures.value) w.in_ok-push_row.ensures in
          record {
            rows = rw (w.text-is, w.first-is, w.outcome-is, c.in_ok-next.ensures)
                (rows_other c.args.more.now c.loop-cut.cut-index c.loop-cut.first c.loop-cut.last c.loop-cut.outcome.items c.cut-item.result
                c.loop-cut.text.items w.push_row.new.text.items c.loop-cut-test.true c.cut-item.is other told ∙ c.loop-cut.invariant.rows);
            bound = omega (arith, c.loop-cut.invariant.bound);
          }
      | else-not-is_same w ↦
          let same : bytes_eq c.loop-cut.outcome.items (outcome_text c.cut-item.result) ≡ true =
          rw (← c.in_ok-next.ensures, ← c.deref.ensures.value, ← c.deref-in-loop-cut.ensures.value) (compared ∙ w.if-not-is_same.false) in
          record {
            rows = rw (w.text-is, w.first-is, w.outcome-is)
                (ap (λ t. c.loop-cut.text.items ++ t) (sym (rows_same c.args.more.now c.loop-cut.cut-index c.loop-cut.first c.loop-cut.last
                c.loop-cut.outcome.items c.cut-item.result c.loop-cut-test.true c.cut-item.is same)) ∙ c.loop-cut.invariant.rows);
            bound = omega (arith, c.loop-cut.invariant.bound);
          }
    ]

pub returns : goal.returns
returns c =
    let row = row_text c.loop-cut.first c.loop-cut.last c.loop-cut.outcome.items in
    rows_told c.push_row-2.result c.loop-cut.text.items _ _ row
    (ap (λ t. c.loop-cut.text.items ++ t) (sym (rows_end c.args.more.now c.loop-cut.cut-index c.loop-cut.first c.loop-cut.last c.loop-cut.outcome.items c.loop-cut-test.false))
    ∙ c.loop-cut.invariant.rows) (rw c.deref-2.ensures.value at c.push_row-2.ensures)
