use Rattle.std.proofs.Common.{arith, ◌^◌, ◌∙◌, length}
use Rattle.jcard_outcomes.specs.Part.{line_text}
use Rattle.jcard_outcomes.proofs.PartSteps.{line_more, lines_end, number_fits, number_next}
use Rattle.jcard_outcomes.proofs.RowSteps.{rows_told}
use Rattle.jcard_outcomes.proofs.part.push_lines.Goals as goal

pub overflow_add-number : goal.overflow_add-number
overflow_add-number c = omega (
  arith,
  number_fits c.args.first c.args.step c.loop-cut.cut-index (length c.args.cuts.now) c.loop-cut.number (2 ^ 64)
      c.loop-cut.invariant.number c.loop-cut-test.true c.requires,
)

pub loop-cut-preserved : goal.loop-cut-preserved
loop-cut-preserved c = record {
  number = number_next c.args.first c.args.step c.loop-cut.cut-index c.loop-cut.number c.loop-cut.invariant.number;
  lines = line_more c.args.cuts.now c.loop-cut.cut-index c.loop-cut.number c.args.step c.cut-item.result c.loop-cut.text.items
      c.push_line.new.text.items c.args.uncut.now c.loop-cut-test.true c.cut-item.is
      (rw (← c.in_ok-told.ensures, ← c.deref.ensures.value) c.in_ok-push_line.ensures) ∙ c.loop-cut.invariant.lines;
}

pub returns : goal.returns
returns c = rows_told c.push_line-2.result c.loop-cut.text.items _ _ (line_text c.loop-cut.number c.args.uncut.now)
    (lines_end c.args.cuts.now c.loop-cut.cut-index c.loop-cut.number c.args.step c.loop-cut.text.items c.args.uncut.now c.loop-cut-test.false
    ∙ c.loop-cut.invariant.lines) c.push_line-2.ensures
