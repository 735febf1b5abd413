use Rattle.jcard_outcomes.proofs.CutLines.{bad_line, behind_next, cut_next, cuts_told, cuts_whole, lacking_next, line_plain, no_line}
use Rattle.jcard_outcomes.proofs.join.push_cuts.Goals as goal

pub returns-then-is_uncut-clause-told : goal.returns-then-is_uncut-clause-told
returns-then-is_uncut-clause-told c = cuts_told c.args.lines.now c.loop-number.number c.loop-number.cuts.items c.loop-number-test.true
    c.loop-number.invariant.told c.loop-number.invariant.lacking c.if-is_uncut.ensures

pub returns-then-is_uncut-clause-whole : goal.returns-then-is_uncut-clause-whole
returns-then-is_uncut-clause-whole c = λ cuts u n t. cuts_whole c.args.lines.now c.loop-number.number c.loop-number.cuts.items c.loop-number-test.true
    c.loop-number.invariant.told c.if-is_uncut.ensures cuts u n t (c.loop-number.invariant.behind cuts u n t)

pub cut_of-requires : goal.cut_of-requires
cut_of-requires c = line_plain c.args.lines.now c.loop-number.number c.loop-number-test.true c.requires.plain

pub returns-in-None-clause-whole : goal.returns-in-None-clause-whole
returns-in-None-clause-whole c = λ cuts u n t. absurd (no_line c.args.lines.now c.loop-number.number c.loop-number-test.true c.if-is_uncut.ensures
    (rw c.in-None.is at c.in_ok-cut.ensures) cuts u n t)

pub returns-in-None-clause-fault : goal.returns-in-None-clause-fault
returns-in-None-clause-fault c = bad_line c.args.lines.now c.loop-number.number c.loop-number-test.true c.if-is_uncut.ensures
    (rw c.in-None.is at c.in_ok-cut.ensures)

pub loop-number-preserved : goal.loop-number-preserved
loop-number-preserved c =
    let cut = rw c.in-Some.is at c.in_ok-cut.ensures in
    record {
      told = cut_next c.args.lines.now c.loop-number.number c.loop-number.cuts.items c.push_cut.new.cuts.items c.in-Some.cut c.loop-number-test.true
          c.loop-number.invariant.told cut.0 c.in_ok-push_cut-in-Some.ensures.pushed;
      lacking = lacking_next c.loop-number.cuts.items c.push_cut.new.cuts.items c.in-Some.cut c.loop-number.invariant.lacking cut.1
          c.in_ok-push_cut-in-Some.ensures.pushed;
      behind = behind_next c.args.lines.now c.loop-number.number c.loop-number-test.true c.if-is_uncut.ensures c.loop-number.invariant.behind;
    }
