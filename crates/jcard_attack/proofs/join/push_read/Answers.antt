use Rattle.std.proofs.Common.{◌∙◌, refl, sym}
use Rattle.jcard_attack.proofs.PartReads.{end_pushed, fault_pushed}
use Rattle.jcard_attack.proofs.join.push_read.Goals as goal

pub returns-then-not-has_tab : goal.returns-then-not-has_tab
returns-then-not-has_tab c = end_pushed c.push.result c.is_ok.result c.args.lines.now
    (record { faults = c.args.lines.now.faults; ends = c.push.new.self }) c.args.line c.pushed.result c.is_ok.ensures.value c.push.ensures.items refl
    (sym c.has_tab.ensures ∙ c.if-not-has_tab.true) c.pushed.ensures

pub returns-in-Some : goal.returns-in-Some
returns-in-Some c = fault_pushed c.push-in-Some.result c.is_ok-in-Some.result c.args.lines.now
    (record { faults = c.push-in-Some.new.self; ends = c.args.lines.now.ends }) c.args.line.now c.in-Some.fault c.pushed-in-Some.result
    c.is_ok-in-Some.ensures.value c.push-in-Some.ensures.items refl c.in-Some.ensures c.pushed-in-Some.ensures
