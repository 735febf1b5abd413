use Rattle.std.proofs.Common.{◌∙◌, ◌+◌, ◌-◌, ◌++◌, ◌∷◌, [], map, take, drop, ap, sym, arith, append_assoc, append-nil}
use Rattle.jcard_sweeps.specs.ScriptLines.{Line, commands_from, line_of, whole_lines}
use Rattle.jcard_sweeps.proofs.Lines.{found_first, none_behind, passed_over}
use Rattle.jcard_sweeps.proofs.script_lines.commands.Goals as goal

pub loop-start-preserved-in_ok-push_line : goal.loop-start-preserved-in_ok-push_line
loop-start-preserved-in_ok-push_line c =
    let script = c.args.script.now in
    let start = c.loop-start.start in
    let end = c.line_end-end.result in
    let e = c.line_end-end.ensures in
    let found = map line_of c.loop-start.found.items in
    let line : Line = record { number = c.loop-start.number + 1; before = take start script; text = take (end - start) (drop start script) } in
    let rest = commands_from (c.loop-start.number + 1 + 1) (take end script) (whole_lines (drop end script)) in
    let first = found_first script start end (c.loop-start.number + 1) e.after e.within e.plain e.ends (sym c.is_command.ensures ∙ c.if-is_command.true) in
    record {
      counted = omega (arith, c.loop-start.invariant.counted, e.after);
      within = e.within;
      rest = ap (λ m. m ++ rest) c.in_ok-push_line.ensures ∙ append_assoc found (line ∷ []) rest ∙ ap (λ m. found ++ m) (sym first) ∙ c.loop-start.invariant.rest;
    }

pub loop-start-preserved : goal.loop-start-preserved
loop-start-preserved c =
    let script = c.args.script.now in
    let e = c.line_end-end.ensures in
    let passed = passed_over script c.loop-start.start c.line_end-end.result (c.loop-start.number + 1) e.after e.within e.plain e.ends
    (sym c.is_command.ensures ∙ c.if-is_command.false) in
    record {
      counted = omega (arith, c.loop-start.invariant.counted, e.after);
      within = e.within;
      rest = ap (λ m. map line_of c.loop-start.found.items ++ m) (sym passed) ∙ c.loop-start.invariant.rest;
    }

pub returns : goal.returns
returns c =
    let found = map line_of c.loop-start.found.items in
    sym (ap (λ m. found ++ m) (none_behind (c.loop-start.number + 1) (take c.loop-start.start c.args.script.now) c.args.script.now c.loop-start.start c.loop-start-test.false)
    ∙ append-nil found) ∙ c.loop-start.invariant.rest
