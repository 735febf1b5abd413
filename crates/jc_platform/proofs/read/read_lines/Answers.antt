use Rattle.std.proofs.Common.{sym, ◌∙◌}
use Rattle.jc_platform.specs.Reading.{above_of}
use Rattle.jc_platform.specs.Rows.{parts_at}
use Rattle.jc_platform.proofs.Lines.{after_part, are_lines, at_first, bad_part, bad_row, has_parts, read_as_line}
use Rattle.jc_platform.proofs.read.read_lines.Goals as goal

pub loop-rest-init : goal.loop-rest-init
loop-rest-init c =
    let text = c.args.text.now in
    at_first text (parts_at 10 text) (above_of c.new-reading.result) (are_lines text c.requires.form) c.new-reading.ensures

pub returns-in_default-row : goal.returns-in_default-row
returns-in_default-row c =
    let text = c.args.text.now in
    let above = above_of c.loop-rest.reading in
    let line = c.in-Some.line.now in
    let more = c.in-Some.more.now in
    bad_part text c.loop-rest.rest.now line (parts_at 10 c.loop-rest.rest.now) (parts_at 10 more) c.loop-rest.number above c.loop-rest.invariant
    c.in-Some.ensures.parts
    (bad_row text above line (parts_at 10 more) (has_parts 10 more)
    (read_as_line text above line c.requires.form ∙ sym c.row.ensures ∙ c.in_default-row.is))

pub loop-rest-preserved : goal.loop-rest-preserved
loop-rest-preserved c =
    let text = c.args.text.now in
    let above = above_of c.loop-rest.reading in
    let line = c.in-Some.line.now in
    after_part text c.loop-rest.rest.now c.in-Some.more.now line (parts_at 10 c.loop-rest.rest.now) (parts_at 10 c.in-Some.more.now) c.loop-rest.number
    c.in-Some-row.row above (above_of c.put.new.self) c.loop-rest.invariant c.in-Some.ensures.parts c.in-Some.ensures.shorter
    (read_as_line text above line c.requires.form ∙ sym c.row.ensures ∙ c.in-Some-row.is) c.put.ensures
