use Rattle.std.proofs.Common.{◌≢◌, ◌∷◌, [], ap, reverse, sym, ◌∙◌, rules}
use Rattle.std.proofs.lemmas.List.{reverse-append}
use Rattle.jc_platform.specs.Reading.{above_of}
use Rattle.jc_platform.proofs.PackedLines.{after_line, bad_line, before_lines, unended_line}
use Rattle.jc_platform.proofs.packing.rows_of.Goals as goal

pub loop-rest-init : goal.loop-rest-init
loop-rest-init c =
    before_lines c.args.text.now (reverse c.new-rows.result.items) (above_of c.new-reading.result) c.requires (ap reverse c.new-rows.ensures.items)
    c.new-reading.ensures

pub returns-in_default : goal.returns-in_default
returns-in_default c =
    let rest = c.loop-rest.rest.now in
    let some : rest ≢ [] = search rules in
    unended_line c.args.text.now rest (reverse c.loop-rest.rows.items) (above_of c.loop-rest.reading) c.loop-rest.invariant c.in_default.ensures.parts some

pub returns-in_default-row : goal.returns-in_default-row
returns-in_default-row c =
    bad_line c.args.text.now c.loop-rest.rest.now c.in-Some.line.now c.in-Some.more.now (reverse c.loop-rest.rows.items) (above_of c.loop-rest.reading)
    c.requires c.loop-rest.invariant c.in-Some.ensures.parts (sym c.row.ensures ∙ c.in_default-row.is)

pub loop-rest-preserved : goal.loop-rest-preserved
loop-rest-preserved c =
    let row = c.in-Some-row.row in
    let items = c.loop-rest.rows.items in
    after_line c.args.text.now c.loop-rest.rest.now c.in-Some.line.now c.in-Some.more.now row (reverse items) (reverse c.push.new.self.items)
    (above_of c.loop-rest.reading) (above_of c.put.new.self) c.requires c.loop-rest.invariant c.in-Some.ensures.parts (sym c.row.ensures ∙ c.in-Some-row.is)
    c.put.ensures (ap reverse c.in_ok-push.ensures.items ∙ reverse-append items (row ∷ []))
