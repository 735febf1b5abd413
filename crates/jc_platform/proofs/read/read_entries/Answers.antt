use Rattle.std.proofs.Common.{sym, ◌∙◌}
use Rattle.jc_platform.specs.Reading.{above_of}
use Rattle.jc_platform.specs.PackedEntry.{entries}
use Rattle.jc_platform.proofs.Lines.{after_part, are_entries, at_first, bad_part, bad_row, has_entries, read_as_entry}
use Rattle.jc_platform.proofs.read.read_entries.Goals as goal

pub loop-rest-init : goal.loop-rest-init
loop-rest-init c =
    let text = c.args.text.now in
    at_first text (entries text) (above_of c.new-reading.result) (are_entries text c.requires.form) c.new-reading.ensures

pub returns-in_default-entry : goal.returns-in_default-entry
returns-in_default-entry c =
    let text = c.args.text.now in
    let above = above_of c.loop-rest.reading in
    let entry = c.in-Some.entry.now in
    let more = c.in-Some.more.now in
    bad_part text c.loop-rest.rest.now entry (entries c.loop-rest.rest.now) (entries more) c.loop-rest.place above c.loop-rest.invariant
    c.in-Some.ensures.parts
    (bad_row text above entry (entries more) (has_entries more)
    (read_as_entry text above entry c.requires.form ∙ sym c.entry.ensures ∙ c.in_default-entry.is))

pub loop-rest-preserved : goal.loop-rest-preserved
loop-rest-preserved c =
    let text = c.args.text.now in
    let above = above_of c.loop-rest.reading in
    let entry = c.in-Some.entry.now in
    after_part text c.loop-rest.rest.now c.in-Some.more.now entry (entries c.loop-rest.rest.now) (entries c.in-Some.more.now) c.loop-rest.place
    c.in-Some-entry.row above (above_of c.put.new.self) c.loop-rest.invariant c.in-Some.ensures.parts c.in-Some.ensures.shorter
    (read_as_entry text above entry c.requires.form ∙ sym c.entry.ensures ∙ c.in-Some-entry.is) c.put.ensures
