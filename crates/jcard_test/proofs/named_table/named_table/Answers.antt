use Rattle.std.proofs.Common.{◌+◌, refl, subst}
use Rattle.std.specs.String.{string_bytes}
use Rattle.jcard_test.specs.Lines.{Says}
use Rattle.jcard_texts.proofs.Items.{slice_rest}
use Rattle.jcard_test.proofs.NamedTables.{named_here, none_yet, nothing_more, unnamed_all, unnamed_here}
use Rattle.jcard_test.proofs.named_table.named_table.Goals as goal

pub loop-place-init : goal.loop-place-init
loop-place-init c = none_yet c.args.lines.now

pub loop-place-preserved : goal.loop-place-preserved
loop-place-preserved c =
    let line = c.index-lines-place.result in
    let says = subst (λ t. Says t c.read_line.result) c.as_str.ensures.value c.read_line.ensures in
    nothing_more c.args.lines.now c.loop-place.place line c.loop-place-test.true c.index-lines-place.is c.loop-place.invariant
    (subst (λ s. Says (string_bytes line.text) s) c.in-Nothing.is says)

pub returns-in-Some : goal.returns-in-Some
returns-in-Some c =
    let line = c.index-lines-place.result in
    let says = subst (λ t. Says t c.read_line.result) c.as_str.ensures.value c.read_line.ensures in
    named_here c.args.lines.now c.loop-place.place line c.loop-place-test.true c.index-lines-place.is c.loop-place.invariant c.read_line.result
    line.number c.in-Some.name.now _ says c.in-Some.ensures refl (slice_rest c.args.lines.now (c.loop-place.place + 1))

pub returns-in-None : goal.returns-in-None
returns-in-None c =
    let line = c.index-lines-place.result in
    let says = subst (λ t. Says t c.read_line.result) c.as_str.ensures.value c.read_line.ensures in
    unnamed_here c.args.lines.now c.loop-place.place line c.loop-place-test.true c.index-lines-place.is c.loop-place.invariant c.read_line.result says
    c.in_default.not-Nothing c.in-None.ensures

pub returns : goal.returns
returns c = unnamed_all c.args.lines.now c.loop-place.place c.loop-place-test.false c.loop-place.invariant
