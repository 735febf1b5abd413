use Rattle.std.proofs.Common.{◌≡◌, ◌++◌, drop, subst}
use Rattle.jcard_texts.specs.Escapes.{escaped_behind}
use Rattle.jcard_texts.proofs.Items.{slice_rest}
use Rattle.jcard_texts.proofs.QuotedTexts.{escaped_next, escaped_whole}
use Rattle.jcard_texts.proofs.escapes.push_escaped.Goals as goal

pub loop-place-preserved : goal.loop-place-preserved
loop-place-preserved c = escaped_next c.loop-place.left_out c.in_ok-left_out.left_out c.args.bytes.now c.loop-place.place _ c.loop-place.text.items
    c.push_next.new.text.items c.loop-place-test.true
    (subst (λ l. c.push_next.new.text.items ++ escaped_behind c.in_ok-left_out.left_out (drop 1 l) ≡ c.loop-place.text.items ++ escaped_behind c.loop-place.left_out l)
    (slice_rest c.args.bytes.now c.loop-place.place) c.in_ok-left_out.ensures) c.loop-place.invariant

pub returns : goal.returns
returns c = escaped_whole c.loop-place.left_out c.args.bytes.now c.loop-place.place _ c.loop-place.text.items c.loop-place-test.false c.loop-place.invariant
