use Rattle.jcard_why.proofs.Names.{begun, ended, next}
use Rattle.jcard_why.proofs.named_text.with_names.Goals as goal

pub loop-word-init : goal.loop-word-init
loop-word-init c = begun c.args.plain.now _ c.new-text.ensures.items

pub loop-word-preserved : goal.loop-word-preserved
loop-word-preserved c = next c.args.plain.now c.loop-word.rest.now c.in-Some.word.now c.in-Some.more.now c.loop-word.text.items _ _ c.loop-word.invariant
    c.in-Some.ensures.parts c.in_ok-push_piece.ensures

pub returns : goal.returns
returns c = ended c.args.plain.now c.loop-word.rest.now c.loop-word.text.items _ c.loop-word.invariant c.in_ok-extend_from_slice.ensures.items
