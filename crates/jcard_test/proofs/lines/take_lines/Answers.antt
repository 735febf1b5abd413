use Rattle.std.proofs.Common.{ℕ, List, [], get_or, subst}
use Rattle.std.specs.Borrow.{Bor}
use Rattle.std.proofs.lemmas.List.{take_all}
use Rattle.jcard_test.specs.TextLines.{AreTaken, IsTakenIn}
use Rattle.jcard_test.proofs.Numbering.{taken_next, taken_none, texts_of}
use Rattle.jcard_test.proofs.lines.take_lines.Goals as goal

pub loop-index-init : goal.loop-index-init
loop-index-init c = rw (c.requires.none_open, c.requires.no_lines) taken_none

pub loop-index-preserved : goal.loop-index-preserved
loop-index-preserved c =
    let none : Bor (List ℕ) = record { ref_ptr = (0, 0); now = [] } in
    let texts = c.args.texts.now in
    let i = c.loop-index.index in
    let taken = c.in_ok-take_line.ensures in
    taken_next texts i none c.loop-index.loops.items c.take_line.new.loops.items c.loop-index.lines.items c.take_line.new.lines.items taken.0
    c.loop-index-test.true c.loop-index.invariant taken.1
    (subst (λ (n : ℕ). IsTakenIn n (get_or texts i none).now taken.0 c.loop-index.loops.items c.take_line.new.loops.items c.loop-index.lines.items
    c.take_line.new.lines.items) c.saturating_add.ensures taken.2)

pub returns : goal.returns
returns c = subst (λ ts. AreTaken 1 (texts_of ts) [] [] c.loop-index.loops.items c.loop-index.lines.items)
    (take_all c.loop-index.index c.args.texts.now c.loop-index-test.false) c.loop-index.invariant
