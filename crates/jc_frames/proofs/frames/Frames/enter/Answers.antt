use Rattle.std.proofs.Common.{arith, ◌+◌, ◌-◌, reverse}
use Rattle.std.proofs.lemmas.List.{length-reverse}
use Rattle.jc_frames.proofs.Entered.{lacks_arguments, is_too_deep, is_too_large, enters}
use Rattle.jc_frames.proofs.frames.Frames.enter.Goals as goal

pub returns-then-height-arguments : goal.returns-then-height-arguments
returns-then-height-arguments c = lacks_arguments c.self.inside.cells.items c.self.inside.current
    (reverse c.self.inside.saved.items) c.args.entry c.args.self.now c.self.view_is
    (omega (arith, c.len-length.ensures.value, c.from-arguments.ensures, c.if-height-arguments.true))

pub returns-then-callers-ge-MOST_CALLERS : goal.returns-then-callers-ge-MOST_CALLERS
returns-then-callers-ge-MOST_CALLERS c = is_too_deep c.self.inside.cells.items c.self.inside.current
    (reverse c.self.inside.saved.items) c.args.entry c.args.self.now c.self.view_is
    (omega (arith, c.len-length.ensures.value, c.from-arguments.ensures, c.if-height-arguments.false))
    (omega (arith, c.len-callers.ensures.value, c.if-callers-ge-MOST_CALLERS.true, length-reverse c.self.inside.saved.items))

pub returns-then-ceiling-gt-MOST_CELLS : goal.returns-then-ceiling-gt-MOST_CELLS
returns-then-ceiling-gt-MOST_CELLS c = is_too_large c.self.inside.cells.items c.self.inside.current
    (reverse c.self.inside.saved.items) c.args.entry c.args.self.now c.self.view_is
    c.self.invariant.0 c.self.invariant.1 c.self.invariant.4
    (omega (arith, c.len-length.ensures.value, c.from-arguments.ensures, c.if-height-arguments.false))
    (omega (arith, c.len-callers.ensures.value, c.if-callers-ge-MOST_CALLERS.false, length-reverse c.self.inside.saved.items))
    (omega (arith, c.len-length.ensures.value, c.from-locals.ensures, c.from-limit.ensures, c.if-ceiling-gt-MOST_CELLS.true))

pub returns : goal.returns
returns c = enters c.self.inside.cells.items c.push_zeros.new.cells.items c.self.inside.current c.self.inside.saved.items c.save.new.saved.items c.args.entry
    c.args.self.now
    (c.len-length.result - c.from-arguments.result) (c.len-length.result + c.from-locals.result)
    (c.len-length.result + c.from-locals.result + c.from-limit.result) c.self.view_is
    c.self.invariant.0 c.self.invariant.1 c.self.invariant.4
    (omega (arith, c.len-length.ensures.value, c.from-arguments.ensures, c.if-height-arguments.false))
    (omega (arith, c.len-callers.ensures.value, c.if-callers-ge-MOST_CALLERS.false))
    (omega (arith, c.len-length.ensures.value, c.from-locals.ensures, c.from-limit.ensures, c.if-ceiling-gt-MOST_CELLS.false))
    c.push_zeros.ensures c.save.ensures
    (omega (arith, c.len-length.ensures.value, c.from-arguments.ensures))
    (omega (arith, c.len-length.ensures.value, c.from-locals.ensures))
    (omega (arith, c.from-limit.ensures))
