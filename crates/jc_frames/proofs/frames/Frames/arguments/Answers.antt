use Rattle.std.proofs.Common.{arith}
use Rattle.std.specs.Prelude.{reverse}
use Rattle.jc_frames.proofs.Arguments.{arguments_are}
use Rattle.jc_frames.proofs.frames.Frames.arguments.Goals as goal

pub returns : goal.returns
returns c = arguments_are c.self.inside.cells.items c.as_slice.result.now c.self.inside.current
    (reverse c.self.inside.saved.items) c.args.self.now c.args.count _
    c.as_slice.ensures.value (omega (arith, c.len-length.ensures.value, c.from-count.ensures)) c.self.view_is c.self.invariant.1
    (omega (arith, c.len-length.ensures.value, c.from-count.ensures, c.if-length-self.false))
