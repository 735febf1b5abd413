use Rattle.std.proofs.Common.{rules}
use Rattle.std.specs.Prelude.{reverse}
use Rattle.jc_frames.proofs.Arguments.{discards}
use Rattle.jc_frames.proofs.frames.Frames.discard.Goals as goal

pub returns : goal.returns
returns c = discards c.self.inside.cells.items c.truncate.new.self.items c.self.inside.current
    (reverse c.self.inside.saved.items) c.args.self.now c.args.count _
    c.truncate.ensures (search rules) c.self.view_is c.self.invariant.0 c.self.invariant.1 c.requires
