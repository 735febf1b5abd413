use Rattle.std.specs.Prelude.{reverse}
use Rattle.jc_frames.proofs.Buried.{bury_through}
use Rattle.jc_frames.proofs.frames.Frames.null_dead.Goals as goal

pub returns : goal.returns
returns c = bury_through c.args.top c.self.inside.cells.items c.null_dead_cells.new.cells.items c.self.inside.current
    (reverse c.self.inside.saved.items) c.args.self.now c.null_dead_cells.ensures c.self.view_is
