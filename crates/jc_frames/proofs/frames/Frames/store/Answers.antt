use Rattle.std.specs.Prelude.{reverse}
use Rattle.jc_frames.proofs.Stores.{store_through}
use Rattle.jc_frames.proofs.frames.Frames.store.Goals as goal

pub returns : goal.returns
returns c = store_through c.self.inside.cells.items c.set.new.self.items c.self.inside.current
    (reverse c.self.inside.saved.items) c.args.number c.from.result c.args.cell c.args.self.now c.set.ensures c.from.ensures c.self.view_is
    c.if-place-self.false c.self.invariant.1
