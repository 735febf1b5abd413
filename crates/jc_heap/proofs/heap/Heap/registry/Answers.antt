use Rattle.std.proofs.Common.{◌∙◌, ◌+◌, length, arith}
use Rattle.jc_words.specs.Layout.{registry_start}
use Rattle.jc_heap.proofs.Changing.{up_is}
use Rattle.jc_heap.proofs.Places.{far_spot, place_readable, registry_read}
use Rattle.jc_heap.proofs.heap.Heap.registry.Goals as goal

pub read-requires : goal.read-requires
read-requires g c =
    let laid = c.self.invariant.now (up_is c.self.inside.journal c.args.self.now c.self.inside.size c.self.view_is c.requires.up) in
    place_readable (length c.self.inside.journal.plain) (registry_start + c.args.i)
    (far_spot (length c.self.inside.journal.plain) (registry_start + c.args.i) (omega (arith, laid.based, laid.fits)) (omega arith))

pub returns : goal.returns
returns g c = c.read.ensures ∙ registry_read c.self.inside.journal c.args.self.now c.self.inside.size c.args.i c.self.view_is
    (c.self.invariant.now (up_is c.self.inside.journal c.args.self.now c.self.inside.size c.self.view_is c.requires.up)) c.requires.there
