use Rattle.std.proofs.Common.{◌∙◌, length}
use Rattle.jc_words.specs.Layout.{applets_address}
use Rattle.jc_heap.specs.declared.place.Place.TheVariants.{AppletCount}
use Rattle.jc_heap.proofs.Changing.{up_is}
use Rattle.jc_heap.proofs.Places.{place_spot, place_readable, count_read}
use Rattle.jc_heap.proofs.heap.Heap.applets.Goals as goal

pub read-requires : goal.read-requires
read-requires g c =
    let laid = c.self.invariant.now (up_is c.self.inside.journal c.args.self.now c.self.inside.size c.self.view_is c.requires) in
    place_readable (length c.self.inside.journal.plain) applets_address (place_spot c.self.inside.journal c.args.self.now c.self.inside.size AppletCount
    c.self.view_is laid tt)

pub returns : goal.returns
returns g c = c.read.ensures ∙ count_read c.self.inside.journal c.args.self.now c.self.inside.size c.self.view_is
    (c.self.invariant.now (up_is c.self.inside.journal c.args.self.now c.self.inside.size c.self.view_is c.requires))
