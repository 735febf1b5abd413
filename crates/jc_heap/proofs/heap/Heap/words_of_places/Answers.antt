use Rattle.std.proofs.Common.{arith, length}
use Rattle.jc_commit.specs.Entries.{ArePlaces}
use Rattle.jc_heap.specs.Place.{words_of}
use Rattle.jc_heap.proofs.Changing.{up_is}
use Rattle.jc_heap.proofs.Several.{several_places}
use Rattle.jc_heap.proofs.heap.Heap.words_of_places.Goals as goal

pub new-words-requires : goal.new-words-requires
new-words-requires g c =
    let up = up_is c.self.inside.journal c.args.self.now c.self.inside.size c.self.view_is c.requires.up in
    let places : ArePlaces (length c.self.inside.journal.plain) (words_of c.args.changes.now) =
    several_places c.self.inside.journal c.args.self.now c.self.inside.size c.args.changes.now c.self.view_is (c.self.invariant.now up) c.requires.there
    c.requires.plain in
    λ k within. omega (arith, (places k within).below, c.self.invariant.size_now up, c.self.invariant.small)
