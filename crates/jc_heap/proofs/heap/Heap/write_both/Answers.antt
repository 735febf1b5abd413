use Rattle.std.proofs.Common.{length, refl}
use Rattle.jc_heap.specs.Place.{place_at}
use Rattle.jc_heap.proofs.Changing.{up_is}
use Rattle.jc_heap.proofs.Places.{PlaceSpot, place_spot, place_unlogged, both_view}
use Rattle.jc_heap.proofs.heap.Heap.write_both.Goals as goal

pub write_both-requires-clause-place : goal.write_both-requires-clause-place
write_both-requires-clause-place g c =
    let spot : PlaceSpot (length c.self.inside.journal.plain) (place_at c.args.self.now.now c.args.place) =
    place_spot c.self.inside.journal c.args.self.now c.self.inside.size c.args.place c.self.view_is
    (c.self.invariant.now (up_is c.self.inside.journal c.args.self.now c.self.inside.size c.self.view_is c.requires.up)) c.requires.there in
    rw c.place_word-word.ensures (place_unlogged (length c.self.inside.journal.plain) (place_at c.args.self.now.now c.args.place) spot)

pub invariant_of-self-2 : goal.invariant_of-self-2
invariant_of-self-2 g c =
    rw c.in_ok-write_both.ensures.ok ((both_view c.self.inside.journal c.args.self.now c.self.inside.size c.args.place c.args.v c.place_word-word.result
    c.word_for-value.result c.self.view_is c.requires.there c.requires.value
    (up_is c.self.inside.journal c.args.self.now c.self.inside.size c.self.view_is c.requires.up) c.self.invariant c.place_word-word.ensures
    c.word_for-value.ensures c.in_ok-write_both.ensures.unkept).1)

pub returns : goal.returns
returns g c = (
  refl,
  rw c.in_ok-write_both.ensures.ok ((both_view c.self.inside.journal c.args.self.now c.self.inside.size c.args.place c.args.v c.place_word-word.result
      c.word_for-value.result c.self.view_is c.requires.there c.requires.value
      (up_is c.self.inside.journal c.args.self.now c.self.inside.size c.self.view_is c.requires.up) c.self.invariant c.place_word-word.ensures
      c.word_for-value.ensures c.in_ok-write_both.ensures.unkept).0),
)
