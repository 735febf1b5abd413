use Rattle.std.proofs.Common.{◌≡◌, ◌+◌, ◌<◌, ◌≤◌, length, arith}
use Rattle.jc_heap.specs.Component.{record_of}
use Rattle.jc_heap.proofs.Changing.{up_is}
use Rattle.jc_heap.proofs.RecordReading.{record_long, record_within, record_view, length_record}
use Rattle.jc_heap.proofs.heap.Heap.static_word.Goals as goal

pub overflow_add-result : goal.overflow_add-result
overflow_add-result g c =
    let within : c.args.at + record_long c.self.inside.journal.plain c.args.at ≤ length c.self.inside.journal.plain =
    record_within c.self.inside.journal.plain c.args.at (c.self.invariant.now (up_is c.self.inside.journal c.args.self.now c.self.inside.size
    c.self.view_is c.requires.up)) (record_view c.self.inside.journal c.args.self.now c.self.inside.size c.args.at c.self.view_is
    (omega (arith, c.requires.word.within))) in
    let long : length (record_of c.args.self.now.now c.args.at) ≡ record_long c.self.inside.journal.plain c.args.at =
    length_record c.self.inside.journal c.args.self.now c.self.inside.size c.args.at c.self.view_is
    (c.self.invariant.now (up_is c.self.inside.journal c.args.self.now c.self.inside.size c.self.view_is c.requires.up))
    (omega (arith, c.requires.word.within)) in
    let size : length c.self.inside.journal.plain < 65536 = omega (
      arith,
      c.self.invariant.small,
      c.self.invariant.size_now (up_is c.self.inside.journal c.args.self.now c.self.inside.size c.self.view_is c.requires.up),
    ) in
    omega (arith, c.requires.word.within, long, within, size, c.address.ensures)
