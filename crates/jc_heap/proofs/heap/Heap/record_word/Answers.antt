use Rattle.std.proofs.Common.{◌≡◌, ◌+◌, ◌<◌, ◌≤◌, ◌∙◌, get_or, length, sym, ap, arith}
use Rattle.jc_words.specs.Layout.{text_start}
use Rattle.jc_heap.proofs.Changing.{up_is}
use Rattle.jc_heap.proofs.Views.{readable}
use Rattle.jc_heap.specs.Component.{record_of}
use Rattle.jc_heap.proofs.RecordReading.{record_long, record_low, record_within, record_view, length_record, record_word}
use Rattle.jc_heap.proofs.heap.Heap.record_word.Goals as goal

pub overflow_add-address : goal.overflow_add-address
overflow_add-address g c =
    let low : text_start ≤ c.args.at = record_low c.self.inside.journal.plain c.args.at
    (c.self.invariant.now (up_is c.self.inside.journal c.args.self.now c.self.inside.size c.self.view_is c.requires.up))
    (record_view c.self.inside.journal c.args.self.now c.self.inside.size c.args.at c.self.view_is (omega (arith, c.requires.word))) in
    let within : c.args.at + record_long c.self.inside.journal.plain c.args.at ≤ length c.self.inside.journal.plain =
    record_within c.self.inside.journal.plain c.args.at (c.self.invariant.now (up_is c.self.inside.journal c.args.self.now c.self.inside.size
    c.self.view_is c.requires.up)) (record_view c.self.inside.journal c.args.self.now c.self.inside.size c.args.at c.self.view_is
    (omega (arith, c.requires.word))) in
    let long : length (record_of c.args.self.now.now c.args.at) ≡ record_long c.self.inside.journal.plain c.args.at =
    length_record c.self.inside.journal c.args.self.now c.self.inside.size c.args.at c.self.view_is
    (c.self.invariant.now (up_is c.self.inside.journal c.args.self.now c.self.inside.size c.self.view_is c.requires.up))
    (omega (arith, c.requires.word)) in
    let size : length c.self.inside.journal.plain < 65536 = omega (
      arith,
      c.self.invariant.small,
      c.self.invariant.size_now (up_is c.self.inside.journal c.args.self.now c.self.inside.size c.self.view_is c.requires.up),
    ) in
    omega (arith, c.requires.word, long, within, size, c.address.ensures)

pub read-requires : goal.read-requires
read-requires g c =
    let low : text_start ≤ c.args.at = record_low c.self.inside.journal.plain c.args.at
    (c.self.invariant.now (up_is c.self.inside.journal c.args.self.now c.self.inside.size c.self.view_is c.requires.up))
    (record_view c.self.inside.journal c.args.self.now c.self.inside.size c.args.at c.self.view_is (omega (arith, c.requires.word))) in
    let within : c.args.at + record_long c.self.inside.journal.plain c.args.at ≤ length c.self.inside.journal.plain =
    record_within c.self.inside.journal.plain c.args.at (c.self.invariant.now (up_is c.self.inside.journal c.args.self.now c.self.inside.size
    c.self.view_is c.requires.up)) (record_view c.self.inside.journal c.args.self.now c.self.inside.size c.args.at c.self.view_is
    (omega (arith, c.requires.word))) in
    let long : length (record_of c.args.self.now.now c.args.at) ≡ record_long c.self.inside.journal.plain c.args.at =
    length_record c.self.inside.journal c.args.self.now c.self.inside.size c.args.at c.self.view_is
    (c.self.invariant.now (up_is c.self.inside.journal c.args.self.now c.self.inside.size c.self.view_is c.requires.up))
    (omega (arith, c.requires.word)) in
    readable (length c.self.inside.journal.plain) (c.address.result + c.args.j) (omega (arith, c.requires.word, long, within, c.address.ensures))
    (omega (arith, low, c.address.ensures))

pub returns : goal.returns
returns g c = c.read.ensures ∙ ap (λ a. get_or c.self.inside.journal.plain (a + c.args.j) 0) c.address.ensures
    ∙ sym (record_word c.self.inside.journal c.args.self.now c.self.inside.size c.args.at 0 c.args.j c.self.view_is
    (c.self.invariant.now (up_is c.self.inside.journal c.args.self.now c.self.inside.size c.self.view_is c.requires.up)) (omega (arith, c.requires.word))
    ∙ ap (λ k. get_or c.self.inside.journal.plain (c.args.at + k) 0) (omega arith))
