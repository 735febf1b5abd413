use Rattle.std.proofs.Common.{◌≡◌, ◌+◌, ◌≤◌, ◌∙◌, get_or, length, max, sym, ap, arith}
use Rattle.jc_words.specs.Layout.{text_start}
use Rattle.jc_heap.proofs.Changing.{up_is}
use Rattle.jc_heap.proofs.Views.{readable}
use Rattle.jc_heap.specs.Component.{record_of}
use Rattle.jc_heap.proofs.RecordReading.{record_long, record_low, record_within, record_view, length_record}
use Rattle.jc_heap.proofs.heap.Heap.record_length.Goals as goal

pub read-requires : goal.read-requires
read-requires g c =
    let low : text_start ≤ c.args.at = record_low c.self.inside.journal.plain c.args.at
    (c.self.invariant.now (up_is c.self.inside.journal c.args.self.now c.self.inside.size c.self.view_is c.requires.up))
    (record_view c.self.inside.journal c.args.self.now c.self.inside.size c.args.at c.self.view_is c.requires.there) in
    let within : c.args.at + record_long c.self.inside.journal.plain c.args.at ≤ length c.self.inside.journal.plain =
    record_within c.self.inside.journal.plain c.args.at (c.self.invariant.now (up_is c.self.inside.journal c.args.self.now c.self.inside.size
    c.self.view_is c.requires.up)) (record_view c.self.inside.journal c.args.self.now c.self.inside.size c.args.at c.self.view_is c.requires.there) in
    let long : length (record_of c.args.self.now.now c.args.at) ≡ record_long c.self.inside.journal.plain c.args.at =
    length_record c.self.inside.journal c.args.self.now c.self.inside.size c.args.at c.self.view_is
    (c.self.invariant.now (up_is c.self.inside.journal c.args.self.now c.self.inside.size c.self.view_is c.requires.up)) c.requires.there in
    readable (length c.self.inside.journal.plain) c.address.result (omega (arith, c.address.ensures)) (omega (arith, c.address.ensures))

pub returns : goal.returns
returns g c = c.max.ensures ∙ ap (λ w. max w 1) (c.read.ensures ∙ ap (λ a. get_or c.self.inside.journal.plain a 0) c.address.ensures)
    ∙ sym (length_record c.self.inside.journal c.args.self.now c.self.inside.size c.args.at c.self.view_is
    (c.self.invariant.now (up_is c.self.inside.journal c.args.self.now c.self.inside.size c.self.view_is c.requires.up)) c.requires.there)
