use Rattle.std.proofs.Common.{◌≡◌, ◌+◌, ◌/◌, ◌%◌, ◌<◌, ◌≤◌, ◌∙◌, get_or, length, drop, sym, ap, arith, if◌then◌else◌}
use Rattle.std.proofs.lemmas.Bool.{eq-eqb, ne_eqb}
use Rattle.jc_words.specs.Layout.{text_start}
use Rattle.jc_heap.specs.Component.{record_of}
use Rattle.jc_heap.proofs.Changing.{up_is}
use Rattle.jc_heap.proofs.Views.{readable}
use Rattle.jc_heap.proofs.RecordReading.{record_long, record_low, record_within, record_view, length_record, record_word}
use Rattle.jc_heap.proofs.heap.Heap.info_byte.Goals as goal

pub overflow_add-span : goal.overflow_add-span
overflow_add-span g c =
    let low : text_start ≤ c.args.at = record_low c.self.inside.journal.plain c.args.at
    (c.self.invariant.now (up_is c.self.inside.journal c.args.self.now c.self.inside.size c.self.view_is c.requires.up))
    (record_view c.self.inside.journal c.args.self.now c.self.inside.size c.args.at c.self.view_is (omega (arith, c.requires.within, c.requires.byte)))
    in
    let within : c.args.at + record_long c.self.inside.journal.plain c.args.at ≤ length c.self.inside.journal.plain =
    record_within c.self.inside.journal.plain c.args.at (c.self.invariant.now (up_is c.self.inside.journal c.args.self.now c.self.inside.size
    c.self.view_is c.requires.up)) (record_view c.self.inside.journal c.args.self.now c.self.inside.size c.args.at c.self.view_is
    (omega (arith, c.requires.within, c.requires.byte))) in
    let long : length (record_of c.args.self.now.now c.args.at) ≡ record_long c.self.inside.journal.plain c.args.at =
    length_record c.self.inside.journal c.args.self.now c.self.inside.size c.args.at c.self.view_is
    (c.self.invariant.now (up_is c.self.inside.journal c.args.self.now c.self.inside.size c.self.view_is c.requires.up))
    (omega (arith, c.requires.within, c.requires.byte)) in
    let size : length c.self.inside.journal.plain < 65536 = omega (
      arith,
      c.self.invariant.small,
      c.self.invariant.size_now (up_is c.self.inside.journal c.args.self.now c.self.inside.size c.self.view_is c.requires.up),
    ) in
    omega (arith, c.requires.within, c.requires.byte, long, within, size)

pub overflow_add-address : goal.overflow_add-address
overflow_add-address g c =
    let low : text_start ≤ c.args.at = record_low c.self.inside.journal.plain c.args.at
    (c.self.invariant.now (up_is c.self.inside.journal c.args.self.now c.self.inside.size c.self.view_is c.requires.up))
    (record_view c.self.inside.journal c.args.self.now c.self.inside.size c.args.at c.self.view_is (omega (arith, c.requires.within, c.requires.byte)))
    in
    let within : c.args.at + record_long c.self.inside.journal.plain c.args.at ≤ length c.self.inside.journal.plain =
    record_within c.self.inside.journal.plain c.args.at (c.self.invariant.now (up_is c.self.inside.journal c.args.self.now c.self.inside.size
    c.self.view_is c.requires.up)) (record_view c.self.inside.journal c.args.self.now c.self.inside.size c.args.at c.self.view_is
    (omega (arith, c.requires.within, c.requires.byte))) in
    let long : length (record_of c.args.self.now.now c.args.at) ≡ record_long c.self.inside.journal.plain c.args.at =
    length_record c.self.inside.journal c.args.self.now c.self.inside.size c.args.at c.self.view_is
    (c.self.invariant.now (up_is c.self.inside.journal c.args.self.now c.self.inside.size c.self.view_is c.requires.up))
    (omega (arith, c.requires.within, c.requires.byte)) in
    let size : length c.self.inside.journal.plain < 65536 = omega (
      arith,
      c.self.invariant.small,
      c.self.invariant.size_now (up_is c.self.inside.journal c.args.self.now c.self.inside.size c.self.view_is c.requires.up),
    ) in
    omega (arith, c.requires.within, c.requires.byte, long, within, size, c.address.ensures)

pub read-word-requires : goal.read-word-requires
read-word-requires g c =
    let low : text_start ≤ c.args.at = record_low c.self.inside.journal.plain c.args.at
    (c.self.invariant.now (up_is c.self.inside.journal c.args.self.now c.self.inside.size c.self.view_is c.requires.up))
    (record_view c.self.inside.journal c.args.self.now c.self.inside.size c.args.at c.self.view_is (omega (arith, c.requires.within, c.requires.byte)))
    in
    let within : c.args.at + record_long c.self.inside.journal.plain c.args.at ≤ length c.self.inside.journal.plain =
    record_within c.self.inside.journal.plain c.args.at (c.self.invariant.now (up_is c.self.inside.journal c.args.self.now c.self.inside.size
    c.self.view_is c.requires.up)) (record_view c.self.inside.journal c.args.self.now c.self.inside.size c.args.at c.self.view_is
    (omega (arith, c.requires.within, c.requires.byte))) in
    let long : length (record_of c.args.self.now.now c.args.at) ≡ record_long c.self.inside.journal.plain c.args.at =
    length_record c.self.inside.journal c.args.self.now c.self.inside.size c.args.at c.self.view_is
    (c.self.invariant.now (up_is c.self.inside.journal c.args.self.now c.self.inside.size c.self.view_is c.requires.up))
    (omega (arith, c.requires.within, c.requires.byte)) in
    readable (length c.self.inside.journal.plain) (c.address.result + (c.args.span.at + c.args.i / 2))
    (omega (arith, c.requires.within, c.requires.byte, long, within, c.address.ensures)) (omega (arith, low, c.address.ensures))

pub returns-then-i-eq0 : goal.returns-then-i-eq0
returns-then-i-eq0 g c =
    let here : c.args.span.at + c.args.i / 2 < length (record_of c.args.self.now.now c.args.at) = omega (arith, c.requires.within, c.requires.byte) in
    let word : get_or (drop c.args.span.at (record_of c.args.self.now.now c.args.at)) (c.args.i / 2) 0 ≡ c.read-word.result =
    record_word c.self.inside.journal c.args.self.now c.self.inside.size c.args.at c.args.span.at (c.args.i / 2) c.self.view_is
    (c.self.invariant.now (up_is c.self.inside.journal c.args.self.now c.self.inside.size c.self.view_is c.requires.up)) here
    ∙ ap (λ a. get_or c.self.inside.journal.plain (a + (c.args.span.at + c.args.i / 2)) 0) (sym c.address.ensures) ∙ sym c.read-word.ensures in
    ap (λ w. w / 256) (sym word) ∙ sym (ap (λ b. if b then get_or (drop c.args.span.at (record_of c.args.self.now.now c.args.at))
    (c.args.i / 2) 0 / 256 else get_or (drop c.args.span.at (record_of c.args.self.now.now c.args.at)) (c.args.i / 2) 0 % 256)
    (eq-eqb (c.args.i % 2) 0 c.if-i-eq0.true))

pub returns : goal.returns
returns g c =
    let here : c.args.span.at + c.args.i / 2 < length (record_of c.args.self.now.now c.args.at) = omega (arith, c.requires.within, c.requires.byte) in
    let word : get_or (drop c.args.span.at (record_of c.args.self.now.now c.args.at)) (c.args.i / 2) 0 ≡ c.read-word.result =
    record_word c.self.inside.journal c.args.self.now c.self.inside.size c.args.at c.args.span.at (c.args.i / 2) c.self.view_is
    (c.self.invariant.now (up_is c.self.inside.journal c.args.self.now c.self.inside.size c.self.view_is c.requires.up)) here
    ∙ ap (λ a. get_or c.self.inside.journal.plain (a + (c.args.span.at + c.args.i / 2)) 0) (sym c.address.ensures) ∙ sym c.read-word.ensures in
    ap (λ w. w % 256) (sym word) ∙ sym (ap (λ b. if b then get_or (drop c.args.span.at (record_of c.args.self.now.now c.args.at))
    (c.args.i / 2) 0 / 256 else get_or (drop c.args.span.at (record_of c.args.self.now.now c.args.at)) (c.args.i / 2) 0 % 256)
    (ne_eqb (c.args.i % 2) 0 c.if-i-eq0.false))
