use Rattle.std.proofs.Common.{◌≡◌, ◌+◌, ◌<◌, ◌≤◌, ◌∙◌, get_or, length, max, take, drop, sym, ap, subst, arith, IfSome}
use Rattle.jc_words.specs.Layout.{text_start}
use Rattle.jc_heap.specs.Component.{record_of, record_parts}
use Rattle.jc_heap.specs.Statics.{image_from}
use Rattle.jc_heap.proofs.Changing.{up_is}
use Rattle.jc_heap.proofs.Views.{readable}
use Rattle.jc_heap.proofs.RecordReading.{record_long, record_low, record_within, record_view, view_record, length_record, record_word}
use Rattle.jc_heap.proofs.StaticImages.{statics-short, statics-zero, statics-walk, statics_within, all_static}
use Rattle.jc_heap.proofs.heap.Heap.statics.Goals as goal

pub read-requires : goal.read-requires
read-requires g c =
    let low : text_start ≤ c.args.at = record_low c.self.inside.journal.plain c.args.at
    (c.self.invariant.now (up_is c.self.inside.journal c.args.self.now c.self.inside.size c.self.view_is c.requires.up))
    (record_view c.self.inside.journal c.args.self.now c.self.inside.size c.args.at c.self.view_is c.requires.there) in
    let within : c.args.at + record_long c.self.inside.journal.plain c.args.at ≤ length c.self.inside.journal.plain =
    record_within c.self.inside.journal.plain c.args.at (c.self.invariant.now (up_is c.self.inside.journal c.args.self.now c.self.inside.size
    c.self.view_is c.requires.up)) (record_view c.self.inside.journal c.args.self.now c.self.inside.size c.args.at c.self.view_is c.requires.there) in
    readable (length c.self.inside.journal.plain) c.address-base.result (omega (arith, c.address-base.ensures)) (omega (arith, c.address-base.ensures))

pub returns-then-long-eq1-clause-exact : goal.returns-then-long-eq1-clause-exact
returns-then-long-eq1-clause-exact g c =
    let whole : length (record_of c.args.self.now.now c.args.at) ≡ record_long c.self.inside.journal.plain c.args.at =
    length_record c.self.inside.journal c.args.self.now c.self.inside.size c.args.at c.self.view_is
    (c.self.invariant.now (up_is c.self.inside.journal c.args.self.now c.self.inside.size c.self.view_is c.requires.up)) c.requires.there in
    let long : c.max-long.result ≡ record_long c.self.inside.journal.plain c.args.at = c.max-long.ensures
    ∙ ap (λ w. max w 1) (c.read.ensures ∙ ap (λ a. get_or c.self.inside.journal.plain a 0) c.address-base.ensures) in
    sym (statics-short (record_of c.args.self.now.now c.args.at) (whole ∙ sym long ∙ c.if-long-eq1.true))

pub overflow_add-base : goal.overflow_add-base
overflow_add-base g c =
    let low : text_start ≤ c.args.at = record_low c.self.inside.journal.plain c.args.at
    (c.self.invariant.now (up_is c.self.inside.journal c.args.self.now c.self.inside.size c.self.view_is c.requires.up))
    (record_view c.self.inside.journal c.args.self.now c.self.inside.size c.args.at c.self.view_is c.requires.there) in
    let within : c.args.at + record_long c.self.inside.journal.plain c.args.at ≤ length c.self.inside.journal.plain =
    record_within c.self.inside.journal.plain c.args.at (c.self.invariant.now (up_is c.self.inside.journal c.args.self.now c.self.inside.size
    c.self.view_is c.requires.up)) (record_view c.self.inside.journal c.args.self.now c.self.inside.size c.args.at c.self.view_is c.requires.there) in
    let long : c.max-long.result ≡ record_long c.self.inside.journal.plain c.args.at = c.max-long.ensures
    ∙ ap (λ w. max w 1) (c.read.ensures ∙ ap (λ a. get_or c.self.inside.journal.plain a 0) c.address-base.ensures) in
    let size : length c.self.inside.journal.plain < 65536 = omega (
      arith,
      c.self.invariant.small,
      c.self.invariant.size_now (up_is c.self.inside.journal c.args.self.now c.self.inside.size c.self.view_is c.requires.up),
    ) in
    omega (arith, within, long, size, c.if-long-eq1.false, c.max-long.ensures, c.address-base.ensures)

pub read-first-requires : goal.read-first-requires
read-first-requires g c =
    let low : text_start ≤ c.args.at = record_low c.self.inside.journal.plain c.args.at
    (c.self.invariant.now (up_is c.self.inside.journal c.args.self.now c.self.inside.size c.self.view_is c.requires.up))
    (record_view c.self.inside.journal c.args.self.now c.self.inside.size c.args.at c.self.view_is c.requires.there) in
    let within : c.args.at + record_long c.self.inside.journal.plain c.args.at ≤ length c.self.inside.journal.plain =
    record_within c.self.inside.journal.plain c.args.at (c.self.invariant.now (up_is c.self.inside.journal c.args.self.now c.self.inside.size
    c.self.view_is c.requires.up)) (record_view c.self.inside.journal c.args.self.now c.self.inside.size c.args.at c.self.view_is c.requires.there) in
    let long : c.max-long.result ≡ record_long c.self.inside.journal.plain c.args.at = c.max-long.ensures
    ∙ ap (λ w. max w 1) (c.read.ensures ∙ ap (λ a. get_or c.self.inside.journal.plain a 0) c.address-base.ensures) in
    readable (length c.self.inside.journal.plain) (c.address-base.result + 1) (omega
    (arith, within, long, c.if-long-eq1.false, c.max-long.ensures, c.address-base.ensures)) (omega (arith, low, c.address-base.ensures))

pub returns-then-first-eq0-clause-exact : goal.returns-then-first-eq0-clause-exact
returns-then-first-eq0-clause-exact g c =
    let whole : length (record_of c.args.self.now.now c.args.at) ≡ record_long c.self.inside.journal.plain c.args.at =
    length_record c.self.inside.journal c.args.self.now c.self.inside.size c.args.at c.self.view_is
    (c.self.invariant.now (up_is c.self.inside.journal c.args.self.now c.self.inside.size c.self.view_is c.requires.up)) c.requires.there in
    let long : c.max-long.result ≡ record_long c.self.inside.journal.plain c.args.at = c.max-long.ensures
    ∙ ap (λ w. max w 1) (c.read.ensures ∙ ap (λ a. get_or c.self.inside.journal.plain a 0) c.address-base.ensures) in
    let word : get_or (record_of c.args.self.now.now c.args.at) 1 0 ≡ c.read-first.result =
    record_word c.self.inside.journal c.args.self.now c.self.inside.size c.args.at 0 1 c.self.view_is
    (c.self.invariant.now (up_is c.self.inside.journal c.args.self.now c.self.inside.size c.self.view_is c.requires.up))
    (omega (arith, whole, long, c.if-long-eq1.false, c.max-long.ensures))
    ∙ ap (λ k. get_or c.self.inside.journal.plain (c.args.at + k) 0) (omega arith)
    ∙ ap (λ a. get_or c.self.inside.journal.plain (a + 1) 0) (sym c.address-base.ensures)
    ∙ sym c.read-first.ensures in
    sym (statics-zero (record_of c.args.self.now.now c.args.at) (word ∙ c.if-first-eq0.true))

pub find_image-requires-clause-behind : goal.find_image-requires-clause-behind
find_image-requires-clause-behind g c =
    let low : text_start ≤ c.args.at = record_low c.self.inside.journal.plain c.args.at
    (c.self.invariant.now (up_is c.self.inside.journal c.args.self.now c.self.inside.size c.self.view_is c.requires.up))
    (record_view c.self.inside.journal c.args.self.now c.self.inside.size c.args.at c.self.view_is c.requires.there) in
    let within : c.args.at + record_long c.self.inside.journal.plain c.args.at ≤ length c.self.inside.journal.plain =
    record_within c.self.inside.journal.plain c.args.at (c.self.invariant.now (up_is c.self.inside.journal c.args.self.now c.self.inside.size
    c.self.view_is c.requires.up)) (record_view c.self.inside.journal c.args.self.now c.self.inside.size c.args.at c.self.view_is c.requires.there) in
    omega (arith, c.address-base.ensures)

pub find_image-requires-clause-there : goal.find_image-requires-clause-there
find_image-requires-clause-there g c =
    let low : text_start ≤ c.args.at = record_low c.self.inside.journal.plain c.args.at
    (c.self.invariant.now (up_is c.self.inside.journal c.args.self.now c.self.inside.size c.self.view_is c.requires.up))
    (record_view c.self.inside.journal c.args.self.now c.self.inside.size c.args.at c.self.view_is c.requires.there) in
    let within : c.args.at + record_long c.self.inside.journal.plain c.args.at ≤ length c.self.inside.journal.plain =
    record_within c.self.inside.journal.plain c.args.at (c.self.invariant.now (up_is c.self.inside.journal c.args.self.now c.self.inside.size
    c.self.view_is c.requires.up)) (record_view c.self.inside.journal c.args.self.now c.self.inside.size c.args.at c.self.view_is c.requires.there) in
    let long : c.max-long.result ≡ record_long c.self.inside.journal.plain c.args.at = c.max-long.ensures
    ∙ ap (λ w. max w 1) (c.read.ensures ∙ ap (λ a. get_or c.self.inside.journal.plain a 0) c.address-base.ensures) in
    omega (arith, c.address-base.ensures, long, within)

pub returns-clause-exact : goal.returns-clause-exact
returns-clause-exact g c =
    let whole : length (record_of c.args.self.now.now c.args.at) ≡ record_long c.self.inside.journal.plain c.args.at =
    length_record c.self.inside.journal c.args.self.now c.self.inside.size c.args.at c.self.view_is
    (c.self.invariant.now (up_is c.self.inside.journal c.args.self.now c.self.inside.size c.self.view_is c.requires.up)) c.requires.there in
    let long : c.max-long.result ≡ record_long c.self.inside.journal.plain c.args.at = c.max-long.ensures
    ∙ ap (λ w. max w 1) (c.read.ensures ∙ ap (λ a. get_or c.self.inside.journal.plain a 0) c.address-base.ensures) in
    let word : get_or (record_of c.args.self.now.now c.args.at) 1 0 ≡ c.read-first.result =
    record_word c.self.inside.journal c.args.self.now c.self.inside.size c.args.at 0 1 c.self.view_is
    (c.self.invariant.now (up_is c.self.inside.journal c.args.self.now c.self.inside.size c.self.view_is c.requires.up))
    (omega (arith, whole, long, c.if-long-eq1.false, c.max-long.ensures))
    ∙ ap (λ k. get_or c.self.inside.journal.plain (c.args.at + k) 0) (omega arith)
    ∙ ap (λ a. get_or c.self.inside.journal.plain (a + 1) 0) (sym c.address-base.ensures)
    ∙ sym c.read-first.ensures in
    c.find_image.ensures
    ∙ ap (λ n. image_from (record_parts (take n (drop c.address-base.result c.self.inside.journal.plain)))) long
    ∙ ap (λ a. image_from (record_parts (take (record_long c.self.inside.journal.plain c.args.at) (drop a c.self.inside.journal.plain)))) c.address-base.ensures
    ∙ ap (λ l. image_from (record_parts l)) (sym (view_record c.self.inside.journal c.args.self.now c.self.inside.size c.args.at c.self.view_is
    (c.self.invariant.now (up_is c.self.inside.journal c.args.self.now c.self.inside.size c.self.view_is c.requires.up)) c.requires.there))
    ∙ sym (statics-walk (record_of c.args.self.now.now c.args.at) (λ e. c.if-first-eq0.false (sym word ∙ e)))

pub returns-clause-within : goal.returns-clause-within
returns-clause-within g c = subst (λ t. IfSome t (λ p. p ≤ length (record_of c.args.self.now.now c.args.at))) (sym (returns-clause-exact g c))
    (statics_within (record_of c.args.self.now.now c.args.at) c.requires.there)

pub returns-clause-image : goal.returns-clause-image
returns-clause-image g c = all_static (record_of c.args.self.now.now c.args.at) c.find_image.result (returns-clause-exact g c)
