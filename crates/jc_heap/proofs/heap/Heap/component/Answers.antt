use Rattle.std.proofs.Common.{◌≡◌, ◌+◌, ◌≤◌, ◌∙◌, get_or, length, take, drop, max, sym, ap, subst, arith, IfSome}
use Rattle.jc_words.specs.Layout.{text_start}
use Rattle.jc_heap.specs.Component.{record_of, info_of, IsWithin}
use Rattle.jc_heap.proofs.Changing.{up_is}
use Rattle.jc_heap.proofs.Views.{readable}
use Rattle.jc_heap.proofs.RecordReading.{record_long, record_low, record_within, record_view, view_record, info_within}
use Rattle.jc_heap.proofs.heap.Heap.component.Goals as goal

pub read-requires : goal.read-requires
read-requires g c =
    let low : text_start ≤ c.args.at = record_low c.self.inside.journal.plain c.args.at
    (c.self.invariant.now (up_is c.self.inside.journal c.args.self.now c.self.inside.size c.self.view_is c.requires.up))
    (record_view c.self.inside.journal c.args.self.now c.self.inside.size c.args.at c.self.view_is c.requires.package) in
    let within : c.args.at + record_long c.self.inside.journal.plain c.args.at ≤ length c.self.inside.journal.plain =
    record_within c.self.inside.journal.plain c.args.at (c.self.invariant.now (up_is c.self.inside.journal c.args.self.now c.self.inside.size
    c.self.view_is c.requires.up)) (record_view c.self.inside.journal c.args.self.now c.self.inside.size c.args.at c.self.view_is c.requires.package) in
    readable (length c.self.inside.journal.plain) c.address-base.result (omega (arith, c.address-base.ensures)) (omega (arith, c.address-base.ensures))

pub find_info-requires-clause-behind : goal.find_info-requires-clause-behind
find_info-requires-clause-behind g c =
    let low : text_start ≤ c.args.at = record_low c.self.inside.journal.plain c.args.at
    (c.self.invariant.now (up_is c.self.inside.journal c.args.self.now c.self.inside.size c.self.view_is c.requires.up))
    (record_view c.self.inside.journal c.args.self.now c.self.inside.size c.args.at c.self.view_is c.requires.package) in
    let within : c.args.at + record_long c.self.inside.journal.plain c.args.at ≤ length c.self.inside.journal.plain =
    record_within c.self.inside.journal.plain c.args.at (c.self.invariant.now (up_is c.self.inside.journal c.args.self.now c.self.inside.size
    c.self.view_is c.requires.up)) (record_view c.self.inside.journal c.args.self.now c.self.inside.size c.args.at c.self.view_is c.requires.package) in
    omega (arith, c.address-base.ensures)

pub find_info-requires-clause-there : goal.find_info-requires-clause-there
find_info-requires-clause-there g c =
    let low : text_start ≤ c.args.at = record_low c.self.inside.journal.plain c.args.at
    (c.self.invariant.now (up_is c.self.inside.journal c.args.self.now c.self.inside.size c.self.view_is c.requires.up))
    (record_view c.self.inside.journal c.args.self.now c.self.inside.size c.args.at c.self.view_is c.requires.package) in
    let within : c.args.at + record_long c.self.inside.journal.plain c.args.at ≤ length c.self.inside.journal.plain =
    record_within c.self.inside.journal.plain c.args.at (c.self.invariant.now (up_is c.self.inside.journal c.args.self.now c.self.inside.size
    c.self.view_is c.requires.up)) (record_view c.self.inside.journal c.args.self.now c.self.inside.size c.args.at c.self.view_is c.requires.package) in
    let long : c.max-long.result ≡ record_long c.self.inside.journal.plain c.args.at = c.max-long.ensures
    ∙ ap (λ w. max w 1) (c.read.ensures ∙ ap (λ a. get_or c.self.inside.journal.plain a 0) c.address-base.ensures) in
    omega (arith, c.address-base.ensures, long, within)

pub returns-clause-exact : goal.returns-clause-exact
returns-clause-exact g c =
    let long : c.max-long.result ≡ record_long c.self.inside.journal.plain c.args.at = c.max-long.ensures
    ∙ ap (λ w. max w 1) (c.read.ensures ∙ ap (λ a. get_or c.self.inside.journal.plain a 0) c.address-base.ensures) in
    c.find_info.ensures
    ∙ ap (λ t. info_of (take c.max-long.result (drop c.address-base.result c.self.inside.journal.plain)) t) c.from.ensures
    ∙ ap (λ n. info_of (take n (drop c.address-base.result c.self.inside.journal.plain)) c.args.tag) long
    ∙ ap (λ a. info_of (take (record_long c.self.inside.journal.plain c.args.at) (drop a c.self.inside.journal.plain)) c.args.tag) c.address-base.ensures
    ∙ ap (λ l. info_of l c.args.tag) (sym (view_record c.self.inside.journal c.args.self.now c.self.inside.size c.args.at c.self.view_is
    (c.self.invariant.now (up_is c.self.inside.journal c.args.self.now c.self.inside.size c.self.view_is c.requires.up)) c.requires.package))

pub returns-clause-within : goal.returns-clause-within
returns-clause-within g c =
    let long : c.max-long.result ≡ record_long c.self.inside.journal.plain c.args.at = c.max-long.ensures
    ∙ ap (λ w. max w 1) (c.read.ensures ∙ ap (λ a. get_or c.self.inside.journal.plain a 0) c.address-base.ensures) in
    let is : c.find_info.result ≡ info_of (record_of c.args.self.now.now c.args.at) c.args.tag =
    c.find_info.ensures
    ∙ ap (λ t. info_of (take c.max-long.result (drop c.address-base.result c.self.inside.journal.plain)) t) c.from.ensures
    ∙ ap (λ n. info_of (take n (drop c.address-base.result c.self.inside.journal.plain)) c.args.tag) long
    ∙ ap (λ a. info_of (take (record_long c.self.inside.journal.plain c.args.at) (drop a c.self.inside.journal.plain)) c.args.tag) c.address-base.ensures
    ∙ ap (λ l. info_of l c.args.tag) (sym (view_record c.self.inside.journal c.args.self.now c.self.inside.size c.args.at c.self.view_is
    (c.self.invariant.now (up_is c.self.inside.journal c.args.self.now c.self.inside.size c.self.view_is c.requires.up)) c.requires.package)) in
    subst (λ o. IfSome o (λ s. IsWithin s (record_of c.args.self.now.now c.args.at))) (sym is)
    (info_within (record_of c.args.self.now.now c.args.at) c.args.tag c.requires.package)
