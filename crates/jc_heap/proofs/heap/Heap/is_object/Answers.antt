use Rattle.std.proofs.Common.{IsTrue, false, ◌↔◌, not, ◌≡◌, ◌+◌, ◌/◌, ◌∙◌, ap, sym, subst, refl, drop}
use Rattle.jc_words.specs.Layout.{text_start}
use Rattle.jc_heap.specs.Walk.{records_from, missing_words, has_entry}
use Rattle.jc_heap.specs.Image.{image, package_addresses, is_package, sizes, base, records}
use Rattle.jc_heap.specs.Heap.{IsObject}
use Rattle.jc_heap.proofs.Changing.{up_is}
use Rattle.jc_heap.proofs.Following.{whole_first, base_is}
use Rattle.jc_heap.proofs.Reading.{object_here}
use Rattle.jc_heap.proofs.heap.Heap.is_object.Goals as goal

pub begins_record-requires-clause-whole : goal.begins_record-requires-clause-whole
begins_record-requires-clause-whole g c =
    let e : text_start + (c.from-text.result + 1) / 2 ≡ base (image c.self.inside.journal.plain) =
    ap (λ n. text_start + (n + 1) / 2) (c.from-text.ensures ∙ c.read.ensures) ∙ sym
    (base_is c.self.inside.journal.plain (c.self.invariant.now (up_is c.self.inside.journal c.args.self.now c.self.inside.size c.self.view_is
    c.requires))) in
    subst (λ a. missing_words (sizes (package_addresses (image c.self.inside.journal.plain))) 0 a (drop a (image c.self.inside.journal.plain)) ≡ 0) (sym e)
    (whole_first c.self.inside.journal.plain (c.self.invariant.now (up_is c.self.inside.journal c.args.self.now c.self.inside.size c.self.view_is
    c.requires)))

pub returns-then-not-begins_record : goal.returns-then-not-begins_record
returns-then-not-begins_record g c =
    let e : text_start + (c.from-text.result + 1) / 2 ≡ base (image c.self.inside.journal.plain) =
    ap (λ n. text_start + (n + 1) / 2) (c.from-text.ensures ∙ c.read.ensures) ∙ sym
    (base_is c.self.inside.journal.plain (c.self.invariant.now (up_is c.self.inside.journal c.args.self.now c.self.inside.size c.self.view_is
    c.requires))) in
    let is : c.begins_record.result ≡ has_entry (records (image c.self.inside.journal.plain)) c.args.word = c.begins_record.ensures
    ∙ ap (λ a. has_entry (records_from (sizes (package_addresses (image c.self.inside.journal.plain))) 0 a (drop a (image c.self.inside.journal.plain)))
    c.args.word) e in
    subst (λ v. IsTrue false ↔ IsObject v.now c.args.word) c.self.view_is (rw c.if-not-begins_record.true at
    (object_here c.self.inside.journal.plain c.args.word (c.self.invariant.now (up_is c.self.inside.journal c.args.self.now c.self.inside.size
    c.self.view_is c.requires)) c.begins_record.result (is_package (package_addresses (image c.self.inside.journal.plain)) c.args.word) is refl))

pub returns : goal.returns
returns g c =
    let e : text_start + (c.from-text.result + 1) / 2 ≡ base (image c.self.inside.journal.plain) =
    ap (λ n. text_start + (n + 1) / 2) (c.from-text.ensures ∙ c.read.ensures) ∙ sym
    (base_is c.self.inside.journal.plain (c.self.invariant.now (up_is c.self.inside.journal c.args.self.now c.self.inside.size c.self.view_is
    c.requires))) in
    let is : c.begins_record.result ≡ has_entry (records (image c.self.inside.journal.plain)) c.args.word = c.begins_record.ensures
    ∙ ap (λ a. has_entry (records_from (sizes (package_addresses (image c.self.inside.journal.plain))) 0 a (drop a (image c.self.inside.journal.plain)))
    c.args.word) e in
    subst (λ v. IsTrue (not c.begins_package.result) ↔ IsObject v.now c.args.word) c.self.view_is
    (rw c.if-not-begins_record.false at (object_here c.self.inside.journal.plain c.args.word
    (c.self.invariant.now (up_is c.self.inside.journal c.args.self.now c.self.inside.size c.self.view_is c.requires)) c.begins_record.result
    c.begins_package.result is c.begins_package.ensures))
