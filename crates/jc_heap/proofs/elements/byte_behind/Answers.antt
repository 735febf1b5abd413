use Rattle.std.proofs.Common.{◌≡◌, ◌<◌, ◌/◌, ◌-◌, length, subst, arith}
use Rattle.jc_heap.proofs.Views.{readable, packed_spot}
use Rattle.jc_heap.specs.Heap.{cell_address}
use Rattle.std.proofs.Common.{◌≤◌, ℕ}
use Rattle.jc_words.specs.Layout.{text_start}
use Rattle.jc_heap.proofs.elements.byte_behind.Goals as goal

pub word_at-requires : goal.word_at-requires
word_at-requires g c =
    let last : (c.args.end - 1) / 2 ≡ c.args.end / 2 = omega (arith, c.requires.some, c.if-end-eq0.false) in
    let spot = packed_spot c.args.journal.now.plain c.args.object (c.args.end - 1) (omega (arith, c.requires.cell, c.requires.some)) c.requires.packed in
    subst (λ (k : ℕ). cell_address c.args.object k < 65536) last (omega (arith, spot.0, c.requires.small))

pub read-requires : goal.read-requires
read-requires g c =
    let last : (c.args.end - 1) / 2 ≡ c.args.end / 2 = omega (arith, c.requires.some, c.if-end-eq0.false) in
    let spot = packed_spot c.args.journal.now.plain c.args.object (c.args.end - 1) (omega (arith, c.requires.cell, c.requires.some)) c.requires.packed in
    let there = subst (λ (k : ℕ). (cell_address c.args.object k < length c.args.journal.now.plain) × (text_start ≤ cell_address c.args.object k)) last spot in
    rw c.word_at.ensures (readable (length c.args.journal.now.plain) _ there.0 there.1)

pub overflow_cast-end : goal.overflow_cast-end
unfolding cell_address
overflow_cast-end g c =
    let last : (c.args.end - 1) / 2 ≡ c.args.end / 2 = omega (arith, c.requires.some, c.if-end-eq0.false) in
    let spot = packed_spot c.args.journal.now.plain c.args.object (c.args.end - 1) (omega (arith, c.requires.cell, c.requires.some)) c.requires.packed in
    omega (arith, last, spot.0, c.requires.small)
