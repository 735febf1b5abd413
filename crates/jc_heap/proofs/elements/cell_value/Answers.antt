use Rattle.std.proofs.Common.{length, sym, ap, ◌∙◌}
use Rattle.std.specs.Prelude.{slice_index}
use Rattle.jc_heap.specs.Packed.{byte_in}
use Rattle.jc_heap.proofs.Views.{readable, packed_spot, packed_read, single_spot, single_read}
use Rattle.jc_heap.proofs.elements.cell_value.Goals as goal

pub read_at-requires : goal.read_at-requires
read_at-requires g c =
    let spot = packed_spot c.args.journal.now.plain c.args.object c.args.i c.requires.cell (sym c.is_packed.ensures ∙ c.if-is_packed.true) in
    rw c.place_at.ensures (readable (length c.args.journal.now.plain) _ spot.0 spot.1)

pub returns-then-is_packed : goal.returns-then-is_packed
returns-then-is_packed g c =
    c.from.ensures ∙ c.byte_in.ensures ∙ ap (λ w. byte_in w c.args.i) (c.read_at.ensures ∙ ap (slice_index c.args.journal.now.plain) c.place_at.ensures)
    ∙ sym (packed_read c.args.journal.now.plain c.args.object c.args.i c.requires.cell (sym c.is_packed.ensures ∙ c.if-is_packed.true))

pub read_at-requires-2 : goal.read_at-requires-2
read_at-requires-2 g c =
    let spot = single_spot c.args.journal.now.plain c.args.object c.args.i c.requires.cell (sym c.is_packed.ensures ∙ c.if-is_packed.false) in
    rw c.place_at-2.ensures (readable (length c.args.journal.now.plain) _ spot.0 spot.1)

pub returns : goal.returns
returns g c =
    c.read_at-2.ensures ∙ ap (slice_index c.args.journal.now.plain) c.place_at-2.ensures
    ∙ sym (single_read c.args.journal.now.plain c.args.object c.args.i c.requires.cell (sym c.is_packed.ensures ∙ c.if-is_packed.false))
