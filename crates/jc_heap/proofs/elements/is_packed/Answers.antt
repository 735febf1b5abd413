use Rattle.std.proofs.Common.{length, sym, ap, ◌∙◌, arith}
use Rattle.std.specs.Prelude.{slice_index}
use Rattle.jc_heap.specs.Heap.{heap_of}
use Rattle.jc_heap.specs.Object.{is_packed_header}
use Rattle.jc_heap.proofs.Views.{readable}
use Rattle.jc_heap.proofs.Images.{has_cells}
use Rattle.jc_heap.proofs.Reading.{Spot, spot_at, packed_said}
use Rattle.jc_heap.proofs.elements.is_packed.Goals as goal

pub read-requires : goal.read-requires
read-requires g c =
    let s : Spot c.args.journal.now c.address.result = spot_at c.args.journal.now c.args.object c.address.result c.requires.laid c.requires.small
    (has_cells (heap_of c.args.journal.now.plain) c.args.object 0 c.requires.some) c.address.ensures in
    readable (length c.args.journal.now.plain) c.address.result (omega (arith, s.high)) s.low

pub returns : goal.returns
returns g c =
    c.is_packed_header.ensures ∙ ap is_packed_header (c.read.ensures ∙ ap (slice_index c.args.journal.now.plain) c.address.ensures)
    ∙ sym (packed_said c.args.journal.now.plain c.args.object c.requires.laid (has_cells (heap_of c.args.journal.now.plain) c.args.object 0 c.requires.some))
