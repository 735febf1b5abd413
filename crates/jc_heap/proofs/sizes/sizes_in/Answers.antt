use Rattle.std.proofs.Common.{◌∙◌, sym}
use Rattle.jc_transient.specs.State.{ram_sizes}
use Rattle.jc_heap.proofs.AreaSizes.{buffer_read, cells_read}
use Rattle.jc_heap.proofs.sizes.sizes_in.Goals as goal

pub returns : goal.returns
returns g c =
    let cells = c.read.ensures ∙ sym (cells_read c.args.journal.now.plain c.requires.based) in
    let buffer = c.read-2.ensures ∙ sym (buffer_read c.args.journal.now.plain c.requires.based) in
    c.told.ensures ∙ (λ i. ram_sizes (cells i) (buffer i))
