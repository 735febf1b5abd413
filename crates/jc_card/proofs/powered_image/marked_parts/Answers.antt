use Rattle.std.proofs.Common.{◌∙◌, sym}
use Rattle.jc_heap.specs.Heap.{heap_of}
use Rattle.jc_card.proofs.PoweredImages.{flags_set}
use Rattle.jc_card.proofs.powered_image.marked_parts.Goals as goal

pub returns-in-Ok-read_parts-clause-marked : goal.returns-in-Ok-read_parts-clause-marked
returns-in-Ok-read_parts-clause-marked g c =
    flags_set c.in-Ok.marks.items c.read_parts.new.marks _ (heap_of c.args.image.plain) (c.in-Ok.ensures.long ∙ sym c.in-Ok-read_parts.ensures.long)
    c.in-Ok-read_parts.ensures.marked
