use Rattle.std.proofs.Common.{◌∙◌, ◌↔◌, IsTrue, ℕ, subst, sym}
use Rattle.jc_transient.specs.State.{AreSizes}
use Rattle.jc_heap.specs.Heap.{cells_word, heap_of}
use Rattle.jc_heap.proofs.AreaSizes.{buffer_read, cells_read}
use Rattle.jc_heap.proofs.sizes.has_sizes.Goals as goal

pub returns : goal.returns
returns g c =
    let cells = c.read.ensures ∙ sym (cells_read c.args.journal.now.plain c.requires.based) in
    let buffer = c.read-2.ensures ∙ sym (buffer_read c.args.journal.now.plain c.requires.based) in
    subst (λ (n : ℕ). IsTrue c.are_sizes.result ↔ AreSizes (cells_word (heap_of c.args.journal.now.plain)) n) buffer
    (subst (λ (n : ℕ). IsTrue c.are_sizes.result ↔ AreSizes n c.read-2.result) cells c.are_sizes.ensures)
