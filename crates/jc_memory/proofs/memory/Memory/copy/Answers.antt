use Rattle.std.proofs.Common.{Bool, List, subst, sym}
use Rattle.jc_transient.specs.State.{RamState}
use Rattle.jc_heap.specs.Heap.{HeapView}
use Rattle.jc_memory.specs.declared.images.KnownImage.{KnownImage}
use Rattle.jc_memory.specs.Marks.{AreKnown}
use Rattle.jc_memory.specs.State.{IsConsistentMemory}
use Rattle.jc_memory.proofs.memory.Memory.copy.Goals as goal

pub invariant_of-result : goal.invariant_of-result
invariant_of-result g c =
    let of_marks = subst (λ (m : List Bool). IsConsistentMemory c.self.inside.heap c.self.inside.ram × AreKnown m c.self.inside.images c.self.inside.heap)
    (sym c.in_ok-ram.ensures.1) c.self.invariant in
    let of_images = subst (λ (i : List KnownImage). IsConsistentMemory c.self.inside.heap c.self.inside.ram
    × AreKnown c.in_ok-ram.marks i c.self.inside.heap) (sym c.in_ok-ram.ensures.2) of_marks in
    let of_ram = subst (λ (r : RamState). IsConsistentMemory c.self.inside.heap r × AreKnown c.in_ok-ram.marks c.in_ok-ram.images c.self.inside.heap)
    (sym c.in_ok-ram.ensures.0) of_images in
    subst (λ (h : HeapView). IsConsistentMemory h c.in_ok-ram.ram × AreKnown c.in_ok-ram.marks c.in_ok-ram.images h) (sym c.in_ok-heap.ensures) of_ram
