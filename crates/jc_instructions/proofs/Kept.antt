-- A value of an array's type may be an element of the array.
use Rattle.std.proofs.Common.{◌≡◌, ℕ, true}
use Rattle.jc_transient.specs.declared.cell.CellValue.{CellValue}
use Rattle.jc_transient.specs.declared.cell.CellValue.TheVariants as kept
use Rattle.jc_heap.specs.declared.object.Kind.{Kind}
use Rattle.jc_heap.specs.declared.object.Kind.TheVariants.{Instance, BooleanArray, ByteArray, ShortArray, ReferenceArray}
use Rattle.jc_heap.specs.Heap.{facts}
use Rattle.jc_heap.specs.Object.{IsElement}
use Rattle.jc_heap.specs.WholeHeap.{IsReference}
use Rattle.jc_frames.specs.declared.instr.ValueType.{ValueType}
use Rattle.jc_frames.specs.declared.instr.ValueType.TheVariants as types
use Rattle.jc_memory.specs.State.{MemoryState}
use Rattle.jc_memory.specs.Cells.{MayHave, word_of}
use Rattle.jc_world.specs.Values.{IsValueOf}
use Rattle.jc_instructions.specs.ArrayElements.{has_elements, Refers}

is_element : (of_type : ValueType) (kind : Kind) (v : CellValue) → has_elements of_type kind ≡ true → IsValueOf of_type v → IsElement kind (word_of v)
is_element types.Reference ReferenceArray v e h = λ b. cc
is_element types.Byte BooleanArray (kept.Short x) e h = λ b. h
is_element types.Byte ByteArray (kept.Short x) e h = λ b. h
is_element types.Short ShortArray v e h = λ b. cc
is_element types.Reference Instance v e h = cc
is_element types.Reference BooleanArray v e h = cc
is_element types.Reference ByteArray v e h = cc
is_element types.Reference ShortArray v e h = cc
is_element types.Byte Instance v e h = cc
is_element types.Byte ShortArray v e h = cc
is_element types.Byte ReferenceArray v e h = cc
is_element types.Short Instance v e h = cc
is_element types.Short BooleanArray v e h = cc
is_element types.Short ByteArray v e h = cc
is_element types.Short ReferenceArray v e h = cc
is_element types.Byte BooleanArray (kept.Reference r) e h = absurd h
is_element types.Byte ByteArray (kept.Reference r) e h = absurd h

is_reference : (of_type : ValueType) (kind : Kind) (v : CellValue) (m : MemoryState) → has_elements of_type kind ≡ true → IsValueOf of_type v → Refers m v
    → kind ≡ ReferenceArray → IsReference m.heap.now (word_of v)
is_reference types.Reference kind (kept.Reference r) m e h refers same = refers
is_reference types.Reference kind (kept.Short x) m e h refers same = absurd h
is_reference types.Byte ReferenceArray v m e h refers same = cc
is_reference types.Short ReferenceArray v m e h refers same = cc
is_reference types.Byte Instance v m e h refers same = cc
is_reference types.Byte BooleanArray v m e h refers same = cc
is_reference types.Byte ByteArray v m e h refers same = cc
is_reference types.Byte ShortArray v m e h refers same = cc
is_reference types.Short Instance v m e h refers same = cc
is_reference types.Short BooleanArray v m e h refers same = cc
is_reference types.Short ByteArray v m e h refers same = cc
is_reference types.Short ShortArray v m e h refers same = cc

pub may_have : (of_type : ValueType) (m : MemoryState) (r : ℕ) (v : CellValue) → has_elements of_type (facts m.heap.now r).kind ≡ true → IsValueOf of_type v
    → Refers m v → MayHave m r v
may_have of_type m r v e h refers = record {
  element = is_element of_type (facts m.heap.now r).kind v e h;
  reference = is_reference of_type (facts m.heap.now r).kind v m e h refers;
}
