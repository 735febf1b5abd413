-- Reading and writing elements, and counting them.
use Rattle.std.specs.Prelude.{ℕ, ℤ, None, Some}
use Rattle.std.specs.Int.{w16, cast_signed}
use Rattle.jc_transient.specs.declared.cell.CellValue.{CellValue}
use Rattle.jc_frames.specs.declared.instr.ValueType.{ValueType}
use Rattle.jc_frames.specs.declared.cell.Cell.TheVariants.{Short}
use Rattle.jc_frames.specs.Cell.{reference_on, short_on}
use Rattle.jc_frames.specs.Frames.{Frames, Next, with_stack}
use Rattle.jc_memory.specs.State.{MemoryState}
use Rattle.jc_memory.specs.Cells.{cell_refusal, cell_effect}
use Rattle.jc_memory.specs.Programs.{Program, Perform}
use Rattle.jc_linker.specs.Values.{Packages}
use Rattle.jc_world.specs.Instructions.{continue_with, if_ok, if_some, unless}
use Rattle.jc_world.specs.Values.{keepable, value_at, value_on, with_top}
use Rattle.jc_instructions.specs.ArrayElements.{array_at, element_at, element_value, with_index}

-- the element with this index of this array comes on the stack
unfoldable pub element_read : ValueType → ℕ → ℤ → Packages → Frames → MemoryState → Program (Next Frames)
element_read of_type r i p s m = if_ok s (element_at of_type p m r i) (λ e. continue_with (with_top (value_at of_type m r e.index) s))

-- it is set: the firewall is asked for the array and for what is stored, then the index and the value's type are tested
unfoldable pub element_write : ValueType → ℕ → ℤ → CellValue → Packages → Frames → MemoryState → Program (Next Frames)
element_write of_type r i value p s m =
    if_ok s (array_at (Some of_type) p m r) (λ f. if_ok s (keepable p m value) (λ k. if_ok s (with_index f i) (λ e. if_ok s (element_value p m e.class k) (λ v.
    unless s (cell_refusal m r e.index) (Perform (cell_effect m r e.index v) (continue_with s))))))

-- aaload, baload, saload: the element with the index on top, of the array below it, is pushed
unfoldable pub array_load : ValueType → Packages → Frames → MemoryState → Program (Next Frames)
array_load of_type p s m =
    if_some (short_on s.current.stack) (λ i. if_some (reference_on i.1) (λ q. element_read of_type q.0 i.0 p (with_stack s q.1) m))

-- aastore, bastore, sastore: an element is set to the value on top; below it are the index and the array
unfoldable pub array_store : ValueType → Packages → Frames → MemoryState → Program (Next Frames)
array_store of_type p s m =
    if_some (value_on of_type s.current.stack) (λ v. if_some (short_on v.1) (λ i. if_some (reference_on i.1) (λ q.
    element_write of_type q.0 i.0 v.0 p (with_stack s q.1) m)))

-- arraylength: the number of elements of the array on top is pushed
unfoldable pub arraylength : Packages → Frames → MemoryState → Program (Next Frames)
arraylength p s m =
    if_some (reference_on s.current.stack) (λ q. if_ok s (array_at None p m q.0) (λ f. continue_with
    (with_top (Short (cast_signed w16 f.length)) (with_stack s q.1))))
