-- Fields of objects: `getfield`, `putfield` and their other forms.
use Rattle.std.specs.Prelude.{ℕ, ◌&&◌, nat_lt, Bool, slice_get, Option, None, Result, Ok, Err, if◌then◌else◌}
use Rattle.std.specs.Option.{option_and_then}
use Rattle.jc_transient.specs.declared.cell.CellValue.{CellValue}
use Rattle.jc_heap.specs.declared.object.Facts.{Facts}
use Rattle.jc_frames.specs.declared.instr.ValueType.{ValueType}
use Rattle.jc_frames.specs.declared.outcome.Outcome.TheVariants.{Fault}
use Rattle.jc_frames.specs.declared.outcome.FrameExit.{FrameExit}
use Rattle.jc_frames.specs.declared.outcome.FrameExit.TheVariants.{End}
use Rattle.jc_frames.specs.Cell.{as_reference, reference_on}
use Rattle.jc_frames.specs.Frames.{Frames, Next, has_room, with_stack}
use Rattle.jc_memory.specs.State.{MemoryState}
use Rattle.jc_memory.specs.Cells.{cell_refusal, cell_effect}
use Rattle.jc_memory.specs.Programs.{Program, Perform}
use Rattle.jc_linker.specs.Values.{Packages}
use Rattle.jc_firewall.specs.declared.access.Access.TheVariants.{InstanceField}
use Rattle.jc_world.specs.Contexts.{firewall_check}
use Rattle.jc_world.specs.Instructions.{continue_with, if_ok, if_some, unless}
use Rattle.jc_world.specs.Objects.{is_instance_of, object_at}
use Rattle.jc_world.specs.Values.{keepable, with_top, value_at, value_on}
use Rattle.jc_instructions.specs.declared.field_names.FieldOfClass.{FieldOfClass}
use Rattle.jc_instructions.specs.FieldNames.{field_named}

-- an object has a field: it is an instance of the field's class
abbrev pub has_cell : FieldOfClass → Packages → Facts → Bool
has_cell field p f = is_instance_of p f field.class && nat_lt field.cell f.length

-- the cell, where an access is allowed
abbrev pub cell_if_allowed : ℕ → Result (Unit {0}) FrameExit → Result ℕ FrameExit
cell_if_allowed i (Ok u) = Ok i
cell_if_allowed i (Err e) = Err e

-- the cell of a field in an object: one that has not the field is a code fault, and the firewall may refuse it
abbrev pub cell_in : FieldOfClass → Packages → MemoryState → Result Facts FrameExit → Result ℕ FrameExit
cell_in field p m (Err e) = Err e
cell_in field p m (Ok f) = if has_cell field p f then cell_if_allowed field.cell (firewall_check InstanceField p m f) else Err (End Fault)

-- the cell of a field in the object that a reference names, as the code that runs may reach it
unfoldable pub field_cell : FieldOfClass → Packages → MemoryState → ℕ → Result ℕ FrameExit
field_cell field p m r = cell_in field p m (object_at m r)

-- the field that an entry of the pool of the package that runs names
abbrev pub own_field : ValueType → ℕ → Packages → Frames → Option FieldOfClass
own_field of_type index p s = field_named of_type p s.current.origin.package_number index

-- the field of this object comes on the stack
unfoldable pub field_read : ValueType → ℕ → ℕ → Packages → Frames → MemoryState → Program (Next Frames)
field_read of_type index r p s m =
    if_some (own_field of_type index p s) (λ field. if_ok s (field_cell field p m r) (λ i. continue_with (with_top (value_at of_type m r i) s)))

-- the field of this object is set
unfoldable pub field_write : ValueType → ℕ → ℕ → CellValue → Packages → Frames → MemoryState → Program (Next Frames)
field_write of_type index r value p s m =
    if_some (own_field of_type index p s) (λ field. if_ok s (field_cell field p m r) (λ i. if_ok s (keepable p m value) (λ v.
    unless s (cell_refusal m r i) (Perform (cell_effect m r i v) (continue_with s)))))

-- the same, where the field is known
abbrev pub write_of_field : FieldOfClass → ℕ → CellValue → Packages → Frames → MemoryState → Program (Next Frames)
write_of_field field r value p s m =
    if_ok s (field_cell field p m r) (λ i. if_ok s (keepable p m value) (λ v.
    unless s (cell_refusal m r i) (Perform (cell_effect m r i v) (continue_with s))))

-- the object whose method runs: it is in local 0
abbrev pub this_of : Frames → Option ℕ
this_of s = option_and_then as_reference (slice_get s.current.locals 0)

-- it, where the stack has room for what comes on it
abbrev pub this_for_more : Frames → Option ℕ
this_for_more s = if has_room s.current then this_of s else None

-- getfield_a, getfield_b, getfield_s, getfield_a_w, getfield_b_w, getfield_s_w: a field of the object on the
-- stack is pushed
unfoldable pub getfield : ValueType → ℕ → Packages → Frames → MemoryState → Program (Next Frames)
getfield of_type index p s m = if_some (reference_on s.current.stack) (λ q. field_read of_type index q.0 p (with_stack s q.1) m)

-- putfield_a, putfield_b, putfield_s, putfield_a_w, putfield_b_w, putfield_s_w: a field of the object on the
-- stack is set to the value above it
unfoldable pub putfield : ValueType → ℕ → Packages → Frames → MemoryState → Program (Next Frames)
putfield of_type index p s m =
    if_some (value_on of_type s.current.stack) (λ v. if_some (reference_on v.1) (λ q. field_write of_type index q.0 v.0 p (with_stack s q.1) m))

-- getfield_a_this, getfield_b_this, getfield_s_this: a field of the object in local 0 is pushed
unfoldable pub getfield_this : ValueType → ℕ → Packages → Frames → MemoryState → Program (Next Frames)
getfield_this of_type index p s m = if_some (this_for_more s) (λ r. field_read of_type index r p s m)

-- putfield_a_this, putfield_b_this, putfield_s_this: a field of the object in local 0 is set to the value on
-- top
unfoldable pub putfield_this : ValueType → ℕ → Packages → Frames → MemoryState → Program (Next Frames)
putfield_this of_type index p s m = if_some (value_on of_type s.current.stack) (λ v. if_some (this_of s)
    (λ r. field_write of_type index r v.0 p (with_stack s v.1) m))
