-- What the checks of instructions give where code does not go on: an exception, or a code fault.
use Rattle.std.specs.Prelude.{◌^◌, ◌==◌, ℕ, ℤ, pos, negsuc, nat_lt, Bool, Option, Some, None, Result, Ok, Err}
use Rattle.jc_transient.specs.declared.cell.CellValue.{CellValue}
use Rattle.jc_transient.specs.declared.cell.CellValue.TheVariants as kept
use Rattle.jc_heap.specs.declared.object.Facts.{Facts}
use Rattle.jc_firewall.specs.declared.access.Access.TheVariants.{ArrayElement, InstanceField, StoreReference}
use Rattle.jc_memory.specs.Cells.{header_at}
use Rattle.jc_memory.specs.State.{MemoryState}
use Rattle.jc_linker.specs.Values.{Packages}
use Rattle.jc_frames.specs.declared.instr.ValueType.{ValueType}
use Rattle.jc_frames.specs.declared.outcome.FrameExit.{FrameExit}
use Rattle.jc_world.specs.Objects.{object_at, storable_in, storable_of}
use Rattle.jc_world.specs.Types.{is_a}
use Rattle.jc_world.specs.Values.{keepable, value_if_allowed}
use Rattle.jc_api.proofs.Exits.{FaultsOnly, plain_if, plain_firewall, plain_object}
use Rattle.jc_instructions.specs.ArrayElements.{array_at, array_in, assignable_in, assignable_or_null, element_at, element_if_assignable, element_in}
use Rattle.jc_instructions.specs.ArrayElements.{element_value, header_if_allowed, is_array, with_index}
use Rattle.jc_instructions.specs.Fields.{cell_if_allowed, cell_in, field_cell, has_cell}
use Rattle.jc_instructions.specs.ObjectCreation.{cells_for}
use Rattle.jc_instructions.specs.ObjectTypes.{access_to, is_of_type}
use Rattle.jc_instructions.specs.TypeChecks.{answer_if_allowed, type_test, type_test_of}
use Rattle.jc_instructions.specs.declared.field_names.FieldOfClass.{FieldOfClass}
use Rattle.jc_instructions.specs.declared.object_types.ObjectType.{ObjectType}

-- ---- values

plain_storable_in : (p : Packages) (m : MemoryState) (o : Option Facts) → FaultsOnly (storable_in p m o)
plain_storable_in p m None = tt
plain_storable_in p m (Some f) = plain_firewall StoreReference p m f

plain_storable : (p : Packages) (m : MemoryState) (r : ℕ) → FaultsOnly (storable_of p m r)
unfolding storable_of
plain_storable p m r = plain_if (r == 0) _ _ tt (plain_storable_in p m (header_at m r))

plain_value : (value : CellValue) (x : Result (Unit {0}) FrameExit) → FaultsOnly x → FaultsOnly (value_if_allowed value x)
plain_value value (Ok u) plain = tt
plain_value value (Err e) plain = plain

pub plain_keepable : (p : Packages) (m : MemoryState) (value : CellValue) → FaultsOnly (keepable p m value)
plain_keepable p m (kept.Short x) = tt
plain_keepable p m (kept.Reference r) = plain_value (kept.Reference r) (storable_of p m r) (plain_storable p m r)

-- ---- fields, elements and types of objects

plain_cell_if : (i : ℕ) (x : Result (Unit {0}) FrameExit) → FaultsOnly x → FaultsOnly (cell_if_allowed i x)
plain_cell_if i (Ok u) plain = tt
plain_cell_if i (Err e) plain = plain

plain_cell_in : (field : FieldOfClass) (p : Packages) (m : MemoryState) (x : Result Facts FrameExit) → FaultsOnly x → FaultsOnly (cell_in field p m x)
plain_cell_in field p m (Err e) plain = plain
plain_cell_in field p m (Ok f) plain = plain_if (has_cell field p f) _ _ (plain_cell_if field.cell _ (plain_firewall InstanceField p m f)) tt

pub plain_field : (field : FieldOfClass) (p : Packages) (m : MemoryState) (r : ℕ) → FaultsOnly (field_cell field p m r)
unfolding field_cell
plain_field field p m r = plain_cell_in field p m (object_at m r) (plain_object m r)

plain_header_if : (f : Facts) (x : Result (Unit {0}) FrameExit) → FaultsOnly x → FaultsOnly (header_if_allowed f x)
plain_header_if f (Ok u) plain = tt
plain_header_if f (Err e) plain = plain

plain_array_in : (t : Option ValueType) (p : Packages) (m : MemoryState) (x : Result Facts FrameExit) → FaultsOnly x → FaultsOnly (array_in t p m x)
plain_array_in t p m (Err e) plain = plain
plain_array_in t p m (Ok f) plain = plain_if (is_array t f.kind) _ _ (plain_header_if f _ (plain_firewall ArrayElement p m f)) tt

pub plain_array : (t : Option ValueType) (p : Packages) (m : MemoryState) (r : ℕ) → FaultsOnly (array_at t p m r)
unfolding array_at
plain_array t p m r = plain_array_in t p m (object_at m r) (plain_object m r)

pub plain_index : (f : Facts) (i : ℤ) → FaultsOnly (with_index f i)
plain_index f (pos i) = plain_if (nat_lt i f.length) _ _ tt tt
plain_index f (negsuc i) = tt

plain_element_in : (i : ℤ) (x : Result Facts FrameExit) → FaultsOnly x → FaultsOnly (element_in i x)
plain_element_in i (Err e) plain = plain
plain_element_in i (Ok f) plain = plain_index f i

pub plain_element : (t : ValueType) (p : Packages) (m : MemoryState) (r : ℕ) (i : ℤ) → FaultsOnly (element_at t p m r i)
unfolding element_at
plain_element t p m r i = plain_element_in i (array_at (Some t) p m r) (plain_array (Some t) p m r)

plain_assignable_in : (p : Packages) (class : ℕ) (o : Option Facts) → FaultsOnly (assignable_in p class o)
plain_assignable_in p class None = tt
plain_assignable_in p class (Some f) = plain_if (is_a p f class) _ _ tt tt

plain_assignable : (p : Packages) (m : MemoryState) (class r : ℕ) → FaultsOnly (assignable_or_null p m class r)
unfolding assignable_or_null
plain_assignable p m class r = plain_if (r == 0) _ _ tt (plain_assignable_in p class (header_at m r))

plain_element_if : (value : CellValue) (x : Result (Unit {0}) FrameExit) → FaultsOnly x → FaultsOnly (element_if_assignable value x)
plain_element_if value (Ok u) plain = tt
plain_element_if value (Err e) plain = plain

pub plain_element_value : (p : Packages) (m : MemoryState) (class : ℕ) (value : CellValue) → FaultsOnly (element_value p m class value)
unfolding element_value
plain_element_value p m class (kept.Short x) = tt
plain_element_value p m class (kept.Reference r) = plain_element_if (kept.Reference r) _ (plain_assignable p m class r)

plain_answer_if : (answer : Bool) (x : Result (Unit {0}) FrameExit) → FaultsOnly x → FaultsOnly (answer_if_allowed answer x)
plain_answer_if answer (Ok u) plain = tt
plain_answer_if answer (Err e) plain = plain

plain_type_of : (t : ObjectType) (p : Packages) (m : MemoryState) (x : Result Facts FrameExit) → FaultsOnly x → FaultsOnly (type_test_of t p m x)
plain_type_of t p m (Err e) plain = plain
plain_type_of t p m (Ok f) plain = plain_answer_if (is_of_type t p f) _ (plain_firewall (access_to p t) p m f)

pub plain_type : (null : Bool) (t : ObjectType) (p : Packages) (m : MemoryState) (r : ℕ) → FaultsOnly (type_test null t p m r)
unfolding type_test
plain_type null t p m r = plain_if (r == 0) _ _ tt (plain_type_of t p m (object_at m r) (plain_object m r))

pub plain_size : (size : ℕ) → FaultsOnly (cells_for size)
plain_size size = plain_if (nat_lt size (2 ^ 16)) _ _ tt tt
