-- The APDU buffer as the runtime environment fills it.
use Rattle.std.specs.Prelude.{ℕ, ◌-◌, ◌==◌, ◌&&◌, nat_le, Bool, true, false, List, ◌++◌, length, replicate, is_some, slice_index, Option, Some, None}
use Rattle.std.specs.Prelude.{if◌then◌else◌}
use Rattle.jc_transient.specs.State.{buffer_size}
use Rattle.jc_environment.specs.Objects.{apdu_place, buffer_place}
use Rattle.jc_heap.specs.declared.object.Facts.{Facts}
use Rattle.jc_heap.specs.declared.object.Kind.{Kind}
use Rattle.jc_heap.specs.declared.object.Kind.TheVariants.{Instance, BooleanArray, ByteArray, ShortArray, ReferenceArray}
use Rattle.jc_memory.specs.State.{MemoryState}
use Rattle.jc_memory.specs.Programs.{Program, Perform, Finish}
use Rattle.jc_memory.specs.Cells.{header_at, cells_effect}

-- the APDU object, and the APDU buffer
abbrev pub apdu_object : MemoryState → ℕ
apdu_object m = slice_index m.fixed apdu_place

abbrev pub apdu_buffer : MemoryState → ℕ
apdu_buffer m = slice_index m.fixed buffer_place

-- these bytes, and zeros after them up to this size
abbrev pub padded_bytes : ℕ → List ℕ → List ℕ
padded_bytes size bytes = bytes ++ replicate (size - length bytes) 0

abbrev pub is_of_bytes : Kind → Bool
is_of_bytes Instance = false
is_of_bytes BooleanArray = false
is_of_bytes ByteArray = true
is_of_bytes ShortArray = false
is_of_bytes ReferenceArray = false

-- a transient array of bytes with room for any command in the short form
abbrev pub is_buffer : Facts → Bool
is_buffer f = is_of_bytes f.kind && is_some f.event && nat_le buffer_size f.length

-- the buffer is filled, as every image has it: with these bytes, and zeros after them
abbrev pub buffer_fill_in : MemoryState → Option Facts → List ℕ → Program (Unit {0})
buffer_fill_in m None bytes = Finish tt
buffer_fill_in m (Some f) bytes =
    if is_buffer f then Perform (cells_effect m (apdu_buffer m) 0 (padded_bytes f.length bytes)) (Finish tt) else Finish tt

-- the buffer holds these bytes and zeros after them
unfoldable pub buffer_fill : MemoryState → List ℕ → Program (Unit {0})
buffer_fill m bytes = buffer_fill_in m (header_at m (apdu_buffer m)) bytes
