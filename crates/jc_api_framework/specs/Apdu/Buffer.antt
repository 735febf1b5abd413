-- The APDU buffer.
use Rattle.std.specs.Prelude.{ℕ, ◌≡◌, ◌≤◌, ◌&&◌, nat_le, Bool, false, slice_index, if◌then◌else◌, Option, Some, None}
use Rattle.jc_transient.specs.State.{buffer_size, most_buffer}
use Rattle.jc_environment.specs.Objects.{buffer_place}
use Rattle.jc_heap.specs.declared.object.Facts.{Facts}
use Rattle.jc_heap.specs.declared.object.Kind.{Kind}
use Rattle.jc_heap.specs.declared.object.Kind.TheVariants.{Instance, BooleanArray, ByteArray, ShortArray, ReferenceArray}
use Rattle.jc_heap.specs.Heap.{IsObject, facts}
use Rattle.jc_memory.specs.State.{MemoryState}
use Rattle.jc_memory.specs.Cells.{header_at}

-- an array of bytes that is as long as a buffer may be
abbrev pub is_buffer_of : Kind → ℕ → Bool
is_buffer_of Instance n = false
is_buffer_of BooleanArray n = false
is_buffer_of ByteArray n = nat_le buffer_size n && nat_le n most_buffer
is_buffer_of ShortArray n = false
is_buffer_of ReferenceArray n = false

abbrev pub is_buffer : Option Facts → Bool
is_buffer None = false
is_buffer (Some f) = is_buffer_of f.kind f.length

-- the buffer, which stands among the objects with which the heap begins. A heap without one is no heap of a card
unfoldable pub buffer_of : MemoryState → Option ℕ
buffer_of m = if is_buffer (header_at m (slice_index m.fixed buffer_place)) then Some (slice_index m.fixed buffer_place) else None

-- what is so of it
pub record IsBuffer (m : MemoryState) (r : ℕ) : Type 0 where
  pub there : IsObject m.heap.now r
  pub bytes : (facts m.heap.now r).kind ≡ ByteArray
  pub long : buffer_size ≤ (facts m.heap.now r).length
  pub short : (facts m.heap.now r).length ≤ most_buffer

-- how many bytes it has
abbrev pub buffer_length : MemoryState → ℕ → ℕ
buffer_length m r = (facts m.heap.now r).length
