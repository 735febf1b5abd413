-- JCSystem.getAvailableMemory (API specification).
use Rattle.std.specs.Ordering.{int_eq}
use Rattle.std.specs.Prelude.{ℕ, ℤ, pos, ◌*◌, ◌-◌, ◌/◌, ◌%◌, min, if◌then◌else◌, List, [], ◌∷◌, Result, Ok}
use Rattle.jc_heap.specs.Heap.{area_end, area_limit, limit}
use Rattle.jc_frames.specs.declared.cell.Cell.{Cell}
use Rattle.jc_frames.specs.declared.outcome.FrameExit.{FrameExit}
use Rattle.jc_memory.specs.State.{MemoryState}
use Rattle.jc_memory.specs.Cells.{cells_effect, cells_refusal}
use Rattle.jc_memory.specs.Programs.{Perform}
use Rattle.jc_linker.specs.Values.{Packages}
use Rattle.jc_world.specs.declared.native_result.NativeResult.TheVariants.{ReturnVoid}
use Rattle.jc_world.specs.NativeCalls.{NativeProgram, return_value, if_some, if_ok, unless}
use Rattle.jc_world.specs.Objects.{short_argument}
use Rattle.jc_world.specs.Answers.{and_then, returns_short}
use Rattle.jc_api.specs.Arguments.{two_shorts_of}
use Rattle.jc_api_framework.specs.System.Transient.{event_named}

-- how many bytes of a type of memory new objects can take: two for each free word of the heap, or one for each free
-- cell of the area that an event clears
abbrev pub available_bytes : MemoryState → ℤ → Result ℕ FrameExit
available_bytes m type = if int_eq type (pos 0) then Ok (2 * (limit m.heap - m.heap.now.top)) else and_then (event_named type)
    (λ event. Ok (area_limit m.heap.now event - area_end m.heap.now event))

-- JCSystem.getAvailableMemory(byte): that many, at most 32767
unfoldable pub jc_system_get_available_memory : List Cell → MemoryState → NativeProgram
jc_system_get_available_memory args m = if_some (short_argument args 0) (λ type. if_ok (available_bytes m type)
    (λ count. returns_short (pos (min count 32767))))

-- a count of 32 bits as two shorts, the high one first
abbrev pub shorts_of_count : ℕ → List ℕ
shorts_of_count count = count / 65536 ∷ count % 65536 ∷ []

-- JCSystem.getAvailableMemory(short[], short, byte): the whole count, set as one change
unfoldable pub jc_system_get_available_memory_shorts : List Cell → Packages → MemoryState → NativeProgram
jc_system_get_available_memory_shorts args p m = if_some (short_argument args 2) (λ type. if_ok (two_shorts_of args p m) (λ e.
    if_ok (available_bytes m type) (λ count. unless (cells_refusal m e.array e.start (shorts_of_count count))
    (Perform (cells_effect m e.array e.start (shorts_of_count count)) (return_value ReturnVoid)))))
