-- Form 3 of calls: a call that makes an object of the platform with a state.
use Rattle.std.specs.Prelude.{ℕ, ℤ, ◌+◌, ◌≡◌, ◌≤◌, ◌==◌, Bool, true, false, nat_le, is_some, [], ◌∷◌, length, Option, Some, None, Result, if◌then◌else◌}
use Rattle.jc_transient.specs.declared.cell.CellValue.TheVariants as value
use Rattle.jc_transient.specs.declared.cell.ClearEvent.{ClearEvent}
use Rattle.jc_heap.specs.Heap.{limit, unlogged_places}
use Rattle.jc_heap.specs.Moves.{Write}
use Rattle.jc_heap.specs.Object.{object_size, transient_size}
use Rattle.jc_heap.specs.declared.object.Kind.{Kind}
use Rattle.jc_heap.specs.declared.object.Kind.TheVariants.{ByteArray, Instance, ShortArray}
use Rattle.jc_heap.specs.Touch.{touch_words}
use Rattle.jc_heap.specs.declared.place.Place.TheVariants as place
use Rattle.jc_heap.specs.declared.touch.Touch.TheVariants as touch
use Rattle.jc_frames.specs.Reasons.{buffer_full, no_resource}
use Rattle.jc_frames.specs.declared.cell.Cell.TheVariants.{Reference}
use Rattle.jc_frames.specs.declared.outcome.FrameExit.{FrameExit}
use Rattle.jc_memory.specs.Cells.{word_of}
use Rattle.jc_memory.specs.Making.{creation_refusal, object_creation}
use Rattle.jc_memory.specs.Programs.{Finish, Perform, Program, bind}
use Rattle.jc_memory.specs.State.{HeapMove, MemoryState}
use Rattle.jc_memory.specs.declared.making.NewObject.{NewObject}
use Rattle.jc_platform.specs.NamePlaces.{class_word}
use Rattle.jc_platform.specs.Tokens.{token_of_class}
use Rattle.jc_platform.specs.Hierarchy.{cells_of, holds_reference, is_interface}
use Rattle.jc_platform.specs.declared.names.PlatformClass.{PlatformClass}
use Rattle.jc_linker.specs.Values.{Packages}
use Rattle.jc_world.specs.NativeCalls.{NativeProgram, code_fault, if_ok, return_value, throw_exception, unless}
use Rattle.jc_world.specs.declared.native_result.NativeResult.TheVariants.{ReturnValue}
use Rattle.jc_api.specs.Exits.{plainly}
use Rattle.jc_api.specs.declared.factory.NewEngine.{NewEngine}
use Rattle.jc_api.specs.declared.factory.StateKind.{StateKind}
use Rattle.jc_api.specs.declared.factory.StateKind.TheVariants.{Bytes, Shorts}

-- the first cells of such an object: a number, and the array of its state
abbrev pub number_cell : ℕ
number_cell = 0

abbrev pub state_cell : ℕ
state_cell = 1

-- a class of such objects: it has those two cells first
pub record HasState (class : PlatformClass) : Type 0 where
  pub instances : is_interface class ≡ false
  pub cells : 2 ≤ cells_of class
  pub number : holds_reference class number_cell ≡ false
  pub state : holds_reference class state_cell ≡ true

-- the kind of the array of a state, by its elements
abbrev pub kind_of_state : StateKind → Kind
kind_of_state Shorts = ShortArray
kind_of_state Bytes = ByteArray

-- that array, of whom the code runs for
abbrev pub state_array : NewEngine → MemoryState → NewObject
state_array e m = record { kind = kind_of_state e.elements; event = e.event; class = 0; owner = m.registers.active; length = e.state }

-- the instance, of the same owner
abbrev pub engine_object : NewEngine → Packages → MemoryState → NewObject
engine_object e p m =
    record { kind = Instance; event = None; class = class_word p.platform e.class; owner = m.registers.active; length = cells_of e.class }

-- how many words of the heap a new object takes, by what is to clear it: of a transient one only its header stands there
abbrev pub words_in_heap : Option ClearEvent → Kind → ℕ → ℕ
words_in_heap None kind long = object_size kind long
words_in_heap (Some event) kind long = transient_size

-- how many the array takes
abbrev pub array_words : NewEngine → ℕ
array_words e = words_in_heap e.event (kind_of_state e.elements) e.state

-- the heap has space for this many words and then an instance with this many cells
abbrev pub has_space_after : ℕ → ℕ → MemoryState → Bool
has_space_after words cells m = nat_le (m.heap.now.top + (words + object_size Instance cells)) (limit m.heap)

-- the heap has space for both
abbrev pub has_space_for_both : NewEngine → MemoryState → Bool
has_space_for_both e m = has_space_after (array_words e) (cells_of e.class) m

-- the words of the first two cells of an instance that stands after this many words: an open transaction keeps no old values of them
abbrev pub keeps_none_after : ℕ → MemoryState → Bool
keeps_none_after words m =
    length (unlogged_places m.heap (touch_words m.heap.now (touch.NewCell words ∷ touch.NewCell (words + 1) ∷ []))) == 0

-- so it is of the instance, after the array
abbrev pub keeps_no_cells : NewEngine → MemoryState → Bool
keeps_no_cells e m = keeps_none_after (array_words e) m

-- a cell is set
abbrev pub cell_update : ℕ → ℕ → ℕ → Program (Unit {0})
cell_update r i v = Perform (HeapMove (Write (place.Cell r i) v)) (Finish tt)

-- the number and the array are set, one after the other: until the call returns nothing names the instance
abbrev pub cells_set : ℕ → ℤ → ℕ → MemoryState → Program (Unit {0})
cells_set r number array m = bind (cell_update r number_cell (word_of (value.Short number))) m (λ u v. cell_update r state_cell array)

-- the instance is made, with its cells
abbrev pub instance_creation : NewEngine → ℕ → Packages → MemoryState → Program ℕ
instance_creation e array p m = bind (object_creation (engine_object e p m) Finish) m (λ r v. bind (cells_set r e.number array v) v (λ u w. Finish r))

-- the array is made, and then the instance, which is returned
abbrev pub engine_creation : NewEngine → Packages → MemoryState → NativeProgram
engine_creation e p m = bind (object_creation (state_array e m) Finish) m (λ array v. bind (instance_creation e array p v) v
    (λ r w. return_value (ReturnValue (Reference r))))

-- the platform table has the class
abbrev pub is_in_table : PlatformClass → Packages → Bool
is_in_table class p = is_some (token_of_class p.platform class)

-- what such a call does: a class that the platform table lacks is a code fault. All space and room is asked for before: first the space of
-- the heap for both, then what the array asks for
abbrev pub factory_call : Result NewEngine FrameExit → Packages → MemoryState → NativeProgram
factory_call answer p m = if_ok (plainly answer) (λ e. if is_in_table e.class p then (if has_space_for_both e m then (if keeps_no_cells e m then unless
    (creation_refusal m (state_array e m)) (engine_creation e p m) else throw_exception buffer_full) else throw_exception no_resource) else code_fault)
