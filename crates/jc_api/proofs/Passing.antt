-- What is to be shown of something that is to hold of each effect of a call, whichever class has the method: that it holds of those that
-- calls have, after the checks that precede them.
use Rattle.std.specs.Prelude.{ℤ}
use Rattle.std.proofs.Common.{◌≡◌, ◌+◌, ℕ, List, true, length, map, Some, None}
use Rattle.jc_transient.specs.Cell.{number_of}
use Rattle.jc_transient.specs.declared.cell.CellValue.TheVariants.{Short}
use Rattle.jc_transient.specs.declared.cell.ClearEvent.{ClearEvent}
use Rattle.jc_heap.specs.Heap.{facts}
use Rattle.jc_heap.specs.Moves.{Write}
use Rattle.jc_heap.specs.declared.object.Kind.TheVariants.{Instance, ByteArray}
use Rattle.jc_heap.specs.declared.place.Place.TheVariants as place
use Rattle.jc_memory.specs.Cells.{cells_effect, cell_effect}
use Rattle.jc_memory.specs.Changes.{nonatomic_store}
use Rattle.jc_memory.specs.Making.{creation_move, creation_refusal}
use Rattle.jc_memory.specs.Reading.{AllDue}
use Rattle.jc_memory.specs.State.{MemoryState, Effect, HeapMove, IsNew, SetRegisters, SendBytes, SetTransient, apply_effect}
use Rattle.jc_memory.specs.declared.making.NewObject.{NewObject}
use Rattle.jc_memory.specs.declared.registers.Registers.{Registers}
use Rattle.jc_platform.specs.NamePlaces.{class_of, class_word}
use Rattle.jc_platform.specs.Hierarchy.{carries_reason}
use Rattle.jc_platform.specs.Signatures.{sets_receiver}
use Rattle.jc_platform.specs.declared.names.PlatformMethod.{PlatformMethod}
use Rattle.jc_linker.specs.Values.{Packages}
use Rattle.jc_frames.specs.declared.cell.Cell.{Cell}
use Rattle.jc_world.specs.Instances.{IsInstanceWith}
use Rattle.jc_world.specs.Objects.{is_instance_of, reference_argument}
use Rattle.jc_world.specs.declared.arrays.Stretch.{Stretch}
use Rattle.jc_api.specs.Factory.{HasState, engine_creation, has_space_for_both, is_in_table, state_array}
use Rattle.jc_api.specs.Initializing.{FieldsAnswer, FitsFields, words_given}
use Rattle.jc_api.specs.NewArrays.{class_for}
use Rattle.jc_api.specs.declared.factory.NewEngine.{NewEngine}
use Rattle.jc_api.proofs.Stretches.{IsStretch}

-- the move that makes an object, with a reference that is new
abbrev pub Makes : (Effect → MemoryState → Type 0) → MemoryState → NewObject → Type 0
Makes P m o = (r : ℕ) → IsNew m.heap.now r → P (HeapMove (creation_move o.event o)) m

-- where this is so of a memory, the registers that a call sets and the bytes that it sends are due, and each effect that is due leaves it so
pub record Turns (P : Effect → MemoryState → Type 0) (Q : MemoryState → Type 0) : Type 0 where
  pub keeps : (e : Effect) (m : MemoryState) → P e m → Q m → Q (apply_effect e m)
  pub turns : (g : Registers) (m : MemoryState) → Q m → g.active ≡ m.registers.active → g.installation ≡ m.registers.installation
      → g.selected ≡ m.registers.selected → P (SetRegisters g) m
  pub sends : (bytes : List ℕ) (m : MemoryState) → P (SendBytes bytes) m

-- a new transient array for whom code runs
pub record IsTransientArray (p : Packages) (m : MemoryState) (o : NewObject) : Type 0 where
  pub array : o.kind ≡ Instance → ⊥
  pub event : ClearEvent
  pub kept : o.event ≡ Some event
  pub class : o.class ≡ class_for o.kind p
  pub owner : o.owner ≡ m.registers.active

-- so it is of the reference to a new object, and it stays so where a cell is set
pub record RefersToNew (L : MemoryState → ℕ → Type 0) : Type 0 where
  pub new : (o : NewObject) (m : MemoryState) (r : ℕ) → IsNew m.heap.now r → L (apply_effect (HeapMove (creation_move o.event o)) m) r
  pub stays : (q i v : ℕ) (m : MemoryState) (r : ℕ) → L m r → L (apply_effect (HeapMove (Write (place.Cell q i) v)) m) r

-- the receiver of a call, whose cells get values from one on: an instance of a class that has such cells
pub record IsInitializing (method : PlatformMethod) (args : List Cell) (p : Packages) (m : MemoryState) (a : FieldsAnswer) (own : ℕ) : Type 0 where
  pub sets : sets_receiver method ≡ true
  pub called : reference_argument args 0 ≡ Some own
  pub there : IsInstanceWith m own (a.start + length a.values)
  pub class : is_instance_of p (facts m.heap.now own) (class_word p.platform a.class) ≡ true
  pub fits : FitsFields a

-- what a method sets and makes: the reason of an exception; elements of an array, together and one after another; cells of a transient array
-- after elements of another; a transient array; an object with a state; and cells of such an object with the state after them
pub record CallPasses (P : Effect → MemoryState → Type 0) (method : PlatformMethod) (args : List Cell) (p : Packages) (m : MemoryState) : Type 0 where
  pub reason : carries_reason (class_of method) ≡ true → sets_receiver method ≡ true → (own : ℕ) (v : ℤ) → reference_argument args 0 ≡ Some own → IsInstanceWith m own 1
      → P (cell_effect m own 0 (Short v)) m
  pub stretch : (r : ℕ) (count : ℤ) (e : Stretch) (words : List ℕ) → IsStretch p m r count e → length words ≡ e.count
      → P (cells_effect m e.array e.start words) m
  pub bytes : (r : ℕ) (count : ℤ) (e : Stretch) (words : List ℕ) → IsStretch p m r count e → length words ≡ e.count → (facts m.heap.now r).kind ≡ ByteArray
      → AllDue P (nonatomic_store m e.array e.start words) m
  pub behind : (q : ℕ) (n : ℤ) (e : Stretch) (bytes : List ℕ) → IsStretch p m q n e → length bytes ≡ e.count → (r : ℕ) (count : ℤ) (s : Stretch)
      (words : List ℕ) (event : ClearEvent) → IsStretch p m r count s → (facts m.heap.now r).event ≡ Some event → length words ≡ s.count
      → P (SetTransient s.array s.start (map number_of words)) (apply_effect (cells_effect m e.array e.start bytes) m)
  pub transient : (o : NewObject) → IsTransientArray p m o → creation_refusal m o ≡ None → Makes P m o
  pub engine : (e : NewEngine) → HasState e.class → is_in_table e.class p ≡ true → has_space_for_both e m ≡ true → creation_refusal m (state_array e m) ≡ None
      → AllDue P (engine_creation e p m) m
  pub initial : (a : FieldsAnswer) (own : ℕ) → IsInitializing method args p m a own → (r : ℕ) (count : ℤ) (s : Stretch) (words : List ℕ) (event : ClearEvent)
      → IsStretch p m r count s → (facts m.heap.now r).event ≡ Some event → length words ≡ s.count → P (cells_effect m own a.start (words_given args a.values)) m
      × P (SetTransient s.array s.start (map number_of words)) (apply_effect (cells_effect m own a.start (words_given args a.values)) m)
