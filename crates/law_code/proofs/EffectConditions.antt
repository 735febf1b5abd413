-- What is to be shown of something that is to hold of each effect: that it holds of those that instructions and steps have, after the
-- checks that precede them.
use Rattle.std.specs.Prelude.{◌==◌, ◌%◌, ◌/◌, ℤ}
use Rattle.std.proofs.Common.{◌≡◌, ◌<◌, ◌⊎◌, ◌∷◌, ℕ, false, List, [], Some, None, Ok}
use Rattle.jc_transient.specs.declared.cell.CellValue.{CellValue}
use Rattle.jc_transient.specs.declared.cell.CellValue.TheVariants.{Short}
use Rattle.jc_heap.specs.Heap.{facts}
use Rattle.jc_heap.specs.Moves.{Write, SetPlaces}
use Rattle.jc_heap.specs.declared.object.Facts.{Facts}
use Rattle.jc_heap.specs.declared.object.Kind.{Kind}
use Rattle.jc_heap.specs.declared.object.Kind.TheVariants.{Instance, ReferenceArray}
use Rattle.jc_memory.specs.Cells.{cell_effect, word_of}
use Rattle.jc_memory.specs.Making.{creation_move}
use Rattle.jc_memory.specs.Reading.{AllDue}
use Rattle.jc_memory.specs.State.{MemoryState, Effect, HeapMove, IsNew, SetTransient, SetRegisters, apply_effect}
use Rattle.jc_memory.specs.declared.making.NewObject.{NewObject}
use Rattle.jc_memory.specs.declared.registers.Registers.{Registers}
use Rattle.jc_platform.specs.declared.names.PlatformMethod.{PlatformMethod}
use Rattle.jc_linker.specs.Classes.{size_of}
use Rattle.jc_linker.specs.Values.{Packages}
use Rattle.jc_linker.specs.declared.target.Method.TheVariants.{Native}
use Rattle.jc_frames.specs.declared.instr.PrimitiveArray.{PrimitiveArray}
use Rattle.jc_frames.specs.declared.instr.ValueType.{ValueType}
use Rattle.jc_frames.specs.declared.instr.ValueType.TheVariants.{Byte}
use Rattle.jc_frames.specs.Calls.{arguments_on}
use Rattle.jc_frames.specs.Frames.{Frames}
use Rattle.jc_frames.specs.declared.cell.Cell.{Cell}
use Rattle.jc_world.specs.Types.{class_named}
use Rattle.jc_world.specs.Values.{keepable, value_at, value_on}
use Rattle.jc_api.specs.Referring.{CellRefersSo}
use Rattle.jc_api.proofs.Passing.{Makes}
use Rattle.jc_instructions.specs.ArrayCreation.{kind_of}
use Rattle.jc_instructions.specs.ArrayElements.{element_at, element_value}
use Rattle.jc_instructions.specs.FieldNames.{static_named}
use Rattle.jc_instructions.specs.ObjectCreation.{cells_for, instantiable_class}
use Rattle.jc_instructions.specs.StaticFields.{static_value}
use Rattle.jc_instructions.specs.StaticImages.{image_word, next_word, place_of}
use Rattle.jc_instructions.specs.declared.array_elements.Element.{Element}
use Rattle.jc_instructions.specs.declared.field_names.FieldOfClass.{FieldOfClass}
use Rattle.jc_instructions.specs.declared.field_names.FieldOfImage.{FieldOfImage}
use Rattle.jc_instructions.specs.declared.static_images.ImageWord.{ImageWord}
use Rattle.jc_instructions.specs.declared.invoke.MethodCall.{MethodCall}
use Rattle.jc_interp.specs.Natives.{native_call}
use Rattle.law_code.specs.Reach.{IsEnvironmentObject}
use Rattle.law_code.specs.IsolationLaws.Steps.{IsCalled}
use Rattle.law_code.proofs.AccessChecks.{IsArray, IsCell, Names}

-- ---- instructions

-- what is set of a static field begins in the word of an image with that number
abbrev pub IsWordOf : MemoryState → FieldOfImage → ImageWord → Type 0
IsWordOf m field w = image_word m.heap.now field.package_number (field.offset / 2) ≡ Some w

-- what instructions on fields set: cells of fields within reach, and static fields: a word of an image, which is the value but for a byte,
-- or the halves of two
pub record FieldsPass (P : Effect → MemoryState → Type 0) (p : Packages) (m : MemoryState) : Type 0 where
  pub field : (of_type : ValueType) (number index r i : ℕ) (field : FieldOfClass) (cells : List Cell) (v : CellValue × List Cell) (k : CellValue)
      → value_on of_type cells ≡ Some v → keepable p m v.0 ≡ Ok k →
      Names p number index of_type field → IsCell p m field r i → P (cell_effect m r i k) m
  pub word : (of_type : ValueType) (number index : ℕ) (field : FieldOfImage) (cells : List Cell) (v : CellValue × List Cell) (k : CellValue)
      (w : ImageWord) (x : ℕ) → value_on of_type cells ≡ Some v → keepable p m v.0 ≡ Ok k → static_named of_type p number index ≡ Some field → IsWordOf m field w
      → (of_type ≡ Byte) ⊎ (x ≡ word_of k) → P (HeapMove (Write (place_of w) x)) m
  pub halves : (of_type : ValueType) (number index : ℕ) (field : FieldOfImage) (w behind : ImageWord) (x y : ℕ)
      → static_named of_type p number index ≡ Some field → IsWordOf m field w → (field.offset % 2 == 0) ≡ false → next_word m.heap.now w ≡ Some behind
      → P (HeapMove (SetPlaces ((place_of w, x) ∷ (place_of behind, y) ∷ []))) m

-- a new object for whom code runs
abbrev pub new_for : MemoryState → Kind → ℕ → ℕ → NewObject
new_for m kind class n = record { kind = kind; event = None; class = class; owner = m.registers.active; length = n }

-- what those on arrays set: elements of arrays within reach, and new arrays
pub record ArraysPass (P : Effect → MemoryState → Type 0) (p : Packages) (m : MemoryState) : Type 0 where
  pub element : (of_type : ValueType) (r : ℕ) (f : Facts) (e : Element) (cells : List Cell) (v : CellValue × List Cell) (k w : CellValue)
      → value_on of_type cells ≡ Some v → keepable p m v.0 ≡ Ok k →
      IsArray p m of_type r f → e.index < f.length → element_value p m e.class k ≡ Ok w → P (cell_effect m r e.index w) m
  pub numbers : (of_type : PrimitiveArray) (n : ℕ) → Makes P m (new_for m (kind_of of_type) 0 n)
  pub references : (number index class n : ℕ) → class_named p number index ≡ Some class → Makes P m (new_for m ReferenceArray class n)

-- new instances
abbrev pub InstancesPass : (Effect → MemoryState → Type 0) → Packages → MemoryState → Type 0
InstancesPass P p m = (number index class n : ℕ) → instantiable_class p number index ≡ Some class → cells_for (size_of p class) ≡ Ok n
    → Makes P m (new_for m Instance class n)

-- so it is of the references that come onto a stack: from fields, static fields and elements of arrays, and to a new object; and it stays so
pub record ReadsSo (P : Effect → MemoryState → Type 0) (L : MemoryState → ℕ → Type 0) (p : Packages) (m : MemoryState) : Type 0 where
  pub field : (of_type : ValueType) (number index : ℕ) (field : FieldOfClass) (r i : ℕ) → Names p number index of_type field → IsCell p m field r i
      → CellRefersSo (L m) (value_at of_type m r i)
  pub static : (of_type : ValueType) (number index : ℕ) (field : FieldOfImage) (value : Cell) → static_named of_type p number index ≡ Some field
      → static_value of_type m.heap.now field ≡ Some value → CellRefersSo (L m) value
  pub element : (of_type : ValueType) (r : ℕ) (i : ℤ) (e : Element) → element_at of_type p m r i ≡ Ok e → CellRefersSo (L m) (value_at of_type m r e.index)
  pub new : (o : NewObject) (r : ℕ) → IsNew m.heap.now r → L (apply_effect (HeapMove (creation_move o.event o)) m) r
  pub stays : (e : Effect) → P e m → (r : ℕ) → L m r → L (apply_effect e m) r

-- ---- steps

-- what a step has: those of instructions; registers that are set; the reason of one of the environment's exceptions; and calls
pub record StepPasses (P : Effect → MemoryState → Type 0) (lent : List ℕ) (p : Packages) (s : Frames) (m : MemoryState) : Type 0 where
  pub fields : FieldsPass P p m
  pub arrays : ArraysPass P p m
  pub instances : InstancesPass P p m
  pub turns : (g : Registers) (n : MemoryState) → P (SetRegisters g) n
  pub reasons : (r : ℕ) (v : ℤ) (n : MemoryState) → IsEnvironmentObject m r → 0 < (facts n.heap.now r).length → P (SetTransient r 0 (Short v ∷ [])) n
  pub calls : (c : MethodCall) (method : PlatformMethod) (args : List Cell) → IsCalled lent p s m c → c.method ≡ Native method
      → arguments_on c.arguments s.current.stack ≡ Some args → AllDue P (native_call method args p m) m
