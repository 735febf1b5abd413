-- Objects of the platform with a state, as calls make them.
use Rattle.std.proofs.Common.{◌≡◌, ◌∙◌, ℕ, ◌+◌, ◌<◌, ◌≤◌, Bool, true, false, Option, None, Some, inl, inr, refl, sym, ap, subst, arith, if◌then◌else◌}
use Rattle.std.proofs.lemmas.Bool.{and_from, and_parts, both_ways, eq-eqb, ltb-true, or_right, true≢false}
use Rattle.std.specs.Prelude.{◌==◌, ◌&&◌, ◌||◌, not}
use Rattle.jc_transient.specs.declared.cell.CellValue.TheVariants.{Short}
use Rattle.jc_transient.specs.declared.cell.ClearEvent.{ClearEvent}
use Rattle.jc_heap.specs.Heap.{HeapState, IsObject, add_object, add_transient, facts, heap_item_at, is_allocated, set_cell}
use Rattle.jc_heap.specs.Moves.{Write}
use Rattle.jc_heap.specs.Object.{AnObject, Object, facts_of, is_object, new_object, object_size}
use Rattle.jc_heap.specs.declared.object.Kind.TheVariants.{Instance, ReferenceArray}
use Rattle.jc_heap.specs.declared.place.Place.TheVariants.{Cell}
use Rattle.jc_heap.proofs.Laws.{facts-set_cell, heap_item_at-add_object}
use Rattle.jc_memory.specs.Cells.{word_of}
use Rattle.jc_memory.specs.Making.{creation_move, creation_refusal}
use Rattle.jc_transient.specs.Owners.{owner_number}
use Rattle.jc_memory.specs.Reading.{AllDue}
use Rattle.jc_memory.specs.State.{HeapMove, IsNew, MemoryState, apply_effect}
use Rattle.jc_memory.specs.declared.making.NewObject.{NewObject}
use Rattle.jc_linker.specs.Classes.{is_a, is_class, reference_cell, size_of}
use Rattle.jc_linker.specs.Resolve.{names_interface}
use Rattle.jc_linker.specs.Values.{Packages}
use Rattle.jc_platform.specs.NamePlaces.{class_word}
use Rattle.jc_platform.specs.Hierarchy.{cells_of}
use Rattle.jc_platform.specs.declared.names.PlatformClass.TheVariants.{Aid, OwnerPin}
use Rattle.jc_packages.specs.Objects.{is_instance, is_object_address, is_reference}
use Rattle.jc_world.proofs.Below.{below_itself}
use Rattle.jc_api.specs.Factory.{HasState, engine_creation, engine_object, is_in_table, kind_of_state, number_cell, state_array, state_cell}
use Rattle.jc_api.specs.NewArrays.{class_for}
use Rattle.jc_api.specs.declared.factory.NewEngine.{NewEngine}
use Rattle.jc_api.specs.declared.factory.StateKind.{StateKind}
use Rattle.jc_api.specs.declared.factory.StateKind.TheVariants.{Bytes, Shorts}
use Rattle.jc_api.proofs.EngineRoom.{with_array}
use Rattle.jc_api.proofs.Passing.{IsTransientArray}
use Rattle.jc_api.proofs.Standing.{item_after_object, object-set_cell}
use Rattle.law_code.specs.Classes.{KnowsClasses, has_instances}
use Rattle.law_soundness.specs.MemoryLaws.Fit.{AreCellsOf, FitsCell, FitsNew, FitsValue, IsFit}
use Rattle.law_soundness.specs.MemoryLaws.State.{IsSoundMemory, IsSteady}
use Rattle.law_soundness.proofs.Effects.{keeps_sound}
use Rattle.law_soundness.proofs.Frames.{object_frames, transient_frames}
use Rattle.law_soundness.proofs.NewObjects.{new_there}
use Rattle.law_soundness.proofs.RunObjects.{active_known, instance_no_array, new_kept}
use Rattle.law_soundness.proofs.Small.{array_new, transient_fits}
use Rattle.law_soundness.proofs.Stateful.{cell_is, no_aid, no_pin}

-- the array of a state holds no references, and is no instance
no_instance : (elements : StateKind) → kind_of_state elements ≡ Instance → ⊥
no_instance Shorts same = cc
no_instance Bytes same = cc

no_class : (p : Packages) (elements : StateKind) → class_for (kind_of_state elements) p ≡ 0
no_class p Shorts = refl
no_class p Bytes = refl

counts_after : (m : MemoryState) → IsSteady m → (h : HeapState) → h.counts ≡ m.heap.now.counts → (b : Bool)
    → h.counts ≡ (if b then m.heap.durable else h).counts
counts_after m steady h same true = same ∙ steady.counts
counts_after m steady h same false = refl

-- a memory is steady after an object is made
steady_after : (m : MemoryState) → IsSteady m → (event : Option ClearEvent) (o : NewObject) → IsSteady (apply_effect (HeapMove (creation_move event o)) m)
steady_after m steady None o = record {
  counts = counts_after m steady (add_object m.heap.now (new_object o.kind o.class (owner_number o.owner) o.length) (object_size o.kind o.length))
      (object_frames m.heap.now (new_object o.kind o.class (owner_number o.owner) o.length) (object_size o.kind o.length)).counts m.heap.begun;
  begun = steady.begun;
}
steady_after m steady (Some event) o = record {
  counts = counts_after m steady (add_transient m.heap.now o.kind event o.class (owner_number o.owner) o.length)
      (transient_frames m.heap.now o.kind event o.class (owner_number o.owner) o.length).counts m.heap.begun;
  begun = steady.begun;
}

-- a class of such objects
module _ (p : Packages) (known : KnowsClasses p) (e : NewEngine) (has : HasState e.class) (there : is_in_table e.class p ≡ true) where
  abbrev class : ℕ
  class = class_word p.platform e.class

  instances : has_instances p class ≡ true
  instances = known.platform.own e.class there has.instances

  all_cells : size_of p class ≡ cells_of e.class
  all_cells = known.platform.exact e.class there

  number_first : reference_cell p class number_cell ≡ false
  number_first = cell_is p known class e.class has instances (below_itself p class) number_cell (let two = has.cells in omega (arith, two)) ∙ has.number

  -- a value fits a cell of such an instance, if it is a reference where one is kept
  value_fits : (h : HeapState) (r i w : ℕ) → (facts h r).kind ≡ Instance → (facts h r).class ≡ class
      → (reference_cell p class i ≡ true → is_reference h w ≡ true) → FitsValue p h r i w
  value_fits h r i w kind is reference = (
    λ stays. record {
      reference = λ holds. reference (ap (λ c. reference_cell p c i) (sym is) ∙ holds);
      aid = λ isnt. absurd (no_aid p known class e.class has instances (below_itself p class) (ap (λ c. is_a p c Aid) (sym is) ∙ isnt));
      pin = λ isnt. absurd (no_pin p known class e.class has instances (below_itself p class) (ap (λ c. is_a p c OwnerPin) (sym is) ∙ isnt));
    },
    λ array. absurd (instance_no_array (facts h r).kind (ap is_instance kind) array),
  )

module _ (p : Packages) (m : MemoryState) (known : KnowsClasses p) (sound : IsSoundMemory p m) (steady : IsSteady m) (e : NewEngine) (has : HasState e.class)
    (there : is_in_table e.class p ≡ true) (fine : creation_refusal m (state_array e m) ≡ None) (array : ℕ) (new : IsNew m.heap.now array) where
  -- the array is made
  array_fits : IsFit p (HeapMove (creation_move (state_array e m).event (state_array e m))) m
  array_fits = by e.event refl
    where
      by : (event : Option ClearEvent) → e.event ≡ event → IsFit p (HeapMove (creation_move (state_array e m).event (state_array e m))) m
      by None kept = new_kept p m (state_array e m) (array_new p m known sound steady (state_array e m) (no_instance e.elements) (sym (no_class p e.elements)) refl)
          kept array new
      by (Some event) kept = transient_fits p m known sound steady (state_array e m)
          (record { array = no_instance e.elements; event = event; kept = kept; class = sym (no_class p e.elements); owner = refl }) fine array new

  abbrev made : MemoryState
  made = with_array e m

  made_sound : IsSoundMemory p made
  made_sound = keeps_sound p (HeapMove (creation_move (state_array e m).event (state_array e m))) m array_fits sound

  made_steady : IsSteady made
  made_steady = steady_after m steady e.event (state_array e m)

  -- then the instance
  instance_fits : FitsNew p made Instance (class_word p.platform e.class) (owner_number m.registers.active) (cells_of e.class)
  instance_fits =
      let one = and_parts (is_class p (class_word p.platform e.class)) _ (known.platform.own e.class there has.instances) in
      let size = all_cells p known e has there in
      let two = and_parts (not (names_interface p (class_word p.platform e.class))) _ one.1 in
      record {
        there = and_from (is_class p (class_word p.platform e.class)) _ one.0 (and_from (not (names_interface p (class_word p.platform e.class))) _ two.0
            (eq-eqb (cells_of e.class) (size_of p (class_word p.platform e.class)) (sym size)));
        known = active_known p made made_sound made_steady;
        small = λ is. (let few = ltb-true (size_of p (class_word p.platform e.class)) 65536 two.1 in omega (arith, few, size));
        environments = λ is zero. (e.class, has.instances, refl);
      }

  module _ (r : ℕ) (other : IsNew made.heap.now r) where
    abbrev instance_object : Object
    instance_object = new_object Instance (class_word p.platform e.class) (owner_number m.registers.active) (cells_of e.class)

    abbrev with_instance : MemoryState
    with_instance = apply_effect (HeapMove (creation_move None (engine_object e p made))) made

    free : is_allocated made.heap.now made.heap.now.top ≡ false
    free = subst (λ t. is_allocated made.heap.now t ≡ false) other.chosen other.free

    item_new : heap_item_at with_instance.heap.now r ≡ AnObject instance_object
    item_new = subst (λ x. heap_item_at with_instance.heap.now x ≡ AnObject instance_object) (sym other.chosen)
        (heap_item_at-add_object made.heap.now instance_object (object_size Instance (cells_of e.class)) free)

    facts_new : facts with_instance.heap.now r ≡ instance_object.facts
    facts_new = ap facts_of item_new

    abbrev number : ℕ
    number = word_of (Short e.number)

    abbrev with_number : MemoryState
    with_number = apply_effect (HeapMove (Write (Cell r number_cell) number)) with_instance

    facts_later : facts with_number.heap.now r ≡ instance_object.facts
    facts_later = facts-set_cell with_instance.heap.now r number_cell number r ∙ facts_new

    number_fits : IsFit p (HeapMove (Write (Cell r number_cell) number)) with_instance
    number_fits = (
      (ap (λ f. f.event) facts_new, (let long : (facts with_instance.heap.now r).length ≡ cells_of e.class = ap (λ f. f.length) facts_new in let two = has.cells in omega (arith, long, two))),
      value_fits p known e has there with_instance.heap.now r number_cell number (ap (λ f. f.kind) facts_new) (ap (λ f. f.class) facts_new)
          (λ holds. absurd (both_ways (reference_cell p (class_word p.platform e.class) number_cell) (number_first p known e has there) holds)),
    )

    -- the array stands there all along
    array_there : IsObject with_number.heap.now array
    array_there = object-set_cell with_instance.heap.now r number_cell number array (ap is_object (item_after_object made.heap.now instance_object
        (object_size Instance (cells_of e.class)) array free first) ∙ first)
      where
        first : IsObject made.heap.now array
        first = new_there e.event (state_array e m) m array new

    array_named : IsFit p (HeapMove (Write (Cell r state_cell) array)) with_number
    array_named = (
      (ap (λ f. f.event) facts_later, (let long : (facts with_number.heap.now r).length ≡ cells_of e.class = ap (λ f. f.length) facts_later in let two = has.cells in omega (arith, long, two))),
      value_fits p known e has there with_number.heap.now r state_cell array (ap (λ f. f.kind) facts_later) (ap (λ f. f.class) facts_later)
          (λ holds. or_right (array == 0) (is_object_address with_number.heap.now array) array_there),
    )

-- each effect of their making fits
pub engine_fits : (p : Packages) (m : MemoryState) → KnowsClasses p → IsSoundMemory p m → IsSteady m → (e : NewEngine) → HasState e.class
    → is_in_table e.class p ≡ true → creation_refusal m (state_array e m) ≡ None → AllDue (IsFit p) (engine_creation e p m) m
engine_fits p m known sound steady e has there fine array new = (
  array_fits p m known sound steady e has there fine array new,
  λ r other. (
    new_kept p (with_array e m) (engine_object e p (with_array e m)) (instance_fits p m known sound steady e has there fine array new) refl r other,
    (number_fits p m known sound steady e has there fine array new r other, (array_named p m known sound steady e has there fine array new r other, tt)),
  ),
)
