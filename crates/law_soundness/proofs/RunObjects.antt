-- Instances in a sound memory, and new objects.
use Rattle.std.proofs.Common.{◌≡◌, ℕ, zero, suc, ◌+◌, ◌<◌, Bool, true, false, inl, inr, [], ◌∷◌, get_or, Option, Some, None, refl, sym, ◌∙◌, ap, subst, arith, if◌then◌else◌}
use Rattle.std.proofs.lemmas.Bool.{and_from, and_parts, both_ways, cases_lt, eqb-true, lt-ltb, true≢false}
use Rattle.std.proofs.lemmas.Option.{same_Some}
use Rattle.std.specs.Prelude.{◌==◌, not, is_none, pos}
use Rattle.jc_transient.specs.declared.cell.CellValue.{CellValue}
use Rattle.jc_transient.specs.declared.cell.CellValue.TheVariants.{Short}
use Rattle.jc_transient.specs.declared.cell.ClearEvent.{ClearEvent}
use Rattle.jc_heap.specs.declared.object.Kind.{Kind}
use Rattle.jc_heap.specs.declared.object.Kind.TheVariants.{Instance, ReferenceArray}
use Rattle.jc_heap.specs.Heap.{IsObject, LacksCells, facts}
use Rattle.jc_memory.specs.declared.making.NewObject.{NewObject}
use Rattle.jc_transient.specs.Owners.{owner_number}
use Rattle.jc_memory.specs.State.{MemoryState, HeapMove}
use Rattle.jc_memory.specs.Cells.{cell_effect_in, word_of}
use Rattle.jc_memory.specs.Making.{creation_move}
use Rattle.jc_linker.specs.Classes.{is_class, size_of}
use Rattle.jc_linker.specs.Resolve.{names_interface}
use Rattle.jc_linker.specs.Values.{Packages}
use Rattle.jc_packages.specs.Objects.{fits_class, is_instance, is_persistent_instance}
use Rattle.jc_api.proofs.Passing.{Makes}
pub use Rattle.law_code.proofs.AccessChecks.{instance_kind}
use Rattle.law_code.specs.Classes.{has_instances}
use Rattle.law_soundness.specs.MemoryLaws.Fit.{FitsFill, FitsNew, FitsValue, IsFit}
use Rattle.law_soundness.specs.MemoryLaws.State.{IsLivingElement, IsLivingValue, IsSoundMemory, IsSteady, is_open, is_owner_up_to, last_own, most_new, most_owner}

pub instance_no_array : (kind : Kind) → is_instance kind ≡ true → kind ≡ ReferenceArray → ⊥
instance_no_array kind e array = true≢false (sym e ∙ ap is_instance array)

-- of a class of which an instance fits there are instances
pub fits_has_instances : (p : Packages) (kind : Kind) (class long : ℕ) → kind ≡ Instance → fits_class p kind class long ≡ true → long < 65536
    → has_instances p class ≡ true
fits_has_instances p kind class long is fits small =
    let whole : fits_class p Instance class long ≡ true = subst (λ k. fits_class p k class long ≡ true) is fits in
    let first = and_parts (is_class p class) _ whole in
    let second = and_parts (not (names_interface p class)) (long == size_of p class) first.1 in
    let same : long ≡ size_of p class = eqb-true long (size_of p class) second.1 in
    and_from (is_class p class) _ first.0 (and_from (not (names_interface p class)) _ second.0
    (lt-ltb (size_of p class) 65536 (subst (λ n. n < 65536) same small)))

module _ (p : Packages) (m : MemoryState) (sound : IsSoundMemory p m) where
  -- a persistent instance is none of the environment's own objects
  pub kept_behind : (r : ℕ) → IsObject m.heap.now r → is_persistent_instance (facts m.heap.now r) ≡ true → last_own m < r
  kept_behind r there kept = elim (cases_lt (last_own m) r) [
    | inl behind ↦ behind
    | inr own ↦ absurd (both_ways (is_persistent_instance (facts m.heap.now r)) (sound.own r own there) kept)
  ]

  -- it fits its class
  pub kept_fits : (r : ℕ) → IsObject m.heap.now r → is_persistent_instance (facts m.heap.now r) ≡ true → has_instances p (facts m.heap.now r).class ≡ true
  kept_fits r there kept =
      let fit = sound.now.objects r (kept_behind r there kept) there in
      let instance = (and_parts (is_instance (facts m.heap.now r).kind) (is_none (facts m.heap.now r).event) kept).0 in
      fits_has_instances p (facts m.heap.now r).kind (facts m.heap.now r).class (facts m.heap.now r).length
      (instance_kind (facts m.heap.now r).kind instance) fit.class (fit.small instance)

  -- for whom code runs may own a new object
  pub active_known : IsSteady m → is_owner_up_to (most_new m) m.heap.now (owner_number m.registers.active) ≡ true
  active_known steady = by_transaction m.heap.begun refl
    where
      settled : (o : Bool) → is_open m.registers.installation ≡ o → m.heap.begun ≡ false →
          is_owner_up_to (if o then m.heap.durable.counts.1 + 1 else m.heap.now.counts.1) m.heap.now (owner_number m.registers.active) ≡ true →
          is_owner_up_to m.heap.now.counts.1 m.heap.now (owner_number m.registers.active) ≡ true
      settled true opened rests known = absurd (both_ways m.heap.begun rests (steady.begun opened))
      settled false opened rests known = known

      by_transaction : (b : Bool) → m.heap.begun ≡ b → is_owner_up_to (if b then most_owner m else m.heap.now.counts.1) m.heap.now
          (owner_number m.registers.active) ≡ true
      by_transaction true begun = sound.active
      by_transaction false rests = settled (is_open m.registers.installation) refl rests sound.active

-- a cell that is set, wherever it is kept
pub set_in : (p : Packages) (m : MemoryState) (event : Option ClearEvent) (r i : ℕ) (v : CellValue) → (facts m.heap.now r).event ≡ event
    → FitsValue p m.heap.now r i (word_of v) → FitsFill m r i (v ∷ []) → IsFit p (cell_effect_in event r i v) m
set_in p m None r i v is fits fill = ((is, fill.within), fits)
set_in p m (Some event) r i v is fits fill = fill

-- one value fits
pub one_fits : (m : MemoryState) (r i : ℕ) (v : CellValue) → i < (facts m.heap.now r).length → IsLivingValue m.heap.now v
    → ((facts m.heap.now r).kind ≡ ReferenceArray → IsLivingElement m.heap.now v) → FitsFill m r i (v ∷ [])
one_fits m r i v within value element = record { within = omega (arith, within); living = first_lives; elements = first_element }
  where
    first_lives : (k : ℕ) → k < 1 → IsLivingValue m.heap.now (get_or (v ∷ []) k (Short (pos 0)))
    first_lives zero lt = value
    first_lives (suc k) lt = absurd (omega (arith, lt))

    first_element : (facts m.heap.now r).kind ≡ ReferenceArray → (k : ℕ) → k < 1 → IsLivingElement m.heap.now (get_or (v ∷ []) k (Short (pos 0)))
    first_element array zero lt = element array
    first_element array (suc k) lt = absurd (omega (arith, lt))

-- a new object
module _ (p : Packages) (m : MemoryState) (o : NewObject) (fits : FitsNew p m o.kind o.class (owner_number o.owner) o.length) where
  kept_in : (event : Option ClearEvent) → event ≡ None → IsFit p (HeapMove (creation_move event o)) m
  kept_in None is = record { kind = o.kind; class = o.class; owner = owner_number o.owner; long = o.length; is = refl; fits = fits }
  kept_in (Some event) is = absurd cc

  pub new_kept : o.event ≡ None → Makes (IsFit p) m o
  new_kept is r new = kept_in o.event is

  transient_in : (event : ClearEvent) (kept : Option ClearEvent) → kept ≡ Some event → (LacksCells m.heap.now event o.length → ⊥) → is_instance o.kind ≡ false
      → IsFit p (HeapMove (creation_move kept o)) m
  transient_in event None is room array = absurd cc
  transient_in event (Some e) is room array = (fits, (λ lacks. room (subst (λ x. LacksCells m.heap.now x o.length) (same_Some e event is) lacks)), array)

  pub new_transient : (event : ClearEvent) → o.event ≡ Some event → (LacksCells m.heap.now event o.length → ⊥) → is_instance o.kind ≡ false
      → Makes (IsFit p) m o
  new_transient event is room array r new = transient_in event o.event is room array
