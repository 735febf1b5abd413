-- Values that instructions may keep: references are null or to an object.
use Rattle.std.proofs.Common.{◌≡◌, ℕ, Bool, true, false, List, Option, Some, None, Result, Ok, Err, refl, sym, subst, if◌then◌else◌}
use Rattle.std.proofs.lemmas.Option.{none-some, same_Some}
use Rattle.std.specs.Option.{option_map}
use Rattle.std.specs.Prelude.{◌==◌, ◌||◌}
use Rattle.jc_transient.specs.declared.cell.CellValue.{CellValue}
use Rattle.jc_transient.specs.declared.cell.CellValue.TheVariants as kept
use Rattle.jc_heap.specs.declared.object.Facts.{Facts}
use Rattle.jc_heap.specs.Object.{is_object}
use Rattle.jc_heap.specs.Heap.{HeapState, facts, heap_item_at}
use Rattle.jc_frames.specs.declared.instr.ValueType.{ValueType}
use Rattle.jc_frames.specs.declared.instr.ValueType.TheVariants as types
use Rattle.jc_frames.specs.declared.cell.Cell.{Cell}
use Rattle.jc_frames.specs.declared.outcome.FrameExit.{FrameExit}
use Rattle.jc_frames.specs.Cell.{reference_on}
use Rattle.jc_memory.specs.State.{MemoryState}
use Rattle.jc_memory.specs.Cells.{word_of}
use Rattle.jc_linker.specs.Values.{Packages}
use Rattle.jc_packages.specs.Objects.{is_reference}
use Rattle.jc_world.specs.Objects.{storable_in, storable_of}
use Rattle.jc_world.specs.Values.{keepable, value_if_allowed, value_on}
use Rattle.jc_api.proofs.Reaching.{err_not_ok, same_Ok}
use Rattle.law_soundness.specs.MemoryLaws.State.{IsLivingElement, IsLivingValue}
use Rattle.law_soundness.proofs.Transients.{names_object}

-- a value that is a reference
abbrev pub IsRef : CellValue → Type 0
IsRef (kept.Short x) = ⊥
IsRef (kept.Reference r) = Unit {0}

-- a value of this type, as far as it is a reference
abbrev pub HasType : ValueType → CellValue → Type 0
HasType types.Reference v = IsRef v
HasType types.Byte v = Unit {0}
HasType types.Short v = Unit {0}

reference_of : (o : Option (ℕ × List Cell)) (v : CellValue × List Cell) → option_map (λ q. (kept.Reference q.0, q.1)) o ≡ Some v → IsRef v.0
reference_of None v e = absurd (none-some v e)
reference_of (Some q) v e = subst (λ w. IsRef w.0) (same_Some (kept.Reference q.0, q.1) v e) tt

pub has_type : (of_type : ValueType) (cells : List Cell) (v : CellValue × List Cell) → value_on of_type cells ≡ Some v → HasType of_type v.0
has_type types.Reference cells v e = reference_of (reference_on cells) v e
has_type types.Byte cells v e = tt
has_type types.Short cells v e = tt

module _ (p : Packages) (m : MemoryState) where
  -- what may be stored is null or an object
  storable_is : (b c : Bool) (f : Facts) (u : Unit {0}) → (if b then Ok tt else storable_in p m (if c then Some f else None)) ≡ Ok u → (b || c) ≡ true
  storable_is true c f u e = refl
  storable_is false true f u e = refl
  storable_is false false f u e = absurd (err_not_ok e)

  is_there : (r : ℕ) (u : Unit {0}) → storable_of p m r ≡ Ok u → is_reference m.heap.now r ≡ true
  unfolding storable_of
  is_there r u e = storable_is (r == 0) (is_object (heap_item_at m.heap.now r)) (facts m.heap.now r) u e

  kept_in : (r : ℕ) (v : CellValue) (o : Result (Unit {0}) FrameExit) → storable_of p m r ≡ o → value_if_allowed (kept.Reference r) o ≡ Ok v
      → is_reference m.heap.now (word_of v) ≡ true
  kept_in r v (Err x) is e = absurd (err_not_ok e)
  kept_in r v (Ok u) is e = subst (λ w. is_reference m.heap.now (word_of w) ≡ true) (same_Ok (kept.Reference r) v e) (is_there r u is)

  pub keepable_is : (value v : CellValue) → IsRef value → keepable p m value ≡ Ok v → is_reference m.heap.now (word_of v) ≡ true
  keepable_is (kept.Short x) v is e = absurd is
  keepable_is (kept.Reference r) v is e = kept_in r v (storable_of p m r) refl e

  same_in : (r : ℕ) (v : CellValue) (o : Result (Unit {0}) FrameExit) → value_if_allowed (kept.Reference r) o ≡ Ok v → kept.Reference r ≡ v
  same_in r v (Err x) e = absurd (err_not_ok e)
  same_in r v (Ok u) e = same_Ok (kept.Reference r) v e

  -- it is the value itself
  pub keepable_same : (value v : CellValue) → keepable p m value ≡ Ok v → value ≡ v
  keepable_same (kept.Short x) v e = same_Ok (kept.Short x) v e
  keepable_same (kept.Reference r) v e = same_in r v (storable_of p m r) e

  lives_if : (v : CellValue) → (IsRef v → is_reference m.heap.now (word_of v) ≡ true) → IsLivingValue m.heap.now v
  lives_if (kept.Short x) is = tt
  lives_if (kept.Reference r) is = names_object m.heap.now r (is tt)

  -- and lives
  pub keepable_lives : (value v : CellValue) → keepable p m value ≡ Ok v → IsLivingValue m.heap.now v
  keepable_lives value v e = lives_if v (λ is. keepable_is value v (subst IsRef (sym (keepable_same value v e)) is) e)

-- a reference that lives is a living element
pub element_of : (h : HeapState) (v : CellValue) → IsRef v → IsLivingValue h v → IsLivingElement h v
element_of h (kept.Short x) is lives = absurd is
element_of h (kept.Reference r) is lives = lives
