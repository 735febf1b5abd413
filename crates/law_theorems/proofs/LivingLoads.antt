-- A package leaves transient cells without references to what is gone.
use Rattle.std.proofs.Common.{◌≡◌, ℕ, ◌+◌, ◌⊎◌, inl, inr, false, List, [], ◌∷◌, None, refl, sym, ◌∙◌, ap, subst, arith}
use Rattle.std.proofs.lemmas.Bool.{cases_eq, true≢false}
use Rattle.jc_transient.specs.State.{RamState}
use Rattle.jc_heap.specs.declared.object.Kind.{Kind}
use Rattle.jc_heap.specs.Object.{facts_of, is_object}
use Rattle.jc_heap.specs.Heap.{HasEnd, HeapState, IsObject, add_object, facts, is_allocated}
use Rattle.jc_heap.specs.Package.{add_arrays, add_package, array_object, array_size, package_owner, package_record, push_package}
use Rattle.jc_heap.proofs.KeepingPackages.{end-add, end-push}
use Rattle.jc_heap.proofs.Laws.{object_named}
use Rattle.law_soundness.specs.MemoryLaws.State.{TransientCells}
use Rattle.law_soundness.proofs.Transients.{added, more_carried, no_elements}
use Rattle.law_theorems.proofs.Separation.{record_some}
use Rattle.law_soundness.proofs.LoadRecords.{item_beside, item_pushed}

-- arrays that are added are persistent
arrays_carried : (h : HeapState) (ram : RamState) (owner : ℕ) (xs : List (Kind × List ℕ)) → HasEnd h → TransientCells h ram
    → TransientCells (add_arrays h owner xs) ram
arrays_carried h ram owner [] end t = t
arrays_carried h ram owner (a ∷ xs) end t = arrays_carried (add_object h (array_object owner a) (array_size a)) ram owner xs
    (end-add h (array_object owner a) (array_size a) (omega arith) end)
    (added h ram (array_object owner a) (array_size a) (end h.top (omega arith)) (no_elements _ ram (array_object owner a).facts refl) t)

module _ (h : HeapState) (ram : RamState) (words : List ℕ) (free : is_allocated h h.top ≡ false) where
  abbrev g : HeapState
  g = push_package h words

  stays : (r : ℕ) → IsObject h r → IsObject g r
  stays r there = ap is_object (item_beside h words r (λ same. true≢false (sym (object_named h r there) ∙ ap (is_allocated h) (sym same) ∙ free))) ∙ there

  headers : (r : ℕ) → (facts g r ≡ facts h r) ⊎ ((facts g r).event ≡ None)
  headers r = elim (cases_eq h.top r) [
    | inl is ↦ inr (subst (λ q. (facts g q).event ≡ None) is (ap (λ t. (facts_of t).event) (item_pushed h words free)))
    | inr other ↦ inl (ap facts_of (item_beside h words r other))
  ]

  same_words : g.lasting ≡ h.lasting
  unfolding push_package
  same_words = refl

  record_carried : TransientCells h ram → TransientCells g ram
  record_carried t = more_carried h g ram same_words stays headers t

pub package_carried : (h : HeapState) (ram : RamState) (cs : List (ℕ × List ℕ)) (xs : List (Kind × List ℕ)) (rest : List ℕ) → HasEnd h → TransientCells h ram
    → TransientCells (add_package h cs xs rest) ram
package_carried h ram cs xs rest end t =
    let words = package_record h.top cs xs rest in
    arrays_carried (push_package h words) ram (package_owner (h.counts.0 + 1)) xs (end-push h words (record_some h.top cs xs rest) end)
    (record_carried h ram words (end h.top (omega arith)) t)
