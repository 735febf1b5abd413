-- Initialised arrays after what stands in a heap.
use Rattle.std.proofs.Common.{◌≡◌, ℕ, zero, suc, ◌<◌, ◌⊎◌, true, inl, inr, List, [], ◌∷◌, length, get_or, refl, sym, ◌∙◌, ap, subst, arith}
use Rattle.std.proofs.lemmas.Bool.{cases_eq, cases_lt, false≢true}
use Rattle.jc_heap.specs.declared.object.Kind.{Kind}
use Rattle.jc_heap.specs.declared.object.Kind.TheVariants.{ReferenceArray}
use Rattle.jc_heap.specs.Object.{AnObject, Object, is_object}
use Rattle.jc_heap.specs.Heap.{HasEnd, HeapState, IsObject, add_object, heap_item_at}
use Rattle.jc_heap.specs.Package.{add_arrays, array_addresses, array_object, array_size, is_array_init}
use Rattle.jc_heap.specs.WholeHeap.{IsConsistent}
use Rattle.jc_heap.proofs.Laws.{heap_item_at-add_object, heap_item_at-add_other, object_named, top-add_object}
use Rattle.jc_heap.proofs.Keeping.{object_whole}
use Rattle.jc_heap.proofs.KeepingPackages.{end-add}

-- of booleans, bytes or shorts each
abbrev pub AreInitial : List (Kind × List ℕ) → Type 0
AreInitial [] = Unit {0}
AreInitial (a ∷ xs) = (is_array_init a.0 ≡ true) × AreInitial xs

-- an object stands below the end
pub below_end : (h : HeapState) (r : ℕ) → HasEnd h → IsObject h r → r < h.top
below_end h r end there = elim (cases_lt r h.top) [
  | inl lt ↦ lt
  | inr above ↦ absurd (false≢true (sym (end r above) ∙ object_named h r there))
]

-- what stood below the end stays
pub item_behind : (h : HeapState) (owner : ℕ) (xs : List (Kind × List ℕ)) (r : ℕ) → r < h.top → heap_item_at (add_arrays h owner xs) r ≡ heap_item_at h r
item_behind h owner [] r low = refl
item_behind h owner (a ∷ xs) r low =
    item_behind (add_object h (array_object owner a) (array_size a)) owner xs r (omega (arith, low, top-add_object h (array_object owner a) (array_size a)))
    ∙ heap_item_at-add_other h (array_object owner a) (array_size a) r (λ e. omega (arith, e, low))

-- the same packages, applets and numbers of them
pub record SameRegistry (h g : HeapState) : Type 0 where
  pub packages : g.packages ≡ h.packages
  pub counts : g.counts ≡ h.counts
  pub applets : g.applets ≡ h.applets

object_registry : (h : HeapState) (o : Object) (n : ℕ) → SameRegistry h (add_object h o n)
unfolding add_object
object_registry h o n = record { packages = refl; counts = refl; applets = refl }

pub same_registry : (h : HeapState) (owner : ℕ) (xs : List (Kind × List ℕ)) → SameRegistry h (add_arrays h owner xs)
same_registry h owner [] = record { packages = refl; counts = refl; applets = refl }
same_registry h owner (a ∷ xs) =
    let one = object_registry h (array_object owner a) (array_size a) in
    let more = same_registry (add_object h (array_object owner a) (array_size a)) owner xs in
    record { packages = more.packages ∙ one.packages; counts = more.counts ∙ one.counts; applets = more.applets ∙ one.applets }

-- an initialised array stands at an address
pub record IsArrayOf (g : HeapState) (owner r : ℕ) : Type 0 where
  pub array : Kind × List ℕ
  pub initial : is_array_init array.0 ≡ true
  pub item : heap_item_at g r ≡ AnObject (array_object owner array)

-- an object among them stood before, or is an array
pub old_or_array : (h : HeapState) (owner : ℕ) (xs : List (Kind × List ℕ)) → AreInitial xs → HasEnd h → (r : ℕ) → IsObject (add_arrays h owner xs) r
    → IsObject h r ⊎ IsArrayOf (add_arrays h owner xs) owner r
old_or_array h owner [] kinds end r there = inl there
old_or_array h owner (a ∷ xs) kinds end r there =
    let o : Object = array_object owner a in
    let g : HeapState = add_object h o (array_size a) in
    let more : HasEnd g = end-add h o (array_size a) (omega arith) end in
    elim (old_or_array g owner xs kinds.1 more r there) [
      | inr array ↦ inr array
      | inl before ↦ elim (cases_eq h.top r) [
        | inl e ↦ inr (record {
          array = a;
          initial = kinds.0;
          item = item_behind g owner xs r (below_end g r more before) ∙ subst (λ n. heap_item_at g n ≡ AnObject o) e
              (heap_item_at-add_object h o (array_size a) (end h.top (omega arith)));
        })
        | inr other ↦ inl (ap is_object (sym (heap_item_at-add_other h o (array_size a) r other)) ∙ before)
      ]
    ]

-- at each of the arrays' addresses stands an object
pub arrays_stand : (h : HeapState) (owner : ℕ) (xs : List (Kind × List ℕ)) → HasEnd h → (k : ℕ) → k < length xs
    → IsObject (add_arrays h owner xs) (get_or (array_addresses h.top xs) k 0)
arrays_stand h owner [] end k lt = absurd (omega arith)
arrays_stand h owner (a ∷ xs) end zero lt =
    let o : Object = array_object owner a in
    let g : HeapState = add_object h o (array_size a) in
    ap is_object (item_behind g owner xs h.top (omega (arith, top-add_object h o (array_size a)))
    ∙ heap_item_at-add_object h o (array_size a) (end h.top (omega arith)))
arrays_stand h owner (a ∷ xs) end (suc k) lt =
    let o : Object = array_object owner a in
    let g : HeapState = add_object h o (array_size a) in
    subst (λ at. IsObject (add_arrays g owner xs) (get_or (array_addresses at xs) k 0)) (top-add_object h o (array_size a))
    (arrays_stand g owner xs (end-add h o (array_size a) (omega arith) end) k (omega arith))

-- a whole heap stays whole
initial_other : (kind : Kind) → is_array_init kind ≡ true → kind ≡ ReferenceArray → ⊥
initial_other kind initial e = false≢true (sym (ap is_array_init e) ∙ initial)

pub arrays_whole : (h : HeapState) (owner : ℕ) (xs : List (Kind × List ℕ)) → AreInitial xs → HasEnd h → IsConsistent h
    → IsConsistent (add_arrays h owner xs) × HasEnd (add_arrays h owner xs)
arrays_whole h owner [] kinds end w = (w, end)
arrays_whole h owner (a ∷ xs) kinds end w =
    arrays_whole (add_object h (array_object owner a) (array_size a)) owner xs kinds.1
    (end-add h (array_object owner a) (array_size a) (omega arith) end)
    (object_whole h (array_object owner a) (array_size a) (end h.top (omega arith)) refl (λ kind i lt. absurd (initial_other a.0 kinds.0 kind)) w)
