-- What stands in a heap stands apart after changes of cells and words, and after what is new.
use Rattle.std.proofs.Common.{◌≡◌, ℕ, suc, ◌+◌, ◌<◌, ◌≤◌, ◌&&◌, Bool, true, false, List, [], ◌∷◌, length, inl, inr, refl, sym, ◌∙◌, ap, subst, arith}
use Rattle.std.proofs.Common.{if◌then◌else◌}
use Rattle.std.proofs.lemmas.Bool.{cases_eq, cases_lt, true≢false}
use Rattle.std.proofs.lemmas.List.{length-replicate}
use Rattle.jc_transient.specs.declared.cell.ClearEvent.{ClearEvent}
use Rattle.jc_transient.specs.declared.cell.ClearEvent.TheVariants.{Reset, Deselect}
use Rattle.jc_heap.specs.declared.object.Kind.{Kind}
use Rattle.jc_heap.specs.declared.place.Place.{Place}
use Rattle.jc_heap.specs.declared.place.Place.TheVariants.{Cell, Static, Registry, AppletCount}
use Rattle.jc_heap.specs.Heap.{HasEnd, HeapState, add_object, add_transient, area_end, heap_item_at, is_allocated, set_cell, set_cells, with_area_end}
use Rattle.jc_heap.specs.Object.{AnObject, APackage, Item, Object, has_bytes, header_only, header_size, new_object, new_transient, object_size, transient_size}
use Rattle.jc_heap.specs.Object.{words_of_cells}
use Rattle.jc_heap.specs.Package.{add_arrays, add_package, array_object, array_size, package_owner, package_record, push_package}
use Rattle.jc_heap.specs.Packed.{packed_words}
use Rattle.jc_heap.specs.Place.{set_place, set_places}
use Rattle.jc_heap.proofs.KeepingPackages.{end-add, end-push}
use Rattle.jc_heap.proofs.Laws.{header_only-set_cell, heap_item_at-add_object, heap_item_at-add_other, is_allocated-add_other, is_allocated-set_cell}
use Rattle.jc_heap.proofs.Laws.{top-add_object, top-set_cell}
use Rattle.jc_heap.proofs.Packing.{length-packed_words}
use Rattle.jc_heap.proofs.RecordWords.{header_only-set_word, is_allocated-set_word, top_after-set_word}
use Rattle.jc_heap.proofs.Tables.{at_or-push_other, at_or-push_same, has-push}
use Rattle.law_soundness.specs.Separation.{StandApart, item_size}

bare_size : (t : Item) → item_size (header_only t) ≡ item_size t
bare_size (AnObject o) = refl
bare_size (APackage words) = length-replicate {A = ℕ} (length words) 0

pub same_size : (a b : Item) → header_only a ≡ header_only b → item_size a ≡ item_size b
same_size a b e = sym (bare_size a) ∙ ap item_size e ∙ bare_size b

-- ---- where headers stay

apart_same : (h g : HeapState) → g.top ≡ h.top → ((r : ℕ) → header_only (heap_item_at g r) ≡ header_only (heap_item_at h r))
    → ((r : ℕ) → is_allocated g r ≡ is_allocated h r) → StandApart h → StandApart g
apart_same h g top items names s = record {
  start = let a = s.start in omega (arith, a, top);
  first = λ r there. s.first r (sym (names r) ∙ there);
  below = λ r there.
      let size = same_size (heap_item_at g r) (heap_item_at h r) (items r) in
      let b = s.below r (sym (names r) ∙ there) in
      omega (arith, size, b, top);
  apart = λ r q there behind lt.
      let size = same_size (heap_item_at g r) (heap_item_at h r) (items r) in
      let a = s.apart r q (sym (names r) ∙ there) (sym (names q) ∙ behind) lt in
      omega (arith, size, a);
}

cell_apart : (h : HeapState) (r i v : ℕ) → StandApart h → StandApart (set_cell h r i v)
cell_apart h r i v s = apart_same h (set_cell h r i v) (top-set_cell h r i v) (header_only-set_cell h r i v) (is_allocated-set_cell h r i v) s

pub place_apart : (h : HeapState) (place : Place) (v : ℕ) → StandApart h → StandApart (set_place h place v)
unfolding heap_item_at is_allocated
place_apart h (Cell r i) v s = cell_apart h r i v s
place_apart h (Static r j) v s = apart_same h (set_place h (Static r j) v) (top_after-set_word h r j v) (header_only-set_word h r j v) (is_allocated-set_word h r j v) s
place_apart h (Registry i) v s = apart_same h (set_place h (Registry i) v) refl (λ r. refl) (λ r. refl) s
place_apart h AppletCount v s = apart_same h (set_place h AppletCount v) refl (λ r. refl) (λ r. refl) s

pub places_apart : (changes : List (Place × ℕ)) (h : HeapState) → StandApart h → StandApart (set_places h changes)
places_apart [] h s = s
places_apart (c ∷ cs) h s = places_apart cs (set_place h c.0 c.1) (place_apart h c.0 c.1 s)

pub run_apart : (vs : List ℕ) (h : HeapState) (r i : ℕ) → StandApart h → StandApart (set_cells h r i vs)
run_apart [] h r i s = s
run_apart (v ∷ vs) h r i s = run_apart vs (set_cell h r i v) r (suc i) (cell_apart h r i v s)

-- ---- what is new

-- something more at the end
module _ (h g : HeapState) (t : Item) (n : ℕ) (end : HasEnd h) (top : g.top ≡ h.top + n) (new : heap_item_at g h.top ≡ t) (size : item_size t ≤ n)
    (items : (r : ℕ) → (h.top ≡ r → ⊥) → heap_item_at g r ≡ heap_item_at h r) (names : (r : ℕ) → (h.top ≡ r → ⊥) → is_allocated g r ≡ is_allocated h r)
    (s : StandApart h) where
  low : (r : ℕ) → is_allocated h r ≡ true → r < h.top
  low r there = elim (cases_lt r h.top) [
    | inl lt ↦ lt
    | inr high ↦ absurd (true≢false (sym there ∙ end r high))
  ]

  new_size : item_size (heap_item_at g h.top) ≤ n
  new_size = let e = ap item_size new in omega (arith, e, size)

  old_size : (r : ℕ) → (h.top ≡ r → ⊥) → item_size (heap_item_at g r) ≡ item_size (heap_item_at h r)
  old_size r other = ap item_size (items r other)

  apart_more : StandApart g
  apart_more = record {
    start = let a = s.start in omega (arith, a, top);
    first = λ r there. elim (cases_eq h.top r) [
      | inl e ↦ let a = s.start in omega (arith, a, e)
      | inr other ↦ s.first r (sym (names r other) ∙ there)
    ];
    below = λ r there. elim (cases_eq h.top r) [
      | inl e ↦ let k = subst (λ q. item_size (heap_item_at g q) ≤ n) e new_size in omega (arith, k, top, e)
      | inr other ↦ let b = s.below r (sym (names r other) ∙ there) in let k = old_size r other in omega (arith, b, k, top)
    ];
    apart = λ r q there behind lt. elim (cases_eq h.top r) [
      | inl e ↦
          let other : h.top ≡ q → ⊥ = λ f. omega (arith, e, f, lt) in
          let k = low q (sym (names q other) ∙ behind) in absurd (omega (arith, e, k, lt))
      | inr other ↦ elim (cases_eq h.top q) [
        | inl f ↦ let b = s.below r (sym (names r other) ∙ there) in let k = old_size r other in omega (arith, b, k, f)
        | inr new ↦ let a = s.apart r q (sym (names r other) ∙ there) (sym (names q new) ∙ behind) lt in let k = old_size r other in omega (arith, a, k)
      ]
    ];
  }

object_apart : (h : HeapState) (o : Object) (n : ℕ) → HasEnd h → item_size (AnObject o) ≤ n → StandApart h → StandApart (add_object h o n)
object_apart h o n end size s = apart_more h (add_object h o n) (AnObject o) n end (top-add_object h o n)
    (heap_item_at-add_object h o n (end h.top (omega arith))) size (heap_item_at-add_other h o n) (is_allocated-add_other h o n) s

new_fits : (b : Bool) (long : ℕ) → header_size + words_of_cells (b && b) long ≤ header_size + words_of_cells b long
new_fits true long = omega arith
new_fits false long = omega arith

pub new_object_apart : (h : HeapState) (kind : Kind) (class owner long : ℕ) → HasEnd h → StandApart h
    → StandApart (add_object h (new_object kind class owner long) (object_size kind long))
new_object_apart h kind class owner long end s = object_apart h (new_object kind class owner long) (object_size kind long) end (new_fits (has_bytes kind) long) s

area_apart : (h : HeapState) (event : ClearEvent) (n : ℕ) → StandApart h → StandApart (with_area_end h event n)
unfolding heap_item_at is_allocated
area_apart h Reset n s = apart_same h (with_area_end h Reset n) refl (λ r. refl) (λ r. refl) s
area_apart h Deselect n s = apart_same h (with_area_end h Deselect n) refl (λ r. refl) (λ r. refl) s

pub transient_apart : (h : HeapState) (kind : Kind) (event : ClearEvent) (class owner long : ℕ) → HasEnd h → StandApart h
    → StandApart (add_transient h kind event class owner long)
unfolding add_transient
transient_apart h kind event class owner long end s =
    let o = new_transient kind event class owner long (area_end h event) in
    area_apart (add_object h o transient_size) event (area_end h event + long) (object_apart h o transient_size end (omega arith) s)

-- ---- a package

array_fits : (b : Bool) (bytes : List ℕ) → header_size + words_of_cells (b && b) (length (if b then bytes else packed_words bytes))
    ≤ header_size + length (packed_words bytes)
array_fits true bytes = let long = length-packed_words bytes in omega (arith, long)
array_fits false bytes = omega arith

arrays_apart : (h : HeapState) (owner : ℕ) (xs : List (Kind × List ℕ)) → HasEnd h → StandApart h → StandApart (add_arrays h owner xs)
arrays_apart h owner [] end s = s
arrays_apart h owner (a ∷ xs) end s =
    let o : Object = array_object owner a in
    arrays_apart (add_object h o (array_size a)) owner xs (end-add h o (array_size a) (omega arith) end)
    (object_apart h o (array_size a) end (array_fits (has_bytes a.0) a.1) s)

pub record_some : (at : ℕ) (cs : List (ℕ × List ℕ)) (xs : List (Kind × List ℕ)) (rest : List ℕ) → 0 < length (package_record at cs xs rest)
unfolding package_record
record_some at cs xs rest = omega arith

record_apart : (h : HeapState) (words : List ℕ) → HasEnd h → StandApart h → StandApart (push_package h words)
unfolding push_package heap_item_at is_allocated
record_apart h words end s = apart_more h (push_package h words) (APackage words) (length words) end refl
    (at_or-push_same (APackage []) h.items h.top (APackage words) (end h.top (omega arith))) (omega arith)
    (λ r other. at_or-push_other (APackage []) h.items h.top r (APackage words) other) (λ r other. has-push h.items h.top r (APackage words) other) s

pub package_apart : (h : HeapState) (cs : List (ℕ × List ℕ)) (xs : List (Kind × List ℕ)) (rest : List ℕ) → HasEnd h → StandApart h
    → StandApart (add_package h cs xs rest)
package_apart h cs xs rest end s =
    let words = package_record h.top cs xs rest in
    arrays_apart (push_package h words) (package_owner (h.counts.0 + 1)) xs (end-push h words (record_some h.top cs xs rest) end) (record_apart h words end s)
