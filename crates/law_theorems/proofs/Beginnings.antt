-- How a heap begins, after a change.
use Rattle.std.proofs.Common.{◌≡◌, ℕ, zero, suc, ◌+◌, ◌<◌, ◌≤◌, List, [], ◌∷◌, ◌++◌, length, map, Ok, Some, refl, sym, ◌∙◌, ap, subst, arith}
use Rattle.std.specs.Prelude.{slice_index, unwrap_or}
use Rattle.std.specs.List.{range_with_len}
use Rattle.jc_transient.specs.declared.cell.ClearEvent.{ClearEvent}
use Rattle.jc_transient.specs.declared.cell.ClearEvent.TheVariants.{Reset, Deselect}
use Rattle.jc_transient.specs.State.{buffer_told}
use Rattle.jc_heap.specs.declared.object.Facts.{Facts}
use Rattle.jc_heap.specs.declared.object.Kind.{Kind}
use Rattle.jc_heap.specs.declared.place.Place.{Place}
use Rattle.jc_heap.specs.declared.place.Place.TheVariants.{Cell, Static, Registry, AppletCount}
use Rattle.jc_heap.specs.Object.{AnObject, APackage, Item, Object, facts_of, is_object, new_transient, with_cell}
use Rattle.jc_heap.specs.Walk.{entry_or}
use Rattle.jc_heap.specs.Heap.{HeapState, add_object, add_transient, area_end, facts, first_above, heap_item_at, next_object, set_cell, set_cells}
use Rattle.jc_heap.specs.Heap.{with_area_end}
use Rattle.jc_heap.specs.Package.{add_arrays, add_package, array_object, array_size, package_owner, package_record, push_package}
use Rattle.jc_heap.specs.Place.{set_place, set_places}
use Rattle.jc_heap.specs.Statics.{set_word, with_word}
use Rattle.jc_heap.proofs.Laws.{facts-set_cell, same_facts}
use Rattle.jc_heap.proofs.RecordWords.{header_only-set_word}
use Rattle.jc_image.specs.Beginning.{HeapBeginsWith, HeadersFollow}
use Rattle.jc_platform.specs.Table.{Reads}
use Rattle.jc_platform.specs.Tokens.{Tokens}
use Rattle.jc_environment.specs.Objects.{fixed_count, sized_objects}
use Rattle.jc_environment.proofs.ObjectCounts.{count_sized}
use Rattle.jc_card.specs.Fixed.{buffer_cells, fixed_facts, fixed_of, object_number}
use Rattle.law_theorems.specs.Heaps.{HasBeginning}
use Rattle.law_theorems.proofs.FirstObjects.{found_put, found_still, found_there, looked_up_still}
use Rattle.law_soundness.proofs.Statics.{object-with_word}

-- the first words, those that no change touches and the table are the same, and each object is followed by the one that followed it
pub record Stays (h g : HeapState) : Type 0 where
  pub head : g.head ≡ h.head
  pub text : g.text ≡ h.text
  pub lasting : g.lasting ≡ h.lasting
  pub next : (r q : ℕ) → next_object h r ≡ Some q → next_object g r ≡ Some q
  pub same : (r q : ℕ) → next_object h r ≡ Some q → facts g q ≡ facts h q

stays_then : (h g k : HeapState) → Stays h g → Stays g k → Stays h k
stays_then h g k first second = record {
  head = second.head ∙ first.head;
  text = second.text ∙ first.text;
  lasting = second.lasting ∙ first.lasting;
  next = λ r q e. second.next r q (first.next r q e);
  same = λ r q e. second.same r q (first.next r q e) ∙ first.same r q e;
}

-- ---- a cell, a word

object-with_cell : (t : Item) (i v : ℕ) → is_object (with_cell t i v) ≡ is_object t
object-with_cell (AnObject o) i v = refl
object-with_cell (APackage ws) i v = refl

next-set_cell : (h : HeapState) (r i v q : ℕ) → next_object (set_cell h r i v) q ≡ next_object h q
unfolding next_object set_cell heap_item_at
next-set_cell h r i v q = found_put (APackage []) h.items r (with_cell (heap_item_at h r) i v) q (object-with_cell (heap_item_at h r) i v)

next-set_word : (h : HeapState) (r j v q : ℕ) → next_object (set_word h r j v) q ≡ next_object h q
unfolding next_object set_word heap_item_at
next-set_word h r j v q = found_put (APackage []) h.items r (with_word (heap_item_at h r) j v) q (object-with_word (heap_item_at h r) j v)

cell_stays : (h : HeapState) (r i v : ℕ) → Stays h (set_cell h r i v)
unfolding set_cell
cell_stays h r i v = record {
  head = refl;
  text = refl;
  lasting = refl;
  next = λ p q e. next-set_cell h r i v p ∙ e;
  same = λ p q e. facts-set_cell h r i v q;
}

word_stays : (h : HeapState) (r j v : ℕ) → Stays h (set_word h r j v)
unfolding set_word
word_stays h r j v = record {
  head = refl;
  text = refl;
  lasting = refl;
  next = λ p q e. next-set_word h r j v p ∙ e;
  same = λ p q e. same_facts (heap_item_at (set_word h r j v) q) (heap_item_at h q) (header_only-set_word h r j v q);
}

pub set_place_stays : (h : HeapState) (place : Place) (v : ℕ) → Stays h (set_place h place v)
unfolding next_object heap_item_at
set_place_stays h (Cell r i) v = cell_stays h r i v
set_place_stays h (Static r j) v = word_stays h r j v
set_place_stays h (Registry i) v = record { head = refl; text = refl; lasting = refl; next = λ p q e. e; same = λ p q e. refl }
set_place_stays h AppletCount v = record { head = refl; text = refl; lasting = refl; next = λ p q e. e; same = λ p q e. refl }

itself_stays : (h : HeapState) → Stays h h
itself_stays h = record { head = refl; text = refl; lasting = refl; next = λ p q e. e; same = λ p q e. refl }

pub set_places_stays : (changes : List (Place × ℕ)) (h : HeapState) → Stays h (set_places h changes)
set_places_stays [] h = itself_stays h
set_places_stays (c ∷ cs) h = stays_then h (set_place h c.0 c.1) (set_places (set_place h c.0 c.1) cs) (set_place_stays h c.0 c.1)
    (set_places_stays cs (set_place h c.0 c.1))

pub set_cells_stays : (vs : List ℕ) (h : HeapState) (r i : ℕ) → Stays h (set_cells h r i vs)
set_cells_stays [] h r i = itself_stays h
set_cells_stays (v ∷ vs) h r i = stays_then h (set_cell h r i v) (set_cells (set_cell h r i v) r (suc i) vs) (cell_stays h r i v)
    (set_cells_stays vs (set_cell h r i v) r (suc i))

-- ---- something new after the others

pushed_stays : (h g : HeapState) (more : List (ℕ × Item)) → g.head ≡ h.head → g.text ≡ h.text → g.lasting ≡ h.lasting → g.items ≡ h.items ++ more → Stays h g
unfolding next_object heap_item_at
pushed_stays h g more head text lasting items = record {
  head = head;
  text = text;
  lasting = lasting;
  next = λ r q e. ap (λ l. first_above l r) items ∙ found_still h.items more r q e;
  same = λ r q e. ap (λ l. facts_of (entry_or (APackage []) l q)) items ∙ ap facts_of
      (looked_up_still (APackage []) h.items more q (found_there h.items r q e));
}

pub object_stays : (h : HeapState) (o : Object) (n : ℕ) → Stays h (add_object h o n)
unfolding add_object
object_stays h o n = pushed_stays h (add_object h o n) ((h.top, AnObject o) ∷ []) refl refl refl refl

end_stays : (h : HeapState) (event : ClearEvent) (n : ℕ) → Stays h (with_area_end h event n)
unfolding next_object heap_item_at
end_stays h Reset n = record { head = refl; text = refl; lasting = refl; next = λ p q e. e; same = λ p q e. refl }
end_stays h Deselect n = record { head = refl; text = refl; lasting = refl; next = λ p q e. e; same = λ p q e. refl }

pub transient_stays : (h : HeapState) (kind : Kind) (event : ClearEvent) (class owner long : ℕ) → Stays h (add_transient h kind event class owner long)
unfolding add_transient
transient_stays h kind event class owner long =
    stays_then h (add_object h (new_transient kind event class owner long (area_end h event)) 5)
    (with_area_end (add_object h (new_transient kind event class owner long (area_end h event)) 5) event (area_end h event + long))
    (object_stays h (new_transient kind event class owner long (area_end h event)) 5)
    (end_stays (add_object h (new_transient kind event class owner long (area_end h event)) 5) event (area_end h event + long))

record_stays : (h : HeapState) (words : List ℕ) → Stays h (push_package h words)
unfolding push_package
record_stays h words = pushed_stays h (push_package h words) ((h.top, APackage words) ∷ []) refl refl refl refl

arrays_stay : (xs : List (Kind × List ℕ)) (h : HeapState) (owner : ℕ) → Stays h (add_arrays h owner xs)
arrays_stay [] h owner = itself_stays h
arrays_stay (a ∷ xs) h owner = stays_then h (add_object h (array_object owner a) (array_size a))
    (add_arrays (add_object h (array_object owner a) (array_size a)) owner xs)
    (object_stays h (array_object owner a) (array_size a)) (arrays_stay xs (add_object h (array_object owner a) (array_size a)) owner)

pub package_stays : (h : HeapState) (cs : List (ℕ × List ℕ)) (xs : List (Kind × List ℕ)) (rest : List ℕ) → Stays h (add_package h cs xs rest)
package_stays h cs xs rest = stays_then h (push_package h (package_record h.top cs xs rest)) (add_package h cs xs rest)
    (record_stays h (package_record h.top cs xs rest)) (arrays_stay xs (push_package h (package_record h.top cs xs rest)) (package_owner (h.counts.0 + 1)))

-- ---- what follows

module _ (h g : HeapState) (s : Stays h g) where
  follow_still : (fs : List Facts) (r : ℕ) → HeadersFollow h r fs → HeadersFollow g r fs
  follow_still [] r f = tt
  follow_still (x ∷ fs) r f = (f.0, s.next r f.0 f.1, s.same r f.0 f.1 ∙ f.2, follow_still fs f.0 f.3)

  number_next : (k : HeapState) (j q : ℕ) → next_object k (object_number k j) ≡ Some q → object_number k (suc j) ≡ q
  unfolding object_number
  number_next k j q e = ap (λ o. unwrap_or o 0) e

  -- as many objects as follow have the same numbers
  numbers_still : (fs : List Facts) (j k : ℕ) → HeadersFollow h (object_number h j) fs → object_number g j ≡ object_number h j → k ≤ length fs
      → object_number g (j + k) ≡ object_number h (j + k)
  numbers_still fs j zero f e le = let at : j + 0 ≡ j = omega arith in ap (object_number g) at ∙ e ∙ sym (ap (object_number h) at)
  numbers_still [] j (suc k) f e le = absurd (omega (arith, le))
  numbers_still (x ∷ fs) j (suc k) f e le =
      let here : object_number h (suc j) ≡ f.0 = number_next h j f.0 f.1 in
      let there : object_number g (suc j) ≡ f.0 = number_next g j f.0 (ap (next_object g) e ∙ s.next (object_number h j) f.0 f.1) in
      let at : j + suc k ≡ suc j + k = omega arith in
      ap (object_number g) at ∙ numbers_still fs (suc j) k (subst (λ r. HeadersFollow h r fs) (sym here) f.3) (there ∙ sym here) (omega (arith, le))
      ∙ sym (ap (object_number h) at)

  zeroth : object_number g 0 ≡ object_number h 0
  unfolding object_number
  zeroth = refl

  from_null : (fs : List Facts) → HeadersFollow h 0 fs → HeadersFollow h (object_number h 0) fs
  unfolding object_number
  from_null fs f = f

  numbers_from : (a n : ℕ) → ((k : ℕ) → k < a + n → object_number g k ≡ object_number h k)
      → map (object_number g) (range_with_len a n) ≡ map (object_number h) (range_with_len a n)
  numbers_from a zero all = refl
  numbers_from a (suc n) all =
      ap (λ x. x ∷ map (object_number g) (range_with_len (a + 1) n)) (all a (omega arith))
      ∙ ap (λ l. object_number h a ∷ l) (numbers_from (a + 1) n (λ k le. all k (omega (arith, le))))

  length-facts : (t : Tokens) (place : ℕ) (os : List _) → length (fixed_facts t place os) ≡ length os
  length-facts t place [] = refl
  length-facts t place (o ∷ os) = ap suc (length-facts t (place + o.cells) os)

  module _ (t : Tokens) (k : ℕ) (begins : HeadersFollow h 0 (fixed_facts t 0 (sized_objects t k))) where
    pub fixed_still : fixed_of t g ≡ fixed_of t h
    fixed_still =
        let long = length-facts t 0 (sized_objects t k) ∙ count_sized t k in
        numbers_from 1 (fixed_count t) (λ j le. let at : j ≡ 0 + j = omega arith in ap (object_number g) at
        ∙ numbers_still (fixed_facts t 0 (sized_objects t k)) 0 j (from_null (fixed_facts t 0 (sized_objects t k)) begins) zeroth (omega (arith, long, le))
        ∙ sym (ap (object_number h) at))

-- the heap has its beginning, with these objects
pub record Begins (n : ℕ) (t : Tokens) (fixed : List ℕ) (h : HeapState) : Type 0 where
  pub has : HasBeginning n t h
  pub are : fixed_of t h ≡ fixed

pub begins_still : (n : ℕ) (t : Tokens) (fixed : List ℕ) (h g : HeapState) → Stays h g → Begins n t fixed h → Begins n t fixed g
unfolding HeapBeginsWith
begins_still n t fixed h g s b = record {
  has = record {
    head = s.head ∙ b.has.head;
    enough = b.has.enough;
    table = subst (λ l. Reads l (Ok t)) (sym s.text) b.has.table;
    begins = subst (λ (l : List ℕ). HeadersFollow g 0 (fixed_facts t 0 (sized_objects t (buffer_told (slice_index l 2))))) (sym s.lasting)
        (follow_still h g s (fixed_facts t 0 (sized_objects t (buffer_cells h))) 0 b.has.begins);
  };
  are = fixed_still h g s t (buffer_cells h) b.has.begins ∙ b.are;
}
