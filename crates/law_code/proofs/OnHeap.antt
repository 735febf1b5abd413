-- An object on the heap, beside which others are changed and made.
use Rattle.std.proofs.Common.{◌≡◌, ℕ, suc, ◌+◌, ◌≤◌, ◌⊎◌, false, inl, inr, List, [], ◌∷◌, refl, sym, ◌∙◌, ap, subst, arith, Option, Some, None}
use Rattle.std.proofs.lemmas.Bool.{cases_eq, true≢false}
use Rattle.std.proofs.lemmas.Option.{none-some, same_Some}
use Rattle.jc_transient.specs.declared.cell.ClearEvent.{ClearEvent}
use Rattle.jc_transient.specs.declared.cell.ClearEvent.TheVariants.{Reset, Deselect}
use Rattle.jc_heap.specs.declared.object.Facts.{Facts}
use Rattle.jc_heap.specs.declared.object.Kind.{Kind}
use Rattle.jc_heap.specs.declared.place.Place.{Place}
use Rattle.jc_heap.specs.declared.place.Place.TheVariants.{Cell, Static, Registry, AppletCount}
use Rattle.jc_heap.specs.Object.{Object, Item, AnObject, APackage, facts_of, is_object, new_transient}
use Rattle.jc_heap.specs.Statics.{with_word, set_word}
use Rattle.jc_heap.specs.Heap.{HeapState, heap_item_at, facts, is_allocated, set_cell, set_cells, add_object, add_transient, area_end, with_area_end}
use Rattle.jc_heap.specs.Place.{set_place, set_places}
use Rattle.jc_heap.proofs.Laws.{heap_item_at-set_other, heap_item_at-add_object, heap_item_at-add_other, same_facts, object_named}
use Rattle.jc_heap.proofs.RecordWords.{of_item-set_word}
use Rattle.jc_heap.proofs.Places.{bare_stays}
use Rattle.law_code.specs.IsolationLaws.SparingEffects.{IsBeside, AreBeside}

-- the cells of two transient objects of an event lie apart
abbrev pub LieApart : Facts → Facts → Type 0
LieApart f g = (f.place + f.length ≤ g.place) ⊎ (g.place + g.length ≤ f.place)

-- a reference names an object, and its transient cells lie apart from those of all others, and below the end of their area
pub record StandsBeside (q : ℕ) (o : Object) (h : HeapState) : Type 0 where
  pub item : heap_item_at h q ≡ AnObject o
  pub beside : (event : ClearEvent) → o.facts.event ≡ Some event → (r : ℕ) → (r ≡ q → ⊥) → (facts h r).event ≡ Some event → LieApart (facts h r) o.facts
  pub below : (event : ClearEvent) → o.facts.event ≡ Some event → o.facts.place + o.facts.length ≤ area_end h event

-- what is an object, as one
abbrev object_in : Item → Option Object
object_in (AnObject o) = Some o
object_in (APackage ws) = None

object-with_word : (t : Item) (j v : ℕ) → object_in (with_word t j v) ≡ object_in t
object-with_word (AnObject o) j v = refl
object-with_word (APackage ws) j v = refl

item_of : (t : Item) (o : Object) → object_in t ≡ Some o → t ≡ AnObject o
item_of (AnObject x) o e = ap AnObject (same_Some x o e)
item_of (APackage ws) o e = absurd (none-some o e)

-- the ends of the areas stay where a place is set
ends-set_cell : (h : HeapState) (r i v : ℕ) (event : ClearEvent) → area_end (set_cell h r i v) event ≡ area_end h event
unfolding set_cell
ends-set_cell h r i v Reset = refl
ends-set_cell h r i v Deselect = refl

ends-set_word : (h : HeapState) (r j v : ℕ) (event : ClearEvent) → area_end (set_word h r j v) event ≡ area_end h event
unfolding set_word
ends-set_word h r j v Reset = refl
ends-set_word h r j v Deselect = refl

ends-set_place : (h : HeapState) (place : Place) (v : ℕ) (event : ClearEvent) → area_end (set_place h place v) event ≡ area_end h event
ends-set_place h (Cell r i) v event = ends-set_cell h r i v event
ends-set_place h (Static r j) v event = ends-set_word h r j v event
ends-set_place h (Registry i) v Reset = refl
ends-set_place h (Registry i) v Deselect = refl
ends-set_place h AppletCount v Reset = refl
ends-set_place h AppletCount v Deselect = refl

-- so do the headers
facts-set_place : (h : HeapState) (place : Place) (v r : ℕ) → facts (set_place h place v) r ≡ facts h r
facts-set_place h place v r = same_facts _ _ (bare_stays h place v r)

module _ (q : ℕ) (o : Object) where
  -- an object whose item stays, where headers and ends stay
  stays : (h new : HeapState) → StandsBeside q o h → heap_item_at new q ≡ AnObject o → ((r : ℕ) → facts new r ≡ facts h r)
      → ((event : ClearEvent) → area_end new event ≡ area_end h event) → StandsBeside q o new
  stays h new st item same ends = record {
    item = item;
    beside = λ event e r ne is. subst (λ f. LieApart f o.facts) (sym (same r)) (st.beside event e r ne (ap (λ f. f.event) (sym (same r)) ∙ is));
    below = λ event e. subst (λ n. o.facts.place + o.facts.length ≤ n) (sym (ends event)) (st.below event e);
  }

  item-set_place : (h : HeapState) (place : Place) (v : ℕ) → IsBeside q place → heap_item_at h q ≡ AnObject o
      → heap_item_at (set_place h place v) q ≡ AnObject o
  item-set_place h (Cell r i) v ne e = heap_item_at-set_other h r i v q ne ∙ e
  item-set_place h (Static r j) v ne e = item_of _ o (of_item-set_word object_in object-with_word h r j v q ∙ ap object_in e)
  item-set_place h (Registry i) v ne e = absurd ne
  item-set_place h AppletCount v ne e = absurd ne

  pub place_set : (h : HeapState) (place : Place) (v : ℕ) → IsBeside q place → StandsBeside q o h → StandsBeside q o (set_place h place v)
  place_set h place v ne st = stays h (set_place h place v) st (item-set_place h place v ne st.item) (facts-set_place h place v) (ends-set_place h place v)

  pub places_set : (cs : List (Place × ℕ)) (h : HeapState) → AreBeside q cs → StandsBeside q o h → StandsBeside q o (set_places h cs)
  places_set [] h ne st = st
  places_set (c ∷ cs) h ne st = places_set cs (set_place h c.0 c.1) ne.1 (place_set h c.0 c.1 ne.0 st)

  pub cells_set : (vs : List ℕ) (h : HeapState) (r i : ℕ) → (r ≡ q → ⊥) → StandsBeside q o h → StandsBeside q o (set_cells h r i vs)
  cells_set [] h r i ne st = st
  cells_set (v ∷ vs) h r i ne st = cells_set vs (set_cell h r i v) r (suc i) ne (place_set h (Cell r i) v ne st)

  -- the registry's words and counts are no objects'
  registry_item : (h : HeapState) (k v : ℕ) → heap_item_at h q ≡ AnObject o → heap_item_at (set_place h (Registry k) v) q ≡ AnObject o
  unfolding heap_item_at
  registry_item h k v e = e

  count_item : (h : HeapState) (v : ℕ) → heap_item_at h q ≡ AnObject o → heap_item_at (set_place h AppletCount v) q ≡ AnObject o
  unfolding heap_item_at
  count_item h v e = e

  pub registry_set : (h : HeapState) (k v : ℕ) → StandsBeside q o h → StandsBeside q o (set_place h (Registry k) v)
  registry_set h k v st = stays h _ st (registry_item h k v st.item) (facts-set_place h (Registry k) v) (ends-set_place h (Registry k) v)

  pub count_set : (h : HeapState) (v : ℕ) → StandsBeside q o h → StandsBeside q o (set_place h AppletCount v)
  count_set h v st = stays h _ st (count_item h v st.item) (facts-set_place h AppletCount v) (ends-set_place h AppletCount v)

  -- nothing stands at the top, so the object doesn't
  pub not_top : (h : HeapState) → is_allocated h h.top ≡ false → heap_item_at h q ≡ AnObject o → h.top ≡ q → ⊥
  not_top h free e same = true≢false (sym (object_named h q (ap is_object e)) ∙ ap (is_allocated h) (sym same) ∙ free)

  ends-add_object : (h : HeapState) (x : Object) (n : ℕ) (event : ClearEvent) → area_end (add_object h x n) event ≡ area_end h event
  unfolding add_object
  ends-add_object h x n Reset = refl
  ends-add_object h x n Deselect = refl

  facts_new : (h : HeapState) (x : Object) (n : ℕ) → is_allocated h h.top ≡ false → facts (add_object h x n) h.top ≡ x.facts
  facts_new h x n free = ap facts_of (heap_item_at-add_object h x n free)

  facts_other : (h : HeapState) (x : Object) (n r : ℕ) → (h.top ≡ r → ⊥) → facts (add_object h x n) r ≡ facts h r
  facts_other h x n r ne = ap facts_of (heap_item_at-add_other h x n r ne)

  -- a new object, whose cells, if transient, begin where the area ended
  pub object_added : (h : HeapState) (x : Object) (n : ℕ) → is_allocated h h.top ≡ false
      → ((event : ClearEvent) → x.facts.event ≡ Some event → x.facts.place ≡ area_end h event) → StandsBeside q o h → StandsBeside q o (add_object h x n)
  object_added h x n free begins st = record {
    item = heap_item_at-add_other h x n q (not_top h free st.item) ∙ st.item;
    beside = λ event e r ne is. elim (cases_eq h.top r) [
      | inl top ↦
          let new : facts (add_object h x n) r ≡ x.facts = ap (λ t. facts (add_object h x n) t) (sym top) ∙ facts_new h x n free in
          let place : x.facts.place ≡ area_end h event = begins event (ap (λ f. f.event) (sym new) ∙ is) in
          let low = st.below event e in
          let le : o.facts.place + o.facts.length ≤ x.facts.place = omega (arith, place, low) in
          subst (λ f. LieApart f o.facts) (sym new) (inr le)
      | inr other ↦
          let same : facts (add_object h x n) r ≡ facts h r = facts_other h x n r other in
          subst (λ f. LieApart f o.facts) (sym same) (st.beside event e r ne (ap (λ f. f.event) (sym same) ∙ is))
    ];
    below = λ event e. subst (λ k. o.facts.place + o.facts.length ≤ k) (sym (ends-add_object h x n event)) (st.below event e);
  }

  -- an area that ends later
  grown : (h : HeapState) (event : ClearEvent) (end : ℕ) → area_end h event ≤ end → StandsBeside q o h → StandsBeside q o (with_area_end h event end)
  unfolding heap_item_at
  grown h Reset end le st = record { item = st.item; beside = st.beside; below = below }
    where
      below : (e : ClearEvent) → o.facts.event ≡ Some e → o.facts.place + o.facts.length ≤ area_end (with_area_end h Reset end) e
      below Reset is = let b = st.below Reset is in omega (arith, b, le)
      below Deselect is = st.below Deselect is
  grown h Deselect end le st = record { item = st.item; beside = st.beside; below = below }
    where
      below : (e : ClearEvent) → o.facts.event ≡ Some e → o.facts.place + o.facts.length ≤ area_end (with_area_end h Deselect end) e
      below Reset is = st.below Reset is
      below Deselect is = let b = st.below Deselect is in omega (arith, b, le)

  pub transient_added : (h : HeapState) (kind : Kind) (event : ClearEvent) (class owner long : ℕ) → is_allocated h h.top ≡ false → StandsBeside q o h
      → StandsBeside q o (add_transient h kind event class owner long)
  unfolding add_transient
  transient_added h kind event class owner long free st =
      grown (add_object h (new_transient kind event class owner long (area_end h event)) 5) event (area_end h event + long)
      (let e = ends-add_object h (new_transient kind event class owner long (area_end h event)) 5 event in omega (arith, e))
      (object_added h (new_transient kind event class owner long (area_end h event)) 5 free (λ other is. ap (area_end h) (same_Some event other is)) st)
