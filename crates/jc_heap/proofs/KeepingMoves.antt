-- Moves that have what they need keep heaps whole.
use Rattle.std.proofs.Common.{◌≡◌, ℕ, suc, ◌+◌, ◌≤◌, true, false, inl, inr, List, [], ◌∷◌, set, refl, ◌∙◌, ap, subst, sym, arith, if◌then◌else◌}
use Rattle.jc_transient.specs.declared.cell.ClearEvent.{ClearEvent}
use Rattle.jc_transient.specs.declared.cell.ClearEvent.TheVariants.{Reset, Deselect}
use Rattle.jc_heap.specs.declared.object.Kind.{Kind}
use Rattle.jc_heap.specs.declared.place.Place.{Place}
use Rattle.jc_heap.specs.declared.place.Place.TheVariants.{Cell, Static, Registry, AppletCount}
use Rattle.jc_heap.specs.Walk.{has_entry}
use Rattle.jc_heap.specs.Object.{is_object, new_transient, transient_size}
use Rattle.jc_heap.specs.Heap.{HeapState, HeapView, SameShape, heap_item_at, is_allocated, area_end, with_area_end, set_cell, set_cells, add_object}
use Rattle.jc_heap.specs.Heap.{add_transient, HasEnd, heap_after_change, goes_back}
use Rattle.jc_heap.specs.Package.{add_package}
use Rattle.jc_heap.specs.Statics.{set_word}
use Rattle.jc_heap.specs.Place.{place_at, set_place, set_places}
use Rattle.jc_heap.specs.Moves.{Move, Write, SetPlaces, WriteNonAtomic, SetCells, AddObject, AddTransient, AddPackage, Begin, Commit, Abort, apply_move}
use Rattle.jc_heap.specs.Moves.{apply_moves, TornMovesLeave}
use Rattle.jc_heap.specs.WholeHeap.{IsConsistent, IsReference}
use Rattle.jc_heap.specs.HeapLaws.{IsLegalValue, AreLegalValues, MoveIsLegal, MovesAreLegal, IsConsistentHeap, AreConsistent, KeepsConsistent}
use Rattle.jc_heap.proofs.Laws.{is_allocated-set_cell, top-set_cell, top-add_object, same_facts, shape-add}
use Rattle.jc_heap.proofs.RecordWords.{is_allocated-set_word, top_after-set_word}
use Rattle.jc_heap.proofs.Keeping.{object-header_only, empty_whole, object_whole, transient_whole, cell_whole, run_whole}
use Rattle.jc_heap.proofs.KeepingPackages.{end-add, package_whole, word_whole, registry_whole, count_whole}
use Rattle.jc_heap.proofs.Places.{place_shape, place_shape_both, bare_stays}
use Rattle.jc_heap.proofs.Several.{shape-places}
use Rattle.jc_heap.proofs.Runs.{shape-run}
use Rattle.jc_heap.proofs.AreaEnds.{shape-end}
use Rattle.jc_heap.proofs.NewPackages.{shape-package, top-package}
use Rattle.jc_heap.proofs.Changing.{shape-same}

-- a place set
end-cell : (h : HeapState) (r i v : ℕ) → HasEnd h → HasEnd (set_cell h r i v)
end-cell h r i v end q above = is_allocated-set_cell h r i v q ∙ end q (subst (λ n. n ≤ q) (top-set_cell h r i v) above)

end-registry : (h : HeapState) (words : List ℕ) → HasEnd h → HasEnd (record h { applets = words })
unfolding is_allocated
end-registry h words end q above = end q above

end-count : (h : HeapState) (n : ℕ) → HasEnd h → HasEnd (record h { counts = (h.counts.0, n) })
unfolding is_allocated
end-count h n end q above = end q above

place_whole : (h : HeapState) (p : Place) (x : ℕ) → IsLegalValue h p x → IsConsistentHeap h → IsConsistentHeap (set_place h p x)
place_whole h (Cell r i) x may s = record {
  whole = cell_whole h r i x may s.whole;
  end = end-cell h r i x s.end;
  some = omega (arith, s.some, top-set_cell h r i x);
}
place_whole h (Static r j) x may s = record {
  whole = word_whole h r j x s.whole;
  end = λ q above. is_allocated-set_word h r j x q ∙ s.end q (subst (λ n. n ≤ q) (top_after-set_word h r j x) above);
  some = omega (arith, s.some, top_after-set_word h r j x);
}
place_whole h (Registry i) x may s = record {
  whole = registry_whole h (set h.applets i x) s.whole;
  end = end-registry h (set h.applets i x) s.end;
  some = s.some;
}
place_whole h AppletCount x may s = record { whole = count_whole h x may s.whole; end = end-count h x s.end; some = s.some }

pub top-place : (h : HeapState) (p : Place) (x : ℕ) → (set_place h p x).top ≡ h.top
top-place h (Cell r i) x = top-set_cell h r i x
top-place h (Static r j) x = top_after-set_word h r j x
top-place h (Registry i) x = refl
top-place h AppletCount x = refl

pub capacity-place : (h : HeapState) (p : Place) (x : ℕ) → (set_place h p x).capacity ≡ h.capacity
unfolding set_cell set_word
capacity-place h (Cell r i) x = refl
capacity-place h (Static r j) x = refl
capacity-place h (Registry i) x = refl
capacity-place h AppletCount x = refl

-- places set, one after another: what may stand in one before the others are set may stand there afterwards
reference_stays : (h : HeapState) (p : Place) (x v : ℕ) → IsReference h v → IsReference (set_place h p x) v
reference_stays h p x v e = elim e [
  | inl z ↦ inl z
  | inr o ↦ inr (sym (object-header_only (heap_item_at (set_place h p x) v)) ∙ ap is_object (bare_stays h p x v) ∙ object-header_only (heap_item_at h v) ∙ o)
]

may_stays : (h : HeapState) (p q : Place) (x v : ℕ) → IsLegalValue h q v → IsLegalValue (set_place h p x) q v
may_stays h p (Cell r i) x v may = λ kind. reference_stays h p x v (may (ap (λ f. f.kind)
    (sym (same_facts (heap_item_at (set_place h p x) r) (heap_item_at h r) (bare_stays h p x r))) ∙ kind))
may_stays h p (Static r i) x v may = tt
may_stays h p (Registry i) x v may = tt
may_stays h p AppletCount x v may = may

all_stay : (h : HeapState) (p : Place) (x : ℕ) (cs : List (Place × ℕ)) → AreLegalValues h cs → AreLegalValues (set_place h p x) cs
all_stay h p x [] may = tt
all_stay h p x (c ∷ cs) may = (may_stays h p c.0 x c.1 may.0, all_stay h p x cs may.1)

places_whole : (h : HeapState) (cs : List (Place × ℕ)) → AreLegalValues h cs → IsConsistentHeap h → IsConsistentHeap (set_places h cs)
places_whole h [] may s = s
places_whole h (c ∷ cs) may s = places_whole (set_place h c.0 c.1) cs (all_stay h c.0 c.1 cs may.1) (place_whole h c.0 c.1 may.0 s)

pub top-places : (h : HeapState) (cs : List (Place × ℕ)) → (set_places h cs).top ≡ h.top
top-places h [] = refl
top-places h (c ∷ cs) = top-places (set_place h c.0 c.1) cs ∙ top-place h c.0 c.1

-- a run of cells
end-run : (h : HeapState) (r i : ℕ) (vs : List ℕ) → HasEnd h → HasEnd (set_cells h r i vs)
end-run h r i [] end = end
end-run h r i (v ∷ vs) end = end-run (set_cell h r i v) r (suc i) vs (end-cell h r i v end)

-- a transient object
end-area : (h : HeapState) (event : ClearEvent) (cells : ℕ) → HasEnd h → HasEnd (with_area_end h event cells)
unfolding is_allocated
end-area h Reset cells end = end
end-area h Deselect cells end = end

end-transient : (h : HeapState) (kind : Kind) (event : ClearEvent) (class owner long : ℕ) → HasEnd h → HasEnd (add_transient h kind event class owner long)
unfolding add_transient
end-transient h kind event class owner long end =
    end-area (add_object h (new_transient kind event class owner long (area_end h event)) transient_size) event (area_end h event + long)
    (end-add h (new_transient kind event class owner long (area_end h event)) transient_size (omega arith) end)

pub top-run : (h : HeapState) (r i : ℕ) (vs : List ℕ) → (set_cells h r i vs).top ≡ h.top
top-run h r i [] = refl
top-run h r i (v ∷ vs) = top-run (set_cell h r i v) r (suc i) vs ∙ top-set_cell h r i v

top-area : (h : HeapState) (event : ClearEvent) (cells : ℕ) → (with_area_end h event cells).top ≡ h.top
top-area h Reset cells = refl
top-area h Deselect cells = refl

top-transient : (h : HeapState) (kind : Kind) (event : ClearEvent) (class owner long : ℕ)
    → (add_transient h kind event class owner long).top ≡ h.top + transient_size
unfolding add_transient
top-transient h kind event class owner long =
    top-area (add_object h (new_transient kind event class owner long (area_end h event)) transient_size) event (area_end h event + long)
    ∙ top-add_object h (new_transient kind event class owner long (area_end h event)) transient_size

shape-transient : (d h : HeapState) (kind : Kind) (event : ClearEvent) (class owner long : ℕ) → d.top ≤ h.top → SameShape d h
    → SameShape d (add_transient h kind event class owner long)
unfolding add_transient
shape-transient d h kind event class owner long le s =
    shape-end d (add_object h (new_transient kind event class owner long (area_end h event)) transient_size) event (area_end h event + long)
    (shape-add d h (new_transient kind event class owner long (area_end h event)) transient_size le s)

-- a change: inside a transaction what a loss leaves stays
changed_whole : (v : HeapView) (h : HeapState) (addresses : List ℕ) (fresh : ℕ) → IsConsistentHeap h → SameShape v.durable h → v.durable.top ≤ h.top
    → AreConsistent v → AreConsistent (heap_after_change v h addresses fresh)
changed_whole v h addresses fresh s shape order w = record {
  now = s;
  durable = elim v.begun as (λ b. IsConsistentHeap (if b then v.durable else h)) [ true ↦ w.durable | false ↦ s ];
  shape = elim v.begun as (λ b. SameShape (if b then v.durable else h) h) [ true ↦ shape | false ↦ shape-same h ];
  order = elim v.begun as (λ b. (if b then v.durable else h).top ≤ h.top) [ true ↦ order | false ↦ omega arith ];
}

pub keeps : (m : Move) (v : HeapView) → MoveIsLegal v m → AreConsistent v → AreConsistent (apply_move m v)
keeps (Write p x) v suit w =
    changed_whole v (set_place v.now p x) _ 0 (place_whole v.now p x suit w.now)
    (place_shape v.durable v.now p x w.shape) (omega (arith, w.order, top-place v.now p x)) w
keeps (SetPlaces cs) v suit w =
    changed_whole v (set_places v.now cs) _ 0 (places_whole v.now cs suit w.now)
    (shape-places v.durable v.now cs w.shape) (omega (arith, w.order, top-places v.now cs)) w
keeps (WriteNonAtomic p x) v suit w = record {
  now = place_whole v.now p x suit.0 w.now;
  durable = elim (goes_back v (place_at v.now p)) as (λ b. IsConsistentHeap (if b then v.durable else set_place v.durable p x)) [
    | true ↦ w.durable
    | false ↦ place_whole v.durable p x suit.1 w.durable
  ];
  shape = elim (goes_back v (place_at v.now p)) as (λ b. SameShape (if b then v.durable else set_place v.durable p x) (set_place v.now p x)) [
    | true ↦ place_shape v.durable v.now p x w.shape
    | false ↦ place_shape_both v.durable v.now p x w.shape
  ];
  order = elim (goes_back v (place_at v.now p)) as (λ b. (if b then v.durable else set_place v.durable p x).top ≤ (set_place v.now p x).top) [
    | true ↦ omega (arith, w.order, top-place v.now p x)
    | false ↦ omega (arith, w.order, top-place v.now p x, top-place v.durable p x)
  ];
}
keeps (SetCells r i vs) v suit w =
    changed_whole v (set_cells v.now r i vs) _ 0
    (record { whole = run_whole v.now r i vs suit w.now.whole; end = end-run v.now r i vs w.now.end; some = omega (arith, w.now.some, top-run v.now r i vs) })
    (shape-run v.durable v.now r i vs w.shape) (omega (arith, w.order, top-run v.now r i vs)) w
keeps (AddObject o size) v suit w =
    changed_whole v (add_object v.now o size) _ size
    (record {
      whole = object_whole v.now o size (w.now.end v.now.top (omega arith)) suit.1.0 suit.1.1 w.now.whole;
      end = end-add v.now o size suit.0 w.now.end;
      some = omega (arith, w.now.some, top-add_object v.now o size);
    })
    (shape-add v.durable v.now o size w.order w.shape) (omega (arith, w.order, top-add_object v.now o size)) w
keeps (AddTransient kind event class owner long) v suit w =
    changed_whole v (add_transient v.now kind event class owner long) _ transient_size
    (record {
      whole = transient_whole v.now kind event class owner long (w.now.end v.now.top (omega arith)) suit w.now.whole;
      end = end-transient v.now kind event class owner long w.now.end;
      some = omega (arith, w.now.some, top-transient v.now kind event class owner long);
    })
    (shape-transient v.durable v.now kind event class owner long w.order w.shape) (omega (arith, w.order, top-transient v.now kind event class owner long)) w
keeps (AddPackage components arrays rest) v suit w =
    let added : IsConsistent (add_package v.now components arrays rest) × HasEnd (add_package v.now components arrays rest) =
    package_whole v.now components arrays rest suit.0 suit.1 w.now.end w.now.whole in
    changed_whole v (add_package v.now components arrays rest) _ _
    (record { whole = added.0; end = added.1; some = omega (arith, w.now.some, top-package v.now components arrays rest) })
    (shape-package v.durable v.now components arrays rest w.order w.shape) (omega (arith, w.order, top-package v.now components arrays rest)) w
keeps Begin v suit w = record { now = w.now; durable = w.now; shape = shape-same v.now; order = omega arith }
keeps Commit v suit w = record { now = w.now; durable = w.now; shape = shape-same v.now; order = omega arith }
keeps Abort v suit w = record { now = w.durable; durable = w.durable; shape = shape-same v.durable; order = omega arith }

keep_all : (ms : List Move) (v : HeapView) → MovesAreLegal ms v → AreConsistent v → AreConsistent (apply_moves ms v)
keep_all [] v suit w = w
keep_all (m ∷ ms) v suit w = keep_all ms (apply_move m v) suit.1 (keeps m v suit.0 w)

keep_lost : (ms : List Move) (v : HeapView) (p : ℕ) (d : HeapState) → MovesAreLegal ms v → AreConsistent v → TornMovesLeave ms v p d → IsConsistentHeap d
keep_lost [] v p d suit w left = absurd left
keep_lost (m ∷ ms) v p d suit w left = elim left [
  | inl e ↦ subst IsConsistentHeap (sym e.0) w.durable
  | inr later ↦ keep_lost ms (apply_move m v) p d suit.1 (keeps m v suit.0 w) later
]

empty_end : (h : HeapState) → h.items ≡ [] → HasEnd h
unfolding is_allocated
empty_end h items r above = ap (λ l. has_entry l r) items

pub keeps_whole : KeepsConsistent
keeps_whole = record {
  empty = λ h items counts packages ends sizes some. record { whole = empty_whole h items counts packages ends sizes; end = empty_end h items; some = some };
  moves = keep_all;
  loss = keep_lost;
}
