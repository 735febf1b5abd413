-- What a change leaves of a heap beside what stands in it.
use Rattle.std.proofs.Common.{◌≡◌, ℕ, suc, ◌+◌, ◌<◌, ◌≤◌, ◌++◌, List, [], ◌∷◌, length, refl, sym, ◌∙◌, ap, arith}
use Rattle.jc_transient.specs.declared.cell.ClearEvent.{ClearEvent}
use Rattle.jc_transient.specs.declared.cell.ClearEvent.TheVariants.{Reset, Deselect}
use Rattle.jc_heap.specs.declared.object.Kind.{Kind}
use Rattle.jc_heap.specs.declared.place.Place.{Place}
use Rattle.jc_heap.specs.declared.place.Place.TheVariants.{Cell, Static, Registry, AppletCount}
use Rattle.jc_heap.specs.Object.{Item, Object, header_only, facts_of, is_object, new_transient}
use Rattle.jc_heap.specs.Heap.{HeapState, add_object, add_transient, area_end, facts, heap_item_at, set_cell, set_cells, with_area_end}
use Rattle.jc_heap.specs.Place.{set_place, set_places, cell_changes}
use Rattle.jc_heap.specs.Statics.{set_word}
use Rattle.jc_heap.proofs.Laws.{header_only-set_cell, facts-set_cell, heap_item_at-add_other, same_facts}
use Rattle.jc_heap.proofs.RecordWords.{header_only-set_word}
use Rattle.jc_heap.proofs.Keeping.{object-header_only}
use Rattle.jc_linker.specs.Values.{Packages}
use Rattle.law_soundness.specs.MemoryLaws.Fit.{FitPlaces}

-- what differs in cells and words alone is an object in both
pub same_object : (a b : Item) → header_only a ≡ header_only b → is_object a ≡ is_object b
same_object a b e = sym (object-header_only a) ∙ ap is_object e ∙ object-header_only b

-- each header is the same
abbrev pub SameHeaders : HeapState → HeapState → Type 0
SameHeaders h g = (r : ℕ) → header_only (heap_item_at g r) ≡ header_only (heap_item_at h r)

-- the same packages and the same numbers of them and of applets, as many words of the registry, the same headers of the same objects, no
-- less space taken, and the same words that no change touches
pub record Frames (h g : HeapState) : Type 0 where
  pub packages : g.packages ≡ h.packages
  pub counts : g.counts ≡ h.counts
  pub registry : length g.applets ≡ length h.applets
  pub lasting : g.lasting ≡ h.lasting
  pub top : h.top ≤ g.top
  pub headers : (r : ℕ) → r < h.top → facts g r ≡ facts h r
  pub objects : (r : ℕ) → r < h.top → is_object (heap_item_at g r) ≡ is_object (heap_item_at h r)

also : (h g k : HeapState) → Frames h g → Frames g k → Frames h k
also h g k first second = record {
  packages = second.packages ∙ first.packages;
  counts = second.counts ∙ first.counts;
  registry = second.registry ∙ first.registry;
  lasting = second.lasting ∙ first.lasting;
  top = let a = first.top in let b = second.top in omega (arith, a, b);
  headers = λ r low. second.headers r (let a = first.top in omega (arith, a, low)) ∙ first.headers r low;
  objects = λ r low. second.objects r (let a = first.top in omega (arith, a, low)) ∙ first.objects r low;
}

pub cell_frames : (h : HeapState) (r i v : ℕ) → Frames h (set_cell h r i v)
unfolding set_cell
cell_frames h r i v = record {
  packages = refl;
  counts = refl;
  registry = refl;
  lasting = refl;
  top = omega arith;
  headers = λ q low. facts-set_cell h r i v q;
  objects = λ q low. same_object (heap_item_at (set_cell h r i v) q) (heap_item_at h q) (header_only-set_cell h r i v q);
}

pub word_frames : (h : HeapState) (r j v : ℕ) → Frames h (set_word h r j v)
unfolding set_word
word_frames h r j v = record {
  packages = refl;
  counts = refl;
  registry = refl;
  lasting = refl;
  top = omega arith;
  headers = λ q low. same_facts (heap_item_at (set_word h r j v) q) (heap_item_at h q) (header_only-set_word h r j v q);
  objects =
      λ q low. same_object (heap_item_at (set_word h r j v) q) (heap_item_at h q) (header_only-set_word h r j v q);
}

pub run_frames : (vs : List ℕ) (h : HeapState) (r i : ℕ) → Frames h (set_cells h r i vs)
run_frames [] h r i = record { packages = refl; counts = refl; registry = refl; lasting = refl; top = omega arith; headers = λ q low. refl; objects = λ q low. refl }
run_frames (v ∷ vs) h r i = also h (set_cell h r i v) (set_cells (set_cell h r i v) r (suc i) vs) (cell_frames h r i v)
    (run_frames vs (set_cell h r i v) r (suc i))

pub object_frames : (h : HeapState) (o : Object) (n : ℕ) → Frames h (add_object h o n)
unfolding add_object
object_frames h o n = record {
  packages = refl;
  counts = refl;
  registry = refl;
  lasting = refl;
  top = omega arith;
  headers = λ q low. ap facts_of (heap_item_at-add_other h o n q (λ e. omega (arith, e, low)));
  objects =
      λ q low. ap is_object (heap_item_at-add_other h o n q (λ e. omega (arith, e, low)));
}

end_frames : (h : HeapState) (event : ClearEvent) (n : ℕ) → Frames h (with_area_end h event n)
unfolding heap_item_at
end_frames h Reset n = record { packages = refl; counts = refl; registry = refl; lasting = refl; top = omega arith; headers = λ q low. refl; objects = λ q low. refl }
end_frames h Deselect n = record { packages = refl; counts = refl; registry = refl; lasting = refl; top = omega arith; headers = λ q low. refl; objects = λ q low. refl }

pub transient_frames : (h : HeapState) (kind : Kind) (event : ClearEvent) (class owner long : ℕ) → Frames h (add_transient h kind event class owner long)
unfolding add_transient
transient_frames h kind event class owner long =
    also h (add_object h (new_transient kind event class owner long (area_end h event)) 5)
    (with_area_end (add_object h (new_transient kind event class owner long (area_end h event)) 5) event (area_end h event + long))
    (object_frames h (new_transient kind event class owner long (area_end h event)) 5)
    (end_frames (add_object h (new_transient kind event class owner long (area_end h event)) 5) event (area_end h event + long))

-- cells and words of static images alone
abbrev pub AreHeld : List (Place × ℕ) → Type 0
AreHeld [] = Unit {0}
AreHeld ((Cell r i, v) ∷ cs) = AreHeld cs
AreHeld ((Static r j, v) ∷ cs) = AreHeld cs
AreHeld ((Registry i, v) ∷ cs) = ⊥
AreHeld ((AppletCount, v) ∷ cs) = ⊥

pub places_frames : (cs : List (Place × ℕ)) (h : HeapState) → AreHeld cs → Frames h (set_places h cs)
places_frames [] h held = record { packages = refl; counts = refl; registry = refl; lasting = refl; top = omega arith; headers = λ q low. refl; objects = λ q low. refl }
places_frames ((Cell r i, v) ∷ cs) h held = also h (set_cell h r i v) (set_places (set_cell h r i v) cs) (cell_frames h r i v)
    (places_frames cs (set_cell h r i v) held)
places_frames ((Static r j, v) ∷ cs) h held = also h (set_word h r j v) (set_places (set_word h r j v) cs) (word_frames h r j v)
    (places_frames cs (set_word h r j v) held)
places_frames ((Registry i, v) ∷ cs) h held = absurd held
places_frames ((AppletCount, v) ∷ cs) h held = absurd held

pub places_held : (p : Packages) (h : HeapState) (cs : List (Place × ℕ)) → FitPlaces p h cs → AreHeld cs
places_held p h [] fits = tt
places_held p h ((Cell r i, v) ∷ cs) fits = places_held p h cs fits.1
places_held p h ((Static r j, v) ∷ cs) fits = places_held p h cs fits.1
places_held p h ((Registry i, v) ∷ cs) fits = absurd fits.0
places_held p h ((AppletCount, v) ∷ cs) fits = absurd fits.0

pub bytes_held : (bytes : List ℕ) (array i : ℕ) (cs : List (Place × ℕ)) → AreHeld cs → AreHeld (cell_changes array i bytes ++ cs)
bytes_held [] array i cs held = held
bytes_held (b ∷ bytes) array i cs held = bytes_held bytes array (suc i) cs held

pub run_headers : (vs : List ℕ) (h : HeapState) (r i : ℕ) → SameHeaders h (set_cells h r i vs)
run_headers [] h r i q = refl
run_headers (v ∷ vs) h r i q = run_headers vs (set_cell h r i v) r (suc i) q ∙ header_only-set_cell h r i v q

pub place_headers : (h : HeapState) (place : Place) (v : ℕ) → SameHeaders h (set_place h place v)
unfolding heap_item_at
place_headers h (Cell r i) v = header_only-set_cell h r i v
place_headers h (Static r j) v = header_only-set_word h r j v
place_headers h (Registry i) v = λ q. refl
place_headers h AppletCount v = λ q. refl

pub places_headers : (cs : List (Place × ℕ)) (h : HeapState) → SameHeaders h (set_places h cs)
places_headers [] h q = refl
places_headers (c ∷ cs) h q = places_headers cs (set_place h c.0 c.1) q ∙ place_headers h c.0 c.1 q

pub end_headers : (h : HeapState) (event : ClearEvent) (n : ℕ) → SameHeaders h (with_area_end h event n)
unfolding heap_item_at
end_headers h Reset n = λ q. refl
end_headers h Deselect n = λ q. refl
