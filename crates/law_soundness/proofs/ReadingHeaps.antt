-- Heaps of whose packages the same is read.
use Rattle.std.proofs.Common.{◌≡◌, ℕ, suc, ◌+◌, ◌<◌, false, inl, inr, List, [], ◌∷◌, map, length, set, get_or, refl, sym, ◌∙◌, ap, subst, arith, Option, Some}
use Rattle.std.proofs.Common.{None}
use Rattle.std.specs.Option.{option_and_then}
use Rattle.std.proofs.lemmas.List.{length-set}
use Rattle.std.proofs.lemmas.Bool.{cases_eq, false≢true}
use Rattle.jc_transient.specs.declared.cell.ClearEvent.{ClearEvent}
use Rattle.jc_transient.specs.declared.cell.ClearEvent.TheVariants.{Reset, Deselect}
use Rattle.jc_heap.specs.declared.object.Kind.{Kind}
use Rattle.jc_heap.specs.declared.place.Place.{Place}
use Rattle.jc_heap.specs.declared.place.Place.TheVariants.{Cell, Static, Registry, AppletCount}
use Rattle.jc_heap.specs.Component.{record_of, words_of}
use Rattle.jc_heap.specs.Heap.{HeapState, add_object, add_transient, area_end, heap_item_at, is_allocated, set_cell, set_cells, with_area_end}
use Rattle.jc_heap.specs.Object.{Object, new_transient, transient_size}
use Rattle.jc_heap.specs.Place.{set_place, set_places}
use Rattle.jc_heap.specs.Statics.{IsStatic, set_word}
use Rattle.jc_heap.specs.WholeHeap.{AreAllocated}
use Rattle.jc_heap.proofs.Laws.{heap_item_at-add_other}
use Rattle.jc_heap.proofs.RecordWords.{record-other}
use Rattle.jc_heap.proofs.StaticImages.{statics_set}
use Rattle.jc_memory.proofs.KeptImages.{AreAllThere, IsThere, record-count, record-registry, record-set_cell}
use Rattle.jc_linker.specs.Values.{Packages}
use Rattle.jc_platform.specs.Tokens.{Tokens}
use Rattle.jc_packages.specs.PendingPackages.{linked_components}
use Rattle.jc_packages.specs.Reading.{load_of, packages_of, with_prepared, with_records}
use Rattle.law_soundness.proofs.Statics.{record-set_word}
use Rattle.law_soundness.proofs.Pins.{packages-set_place}
use Rattle.law_soundness.proofs.Objects.{packages-add_object}
use Rattle.jc_packages.proofs.ReadingRecords.{load_set}

-- the same packages' records say the same of their components
pub record TellSame (h g : HeapState) : Type 0 where
  pub packages : g.packages ≡ h.packages
  pub loads : (k : ℕ) → k < length h.packages → load_of (record_of g (get_or h.packages k 0)) ≡ load_of (record_of h (get_or h.packages k 0))

-- ---- the same is read

and_then_same : {A B : Type 0} (f g : A → Option B) (o : Option A) → ((x : A) → f x ≡ g x) → option_and_then f o ≡ option_and_then g o
and_then_same f g None same = refl
and_then_same f g (Some x) same = same x

pub records_same : (h g : HeapState) (p : Packages) (l : List ℕ) → ((k : ℕ) → k < length l
    → load_of (record_of g (get_or l k 0)) ≡ load_of (record_of h (get_or l k 0))) → with_records p (map (record_of g) l) ≡ with_records p (map (record_of h) l)
records_same h g p [] same = refl
records_same h g p (r ∷ rs) same =
    ap (λ load. option_and_then (λ q. with_records q (map (record_of g) rs)) (with_prepared p (linked_components p load))) (same 0 (omega arith))
    ∙ and_then_same (λ q. with_records q (map (record_of g) rs)) (λ q. with_records q (map (record_of h) rs))
    (with_prepared p (linked_components p (load_of (record_of h r)))) (λ q. records_same h g q rs (λ k lt. same (suc k) (omega (arith, lt))))

pub read_same : (t : Tokens) (h g : HeapState) → TellSame h g → packages_of t g ≡ packages_of t h
unfolding packages_of
read_same t h g same =
    ap (λ l. with_records (record { platform = t; loaded = [] }) (map (record_of g) l)) same.packages
    ∙ records_same h g (record { platform = t; loaded = [] }) h.packages same.loads

-- where all records are the same
still : (h g : HeapState) → g.packages ≡ h.packages → ((k : ℕ) → k < length h.packages
    → record_of g (get_or h.packages k 0) ≡ record_of h (get_or h.packages k 0)) → TellSame h g
still h g packages records = record { packages = packages; loads = λ k lt. ap load_of (records k lt) }

also : (h g f : HeapState) → TellSame h g → TellSame g f → TellSame h f
also h g f first second = record {
  packages = second.packages ∙ first.packages;
  loads = λ k lt.
      let more : load_of (record_of f (get_or h.packages k 0)) ≡ load_of (record_of g (get_or h.packages k 0)) =
      subst (λ l. load_of (record_of f (get_or l k 0)) ≡ load_of (record_of g (get_or l k 0))) first.packages
      (second.loads k (subst (λ l. k < length l) (sym first.packages) lt)) in
      more ∙ first.loads k lt;
}

-- ---- places

load-set_word : (h : HeapState) (r j v q : ℕ) → IsStatic (record_of h r) j → load_of (record_of (set_word h r j v) q) ≡ load_of (record_of h q)
load-set_word h r j v q static = elim (cases_eq r q) [
  | inl is ↦ subst (λ n. load_of (record_of (set_word h r j v) n) ≡ load_of (record_of h n)) is
      (ap load_of (record-set_word h r j v static) ∙ load_set (record_of h r) j v static)
  | inr ne ↦ ap load_of (record-other h r j v q ne)
]

pub place_tells : (h : HeapState) (p : Place) (v : ℕ) → IsThere h p → TellSame h (set_place h p v)
place_tells h (Cell r i) v placed = still h (set_cell h r i v) (packages-set_place h (Cell r i) v) (λ k lt. record-set_cell h r i v (get_or h.packages k 0))
place_tells h (Static r j) v placed = record {
  packages = packages-set_place h (Static r j) v;
  loads = λ k lt. load-set_word h r j v (get_or h.packages k 0) placed;
}
place_tells h (Registry i) v placed = still h (set_place h (Registry i) v) refl (λ k lt. record-registry h i v (get_or h.packages k 0))
place_tells h AppletCount v placed = still h (set_place h AppletCount v) refl (λ k lt. record-count h v (get_or h.packages k 0))

-- a word of an image stays one
image_set : (words : List ℕ) (i j v : ℕ) → IsStatic words i → IsStatic words j → IsStatic (set words j v) i
image_set words i j v static there = record {
  begin = static.begin;
  image = statics_set words j v static.begin there static.image;
  behind = static.behind;
  within = let within = static.within in let long = length-set words j v in omega (arith, within, long);
}

static_stays : (h : HeapState) (p : Place) (v q i : ℕ) → IsThere h p → IsStatic (record_of h q) i → IsStatic (record_of (set_place h p v) q) i
static_stays h (Cell r n) v q i placed static = subst (λ ws. IsStatic ws i) (sym (record-set_cell h r n v q)) static
static_stays h (Static r j) v q i placed static = elim (cases_eq r q) [
  | inl is ↦
      let here : IsStatic (record_of h r) i = subst (λ n. IsStatic (record_of h n) i) (sym is) static in
      subst (λ n. IsStatic (record_of (set_word h r j v) n) i) is (subst (λ ws. IsStatic ws i) (sym (record-set_word h r j v placed))
      (image_set (record_of h r) i j v here placed))
  | inr ne ↦ subst (λ ws. IsStatic ws i) (sym (record-other h r j v q ne)) static
]
static_stays h (Registry n) v q i placed static = subst (λ ws. IsStatic ws i) (sym (record-registry h n v q)) static
static_stays h AppletCount v q i placed static = subst (λ ws. IsStatic ws i) (sym (record-count h v q)) static

placed_stays : (h : HeapState) (p q : Place) (v : ℕ) → IsThere h p → IsThere h q → IsThere (set_place h p v) q
placed_stays h p (Cell r i) v placed there = tt
placed_stays h p (Static r j) v placed there = static_stays h p v r j placed there
placed_stays h p (Registry i) v placed there = tt
placed_stays h p AppletCount v placed there = tt

all_stay : (h : HeapState) (p : Place) (v : ℕ) (cs : List (Place × ℕ)) → IsThere h p → AreAllThere h cs → AreAllThere (set_place h p v) cs
all_stay h p v [] placed there = tt
all_stay h p v (c ∷ cs) placed there = (placed_stays h p c.0 v placed there.0, all_stay h p v cs placed there.1)

pub places_tell : (h : HeapState) (cs : List (Place × ℕ)) → AreAllThere h cs → TellSame h (set_places h cs)
places_tell h [] placed = still h h refl (λ k lt. refl)
places_tell h (c ∷ cs) placed =
    also h (set_place h c.0 c.1) (set_places (set_place h c.0 c.1) cs) (place_tells h c.0 c.1 placed.0)
    (places_tell (set_place h c.0 c.1) cs (all_stay h c.0 c.1 cs placed.0 placed.1))

-- ---- runs of cells, and new objects

pub run_tells : (h : HeapState) (r i : ℕ) (vs : List ℕ) → TellSame h (set_cells h r i vs)
run_tells h r i [] = still h h refl (λ k lt. refl)
run_tells h r i (v ∷ vs) = also h (set_cell h r i v) (set_cells (set_cell h r i v) r (suc i) vs) (place_tells h (Cell r i) v tt)
    (run_tells (set_cell h r i v) r (suc i) vs)

-- no package's record stands at the end
pub below_end : (h : HeapState) (k : ℕ) → AreAllocated h h.packages → is_allocated h h.top ≡ false → k < length h.packages → h.top ≡ get_or h.packages k 0 → ⊥
below_end h k met free lt e = false≢true (sym free ∙ ap (is_allocated h) e ∙ met k lt)

pub object_tells : (h : HeapState) (o : Object) (n : ℕ) → AreAllocated h h.packages → is_allocated h h.top ≡ false → TellSame h (add_object h o n)
object_tells h o n met free = still h (add_object h o n) (packages-add_object h o n)
    (λ k lt. ap words_of (heap_item_at-add_other h o n (get_or h.packages k 0) (below_end h k met free lt)))

end_tells : (h : HeapState) (event : ClearEvent) (n : ℕ) → TellSame h (with_area_end h event n)
unfolding heap_item_at
end_tells h Reset n = still h (with_area_end h Reset n) refl (λ k lt. refl)
end_tells h Deselect n = still h (with_area_end h Deselect n) refl (λ k lt. refl)

pub transient_tells : (h : HeapState) (kind : Kind) (event : ClearEvent) (class owner long : ℕ) → AreAllocated h h.packages → is_allocated h h.top ≡ false
    → TellSame h (add_transient h kind event class owner long)
unfolding add_transient
transient_tells h kind event class owner long met free =
    let o : Object = new_transient kind event class owner long (area_end h event) in
    also h (add_object h o transient_size) (with_area_end (add_object h o transient_size) event (area_end h event + long))
    (object_tells h o transient_size met free) (end_tells (add_object h o transient_size) event (area_end h event + long))
