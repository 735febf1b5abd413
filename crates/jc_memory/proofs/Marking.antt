-- Marks stay true: every change of a heap but an abort keeps its objects.
use Rattle.std.proofs.Common.{◌≡◌, ℕ, ◌+◌, ◌<◌, ◌≤◌, Bool, true, false, List, [], ◌∷◌, sym, ◌∙◌, ap, subst, arith, Option, None, Result, inl, inr, set}
use Rattle.std.specs.Prelude.{◌⊎◌, slice_index}
use Rattle.std.proofs.lemmas.Bool.{true≢false, cases_lt, cases_eq}
use Rattle.std.proofs.lemmas.List.{get_or-set_other}
use Rattle.jc_transient.specs.declared.cell.ClearEvent.{ClearEvent}
use Rattle.jc_transient.specs.declared.sizes.RamSizes.{RamSizes}
use Rattle.jc_transient.specs.State.{ram_sizes}
use Rattle.jc_heap.specs.declared.refusal.ChangeRefusal.{ChangeRefusal}
use Rattle.jc_heap.specs.declared.refusal.HeapRefusal.{HeapRefusal}
use Rattle.jc_heap.specs.declared.object.Kind.{Kind}
use Rattle.jc_heap.specs.Object.{is_object, new_transient, transient_size}
use Rattle.jc_heap.specs.Heap.{HeapState, HeapView, SameShape, HasEnd, IsObject, heap_after_abort, heap_item_at, area_end, area_sizes, add_object, add_transient}
use Rattle.jc_heap.specs.Moves.{Move, Write, SetPlaces, WriteNonAtomic, SetCells, AddObject, AddTransient, AddPackage, Begin, Commit, Abort, apply_move}
use Rattle.jc_heap.specs.Moves.{PerformsMovesUnless, PerformsMoves}
use Rattle.jc_heap.specs.Completions.{after_making, after_change, after_step}
use Rattle.jc_heap.specs.HeapLaws.{MoveIsLegal, AreConsistent}
use Rattle.jc_heap.proofs.Laws.{heap_item_at-absent, shape-add}
use Rattle.jc_heap.proofs.Keeping.{object-header_only}
use Rattle.jc_heap.proofs.KeepingMoves.{keeps}
use Rattle.jc_heap.proofs.Places.{place_shape}
use Rattle.jc_heap.proofs.Several.{shape-places}
use Rattle.jc_heap.proofs.Runs.{shape-run}
use Rattle.jc_heap.proofs.AreaEnds.{shape-end}
use Rattle.jc_heap.proofs.NewPackages.{shape-package}
use Rattle.jc_heap.proofs.Changing.{shape-same}
use Rattle.jc_memory.specs.declared.images.KnownImage.{KnownImage}
use Rattle.jc_memory.specs.Images.{AreImages}
use Rattle.jc_memory.specs.Marks.{AreKnown, is_marked}
use Rattle.jc_memory.proofs.KeptImages.{LeavesImages, images_left}
use Rattle.jc_memory.proofs.Usable.{made_by, changed_by, stepped_by}

-- every move but an abort
abbrev pub IsForth : Move → Type 0
IsForth Abort = ⊥
IsForth m = Unit {0}

shape-transient : (d h : HeapState) (kind : Kind) (event : ClearEvent) (class owner long : ℕ) → d.top ≤ h.top → SameShape d h
    → SameShape d (add_transient h kind event class owner long)
unfolding add_transient
shape-transient d h kind event class owner long le s =
    shape-end d (add_object h (new_transient kind event class owner long (area_end h event)) transient_size) event (area_end h event + long)
    (shape-add d h (new_transient kind event class owner long (area_end h event)) transient_size le s)

forth : (m : Move) (v : HeapView) → IsForth m → SameShape v.now (apply_move m v).now
forth (Write p x) v f = place_shape v.now v.now p x (shape-same v.now)
forth (SetPlaces cs) v f = shape-places v.now v.now cs (shape-same v.now)
forth (WriteNonAtomic p x) v f = place_shape v.now v.now p x (shape-same v.now)
forth (SetCells r i vs) v f = shape-run v.now v.now r i vs (shape-same v.now)
forth (AddObject o size) v f = shape-add v.now v.now o size (omega arith) (shape-same v.now)
forth (AddTransient kind event class owner long) v f = shape-transient v.now v.now kind event class owner long (omega arith) (shape-same v.now)
forth (AddPackage components arrays rest) v f = shape-package v.now v.now components arrays rest (omega arith) (shape-same v.now)
forth Begin v f = shape-same v.now
forth Commit v f = shape-same v.now
forth Abort v f = absurd f

stays : (old new : HeapState) (r : ℕ) → SameShape old new → HasEnd old → IsObject old r → IsObject new r
stays old new r shape end there = elim (cases_lt r old.top) [
  | inl below ↦ sym (object-header_only (heap_item_at new r)) ∙ ap is_object (shape.items r below) ∙ object-header_only (heap_item_at old r) ∙ there
  | inr above ↦ absurd (true≢false (sym there ∙ ap is_object (heap_item_at-absent old r (end r above))))
]

-- a whole heap with an object at each of these addresses, whose static images begin there, and whose words say these sizes
abbrev pub Known : List Bool → List KnownImage → RamSizes → HeapView → Type 0
Known marks images sizes v = AreConsistent v × (((r : ℕ) → is_marked marks r ≡ true → IsObject v.now r) × AreImages images v.now v.durable)
    × (sizes ≡ area_sizes v.now)

abbrev pub KnownWhileUp : List Bool → List KnownImage → RamSizes → HeapView → Type 0
KnownWhileUp marks images sizes v = (v.down ≡ false → AreConsistent v) × AreKnown marks images v × (v.down ≡ false → sizes ≡ area_sizes v.now)

-- heaps of one shape have areas of one size
pub same_sizes : (old new : HeapState) → SameShape old new → area_sizes old ≡ area_sizes new
same_sizes old new shape = ap (λ (l : List ℕ). ram_sizes (slice_index l 1) (slice_index l 2)) (sym shape.lasting)

known : (marks : List Bool) (images : List KnownImage) (sizes : RamSizes) (m : Move) (v : HeapView) → MoveIsLegal v m → IsForth m → LeavesImages images v m → Known marks images sizes v → Known marks images sizes (apply_move m v)
known marks images sizes m v suits f left k = (
  keeps m v suits k.0,
  (λ r marked. stays v.now (apply_move m v).now r (forth m v f) k.0.now.end (k.1.0 r marked), images_left m v images k.0 left k.1.1),
  k.2 ∙ same_sizes v.now (apply_move m v).now (forth m v f),
)

pub known_making : {A : Type 0} (marks : List Bool) (images : List KnownImage) (sizes : RamSizes) (reason : Option HeapRefusal) (old new : HeapView) (result : Result A HeapRefusal) (m : Move) (a : A) →
    PerformsMovesUnless reason old (after_making result new) (m ∷ []) a → (reason ≡ None → MoveIsLegal old m) → IsForth m → LeavesImages images old m → Known marks images sizes old
    → KnownWhileUp marks images sizes new
known_making marks images sizes reason old new result m a made suits f left k =
    let all = made_by (Known marks images sizes) reason old new result m a made (λ none. known marks images sizes m old (suits none) f left k) k in (λ up. (all up).0, λ up. (all up).1, λ up. (all up).2)

pub known_change : {A : Type 0} (marks : List Bool) (images : List KnownImage) (sizes : RamSizes) (reason : Option HeapRefusal) (old new : HeapView) (result : Result A ChangeRefusal) (m : Move) (a : A) →
    PerformsMovesUnless reason old (after_change result new) (m ∷ []) a → (reason ≡ None → MoveIsLegal old m) → IsForth m → LeavesImages images old m → Known marks images sizes old
    → KnownWhileUp marks images sizes new
known_change marks images sizes reason old new result m a made suits f left k =
    let all = changed_by (Known marks images sizes) reason old new result m a made (λ none. known marks images sizes m old (suits none) f left k) k in (λ up. (all up).0, λ up. (all up).1, λ up. (all up).2)

pub known_step : {A E : Type 0} (marks : List Bool) (images : List KnownImage) (sizes : RamSizes) (old new : HeapView) (result : Result A E) (m : Move) (a : A) →
    PerformsMoves old (after_step result new) (m ∷ []) a → MoveIsLegal old m → IsForth m → LeavesImages images old m → Known marks images sizes old → KnownWhileUp marks images sizes new
known_step marks images sizes old new result m a made suits f left k =
    let all = stepped_by (Known marks images sizes) old new result m a made (known marks images sizes m old suits f left k) k in (λ up. (all up).0, λ up. (all up).1, λ up. (all up).2)

-- one mark more
pub one_more : (marks : List Bool) (images : List KnownImage) (v : HeapView) (r : ℕ) → AreKnown marks images v → (v.down ≡ false → IsObject v.now r)
    → AreKnown (set marks r true) images v
one_more marks images v r known there up = (
  λ q marked. elim (cases_eq q r) [
    | inl same ↦ subst (IsObject v.now) (sym same) (there up)
    | inr other ↦ (known up).0 q (sym (get_or-set_other marks r q true false other) ∙ marked)
  ],
  (known up).1,
)

-- after an abort the marks below the new top are true, and what is known of images
pub still_known : (marks new : List Bool) (images : List KnownImage) (v w : HeapView) (before : ℕ) → AreConsistent v → before ≡ v.now.top
    → ((r : ℕ) → is_marked marks r ≡ true → IsObject v.now r) × AreImages images v.now v.durable → w ≡ heap_after_abort v →
    ((r : ℕ) → is_marked new r ≡ true → (is_marked marks r ≡ true) × ((r < w.now.top) ⊎ (before ≤ r))) → AreKnown new images w
still_known marks new images v w before whole top known is left up = (
  λ r marked. let there = known.0 r (left r marked).0 in
      subst (λ u. IsObject u.now r) (sym is) (elim ((left r marked).1) [
        | inl below ↦ sym (object-header_only (heap_item_at v.durable r))
            ∙ ap is_object (sym (whole.shape.items r (subst (λ u. r < u.now.top) is below)))
            ∙ object-header_only (heap_item_at v.now r) ∙ there
        | inr above ↦ absurd (true≢false (sym there ∙ ap is_object (heap_item_at-absent v.now r (whole.now.end r (subst (λ n. n ≤ r) top above)))))
      ]),
  subst (λ u. AreImages images u.now u.durable) (sym is) (images_left Abort v images whole tt known.1),
)
