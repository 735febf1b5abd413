-- Where static images begin stays the same, in the heap as it is and in the durable one, whatever a move but that of a package does.
use Rattle.std.proofs.Common.{◌≡◌, ℕ, zero, suc, ◌+◌, ◌<◌, ◌≤◌, true, inl, inr, List, [], ◌∷◌, ◌++◌, length, set, refl, sym, ◌∙◌, ap, subst}
use Rattle.std.proofs.Common.{arith, Some, if◌then◌else◌}
use Rattle.std.specs.Prelude.{slice_index_or}
use Rattle.std.proofs.lemmas.Bool.{cases_Bool, cases_eq, cases_lt, true≢false}
use Rattle.std.proofs.lemmas.Option.{same_Some}
use Rattle.jc_transient.specs.declared.cell.ClearEvent.{ClearEvent}
use Rattle.jc_transient.specs.declared.cell.ClearEvent.TheVariants.{Reset, Deselect}
use Rattle.jc_heap.specs.declared.object.Kind.{Kind}
use Rattle.jc_heap.specs.declared.place.Place.{Place}
use Rattle.jc_heap.specs.declared.place.Place.TheVariants.{Cell, Static, Registry, AppletCount}
use Rattle.jc_heap.specs.Object.{AnObject, APackage, Item, Object, new_transient, transient_size, with_cell}
use Rattle.jc_heap.specs.Component.{record_of, words_of}
use Rattle.jc_heap.specs.Heap.{HeapState, HeapView, HasEnd, add_object, add_transient, area_end, goes_back, heap_item_at, is_allocated, set_cell}
use Rattle.jc_heap.specs.Heap.{set_cells, with_area_end}
use Rattle.jc_heap.specs.HeapLaws.{AreConsistent}
use Rattle.jc_heap.specs.Moves.{Move, Write, SetPlaces, WriteNonAtomic, SetCells, AddObject, AddTransient, AddPackage, Begin, Commit, Abort, apply_move}
use Rattle.jc_heap.specs.Place.{AreThere, HasPlace, cell_changes, place_at, set_place, set_places}
use Rattle.jc_heap.specs.Statics.{IsStatic, set_word, statics_of}
use Rattle.jc_heap.proofs.Laws.{heap_item_at-add_other, heap_item_at-set_cell, heap_item_at-set_other, set_cell-absent, top-add_object}
use Rattle.jc_heap.proofs.KeepingMoves.{top-place, top-places, top-run}
use Rattle.jc_heap.proofs.RecordWords.{heap_item_at-set_word, record-other, set_word-absent, words-with_word}
use Rattle.jc_heap.proofs.StaticImages.{static_behind, statics_set_at}
use Rattle.jc_memory.specs.declared.images.KnownImage.{KnownImage}
use Rattle.jc_memory.specs.Images.{AreImages, IsImage}

words-with_cell : (t : Item) (i v : ℕ) → words_of (with_cell t i v) ≡ words_of t
words-with_cell (AnObject o) i v = refl
words-with_cell (APackage ws) i v = refl

pub record-set_cell : (h : HeapState) (r i v q : ℕ) → record_of (set_cell h r i v) q ≡ record_of h q
record-set_cell h r i v q = elim (cases_eq r q) [
  | inl is ↦ elim (cases_Bool (is_allocated h r)) [
    | inl e ↦ subst (λ n. record_of (set_cell h r i v) n ≡ record_of h n) is (ap words_of (heap_item_at-set_cell h r i v e)
        ∙ words-with_cell (heap_item_at h r) i v)
    | inr e ↦ ap (λ g. record_of g q) (set_cell-absent h r i v e)
  ]
  | inr n ↦ ap words_of (heap_item_at-set_other h r i v q n)
]

pub record-registry : (h : HeapState) (i v q : ℕ) → record_of (set_place h (Registry i) v) q ≡ record_of h q
unfolding heap_item_at
record-registry h i v q = refl

pub record-count : (h : HeapState) (v q : ℕ) → record_of (set_place h AppletCount v) q ≡ record_of h q
unfolding heap_item_at
record-count h v q = refl

-- a word of a static image, if the place is one, is there
abbrev pub IsThere : HeapState → Place → Type 0
IsThere h (Cell r i) = Unit {0}
IsThere h (Static r j) = IsStatic (record_of h r) j
IsThere h (Registry i) = Unit {0}
IsThere h AppletCount = Unit {0}

abbrev pub AreAllThere : HeapState → List (Place × ℕ) → Type 0
AreAllThere h [] = Unit {0}
AreAllThere h (c ∷ cs) = IsThere h c.0 × AreAllThere h cs

pub is_there : (h : HeapState) (p : Place) → HasPlace h p → IsThere h p
is_there h (Cell r i) has = tt
is_there h (Static r j) has = has
is_there h (Registry i) has = tt
is_there h AppletCount has = tt

pub all_there : (h : HeapState) (cs : List (Place × ℕ)) → AreThere h cs → AreAllThere h cs
all_there h [] there = tt
all_there h (c ∷ cs) there = (is_there h c.0 there.0, all_there h cs there.2)

-- cells before them change nothing of that
pub cells_there : (h : HeapState) (r i : ℕ) (vs : List ℕ) (cs : List (Place × ℕ)) → AreAllThere h cs → AreAllThere h (cell_changes r i vs ++ cs)
cells_there h r i [] cs there = there
cells_there h r i (v ∷ vs) cs there = (tt, cells_there h r (suc i) vs cs there)

-- the place does not say where an image begins
abbrev Spares : ℕ → ℕ → Place → Type 0
Spares r b (Cell q i) = Unit {0}
Spares r b (Static q j) = q ≡ r → (4 ≤ j) × (b ≤ j)
Spares r b (Registry i) = Unit {0}
Spares r b AppletCount = Unit {0}

abbrev AllSpare : ℕ → ℕ → List (Place × ℕ) → Type 0
AllSpare r b [] = Unit {0}
AllSpare r b (c ∷ cs) = Spares r b c.0 × AllSpare r b cs

static_spares : (h : HeapState) (r b q j : ℕ) → statics_of (record_of h r) ≡ Some b → IsStatic (record_of h q) j → q ≡ r → (4 ≤ j) × (b ≤ j)
static_spares h r b q j e there is =
    let same : there.begin ≡ b = same_Some there.begin b (sym there.image ∙ ap (λ n. statics_of (record_of h n)) is ∙ e) in
    let behind : there.begin ≤ j = there.behind in
    (static_behind (record_of h q) j there, omega (arith, same, behind))

spares : (h : HeapState) (r b : ℕ) (p : Place) → statics_of (record_of h r) ≡ Some b → IsThere h p → Spares r b p
spares h r b (Cell q i) e there = tt
spares h r b (Static q j) e there = static_spares h r b q j e there
spares h r b (Registry i) e there = tt
spares h r b AppletCount e there = tt

all_spare : (h : HeapState) (r b : ℕ) (cs : List (Place × ℕ)) → statics_of (record_of h r) ≡ Some b → AreAllThere h cs → AllSpare r b cs
all_spare h r b [] e there = tt
all_spare h r b (c ∷ cs) e there = (spares h r b c.0 e there.0, all_spare h r b cs e there.1)

word_set : (h : HeapState) (r b q j v : ℕ) → statics_of (record_of h r) ≡ Some b → (q ≡ r → (4 ≤ j) × (b ≤ j)) → statics_of (record_of (set_word h q j v) r) ≡ Some b
word_set h r b q j v e beside = elim (cases_eq q r) [
  | inl is ↦ elim (cases_Bool (is_allocated h q)) [
    | inl there ↦
        let words : record_of (set_word h q j v) q ≡ set (record_of h q) j v = ap words_of (heap_item_at-set_word h q j v there)
        ∙ words-with_word (heap_item_at h q) j v in
        subst (λ n. statics_of (record_of (set_word h q j v) n) ≡ Some b) is (ap statics_of words
        ∙ statics_set_at (record_of h q) j v b (beside is).0 (ap (λ n. statics_of (record_of h n)) is ∙ e) (beside is).1)
    | inr absent ↦ ap (λ g. statics_of (record_of g r)) (set_word-absent h q j v absent) ∙ e
  ]
  | inr ne ↦ ap statics_of (record-other h q j v r ne) ∙ e
]

place_set : (h : HeapState) (r b : ℕ) (p : Place) (v : ℕ) → statics_of (record_of h r) ≡ Some b → Spares r b p → statics_of (record_of (set_place h p v) r) ≡ Some b
place_set h r b (Cell q i) v e beside = ap statics_of (record-set_cell h q i v r) ∙ e
place_set h r b (Static q j) v e beside = word_set h r b q j v e beside
place_set h r b (Registry i) v e beside = ap statics_of (record-registry h i v r) ∙ e
place_set h r b AppletCount v e beside = ap statics_of (record-count h v r) ∙ e

places_set : (h : HeapState) (r b : ℕ) (cs : List (Place × ℕ)) → statics_of (record_of h r) ≡ Some b → AllSpare r b cs
    → statics_of (record_of (set_places h cs) r) ≡ Some b
places_set h r b [] e beside = e
places_set h r b (c ∷ cs) e beside = places_set (set_place h c.0 c.1) r b cs (place_set h r b c.0 c.1 e beside.0) beside.1

cells_set : (h : HeapState) (r b q i : ℕ) (vs : List ℕ) → statics_of (record_of h r) ≡ Some b → statics_of (record_of (set_cells h q i vs) r) ≡ Some b
cells_set h r b q i [] e = e
cells_set h r b q i (v ∷ vs) e = cells_set (set_cell h q i v) r b q (suc i) vs (ap statics_of (record-set_cell h q i v r) ∙ e)

object_added : (h : HeapState) (r b : ℕ) (o : Object) (n : ℕ) → r < h.top → statics_of (record_of h r) ≡ Some b
    → statics_of (record_of (add_object h o n) r) ≡ Some b
object_added h r b o n below e = ap (λ t. statics_of (words_of t)) (heap_item_at-add_other h o n r (λ is. omega (arith, is, below))) ∙ e

record-area_end : (h : HeapState) (event : ClearEvent) (end q : ℕ) → record_of (with_area_end h event end) q ≡ record_of h q
unfolding heap_item_at
record-area_end h Reset end q = refl
record-area_end h Deselect end q = refl

top-area_end : (h : HeapState) (event : ClearEvent) (end : ℕ) → (with_area_end h event end).top ≡ h.top
top-area_end h Reset end = refl
top-area_end h Deselect end = refl

module _ (h : HeapState) (kind : Kind) (event : ClearEvent) (class owner long : ℕ) where
  abbrev added : HeapState
  added = add_object h (new_transient kind event class owner long (area_end h event)) transient_size

  transient_added : (r b : ℕ) → r < h.top → statics_of (record_of h r) ≡ Some b → statics_of (record_of (add_transient h kind event class owner long) r) ≡ Some b
  unfolding add_transient
  transient_added r b below e = ap statics_of (record-area_end added event (area_end h event + long) r)
      ∙ object_added h r b (new_transient kind event class owner long (area_end h event)) transient_size below e

  top-transient : h.top ≤ (add_transient h kind event class owner long).top
  unfolding add_transient
  top-transient = omega (
    arith,
    top-area_end added event (area_end h event + long),
    top-add_object h (new_transient kind event class owner long (area_end h event)) transient_size,
  )

-- ---- in both heaps

-- what a move needs to leave the images that are known
abbrev pub LeavesImages : List KnownImage → HeapView → Move → Type 0
LeavesImages is v (Write p x) = IsThere v.now p
LeavesImages is v (SetPlaces cs) = AreAllThere v.now cs
LeavesImages is v (WriteNonAtomic p x) = IsThere v.now p
LeavesImages is v (AddPackage components arrays rest) = is ≡ []
LeavesImages is v m = Unit {0}

-- after one change
changed : (v : HeapView) (h : HeapState) (r b : ℕ) → AreConsistent v → v.now.top ≤ h.top → IsImage v.now v.durable r b
    → statics_of (record_of h r) ≡ Some b → IsImage h (if v.begun then v.durable else h) r b
changed v h r b whole more image e =
    let below : r < v.durable.top = image.below in
    elim (cases_Bool v.begun) [
      | inl inside ↦ subst (λ d. IsImage h d r b) (sym (ap (λ c. if c then v.durable else h) inside)) (record { below = below; now = e; back = image.back })
      | inr outside ↦ subst (λ d. IsImage h d r b) (sym (ap (λ c. if c then v.durable else h) outside))
          (record { below = omega (arith, below, more, whole.order); now = e; back = e })
    ]

-- after a place was set for good
set_for_good : (v : HeapView) (p : Place) (x r b : ℕ) → IsThere v.now p → IsImage v.now v.durable r b
    → IsImage (apply_move (WriteNonAtomic p x) v).now (apply_move (WriteNonAtomic p x) v).durable r b
set_for_good v p x r b there image =
    let beside : Spares r b p = spares v.now r b p image.now there in
    let now : statics_of (record_of (set_place v.now p x) r) ≡ Some b = place_set v.now r b p x image.now beside in
    let below : r < v.durable.top = image.below in
    elim (cases_Bool (goes_back v (place_at v.now p))) [
      | inl back ↦ subst (λ d. IsImage (set_place v.now p x) d r b) (sym (ap (λ c. if c then v.durable else set_place v.durable p x) back))
          (record { below = below; now = now; back = image.back })
      | inr stays ↦ subst (λ d. IsImage (set_place v.now p x) d r b) (sym (ap (λ c. if c then v.durable else set_place v.durable p x) stays))
          (record { below = subst (λ n. r < n) (sym (top-place v.durable p x)) below; now = now; back = place_set v.durable r b p x image.back beside })
    ]

one_left : (m : Move) (v : HeapView) (i : KnownImage) (is : List KnownImage) → AreConsistent v → LeavesImages (i ∷ is) v m
    → IsImage v.now v.durable i.owner i.begin → IsImage (apply_move m v).now (apply_move m v).durable i.owner i.begin
one_left (Write p x) v i is whole there image = changed v (set_place v.now p x) i.owner i.begin whole
    (omega (arith, top-place v.now p x)) image (place_set v.now i.owner i.begin p x image.now (spares v.now i.owner i.begin p image.now there))
one_left (SetPlaces cs) v i is whole there image = changed v (set_places v.now cs) i.owner i.begin whole (omega (arith, top-places v.now cs)) image
    (places_set v.now i.owner i.begin cs image.now (all_spare v.now i.owner i.begin cs image.now there))
one_left (WriteNonAtomic p x) v i is whole there image = set_for_good v p x i.owner i.begin there image
one_left (SetCells r k vs) v i is whole there image = changed v (set_cells v.now r k vs) i.owner i.begin whole (omega (arith, top-run v.now r k vs)) image
    (cells_set v.now i.owner i.begin r k vs image.now)
one_left (AddObject o size) v i is whole there image =
    let below : i.owner < v.durable.top = image.below in
    changed v (add_object v.now o size) i.owner i.begin whole (omega (arith, top-add_object v.now o size)) image
    (object_added v.now i.owner i.begin o size (omega (arith, below, whole.order)) image.now)
one_left (AddTransient kind event class owner long) v i is whole there image =
    let below : i.owner < v.durable.top = image.below in
    changed v (add_transient v.now kind event class owner long) i.owner i.begin whole (top-transient v.now kind event class owner long) image
    (transient_added v.now kind event class owner long i.owner i.begin (omega (arith, below, whole.order)) image.now)
one_left (AddPackage components arrays rest) v i is whole there image = absurd (let none : length (i ∷ is) ≡ 0 = ap length there in omega (arith, none))
one_left Begin v i is whole there image =
    let below : i.owner < v.durable.top = image.below in record { below = omega (arith, below, whole.order); now = image.now; back = image.now }
one_left Commit v i is whole there image =
    let below : i.owner < v.durable.top = image.below in record { below = omega (arith, below, whole.order); now = image.now; back = image.now }
one_left Abort v i is whole there image = record { below = image.below; now = image.back; back = image.back }

fewer : (m : Move) (v : HeapView) (i : KnownImage) (is : List KnownImage) → LeavesImages (i ∷ is) v m → LeavesImages is v m
fewer (Write p x) v i is there = there
fewer (SetPlaces cs) v i is there = there
fewer (WriteNonAtomic p x) v i is there = there
fewer (SetCells r k vs) v i is there = tt
fewer (AddObject o size) v i is there = tt
fewer (AddTransient kind event class owner long) v i is there = tt
fewer (AddPackage components arrays rest) v i is there = absurd (let none : length (i ∷ is) ≡ 0 = ap length there in omega (arith, none))
fewer Begin v i is there = tt
fewer Commit v i is there = tt
fewer Abort v i is there = tt

-- the images that are known are known after a move
pub images_left : (m : Move) (v : HeapView) (is : List KnownImage) → AreConsistent v → LeavesImages is v m → AreImages is v.now v.durable
    → AreImages is (apply_move m v).now (apply_move m v).durable
images_left m v [] whole there images = tt
images_left m v (i ∷ is) whole there images = (one_left m v i is whole there images.0, images_left m v is whole (fewer m v i is there) images.1)

-- one of them
pub image_at : (is : List KnownImage) (k : ℕ) (i : KnownImage) (r : ℕ) (h d : HeapState) → k < length is → i ≡ slice_index_or is k i → i.owner ≡ r → AreImages is h d
    → IsImage h d r i.begin
image_at [] k i r h d lt e owner images = absurd (omega (arith, lt))
image_at (x ∷ is) zero i r h d lt e owner images =
    subst (λ n. IsImage h d n i.begin) owner (subst (λ y. IsImage h d y.owner y.begin) (sym e) images.0)
image_at (x ∷ is) (suc k) i r h d lt e owner images = image_at is k i r h d (omega (arith, lt)) e owner images.1

-- one more
pub images_more : (is : List KnownImage) (i : KnownImage) (h d : HeapState) → AreImages is h d → IsImage h d i.owner i.begin → AreImages (is ++ i ∷ []) h d
images_more [] i h d images image = (image, tt)
images_more (x ∷ is) i h d images image = (images.0, images_more is i h d images.1 image)

-- in a heap that a recovery would leave as it is
pub image_settled : (h d : HeapState) (r b : ℕ) → d ≡ h → HasEnd h → is_allocated h r ≡ true → statics_of (record_of h r) ≡ Some b → IsImage h d r b
image_settled h d r b settled end there e = elim (cases_lt r h.top) [
  | inl below ↦ subst (λ g. IsImage h g r b) (sym settled) (record { below = below; now = e; back = e })
  | inr above ↦ absurd (true≢false (sym there ∙ end r above))
]
