-- A place set, in the words and in the heap.
use Rattle.std.proofs.Common.{◌≡◌, ℕ, ◌+◌, ◌/◌, ◌<◌, ◌≤◌, ◌&&◌, ◌||◌, Bool, true, false, List, [], ◌∷◌, length, get_or, set, drop, inl, inr, refl, sym, ◌∙◌, ap}
use Rattle.std.proofs.Common.{subst}
use Rattle.std.proofs.Common.{arith, lit<, if◌then◌else◌, nat_le, leb-true}
use Rattle.std.proofs.lemmas.List.{length-set, length-take-le, get_or-set_other, get_or-take, get_or-drop, drop-set-lt}
use Rattle.std.proofs.lemmas.Bool.{false≢true, cases_lt, and_parts}
use Rattle.jc_words.specs.Count.{saturating_count}
use Rattle.jc_words.specs.Layout.{top_address, applets_address, registry_start, registry_length, text_start}
use Rattle.jc_commit.specs.Image.{IsPlace, IsReadable, IsUnlogged}
use Rattle.jc_commit.specs.Keep.{goes_back}
use Rattle.jc_commit.specs.State.{State, Changes, after_write_in_place, born_of, keeping as journal_keeping, is_touched as is_kept}
use Rattle.jc_heap.specs.declared.place.Place.{Place}
use Rattle.jc_heap.specs.declared.place.Place.TheVariants.{Cell, Static, Registry, AppletCount}
use Rattle.jc_heap.specs.Walk.{missing_words}
use Rattle.jc_heap.specs.Object.{header_only, is_packed, has_bytes, IsElement}
use Rattle.jc_heap.specs.Image.{IsWellFormed, image, base, package_addresses, is_package, sizes, missing_words_of_image}
use Rattle.jc_heap.specs.Heap.{HeapState, HeapView, heap_view, heap_of, cells, cell_address, keeping, IsSound, SameShape, read_image, heap_item_at, set_cell}
use Rattle.jc_heap.specs.Heap.{is_allocated, facts}
use Rattle.jc_heap.specs.Place.{place_word, place_at, cell_at, HasPlace, MayHold, IsPlain, set_place, write_place, write_nonatomic}
use Rattle.jc_heap.specs.Elements.{word_for}
use Rattle.jc_heap.specs.Packed.{with_byte}
use Rattle.jc_heap.specs.declared.object.Facts.{Facts}
use Rattle.jc_heap.specs.Component.{record_of}
use Rattle.jc_heap.specs.Statics.{set_word}
use Rattle.jc_heap.proofs.Laws.{shape-set, shape-set_both, is_allocated-heap_of, header_only-set_cell, same_length, same_facts, set_cell-absent}
use Rattle.jc_heap.proofs.Images.{image-set, set_cell-heap_of, IsWellFormed-set, top-set, package_addresses-set, base-set, cell_at_of, cell_set_of, cell_set, cell_offset}
use Rattle.jc_heap.proofs.Packages.{read-applet}
use Rattle.jc_heap.proofs.AreaEnds.{read-applets, laid-front}
use Rattle.jc_heap.proofs.RecordReading.{record_low, record_within, record_view, length_record}
use Rattle.jc_heap.proofs.RecordWords.{heap_of-set_word, laid-set_word, top-set_word, set_word-absent, same_words, shape-set_word, shape-set_word_both}
use Rattle.jc_heap.proofs.RecordWords.{header_only-set_word}
use Rattle.jc_heap.proofs.StaticImages.{static_behind}
use Rattle.jc_heap.proofs.Views.{cell_spot, plain_set, top_is, above_top}
use Rattle.jc_heap.proofs.JournalViews.{keeping_view}
use Rattle.jc_heap.proofs.Changing.{change_view, change_sound}

-- a word of the registry
missing_words_of_image-registry : (img : List ℕ) (a v : ℕ) → a < registry_length
    → missing_words_of_image (set img (registry_start + a) v) ≡ missing_words_of_image img
unfolding missing_words_of_image
missing_words_of_image-registry img a v h =
    ap (λ ps. missing_words (sizes ps) 0 (base (set img (registry_start + a) v)) (drop (base (set img (registry_start + a) v))
    (set img (registry_start + a) v))) (package_addresses-set img (registry_start + a) v (omega arith))
    ∙ ap (λ b. missing_words (sizes (package_addresses img)) 0 b (drop b (set img (registry_start + a) v))) (base-set img (registry_start + a) v (omega arith))
    ∙ ap (missing_words (sizes (package_addresses img)) 0 (base img)) (drop-set-lt (base img) img (registry_start + a) v (omega arith))

wide_image : (ws : List ℕ) → IsWellFormed ws → text_start ≤ length (image ws)
wide_image ws laid = omega (arith, laid.based, length-take-le (get_or ws top_address 0) ws laid.fits)

top-registry : (ws : List ℕ) (a v : ℕ) → get_or (set ws (registry_start + a) v) top_address 0 ≡ get_or ws top_address 0
top-registry ws a v = get_or-set_other ws (registry_start + a) top_address v 0 (λ e. omega arith)

registry-heap_of : (ws : List ℕ) (a v : ℕ) → IsWellFormed ws → a < registry_length
    → heap_of (set ws (registry_start + a) v) ≡ set_place (heap_of ws) (Registry a) v
registry-heap_of ws a v laid h = ap read_image (image-set ws (registry_start + a) v (omega arith)) ∙ read-applet (image ws) a v (wide_image ws laid) h

IsWellFormed-registry : (ws : List ℕ) (a v : ℕ) → IsWellFormed ws → a < registry_length → IsWellFormed (set ws (registry_start + a) v)
IsWellFormed-registry ws a v laid h =
    let img : image (set ws (registry_start + a) v) ≡ set (image ws) (registry_start + a) v = image-set ws (registry_start + a) v (omega arith) in
    let same_base : base (image (set ws (registry_start + a) v)) ≡ base (image ws) = ap base img ∙ base-set (image ws) (registry_start + a) v (omega arith) in
    let top : get_or (set ws (registry_start + a) v) top_address 0 ≡ get_or ws top_address 0 = top-registry ws a v in
    record {
      based = omega (arith, same_base, top, laid.based);
      fits = omega (arith, top, length-set ws (registry_start + a) v, laid.fits);
      whole = ap missing_words_of_image img ∙ missing_words_of_image-registry (image ws) a v h ∙ laid.whole;
      packages = λ b le. ap (λ ps. is_package ps b) (ap package_addresses img ∙ package_addresses-set (image ws) (registry_start + a) v (omega arith))
          ∙ laid.packages b (omega (arith, top, le));
    }

pub registry_read : (j : State) (v : HeapView) (n a : ℕ) → heap_view j n ≡ v → IsWellFormed j.plain → a < registry_length
    → get_or j.plain (registry_start + a) 0 ≡ get_or (v.now.applets) a 0
unfolding read_image
registry_read j v n a is laid h = subst (λ u. get_or j.plain (registry_start + a) 0 ≡ get_or (u.now.applets) a 0) is
    (sym (get_or-take registry_length (drop registry_start (image j.plain)) a 0 h ∙ get_or-drop registry_start (image j.plain) a 0
    ∙ get_or-take (get_or j.plain top_address 0) j.plain (registry_start + a) 0 (omega (arith, laid.based))))

-- the number of applets
count_set : (ws : List ℕ) (v : ℕ) → IsWellFormed ws →
    (heap_of (set ws applets_address v) ≡ set_place (heap_of ws) AppletCount v) × IsWellFormed (set ws applets_address v)
    × (get_or (set ws applets_address v) top_address 0 ≡ get_or ws top_address 0)
count_set ws v laid = (
  ap read_image (image-set ws applets_address v (lit< tt)) ∙ read-applets (image ws) v (wide_image ws laid),
  laid-front ws applets_address v (lit< tt) (lit< tt) laid,
  get_or-set_other ws applets_address top_address v 0 (λ e. omega arith),
)

pub count_read : (j : State) (v : HeapView) (n : ℕ) → heap_view j n ≡ v → IsWellFormed j.plain → get_or j.plain applets_address 0 ≡ v.now.counts.1
unfolding read_image
count_read j v n is laid = subst (λ u. get_or j.plain applets_address 0 ≡ u.now.counts.1) is
    (sym (get_or-take (get_or j.plain top_address 0) j.plain applets_address 0 (omega (arith, laid.based))))

-- the heap has a word for the place
abbrev pub HasWord : HeapState → Place → Type 0
HasWord h (Cell r i) = i < length (cells h r)
HasWord h (Static r j) = (4 ≤ j) × (j < length (record_of h r))
HasWord h (Registry i) = i < registry_length
HasWord h AppletCount = Unit {0}

pub has_word : (h : HeapState) (p : Place) → HasPlace h p → HasWord h p
has_word h (Cell r i) there = there
has_word h (Static r j) there = (static_behind (record_of h r) j there, there.within)
has_word h (Registry i) there = there
has_word h AppletCount there = tt

-- a place set leaves the headers
pub bare_stays : (h : HeapState) (p : Place) (x q : ℕ) → header_only (heap_item_at (set_place h p x) q) ≡ header_only (heap_item_at h q)
unfolding heap_item_at
bare_stays h (Cell r i) x q = header_only-set_cell h r i x q
bare_stays h (Static r j) x q = header_only-set_word h r j x q
bare_stays h (Registry i) x q = refl
bare_stays h AppletCount x q = refl

-- so the places stay
pub word_stays : (h : HeapState) (p : Place) (x : ℕ) (q : Place) → HasWord h q → HasWord (set_place h p x) q
word_stays h p x (Cell r i) there = omega (arith, there, same_length (heap_item_at (set_place h p x) r) (heap_item_at h r) (bare_stays h p x r))
word_stays h p x (Static r j) there = (there.0, omega (arith, there.1, same_words (heap_item_at (set_place h p x) r) (heap_item_at h r) (bare_stays h p x r)))
word_stays h p x (Registry i) there = there
word_stays h p x AppletCount there = tt

-- a place that has a word of its own stands at it
pub plain_at : (h : HeapState) (p : Place) → IsPlain h p → place_at h p ≡ place_word p
plain_at h (Cell r i) plain = ap (λ (b : Bool). cell_address r (if b then i / 2 else i)) plain
plain_at h (Static r j) plain = refl
plain_at h (Registry i) plain = refl
plain_at h AppletCount plain = refl

-- its word is its value
pub plain_word : (ws : List ℕ) (p : Place) (x : ℕ) → IsPlain (heap_of ws) p → word_for ws p x ≡ x
plain_word ws (Cell r i) x plain = ap (λ (b : Bool). if b then with_byte (get_or ws (cell_address r (i / 2)) 0) i x else x) plain
plain_word ws (Static r j) x plain = refl
plain_word ws (Registry i) x plain = refl
plain_word ws AppletCount x plain = refl

-- what a cell's word says once the cell is set
cell_word_for : (ws : List ℕ) (r i x : ℕ) → word_for ws (Cell r i) x ≡ cell_set_of ws r i x
unfolding cell_address
cell_word_for ws r i x = elim (is_packed (facts (heap_of ws) r)) as (λ (b : Bool). (if b then with_byte (get_or ws (r + (4 + i / 2)) 0) i x else x)
    ≡ cell_set b (get_or ws (r + (4 + cell_offset b i)) 0) i x) [ true ↦ refl | false ↦ refl ]

-- a byte, where two elements stand in a word
byte_for : (f : Facts) (x : ℕ) → IsElement f.kind x → is_packed f ≡ true → x < 256
byte_for f x is packed = is ((and_parts (has_bytes f.kind) f.packed packed).0)

-- words with a place set stand for the heap with it set
pub word_set : (ws : List ℕ) (p : Place) (x : ℕ) → IsWellFormed ws → HasWord (heap_of ws) p → MayHold (heap_of ws) p x →
    (heap_of (set ws (place_at (heap_of ws) p) (word_for ws p x)) ≡ set_place (heap_of ws) p x)
    × IsWellFormed (set ws (place_at (heap_of ws) p) (word_for ws p x))
    × (get_or (set ws (place_at (heap_of ws) p) (word_for ws p x)) top_address 0 ≡ get_or ws top_address 0)
unfolding cell_address
word_set ws (Cell r i) x laid h may = (
  ap (λ (w : ℕ). heap_of (set ws (cell_at_of ws r i) w)) (cell_word_for ws r i x) ∙ set_cell-heap_of ws r i x h (byte_for (facts (heap_of ws) r) x may),
  IsWellFormed-set ws r i (word_for ws (Cell r i) x) h laid,
  top-set ws r i (word_for ws (Cell r i) x) h,
)
word_set ws (Static r j) x laid h may =
    (heap_of-set_word ws r j x laid h.0 h.1, laid-set_word ws r j x laid h.0 h.1, top-set_word ws r j x laid h.0 h.1)
word_set ws (Registry a) x laid h may = (registry-heap_of ws a x laid h, IsWellFormed-registry ws a x laid h, top-registry ws a x)
word_set ws AppletCount x laid h may = count_set ws x laid

pub place_set : (ws : List ℕ) (p : Place) (x : ℕ) → IsWellFormed ws → HasPlace (heap_of ws) p → MayHold (heap_of ws) p x →
    (heap_of (set ws (place_at (heap_of ws) p) (word_for ws p x)) ≡ set_place (heap_of ws) p x)
    × IsWellFormed (set ws (place_at (heap_of ws) p) (word_for ws p x))
    × (get_or (set ws (place_at (heap_of ws) p) (word_for ws p x)) top_address 0 ≡ get_or ws top_address 0)
place_set ws p x laid h may = word_set ws p x laid (has_word (heap_of ws) p h) may

-- the same of a place that has a word of its own, whatever it is set to
pub plain_word_set : (ws : List ℕ) (p : Place) (x : ℕ) → IsWellFormed ws → HasWord (heap_of ws) p → IsPlain (heap_of ws) p →
    (heap_of (set ws (place_word p) x) ≡ set_place (heap_of ws) p x) × IsWellFormed (set ws (place_word p) x)
    × (get_or (set ws (place_word p) x) top_address 0 ≡ get_or ws top_address 0)
unfolding cell_address
plain_word_set ws (Cell r i) x laid h plain = plain_set ws r i x h plain laid
plain_word_set ws (Static r j) x laid h plain =
    (heap_of-set_word ws r j x laid h.0 h.1, laid-set_word ws r j x laid h.0 h.1, top-set_word ws r j x laid h.0 h.1)
plain_word_set ws (Registry a) x laid h plain = (registry-heap_of ws a x laid h, IsWellFormed-registry ws a x laid h, top-registry ws a x)
plain_word_set ws AppletCount x laid h plain = count_set ws x laid

-- a static image's word in the recovered words: in the same record, or above their top
word_back : (j : State) (n r i x : ℕ) → 4 ≤ i → i < length (record_of (heap_of j.plain) r) → j.down ≡ false → IsSound j n →
    (heap_of (set j.recovered (r + i) x) ≡ set_word (heap_of j.recovered) r i x) × IsWellFormed (set j.recovered (r + i) x)
    × (get_or (set j.recovered (r + i) x) top_address 0 ≡ get_or j.recovered top_address 0)
word_back j n r i x four h up s = elim (cases_lt r (get_or j.recovered top_address 0)) [
  | inl below ↦
      let there : i < length (record_of (heap_of j.recovered) r) = omega (
        arith,
        h,
        same_words (heap_item_at (heap_of j.plain) r) (heap_item_at (heap_of j.recovered) r) ((s.shape up).items r (top_is j.recovered r s.back below)),
      )
      in (
        heap_of-set_word j.recovered r i x s.back four there,
        laid-set_word j.recovered r i x s.back four there,
        top-set_word j.recovered r i x s.back four there,
      )
  | inr above ↦
      let far : (heap_of (set j.recovered (r + i) x) ≡ heap_of j.recovered) × IsWellFormed (set j.recovered (r + i) x)
      × (get_or (set j.recovered (r + i) x) top_address 0 ≡ get_or j.recovered top_address 0) =
      above_top j.recovered (r + i) x s.back (omega (arith, above)) in
      let long : length (image j.recovered) ≡ get_or j.recovered top_address 0 = length-take-le (get_or j.recovered top_address 0) j.recovered s.back.fits in
      let absent : is_allocated (heap_of j.recovered) r ≡ false = is_allocated-heap_of j.recovered r (omega (arith, s.back.based, long))
      (omega (arith, above, long)) in
      (far.0 ∙ sym (set_word-absent (heap_of j.recovered) r i x absent), far.1, far.2)
]

-- a cell's word in the recovered words, which say there what the words say: it is the cell's in the same object, or it lies above their top
cell_back : (j : State) (n r i x : ℕ) → i < length (cells (heap_of j.plain) r) → IsElement (facts (heap_of j.plain) r).kind x → j.down ≡ false → IsSound j n
    → get_or j.recovered (cell_at_of j.plain r i) 0 ≡ get_or j.plain (cell_at_of j.plain r i) 0 →
    (heap_of (set j.recovered (cell_at_of j.plain r i) (cell_set_of j.plain r i x)) ≡ set_cell (heap_of j.recovered) r i x)
    × IsWellFormed (set j.recovered (cell_at_of j.plain r i) (cell_set_of j.plain r i x))
    × (get_or (set j.recovered (cell_at_of j.plain r i) (cell_set_of j.plain r i x)) top_address 0 ≡ get_or j.recovered top_address 0)
cell_back j n r i x h may up s agree = elim (cases_lt r (get_or j.recovered top_address 0)) [
  | inl below ↦
      let same = (s.shape up).items r (top_is j.recovered r s.back below) in
      let header : facts (heap_of j.plain) r ≡ facts (heap_of j.recovered) r =
      same_facts (heap_item_at (heap_of j.plain) r) (heap_item_at (heap_of j.recovered) r) same in
      let there : i < length (cells (heap_of j.recovered) r) = omega (
        arith,
        h,
        same_length (heap_item_at (heap_of j.plain) r) (heap_item_at (heap_of j.recovered) r) same,
      ) in
      let here : cell_at_of j.plain r i ≡ cell_at_of j.recovered r i = ap (λ (f : Facts). r + (4 + cell_offset (is_packed f) i)) header in
      let said : get_or j.plain (cell_at_of j.plain r i) 0 ≡ get_or j.recovered (cell_at_of j.recovered r i) 0 =
      sym agree ∙ ap (λ (a : ℕ). get_or j.recovered a 0) here in
      let new : cell_set_of j.plain r i x ≡ cell_set_of j.recovered r i x = λ k. cell_set (is_packed (header k)) (said k) i x in
      let at : (cell_at_of j.recovered r i, cell_set_of j.recovered r i x) ≡ (cell_at_of j.plain r i, cell_set_of j.plain r i x) = λ k. (sym here k, sym new k) in
      subst (λ (c : ℕ × ℕ). (heap_of (set j.recovered c.0 c.1) ≡ set_cell (heap_of j.recovered) r i x) × IsWellFormed (set j.recovered c.0 c.1)
      × (get_or (set j.recovered c.0 c.1) top_address 0 ≡ get_or j.recovered top_address 0)) at (
        set_cell-heap_of j.recovered r i x there (byte_for (facts (heap_of j.recovered) r) x (subst (λ (f : Facts). IsElement f.kind x) header may)),
        IsWellFormed-set j.recovered r i (cell_set_of j.recovered r i x) there s.back,
        top-set j.recovered r i (cell_set_of j.recovered r i x) there,
      )
  | inr above ↦
      let a : ℕ = cell_at_of j.plain r i in
      let v : ℕ = cell_set_of j.plain r i x in
      let far : (heap_of (set j.recovered a v) ≡ heap_of j.recovered) × IsWellFormed (set j.recovered a v)
      × (get_or (set j.recovered a v) top_address 0 ≡ get_or j.recovered top_address 0) = above_top j.recovered a v s.back (omega (arith, above)) in
      let long : length (image j.recovered) ≡ get_or j.recovered top_address 0 = length-take-le (get_or j.recovered top_address 0) j.recovered s.back.fits in
      let absent : is_allocated (heap_of j.recovered) r ≡ false = is_allocated-heap_of j.recovered r (omega (arith, s.back.based, long))
      (omega (arith, above, long)) in
      (far.0 ∙ sym (set_cell-absent (heap_of j.recovered) r i x absent), far.1, far.2)
]

-- these words stand for the recovered heap with the place set, and their heap ends where it did
abbrev IsSetBack : State → Place → ℕ → List ℕ → Type 0
IsSetBack j p x words = (heap_of words ≡ set_place (heap_of j.recovered) p x) × IsWellFormed words
    × (get_or words top_address 0 ≡ get_or j.recovered top_address 0)

-- so does a place's word in the recovered words, or the place lies above their top
place_back : (j : State) (n : ℕ) (p : Place) (x : ℕ) → HasPlace (heap_of j.plain) p → MayHold (heap_of j.plain) p x → j.down ≡ false → IsSound j n
    → get_or j.recovered (place_at (heap_of j.plain) p) 0 ≡ get_or j.plain (place_at (heap_of j.plain) p) 0
    → IsSetBack j p x (set j.recovered (place_at (heap_of j.plain) p) (word_for j.plain p x))
unfolding cell_address
place_back j n (Cell r i) x h may up s agree = subst (λ (w : ℕ). IsSetBack j (Cell r i) x (set j.recovered (cell_at_of j.plain r i) w))
    (sym (cell_word_for j.plain r i x)) (cell_back j n r i x h may up s agree)
place_back j n (Static r i) x h may up s agree =
    word_back j n r i x (static_behind (record_of (heap_of j.plain) r) i h) h.within up s
place_back j n (Registry a) x h may up s agree =
    (registry-heap_of j.recovered a x s.back h, IsWellFormed-registry j.recovered a x s.back h, top-registry j.recovered a x)
place_back j n AppletCount x h may up s agree = count_set j.recovered x s.back

pub place_shape : (d h : HeapState) (p : Place) (x : ℕ) → SameShape d h → SameShape d (set_place h p x)
unfolding heap_item_at is_allocated
place_shape d h (Cell r i) x s = shape-set d h r i x s
place_shape d h (Static r j) x s = shape-set_word d h r j x s
place_shape d h (Registry a) x s = record { items = s.items; names = s.names; lasting = s.lasting }
place_shape d h AppletCount x s = record { items = s.items; names = s.names; lasting = s.lasting }

pub place_shape_both : (d h : HeapState) (p : Place) (x : ℕ) → SameShape d h → SameShape (set_place d p x) (set_place h p x)
unfolding heap_item_at is_allocated
place_shape_both d h (Cell r i) x s = shape-set_both d h r i x s
place_shape_both d h (Static r j) x s = shape-set_word_both d h r j x s
place_shape_both d h (Registry a) x s = record { items = s.items; names = s.names; lasting = s.lasting }
place_shape_both d h AppletCount x s = record { items = s.items; names = s.names; lasting = s.lasting }

-- a place's word lies among the words, and it may be read and logged
pub record PlaceSpot (n a : ℕ) : Type 0 where
  pub below : a < n
  pub high : applets_address ≤ a
  pub beside : applets_address < a → registry_start ≤ a

pub far_spot : (n a : ℕ) → a < n → registry_start ≤ a → PlaceSpot n a
far_spot n a below high = record { below = below; high = omega (arith, high); beside = λ _. high }

pub place_spot : (j : State) (v : HeapView) (n : ℕ) (p : Place) → heap_view j n ≡ v → IsWellFormed j.plain → HasPlace v.now p
    → PlaceSpot (length j.plain) (place_at v.now p)
place_spot j v n (Cell r i) is laid h =
    let spot = cell_spot j v n r i is h in
    far_spot (length j.plain) (cell_at (facts v.now r) r i) spot.0 (omega (arith, spot.1))
place_spot j v n (Static r i) is laid h =
    let some : 0 < length (record_of (v.now) r) = omega (arith, h.within) in
    let there : 0 < length (record_of (heap_of j.plain) r) = record_view j v n r is some in
    far_spot (length j.plain) (r + i) (omega (arith, h.within, length_record j v n r is laid some, record_within j.plain r laid there))
    (omega (arith, record_low j.plain r laid there))
place_spot j v n (Registry a) is laid h = far_spot (length j.plain) (registry_start + a) (omega (arith, laid.based, laid.fits)) (omega arith)
place_spot j v n AppletCount is laid h = record { below = omega (arith, laid.based, laid.fits); high = omega arith; beside = λ e. absurd (omega (arith, e)) }

pub place_readable : (n a : ℕ) → PlaceSpot n a → IsReadable n a
place_readable n a s = record { below = s.below; not_count = λ e. omega (arith, s.high); beside = λ low. omega (arith, s.beside (omega (arith, low))) }

pub place_logged : (n a : ℕ) → PlaceSpot n a → IsPlace n a
place_logged n a s = record { above = omega (arith, s.high); below = s.below; beside = λ low. omega (arith, s.beside (omega (arith, low))) }

pub place_unlogged : (n a : ℕ) → PlaceSpot n a → IsUnlogged n a
place_unlogged n a s = record { below = s.below; not_top = λ e. omega (arith, s.high); place = λ _. place_logged n a s }

-- a place set through the journal is a place set in the heap
pub place_view : (j k : State) (v : HeapView) (n : ℕ) (p : Place) (x : ℕ) → heap_view j n ≡ v → IsWellFormed j.plain → IsWellFormed j.recovered
    → HasPlace v.now p → MayHold v.now p x → Changes ((place_at v.now p, word_for j.plain p x) ∷ []) j k → heap_view k n ≡ write_place v p x
place_view j k v n p x is laid back h may c = subst (λ u. HasPlace (u.now) p → MayHold (u.now) p x
    → Changes ((place_at (u.now) p, word_for j.plain p x) ∷ []) j k → heap_view k n ≡ write_place u p x) is
    (λ there fits made. change_view ((place_at (heap_of j.plain) p, word_for j.plain p x) ∷ []) j k n (set_place (heap_of j.plain) p x) back made
    (place_set j.plain p x laid there fits).0) h may c

pub place_sound : (j k : State) (v : HeapView) (n : ℕ) (p : Place) (x : ℕ) → heap_view j n ≡ v → HasPlace v.now p → MayHold v.now p x → j.down ≡ false
    → IsSound j n → Changes ((place_at v.now p, word_for j.plain p x) ∷ []) j k → IsSound k n
place_sound j k v n p x is h may up s c =
    let same : v.now ≡ heap_of j.plain = ap (λ u. u.now) (sym is) in
    let t = place_set j.plain p x (s.now up) (subst (λ (u : HeapState). HasPlace u p) same h) (subst (λ (u : HeapState). MayHold u p x) same may) in
    change_sound ((place_at (heap_of j.plain) p, word_for j.plain p x) ∷ []) j k n
    (subst (λ (u : HeapState). Changes ((place_at u p, word_for j.plain p x) ∷ []) j k) same c) up s.back s.size_recovered (s.size_now up) s.small t.1
    (λ _. omega (arith, s.order up, t.2))
    (λ _. subst (SameShape (heap_of j.recovered)) (sym t.0) (place_shape (heap_of j.recovered) (heap_of j.plain) p x (s.shape up)))

settled_both : (b c : Bool) (rec plain : List ℕ) (a x : ℕ) → b ≡ false → rec ≡ plain → (if b && c then rec else set rec a x) ≡ set plain a x
settled_both true c rec plain a x f e = absurd (false≢true (sym f))
settled_both false c rec plain a x f e = ap (λ l. set l a x) e

-- what holds of both words holds of the one that is taken
either_words : (P : List ℕ → Type 0) (b : Bool) (x y : List ℕ) → P x → (b ≡ false → P y) → P (if b then x else y)
either_words P true x y one other = one
either_words P false x y one other = other refl

-- the heap of those that are taken
either_heap : (b : Bool) (x y : List ℕ) (d : HeapState) → (b ≡ false → heap_of y ≡ d) → heap_of (if b then x else y) ≡ (if b then heap_of x else d)
either_heap true x y d other = refl
either_heap false x y d other = other refl

-- where the word was born in the transaction, the recovered words stand for the same heap
kept_or_born : (begun kept born : Bool) (old d : HeapState) → ((begun && kept) ≡ false → born ≡ true → d ≡ old) →
    (if begun && kept then old else d) ≡ (if begun && (kept || born) then old else d)
kept_or_born true true born old d new = refl
kept_or_born true false true old d new = new refl refl
kept_or_born true false false old d new = refl
kept_or_born false kept born old d new = refl

-- the word of a place is written in place, in a transaction that may keep its old value; else a recovery would have left it as it is
module _ (j : State) (n : ℕ) (p : Place) (x : ℕ) (h : HasPlace (heap_of j.plain) p) (may : MayHold (heap_of j.plain) p x) (up : j.down ≡ false)
    (s : IsSound j n) (unkept : is_kept j (place_at (heap_of j.plain) p) ≡ false
    → get_or j.recovered (place_at (heap_of j.plain) p) 0 ≡ get_or j.plain (place_at (heap_of j.plain) p) 0) where
  abbrev a : ℕ
  a = place_at (heap_of j.plain) p

  abbrev word : ℕ
  word = word_for j.plain p x

  abbrev stays : Bool
  stays = j.in_transaction && is_kept j a

  agree_by : (b : Bool) → (b && is_kept j a) ≡ false → (b ≡ false → j.recovered ≡ j.plain) → get_or j.recovered a 0 ≡ get_or j.plain a 0
  agree_by true loose settled = unkept loose
  agree_by false loose settled = ap (λ (l : List ℕ). get_or l a 0) (settled refl)

  back : stays ≡ false → IsSetBack j p x (set j.recovered a word)
  back loose = place_back j n p x h may up s (agree_by j.in_transaction loose (s.settled up))

  durable_is : heap_of (if stays then j.recovered else set j.recovered a word) ≡ (if stays then heap_of j.recovered else set_place (heap_of j.recovered) p x)
  durable_is = either_heap stays j.recovered (set j.recovered a word) (set_place (heap_of j.recovered) p x) (λ loose. (back loose).0)

  goes_back_so : (if stays then heap_of j.recovered else set_place (heap_of j.recovered) p x)
      ≡ (if goes_back (keeping (heap_view j n)) a then heap_of j.recovered else set_place (heap_of j.recovered) p x)
  unfolding goes_back
  goes_back_so =
      let same : goes_back (keeping (heap_view j n)) a ≡ goes_back (journal_keeping j) a = ap (λ k. goes_back k a) (keeping_view j n s.back) in
      kept_or_born j.in_transaction (is_kept j a) (nat_le (born_of j.recovered) a) (heap_of j.recovered) (set_place (heap_of j.recovered) p x)
      (λ loose born. sym (back loose).0 ∙ (above_top j.recovered a word s.back (omega (arith, leb-true (born_of j.recovered) a born))).0)
      ∙ sym (ap (λ (g : Bool). if g then heap_of j.recovered else set_place (heap_of j.recovered) p x) same)

  both_here : heap_view (after_write_in_place j a word) n ≡ write_nonatomic (heap_view j n) p x
  both_here =
      let set_there = place_set j.plain p x (s.now up) h may in
      λ k. record (heap_view j n) {
        now = set_there.0 k;
        durable = (durable_is ∙ goes_back_so) k;
        passed = saturating_count j.passed 1;
      }

  sound_here : IsSound (after_write_in_place j a word) n
  sound_here =
      let set_there = place_set j.plain p x (s.now up) h may in
      let size : length (set j.plain a word) ≡ length j.plain = length-set j.plain a word in
      record {
        back = either_words IsWellFormed stays j.recovered (set j.recovered a word) s.back (λ loose. (back loose).1);
        size_recovered = either_words (λ l. length l ≡ n) stays j.recovered (set j.recovered a word) s.size_recovered
            (λ loose. length-set j.recovered a word ∙ s.size_recovered);
        small = s.small;
        now = λ _. set_there.1;
        size_now = λ _. size ∙ s.size_now up;
        order = λ _. either_words (λ l. get_or l top_address 0 ≤ get_or (set j.plain a word) top_address 0) stays j.recovered (set j.recovered a word)
            (omega (arith, s.order up, set_there.2)) (λ loose. omega (arith, s.order up, set_there.2, (back loose).2));
        shape = λ _. either_words (λ l. SameShape (heap_of l) (heap_of (set j.plain a word))) stays j.recovered (set j.recovered a word)
            (subst (SameShape (heap_of j.recovered)) (sym set_there.0) (place_shape (heap_of j.recovered) (heap_of j.plain) p x (s.shape up)))
            (λ loose. subst (λ d. SameShape d (heap_of (set j.plain a word))) (sym (back loose).0)
            (subst (SameShape (set_place (heap_of j.recovered) p x)) (sym set_there.0)
            (place_shape_both (heap_of j.recovered) (heap_of j.plain) p x (s.shape up))));
        settled = λ _ closed. settled_both j.in_transaction (is_kept j a) j.recovered j.plain a word closed (s.settled up closed);
      }

-- the same of a heap's view, and of the word and the value that are written
pub both_view : (j : State) (v : HeapView) (n : ℕ) (p : Place) (x a word : ℕ) → heap_view j n ≡ v → HasPlace v.now p → MayHold v.now p x → j.down ≡ false
    → IsSound j n → a ≡ place_at v.now p → word ≡ word_for j.plain p x → (is_kept j a ≡ false → get_or j.recovered a 0 ≡ get_or j.plain a 0)
    → (heap_view (after_write_in_place j a word) n ≡ write_nonatomic v p x) × IsSound (after_write_in_place j a word) n
both_view j v n p x a word is h may up s at says unkept =
    subst (λ u. HasPlace u.now p → MayHold u.now p x → a ≡ place_at u.now p
    → (heap_view (after_write_in_place j a word) n ≡ write_nonatomic u p x) × IsSound (after_write_in_place j a word) n) is
    (λ there fits here.
    let loose = subst (λ (b : ℕ). is_kept j b ≡ false → get_or j.recovered b 0 ≡ get_or j.plain b 0) here unkept in
    subst (λ (c : ℕ × ℕ). (heap_view (after_write_in_place j c.0 c.1) n ≡ write_nonatomic (heap_view j n) p x) × IsSound (after_write_in_place j c.0 c.1) n)
    (λ k. (sym here k, sym says k)) (both_here j n p x there fits up s loose, sound_here j n p x there fits up s loose)) h may at
