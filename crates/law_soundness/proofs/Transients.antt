-- Transient cells keep no reference to what is gone.
use Rattle.std.proofs.Common.{◌≡◌, ℕ, ◌+◌, ◌-◌, ◌<◌, ◌≤◌, ◌⊎◌, Bool, true, false, inl, inr, List, ◌++◌, length, take, drop, map, get_or, refl, sym, ◌∙◌, ap, subst}
use Rattle.std.proofs.Common.{arith, Some, None, if◌then◌else◌}
use Rattle.std.proofs.Math.ListN.{get_or-map}
use Rattle.std.proofs.lemmas.Bool.{cases_eq, cases_lt, eqb-true, ltb-true, or_cases, true≢false}
use Rattle.std.proofs.lemmas.List.{get_or-append_right, get_or_append_left, get_or-drop, get_or-replicate, get_or-take, get_or_past, length-append, length-drop, length-map}
use Rattle.std.proofs.lemmas.List.{length-replicate, length-set, length-take-le}
use Rattle.std.proofs.lemmas.Option.{none-some, same_Some}
use Rattle.std.specs.Prelude.{◌==◌, nat_lt, pos, replicate, set}
use Rattle.jc_transient.specs.declared.cell.CellValue.{CellValue}
use Rattle.jc_transient.specs.declared.cell.CellValue.TheVariants.{Short, Reference}
use Rattle.jc_transient.specs.declared.cell.ClearEvent.{ClearEvent}
use Rattle.jc_transient.specs.declared.sizes.RamSizes.{RamSizes}
use Rattle.jc_transient.specs.declared.cell.ClearEvent.TheVariants.{Reset, Deselect}
use Rattle.jc_transient.specs.Cell.{default_value, number_of, without_dead}
use Rattle.jc_transient.specs.State.{RamState, HasSizes, IsCleared, area, area_size, cell_at, ram_sizes, size_in, with_area, with_cells}
use Rattle.jc_heap.specs.declared.object.Facts.{Facts}
use Rattle.jc_heap.specs.declared.object.Kind.{Kind}
use Rattle.jc_heap.specs.declared.object.Kind.TheVariants.{ReferenceArray}
use Rattle.jc_heap.specs.Object.{Object, facts_of, header_only, is_object, new_transient}
use Rattle.jc_heap.specs.Heap.{HeapState, HeapView, IsObject, LacksCells, add_object, add_transient, area_end, area_limit, area_sizes, facts, heap_item_at, is_allocated, with_area_end}
use Rattle.jc_heap.specs.HeapLaws.{AreConsistent, IsConsistentHeap}
use Rattle.jc_heap.specs.WholeHeap.{IsConsistent, IsReference}
use Rattle.jc_heap.proofs.Laws.{heap_item_at-absent, heap_item_at-add_object, heap_item_at-add_other, object_named, same_facts}
use Rattle.jc_heap.proofs.OwnCells.{owns_cells}
use Rattle.jc_memory.specs.State.{MemoryState, ram_after_set, ram_unflagged, ram_without_dead, zero_of}
use Rattle.jc_packages.specs.Objects.{is_object_address, is_reference}
use Rattle.law_code.proofs.ObjectsOutside.{area_long}
use Rattle.law_soundness.specs.MemoryLaws.Fit.{FitsFill}
use Rattle.law_soundness.specs.MemoryLaws.State.{HasLivingElements, IsLivingElement, IsLivingValue, TransientCells}
use Rattle.law_soundness.proofs.Frames.{same_object}

abbrev blank : CellValue
blank = Short (pos 0)

-- ---- cells of an area that are set

pub put_long : (xs vs : List CellValue) (a : ℕ) → a + length vs ≤ length xs → length (with_cells xs a vs) ≡ length xs
put_long xs vs a le =
    let whole = length-append (take a xs) (vs ++ drop (a + length vs) xs) in
    let rest = length-append vs (drop (a + length vs) xs) in
    let last = length-drop (a + length vs) xs in
    let first = length-take-le a xs (omega (arith, le)) in
    omega (arith, whole, rest, last, first, le)

-- a cell is one of those that are set, or as it was
put_cell : (P : CellValue → Type 0) (xs vs : List CellValue) (a k : ℕ) → a + length vs ≤ length xs → ((k < a) ⊎ (a + length vs ≤ k) → P (get_or xs k blank))
    → (a ≤ k → k - a < length vs → P (get_or vs (k - a) blank)) → P (get_or (with_cells xs a vs) k blank)
put_cell P xs vs a k le old new =
    let first : length (take a xs) ≡ a = length-take-le a xs (omega (arith, le)) in
    elim (cases_lt k a) [
      | inl before ↦ subst P (sym (get_or_append_left (take a xs) (vs ++ drop (a + length vs) xs) blank k (omega (arith, first, before))
          ∙ get_or-take a xs k blank before)) (old (inl before))
      | inr from ↦
          let there = get_or-append_right (take a xs) (vs ++ drop (a + length vs) xs) a k blank first from in
          elim (cases_lt (k - a) (length vs)) [
            | inl within ↦ subst P (sym (there ∙ get_or_append_left vs (drop (a + length vs) xs) blank (k - a) within)) (new from within)
            | inr behind ↦
                let place : a + length vs + (k - a - length vs) ≡ k = omega (arith, from, behind) in
                subst P (sym (there ∙ get_or-append_right vs (drop (a + length vs) xs) (length vs) (k - a) blank refl behind
                ∙ get_or-drop (a + length vs) xs (k - a - length vs) blank ∙ ap (λ n. get_or xs n blank) place)) (old (inr (omega (arith, from, behind))))
          ]
    ]

with_sized : (ram : RamState) (event : ClearEvent) (cells : List CellValue) → HasSizes ram → length cells ≡ area_size ram event
    → HasSizes (with_area ram event cells)
with_sized ram Reset cells sizes long = record { reset_cells = long; deselect_cells = sizes.deselect_cells; flags = sizes.flags }
with_sized ram Deselect cells sizes long = record { reset_cells = sizes.reset_cells; deselect_cells = long; flags = sizes.flags }

-- values put into an event's area from a place on
abbrev put : RamState → ℕ → List CellValue → ClearEvent → RamState
put ram at vs event = with_area ram event (with_cells (area ram event) at vs)

-- the sizes stay
put_same : (ram : RamState) (event : ClearEvent) (cells : List CellValue) → (with_area ram event cells).sizes ≡ ram.sizes
put_same ram Reset cells = refl
put_same ram Deselect cells = refl

put_sized : (ram : RamState) → HasSizes ram → (at : ℕ) (vs : List CellValue) (event : ClearEvent) → at + length vs ≤ area_size ram event → HasSizes (put ram at vs event)
put_sized ram sizes at vs event fits =
    let size = area_long ram event sizes in
    with_sized ram event _ sizes (put_long (area ram event) vs at (omega (arith, size, fits)) ∙ size)

-- so it is in both areas
put_at : (ram : RamState) → HasSizes ram → (at : ℕ) (vs : List CellValue) (P : CellValue → Type 0) (event e : ClearEvent) (k : ℕ)
    → at + length vs ≤ area_size ram event → ((e ≡ event → (k < at) ⊎ (at + length vs ≤ k)) → P (cell_at ram e k))
    → (e ≡ event → at ≤ k → k - at < length vs → P (get_or vs (k - at) blank)) → P (cell_at (put ram at vs event) e k)
put_at ram sizes at vs P Reset Reset k fits old new = put_cell P ram.reset_cells vs at k (let size = sizes.reset_cells in omega (arith, size, fits))
    (λ apart. old (λ is. apart)) (new refl)
put_at ram sizes at vs P Deselect Deselect k fits old new = put_cell P ram.deselect_cells vs at k (let size = sizes.deselect_cells in omega (arith, size, fits))
    (λ apart. old (λ is. apart)) (new refl)
put_at ram sizes at vs P Reset Deselect k fits old new = old (λ is. absurd cc)
put_at ram sizes at vs P Deselect Reset k fits old new = old (λ is. absurd cc)

-- what is recognised as a reference is one
pub names_object : (h : HeapState) (v : ℕ) → is_reference h v ≡ true → IsReference h v
names_object h v is = elim (or_cases (v == 0) (is_object_address h v) is) [
  | inl z ↦ inl (eqb-true v 0 z)
  | inr there ↦ inr there
]

-- ---- what lives in a heap lives in another that has its objects

module _ (h g : HeapState) (more : (r : ℕ) → IsObject h r → IsObject g r) where
  value_more : (v : CellValue) → IsLivingValue h v → IsLivingValue g v
  value_more (Short v) lives = tt
  value_more (Reference r) (inl null) = inl null
  value_more (Reference r) (inr there) = inr (more r there)

  element_more : (v : CellValue) → IsLivingElement h v → IsLivingElement g v
  element_more (Short v) lives = lives
  element_more (Reference r) (inl null) = inl null
  element_more (Reference r) (inr there) = inr (more r there)

-- a persistent object has none
pub no_elements : (h : HeapState) (ram : RamState) (f : Facts) → f.event ≡ None → HasLivingElements h ram f
no_elements h ram f none = λ event i array kept lt. absurd (none-some event (sym none ∙ kept))

-- each cell became another one, and what lived lives; each object has the header that it had, or living elements
pub record AreCarried (h g : HeapState) (ram new : RamState) (change : ClearEvent → CellValue → CellValue) : Type 0 where
  pub sizes : HasSizes new
  pub contents : new.sizes ≡ ram.sizes
  pub words : g.lasting ≡ h.lasting
  pub cells : (event : ClearEvent) (place : ℕ) → cell_at new event place ≡ change event (cell_at ram event place)
  pub values : (event : ClearEvent) (v : CellValue) → IsLivingValue h v → IsLivingValue g (change event v)
  pub elements : (event : ClearEvent) (v : CellValue) → IsLivingElement h v → IsLivingElement g (change event v)
  pub headers : (r : ℕ) → (facts g r ≡ facts h r) ⊎ HasLivingElements g new (facts g r)

pub carried : (h g : HeapState) (ram new : RamState) (change : ClearEvent → CellValue → CellValue) → AreCarried h g ram new change → TransientCells h ram
    → TransientCells g new
carried h g ram new change c t = record {
  sizes = c.sizes;
  fits = c.contents ∙ t.fits ∙ ap (λ (l : List ℕ). ram_sizes (get_or l 1 0) (get_or l 2 0)) (sym c.words);
  values = λ event place. subst (IsLivingValue g) (sym (c.cells event place)) (c.values event (cell_at ram event place) (t.values event place));
  elements = λ r. elim (c.headers r) [
    | inl same ↦ subst (HasLivingElements g new) (sym same) (λ event i array kept lt. subst (IsLivingElement g)
        (sym (c.cells event ((facts h r).place + i))) (c.elements event (cell_at ram event ((facts h r).place + i)) (t.elements r event i array kept lt)))
    | inr lives ↦ lives
  ];
}

-- with the same cells, over a heap with more objects
pub more_carried : (h g : HeapState) (ram : RamState) → g.lasting ≡ h.lasting → ((r : ℕ) → IsObject h r → IsObject g r)
    → ((r : ℕ) → (facts g r ≡ facts h r) ⊎ ((facts g r).event ≡ None)) → TransientCells h ram → TransientCells g ram
more_carried h g ram words more headers t = carried h g ram ram (λ event v. v) (record {
  sizes = t.sizes;
  contents = refl;
  words = words;
  cells = λ event place. refl;
  values = λ event v. value_more h g more v;
  elements = λ event v. element_more h g more v;
  headers = λ r. elim (headers r) [
    | inl same ↦ inl same
    | inr none ↦ inr (no_elements g ram (facts g r) none)
  ];
}) t

-- where each header is as it was
pub same_carried : (h g : HeapState) (ram : RamState) → g.lasting ≡ h.lasting → ((r : ℕ) → header_only (heap_item_at g r) ≡ header_only (heap_item_at h r)) → TransientCells h ram
    → TransientCells g ram
same_carried h g ram words same t = more_carried h g ram words (λ r there. same_object (heap_item_at g r) (heap_item_at h r) (same r) ∙ there)
    (λ r. inl (same_facts (heap_item_at g r) (heap_item_at h r) (same r))) t

-- ---- flags, clearing, an abort, and what a reset leaves

flagged_cells : (ram : RamState) (flags : List Bool) (event : ClearEvent) (place : ℕ) → cell_at (record ram { flags = flags }) event place ≡ cell_at ram event place
flagged_cells ram flags Reset place = refl
flagged_cells ram flags Deselect place = refl

flags_sized : (ram : RamState) (flags : List Bool) → length flags ≡ length ram.flags → HasSizes ram → HasSizes (record ram { flags = flags })
flags_sized ram flags same sizes = record { reset_cells = sizes.reset_cells; deselect_cells = sizes.deselect_cells; flags = same ∙ sizes.flags }

pub flags_carried : (h : HeapState) (ram : RamState) (flags : List Bool) → length flags ≡ length ram.flags → TransientCells h ram
    → TransientCells h (record ram { flags = flags })
flags_carried h ram flags same t = carried h h ram (record ram { flags = flags }) (λ event v. v) (record {
  sizes = flags_sized ram flags same t.sizes;
  contents = refl;
  words = refl;
  cells = flagged_cells ram flags;
  values = λ event v lives. lives;
  elements = λ event v lives. lives;
  headers = λ r. inl refl;
}) t

default_value_lives : (h : HeapState) (v : CellValue) → IsLivingValue h (default_value v)
default_value_lives h (Short v) = tt
default_value_lives h (Reference r) = inl refl

default_element_lives : (h : HeapState) (v : CellValue) → IsLivingElement h (default_value v)
default_element_lives h (Short v) = refl
default_element_lives h (Reference r) = inl refl

-- what a clearing does to a cell of an area
abbrev cleared_by : ClearEvent → ClearEvent → CellValue → CellValue
cleared_by Reset Reset v = default_value v
cleared_by Deselect Deselect v = default_value v
cleared_by Reset Deselect v = v
cleared_by Deselect Reset v = v

module _ (h : HeapState) (ram : RamState) (t : TransientCells h ram) where
  cleared_cells : (event e : ClearEvent) (place : ℕ) → cell_at (with_area ram event (map default_value (area ram event))) e place
      ≡ cleared_by event e (cell_at ram e place)
  cleared_cells Reset Reset place = get_or-map default_value ram.reset_cells place blank
  cleared_cells Deselect Deselect place = get_or-map default_value ram.deselect_cells place blank
  cleared_cells Reset Deselect place = refl
  cleared_cells Deselect Reset place = refl

  cleared_values : (event e : ClearEvent) (v : CellValue) → IsLivingValue h v → IsLivingValue h (cleared_by event e v)
  cleared_values Reset Reset v lives = default_value_lives h v
  cleared_values Deselect Deselect v lives = default_value_lives h v
  cleared_values Reset Deselect v lives = lives
  cleared_values Deselect Reset v lives = lives

  cleared_elements : (event e : ClearEvent) (v : CellValue) → IsLivingElement h v → IsLivingElement h (cleared_by event e v)
  cleared_elements Reset Reset v lives = default_element_lives h v
  cleared_elements Deselect Deselect v lives = default_element_lives h v
  cleared_elements Reset Deselect v lives = lives
  cleared_elements Deselect Reset v lives = lives

  pub cleared_carried : (event : ClearEvent) → TransientCells h (with_area ram event (map default_value (area ram event)))
  cleared_carried event = carried h h ram _ (cleared_by event) (record {
    sizes = with_sized ram event _ t.sizes (length-map (area ram event) default_value ∙ area_long ram event t.sizes);
    contents = put_same ram event (map default_value (area ram event));
    words = refl;
    cells = cleared_cells event;
    values = cleared_values event;
    elements = cleared_elements event;
    headers = λ r. inl refl;
  }) t

-- a heap over which all cells are zero
pub blank_lives : (h : HeapState) (ram : RamState) → IsCleared ram → ram.sizes ≡ area_sizes h → TransientCells h ram
blank_lives h ram clear fits = record {
  sizes = clear.sizes;
  fits = fits;
  values = λ event place. subst (IsLivingValue h) (sym (clear.cells event place)) tt;
  elements = λ r event i array kept lt. subst (IsLivingElement h) (sym (clear.cells event ((facts h r).place + i))) refl;
}

module _ (v : HeapView) (whole : AreConsistent v) (ram : RamState) (t : TransientCells v.now ram) where
  abbrev top : ℕ
  top = v.durable.top

  abbrev durable : HeapState
  durable = v.durable

  dead_at : (event : ClearEvent) (place : ℕ) → cell_at (ram_without_dead top ram) event place ≡ without_dead top (cell_at ram event place)
  dead_at Reset place = get_or-map (without_dead top) ram.reset_cells place blank
  dead_at Deselect place = get_or-map (without_dead top) ram.deselect_cells place blank

  pub left : (r : ℕ) (b : Bool) → nat_lt r top ≡ b → IsReference v.now r → IsReference durable (if b then r else 0)
  left r false high refers = inl refl
  left r true low (inl null) = inl null
  left r true low (inr there) = inr (sym (same_object (heap_item_at v.now r) (heap_item_at durable r) (whole.shape.items r (ltb-true r top low))) ∙ there)

  left_value : (event : ClearEvent) (x : CellValue) → IsLivingValue v.now x → IsLivingValue durable (without_dead top x)
  left_value event (Short n) lives = tt
  left_value event (Reference r) lives = left r (nat_lt r top) refl lives

  left_element : (event : ClearEvent) (x : CellValue) → IsLivingElement v.now x → IsLivingElement durable (without_dead top x)
  left_element event (Short n) lives = lives
  left_element event (Reference r) lives = left r (nat_lt r top) refl lives

  -- an abort makes what it takes away null
  pub abort_carried : TransientCells durable (ram_without_dead top ram)
  abort_carried = carried v.now durable ram (ram_without_dead top ram) (λ event. without_dead top) (record {
    sizes = record {
      reset_cells = length-map ram.reset_cells (without_dead top) ∙ t.sizes.reset_cells;
      deselect_cells = length-map ram.deselect_cells (without_dead top) ∙ t.sizes.deselect_cells;
      flags = t.sizes.flags;
    };
    contents = refl;
    words = sym whole.shape.lasting;
    cells = dead_at;
    values = left_value;
    elements = left_element;
    headers = λ r. elim (cases_lt r top) [
      | inl low ↦ inl (sym (same_facts (heap_item_at v.now r) (heap_item_at durable r) (whole.shape.items r low)))
      | inr high ↦ inr (no_elements durable (ram_without_dead top ram) (facts durable r) (ap (λ t. (facts_of t).event) (heap_item_at-absent durable r (whole.durable.end r high))))
    ];
  }) t

-- ---- cells of an object are set

module _ (m : MemoryState) (whole : IsConsistent m.heap.now) (t : TransientCells m.heap.now m.ram) (r i : ℕ) (values : List CellValue) (fits : FitsFill m r i values) where
  abbrev now : HeapState
  now = m.heap.now

  abbrev begin : ℕ
  begin = (facts now r).place + i

  module _ (event : ClearEvent) (is : (facts now r).event ≡ Some event) where
    inside : begin + length values ≤ area_size m.ram event
    inside =
        let below = (owns_cells now whole).below r event is in
        let end = (whole.areas event).fits in
        let within = fits.within in
        let same = ap (λ (z : RamSizes). size_in z event) t.fits in
        omega (arith, below, end, within, same)

    abbrev filled : RamState
    filled = with_area m.ram event (with_cells (area m.ram event) begin values)

    filled_value : (e : ClearEvent) (k : ℕ) → IsLivingValue now (cell_at filled e k)
    filled_value e k = put_at m.ram t.sizes begin values (IsLivingValue now) event e k inside (λ other. t.values e k) (λ same from lt. fits.living (k - begin) lt)

    -- the cells of another object are none of those that are set
    elsewhere : (q : ℕ) (e : ClearEvent) (j : ℕ) → (r ≡ q → ⊥) → (facts now q).event ≡ Some e → j < (facts now q).length → e ≡ event
        → begin ≤ (facts now q).place + j → (facts now q).place + j - begin < length values → ⊥
    elsewhere q e j other kept lt same from within =
        let room = fits.within in
        elim ((owns_cells now whole).apart r q event other is (kept ∙ ap Some same)) [
          | inl le ↦ omega (arith, le, from, within, room)
          | inr le ↦ omega (arith, le, from, lt)
        ]

    filled_element : (q : ℕ) → HasLivingElements now filled (facts now q)
    filled_element q e j array kept lt = put_at m.ram t.sizes begin values (IsLivingElement now) event e ((facts now q).place + j) inside
        (λ other. t.elements q e j array kept lt)
        (λ same from within. elim (cases_eq r q) [
          | inl is ↦ fits.elements (ap (λ o. (facts now o).kind) is ∙ array) ((facts now q).place + j - begin) within
          | inr other ↦ absurd (elsewhere q e j other kept lt same from within)
        ])

    filled_carried : TransientCells now filled
    filled_carried = record { sizes = put_sized m.ram t.sizes begin values event inside; fits = put_same m.ram event _ ∙ t.fits; values = filled_value; elements = filled_element }

  pub fill_carried : TransientCells now (ram_after_set m.ram (facts now r).event begin values)
  fill_carried = by_event (facts now r).event refl
    where
      by_event : (event : _) → (facts now r).event ≡ event → TransientCells now (ram_after_set m.ram event begin values)
      by_event None is = t
      by_event (Some event) is = filled_carried event is

-- ---- a new object

module _ (h : HeapState) (ram : RamState) (o : Object) (n : ℕ) (free : is_allocated h h.top ≡ false) where
  abbrev g : HeapState
  g = add_object h o n

  stays : (q : ℕ) → IsObject h q → IsObject g q
  stays q there = ap is_object (heap_item_at-add_other h o n q (λ same. true≢false (sym (object_named h q there) ∙ ap (is_allocated h) (sym same) ∙ free))) ∙ there

  -- one that has living elements, or none
  same_words : g.lasting ≡ h.lasting
  unfolding add_object
  same_words = refl

  pub added : HasLivingElements g ram o.facts → TransientCells h ram → TransientCells g ram
  added lives t = carried h g ram ram (λ event v. v) (record {
    sizes = t.sizes;
    contents = refl;
    words = same_words;
    cells = λ event place. refl;
    values = λ event v. value_more h g stays v;
    elements = λ event v. element_more h g stays v;
    headers = λ r. elim (cases_eq h.top r) [
      | inl is ↦ inr (subst (λ q. HasLivingElements g ram (facts g q)) is
          (subst (HasLivingElements g ram) (sym (ap facts_of (heap_item_at-add_object h o n free))) lives))
      | inr other ↦ inl (ap facts_of (heap_item_at-add_other h o n r other))
    ];
  }) t

  pub object_carried : o.facts.event ≡ None → TransientCells h ram → TransientCells g (ram_unflagged h.top ram)
  object_carried none t = flags_carried g ram (set ram.flags h.top false) (length-set ram.flags h.top false) (added (no_elements g ram o.facts none) t)

-- the ends of the areas are none of an object's
ended_carried : (h : HeapState) (ram : RamState) (event : ClearEvent) (end : ℕ) → TransientCells h ram → TransientCells (with_area_end h event end) ram
unfolding heap_item_at
ended_carried h ram Reset end t = same_carried h (with_area_end h Reset end) ram refl (λ r. refl) t
ended_carried h ram Deselect end t = same_carried h (with_area_end h Deselect end) ram refl (λ r. refl) t

zero_lives : (h : HeapState) (kind : Kind) → IsLivingValue h (zero_of kind)
zero_lives h ReferenceArray = inl refl
zero_lives h _ = tt

null_lives : (h : HeapState) (kind : Kind) → kind ≡ ReferenceArray → IsLivingElement h (zero_of kind)
null_lives h kind is = subst (λ k. IsLivingElement h (zero_of k)) (sym is) (inl refl)

module _ (h : HeapState) (stands : IsConsistentHeap h) (ram : RamState) (t : TransientCells h ram) (kind : Kind) (event : ClearEvent) (class owner long : ℕ)
    (space : LacksCells h event long → ⊥) where
  abbrev values : List CellValue
  values = replicate long (zero_of kind)

  abbrev end : ℕ
  end = area_end h event

  room : end + length values ≤ area_size ram event
  room =
      let size = length-replicate long (zero_of kind) in
      let same = ap (λ (z : RamSizes). size_in z event) t.fits in
      elim (cases_lt (area_limit h event) (end + long)) [
        | inl lacks ↦ absurd (space lacks)
        | inr le ↦ omega (arith, size, le, same)
      ]

  abbrev zeroed : RamState
  zeroed = with_area ram event (with_cells (area ram event) end values)

  each_zero : (P : CellValue → Type 0) (k : ℕ) → k < length values → P (zero_of kind) → P (get_or values k blank)
  each_zero P k lt zero = subst P (sym (get_or-replicate long k (zero_of kind) blank (let size = length-replicate long (zero_of kind) in omega (arith, lt, size)))) zero

  zeroed_carried : TransientCells h zeroed
  zeroed_carried = record {
    sizes = put_sized ram t.sizes end values event room;
    fits = put_same ram event _ ∙ t.fits;
    values = λ e k. put_at ram t.sizes end values (IsLivingValue h) event e k room (λ other. t.values e k)
        (λ same from lt. each_zero (IsLivingValue h) (k - end) lt (zero_lives h kind));
    elements = λ q e j array kept lt. put_at ram t.sizes end values (IsLivingElement h) event e ((facts h q).place + j) room
        (λ other. t.elements q e j array kept lt)
        (λ same from within. let below = (owns_cells h stands.whole).below q event (kept ∙ ap Some same) in absurd (omega (arith, below, from, lt)));
  }

  abbrev o : Object
  o = new_transient kind event class owner long end

  -- its own cells are null
  new_elements : (k : HeapState) → HasLivingElements k zeroed o.facts
  new_elements k e j array kept lt = put_at ram t.sizes end values (IsLivingElement k) event e (end + j) room
      (λ other. let size = length-replicate long (zero_of kind) in elim (other (sym (same_Some event e kept))) [
        | inl before ↦ absurd (omega (arith, before))
        | inr behind ↦ absurd (omega (arith, behind, lt, size))
      ])
      (λ same from within. each_zero (IsLivingElement k) (end + j - end) within (null_lives k kind array))

  pub transient_carried : TransientCells (add_transient h kind event class owner long) (ram_unflagged h.top (ram_after_set ram (Some event) end values))
  unfolding add_transient
  transient_carried = ended_carried (add_object h o 5) _ event (end + long)
      (flags_carried (add_object h o 5) zeroed (set zeroed.flags h.top false) (length-set zeroed.flags h.top false)
      (added h zeroed o 5 (stands.end h.top (omega arith)) (new_elements (add_object h o 5)) zeroed_carried))

-- ---- what fits into cells

-- numbers fit, but into an array of references
numbers_live : (h : HeapState) (words : List ℕ) (k : ℕ) → IsLivingValue h (get_or (map number_of words) k blank)
numbers_live h words k = elim (cases_lt k (length (map number_of words))) [
  | inl lt ↦ subst (IsLivingValue h) (sym (get_or-map number_of words k 0)) tt
  | inr past ↦ subst (IsLivingValue h) (sym (get_or_past (map number_of words) k blank past)) tt
]

pub numbers_fit : (m : MemoryState) (r i : ℕ) (words : List ℕ) → i + length words ≤ (facts m.heap.now r).length → ((facts m.heap.now r).kind ≡ ReferenceArray → ⊥)
    → FitsFill m r i (map number_of words)
numbers_fit m r i words within none = record {
  within = let size = length-map words number_of in omega (arith, size, within);
  living = λ k lt. numbers_live m.heap.now words k;
  elements = λ array k lt. absurd (none array);
}
