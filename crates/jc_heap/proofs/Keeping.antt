-- What keeps a heap whole.
use Rattle.std.proofs.Common.{◌≡◌, ℕ, suc, ◌+◌, ◌<◌, ◌≤◌, true, false, inl, inr, List, [], ◌∷◌, ◌++◌, ◌==◌, None, Some, length, get_or, set, refl, sym, ◌∙◌, ap}
use Rattle.std.proofs.Common.{subst, arith, if◌then◌else◌}
use Rattle.std.proofs.lemmas.List.{get_or-set_same, get_or-set_other}
use Rattle.std.proofs.lemmas.Bool.{cases_eq, cases_Bool, eq-eqb, ne_eqb, false≢true}
use Rattle.jc_words.specs.Layout.{most_packages, most_applets}
use Rattle.jc_transient.specs.declared.cell.ClearEvent.{ClearEvent}
use Rattle.jc_transient.specs.declared.cell.ClearEvent.TheVariants.{Reset, Deselect}
use Rattle.jc_transient.specs.State.{AreSizes}
use Rattle.jc_heap.specs.declared.object.Kind.{Kind}
use Rattle.jc_heap.specs.declared.object.Kind.TheVariants.{ReferenceArray}
use Rattle.jc_heap.specs.Walk.{entry_or, with_entry}
use Rattle.jc_heap.specs.Object.{Object, Item, AnObject, APackage, facts_of, cells_of, is_object, with_cell, header_only, new_transient, transient_size}
use Rattle.jc_heap.specs.Object.{event_number}
use Rattle.jc_heap.specs.Heap.{HeapState, heap_item_at, is_allocated, cells, facts, area_end, area_limit, with_area_end, set_cell, set_cells, add_object, add_transient}
use Rattle.jc_heap.specs.Heap.{LacksCells, buffer_word, cells_word}
use Rattle.jc_heap.specs.Component.{words_of, record_of}
use Rattle.jc_heap.specs.WholeHeap.{lies_in, cells_in, FitsAt, IsFilledArea, IsReference, HoldsReferences, AreAllocated, AreRecords, AreDistinct, IsConsistent}
use Rattle.jc_heap.proofs.Laws.{heap_item_at-add_object, heap_item_at-add_other, is_allocated-add_other, is_allocated-set_cell, heap_item_at-set_cell}
use Rattle.jc_heap.proofs.Laws.{cells-with_cell, set_cell-absent, facts-set_cell, length-cells-set_cell, cells-set_other, header_only-set_cell}
use Rattle.jc_heap.proofs.RecordWords.{same_words}
use Rattle.jc_heap.proofs.AreaRuns.{Run, filled_of, run_of}
use Rattle.jc_heap.proofs.Laws.{object_named}

-- what a whole heap's words say but of the areas
pub record IsReferring (h : HeapState) : Type 0 where
  pub few_packages : h.counts.0 ≤ most_packages
  pub few_applets : h.counts.1 ≤ most_applets
  pub met : AreAllocated h h.packages
  pub records : AreRecords h h.packages
  pub distinct : AreDistinct h.packages
  pub references : (r : ℕ) → HoldsReferences h (heap_item_at h r)
  pub sizes : AreSizes (cells_word h) (buffer_word h)

referring_of : (h : HeapState) → IsConsistent h → IsReferring h
referring_of h w = record {
  few_packages = w.few_packages;
  few_applets = w.few_applets;
  met = w.met;
  records = w.records;
  distinct = w.distinct;
  references = w.references;
  sizes = w.sizes;
}

whole_of : (h : HeapState) → IsReferring h → ((event : ClearEvent) → IsFilledArea h event) → IsConsistent h
whole_of h w areas = record {
  few_packages = w.few_packages;
  few_applets = w.few_applets;
  met = w.met;
  records = w.records;
  distinct = w.distinct;
  references = w.references;
  sizes = w.sizes;
  areas = areas;
}

-- a heap in which nothing stands
no_references : (h : HeapState) → h.items ≡ [] → (r : ℕ) → HoldsReferences h (heap_item_at h r)
unfolding heap_item_at
no_references h e r kind i lt = let none : i < 0 = subst (λ l. i < length (cells_of (entry_or (APackage []) l r))) e lt in absurd (omega arith)

empty_filled : (h : HeapState) → h.items ≡ [] → h.area_ends ≡ (0, 0) → (event : ClearEvent) → IsFilledArea h event
empty_filled h e ends Reset = filled_of h Reset (subst (λ l. Run Reset (area_limit h Reset) 0 l (h.area_ends.0)) (sym e) (ap (λ p. p.0) ends, omega arith))
empty_filled h e ends Deselect = filled_of h Deselect (subst (λ l. Run Deselect (area_limit h Deselect) 0 l (h.area_ends.1)) (sym e) (ap (λ p. p.1) ends, omega arith))

pub empty_whole : (h : HeapState) → h.items ≡ [] → h.counts ≡ (0, 0) → h.packages ≡ [] → h.area_ends ≡ (0, 0)
    → AreSizes (cells_word h) (buffer_word h) → IsConsistent h
empty_whole h e counts packages ends sizes =
    let none : length h.packages ≡ 0 = ap length packages in
    record {
      few_packages = omega (arith, ap (λ p. p.0) counts);
      few_applets = omega (arith, ap (λ p. p.1) counts);
      met = λ k lt. absurd (omega arith);
      records = λ k lt. absurd (omega arith);
      distinct = λ j k jk lt same. omega arith;
      references = no_references h e;
      sizes = sizes;
      areas = empty_filled h e ends;
    }

-- another item after the others
pub run_push : (event : ClearEvent) (size place : ℕ) (es : List (ℕ × Item)) (end r : ℕ) (t : Item) → Run event size place es end → FitsAt event size end t
    → Run event size place (es ++ (r, t) ∷ []) (end + cells_in event t)
run_push event size place [] end r t run fits = (subst (λ p. FitsAt event size p t) run.0 fits, (ap (λ p. p + cells_in event t) run.0, omega (arith, fits.ends, run.0)))
run_push event size place (e ∷ es) end r t run fits = (run.0, run_push event size (place + cells_in event e.1) es end r t run.1 fits)

-- another object, at an address where nothing stands
module _ (h : HeapState) (o : Object) (n : ℕ) (free : is_allocated h h.top ≡ false) where
  other_name : (r : ℕ) → is_allocated h r ≡ true → h.top ≡ r → ⊥
  other_name r there e = false≢true (sym free ∙ ap (is_allocated h) e ∙ there)

  pub reference-add : (v : ℕ) → IsReference h v → IsReference (add_object h o n) v
  reference-add v ref = elim ref [
    | inl z ↦ inl z
    | inr there ↦ inr (ap is_object (heap_item_at-add_other h o n v (other_name v (object_named h v there))) ∙ there)
  ]

  references-add : HoldsReferences (add_object h o n) (AnObject o) → ((r : ℕ) → HoldsReferences h (heap_item_at h r)) → (r : ℕ)
      → HoldsReferences (add_object h o n) (heap_item_at (add_object h o n) r)
  references-add own all r = elim (cases_eq h.top r) [
    | inl e ↦ subst (HoldsReferences (add_object h o n)) (sym (heap_item_at-add_object h o n free) ∙ ap (heap_item_at (add_object h o n)) e) own
    | inr ne ↦ subst (HoldsReferences (add_object h o n)) (sym (heap_item_at-add_other h o n r ne))
        (λ kind i lt. reference-add (get_or (cells_of (heap_item_at h r)) i 0) (all r kind i lt))
  ]

  met-add : AreAllocated h h.packages → AreAllocated (add_object h o n) h.packages
  met-add met k lt = is_allocated-add_other h o n (get_or h.packages k 0) (other_name (get_or h.packages k 0) (met k lt)) ∙ met k lt

  records-add : AreAllocated h h.packages → AreRecords h h.packages → AreRecords (add_object h o n) h.packages
  records-add met all k lt =
      let same : record_of (add_object h o n) (get_or h.packages k 0) ≡ record_of h (get_or h.packages k 0) =
      ap words_of (heap_item_at-add_other h o n (get_or h.packages k 0) (other_name (get_or h.packages k 0) (met k lt))) in
      subst (λ l. 2 ≤ length l) (sym same) (all k lt)

  pub referring-add : HoldsReferences (add_object h o n) (AnObject o) → IsReferring h → IsReferring (add_object h o n)
  unfolding add_object
  referring-add own w = record {
    few_packages = w.few_packages;
    few_applets = w.few_applets;
    met = met-add w.met;
    records = records-add w.met w.records;
    distinct = w.distinct;
    references = references-add own w.references;
    sizes = w.sizes;
  }

-- a persistent one, whose cells are references where they have to be
filled-add : (h : HeapState) (o : Object) (n : ℕ) (event : ClearEvent) → lies_in event (AnObject o) ≡ false → IsFilledArea h event
    → IsFilledArea (add_object h o n) event
unfolding add_object
filled-add h o n event out f =
    let none : cells_in event (AnObject o) ≡ 0 = ap (λ b. if b then o.facts.length else 0) out in
    let run : Run event (area_limit h event) 0 h.items (area_end h event) = run_of h event f in
    let fits : FitsAt event (area_limit h event) (area_end h event) (AnObject o) = record {
      begins = λ there. absurd (false≢true (sym out ∙ there));
      ends = omega (arith, none, f.fits);
    } in
    filled_of (add_object h o n) event (subst (Run event (area_limit h event) 0 (h.items ++ (h.top, AnObject o) ∷ [])) (area_same h o n event none)
    (run_push event (area_limit h event) 0 h.items (area_end h event) h.top (AnObject o) run fits))
  where
    area_same : (h : HeapState) (o : Object) (n : ℕ) (event : ClearEvent) → cells_in event (AnObject o) ≡ 0
        → area_end h event + cells_in event (AnObject o) ≡ area_end (record h { items = h.items ++ (h.top, AnObject o) ∷ []; top = h.top + n }) event
    area_same h o n Reset none = omega (arith, none)
    area_same h o n Deselect none = omega (arith, none)

no_event : (event : ClearEvent) → (event_number None == event_number (Some event)) ≡ false
no_event Reset = refl
no_event Deselect = refl

pub persistent_out : (o : Object) (event : ClearEvent) → o.facts.event ≡ None → lies_in event (AnObject o) ≡ false
persistent_out o event none = ap (λ e. event_number e == event_number (Some event)) none ∙ no_event event

pub object_whole : (h : HeapState) (o : Object) (size : ℕ) → is_allocated h h.top ≡ false → o.facts.event ≡ None →
    (o.facts.kind ≡ ReferenceArray → (i : ℕ) → i < length o.cells → IsReference h (get_or o.cells i 0)) → IsConsistent h → IsConsistent (add_object h o size)
object_whole h o size free none right w =
    whole_of (add_object h o size)
    (referring-add h o size free (λ kind i lt. reference-add h o size free (get_or o.cells i 0) (right kind i lt)) (referring_of h w))
    (λ event. filled-add h o size event (persistent_out o event none) (w.areas event))

-- a transient one
referring-end : (h : HeapState) (event : ClearEvent) (end : ℕ) → IsReferring h → IsReferring (with_area_end h event end)
unfolding heap_item_at is_allocated
referring-end h Reset end w = record {
  few_packages = w.few_packages;
  few_applets = w.few_applets;
  met = w.met;
  records = w.records;
  distinct = w.distinct;
  references = w.references;
  sizes = w.sizes;
}
referring-end h Deselect end w = record {
  few_packages = w.few_packages;
  few_applets = w.few_applets;
  met = w.met;
  records = w.records;
  distinct = w.distinct;
  references = w.references;
  sizes = w.sizes;
}

-- its cells are the first free ones of its event's area
run-own : (h : HeapState) (event : ClearEvent) (o : Object) → lies_in event (AnObject o) ≡ true → o.facts.place ≡ area_end h event
    → area_end h event + o.facts.length ≤ area_limit h event → IsFilledArea h event →
    Run event (area_limit h event) 0 (h.items ++ (h.top, AnObject o) ∷ []) (area_end h event + o.facts.length)
run-own h event o lies place room f =
    let cells : cells_in event (AnObject o) ≡ o.facts.length = ap (λ b. if b then o.facts.length else 0) lies in
    subst (λ n. Run event (area_limit h event) 0 (h.items ++ (h.top, AnObject o) ∷ []) (area_end h event + n)) cells
    (run_push event (area_limit h event) 0 h.items (area_end h event) h.top (AnObject o) (run_of h event f) (record { begins = λ _. place; ends = omega (arith, cells, room) }))

-- the other area stays as it is
run-other : (h : HeapState) (event : ClearEvent) (o : Object) → lies_in event (AnObject o) ≡ false → IsFilledArea h event
    → Run event (area_limit h event) 0 (h.items ++ (h.top, AnObject o) ∷ []) (area_end h event)
run-other h event o out f =
    let none : cells_in event (AnObject o) ≡ 0 = ap (λ b. if b then o.facts.length else 0) out in
    let same : area_end h event + cells_in event (AnObject o) ≡ area_end h event = omega (arith, none) in
    subst (Run event (area_limit h event) 0 (h.items ++ (h.top, AnObject o) ∷ [])) same
    (run_push event (area_limit h event) 0 h.items (area_end h event) h.top (AnObject o) (run_of h event f)
    (record { begins = λ there. absurd (false≢true (sym out ∙ there)); ends = omega (arith, none, f.fits) }))

filled-transient : (h : HeapState) (kind : Kind) (event : ClearEvent) (class owner long : ℕ) → area_end h event + long ≤ area_limit h event
    → ((e : ClearEvent) → IsFilledArea h e) → (e : ClearEvent) → IsFilledArea (add_transient h kind event class owner long) e
unfolding add_transient add_object
filled-transient h kind Reset class owner long room f Reset =
    filled_of (add_transient h kind Reset class owner long) Reset (run-own h Reset (new_transient kind Reset class owner long (h.area_ends.0)) refl refl room
    (f Reset))
filled-transient h kind Reset class owner long room f Deselect =
    filled_of (add_transient h kind Reset class owner long) Deselect (run-other h Deselect (new_transient kind Reset class owner long (h.area_ends.0)) refl
    (f Deselect))
filled-transient h kind Deselect class owner long room f Reset =
    filled_of (add_transient h kind Deselect class owner long) Reset (run-other h Reset (new_transient kind Deselect class owner long (h.area_ends.1)) refl
    (f Reset))
filled-transient h kind Deselect class owner long room f Deselect =
    filled_of (add_transient h kind Deselect class owner long) Deselect (run-own h Deselect
    (new_transient kind Deselect class owner long (h.area_ends.1)) refl refl room (f Deselect))

pub transient_whole : (h : HeapState) (kind : Kind) (event : ClearEvent) (class owner long : ℕ) → is_allocated h h.top ≡ false → (LacksCells h event long → ⊥)
    → IsConsistent h → IsConsistent (add_transient h kind event class owner long)
unfolding add_transient
transient_whole h kind event class owner long none room w =
    let fits : area_end h event + long ≤ area_limit h event = omega (arith, room) in
    whole_of (add_transient h kind event class owner long)
    (referring-end (add_object h (new_transient kind event class owner long (area_end h event)) transient_size) event (area_end h event + long)
    (referring-add h (new_transient kind event class owner long (area_end h event)) transient_size none (λ k i lt. absurd (omega arith)) (referring_of h w)))
    (filled-transient h kind event class owner long fits w.areas)

-- another value of a cell
facts-with_cell : (t : Item) (i v : ℕ) → facts_of (with_cell t i v) ≡ facts_of t
facts-with_cell (AnObject o) i v = refl
facts-with_cell (APackage ws) i v = refl

pub object-header_only : (t : Item) → is_object (header_only t) ≡ is_object t
object-header_only (AnObject o) = refl
object-header_only (APackage ws) = refl

fits-same : (event : ClearEvent) (size place : ℕ) (t u : Item) → facts_of u ≡ facts_of t → FitsAt event size place t → FitsAt event size place u
fits-same event size place t u e f =
    let lies : lies_in event u ≡ lies_in event t = ap (λ x. lies_in event (AnObject (record { facts = x; cells = [] }))) e in
    record {
      begins = λ there. ap (λ x. x.place) e ∙ f.begins (sym lies ∙ there);
      ends = omega (arith, f.ends, cells-same event t u e);
    }
  where
    cells-same : (event : ClearEvent) (t u : Item) → facts_of u ≡ facts_of t → cells_in event u ≡ cells_in event t
    cells-same event t u e = ap (λ x. cells_in event (AnObject (record { facts = x; cells = [] }))) e

pub run_put : (event : ClearEvent) (size place : ℕ) (es : List (ℕ × Item)) (end r : ℕ) (t : Item) → facts_of t ≡ facts_of (entry_or (APackage []) es r)
    → Run event size place es end → Run event size place (with_entry es r t) end
run_put event size place [] end r t e run = run
run_put event size place (q ∷ es) end r t e run = elim (cases_eq q.0 r) [
  | inl is ↦
      let same : facts_of t ≡ facts_of q.1 = e ∙ ap (λ b. facts_of (if b then q.1 else entry_or (APackage []) es r)) (eq-eqb q.0 r is) in
      rw (eq-eqb q.0 r is) (
        fits-same event size place q.1 t same run.0,
        subst (λ n. Run event size (place + n) es end) (sym (ap (λ x. cells_in event (AnObject (record { facts = x; cells = [] }))) same)) run.1,
      )
  | inr n ↦
      let rest : facts_of t ≡ facts_of (entry_or (APackage []) es r) = e ∙ ap (λ b. facts_of (if b then q.1 else entry_or (APackage []) es r))
      (ne_eqb q.0 r n) in
      rw (ne_eqb q.0 r n) (run.0, run_put event size (place + cells_in event q.1) es end r t rest run.1)
]

filled-set : (h : HeapState) (r i v : ℕ) (event : ClearEvent) → IsFilledArea h event → IsFilledArea (set_cell h r i v) event
unfolding set_cell heap_item_at
filled-set h r i v Reset f = filled_of (set_cell h r i v) Reset (run_put Reset (area_limit h Reset) 0 h.items (h.area_ends.0) r (with_cell (entry_or (APackage []) h.items r) i v)
    (facts-with_cell (entry_or (APackage []) h.items r) i v) (run_of h Reset f))
filled-set h r i v Deselect f = filled_of (set_cell h r i v) Deselect (run_put Deselect (area_limit h Deselect) 0 h.items (h.area_ends.1) r
    (with_cell (entry_or (APackage []) h.items r) i v) (facts-with_cell (entry_or (APackage []) h.items r) i v) (run_of h Deselect f))

module _ (h : HeapState) (r i v : ℕ) where
  pub reference-set : (q : ℕ) → IsReference h q → IsReference (set_cell h r i v) q
  reference-set q ref = elim ref [
    | inl z ↦ inl z
    | inr there ↦ inr (sym (object-header_only (heap_item_at (set_cell h r i v) q)) ∙ ap is_object (header_only-set_cell h r i v q)
        ∙ object-header_only (heap_item_at h q) ∙ there)
  ]

  module _ (right : (facts h r).kind ≡ ReferenceArray → IsReference h v) where
    references-set : is_allocated h r ≡ true → ((q : ℕ) → HoldsReferences h (heap_item_at h q)) → (q : ℕ)
        → HoldsReferences (set_cell h r i v) (heap_item_at (set_cell h r i v) q)
    references-set there all q kind k lt =
        let old_kind : (facts h q).kind ≡ ReferenceArray = ap (λ f. f.kind) (sym (facts-set_cell h r i v q)) ∙ kind in
        let old_lt : k < length (cells h q) = omega (arith, lt, length-cells-set_cell h r i v q) in
        let cells_new : cells (set_cell h r i v) r ≡ set (cells h r) i v = ap cells_of (heap_item_at-set_cell h r i v there)
        ∙ cells-with_cell (heap_item_at h r) i v in
        elim (cases_eq r q) [
          | inl e ↦ elim (cases_eq k i) [
            | inl ki ↦
                let within : i < length (cells h r) = omega (arith, old_lt, ap (λ a. length (cells h a)) e) in
                let is : get_or (cells (set_cell h r i v) q) k 0 ≡ v =
                ap (λ a. get_or (cells (set_cell h r i v) a) k 0) (sym e) ∙ ap (λ l. get_or l k 0) cells_new ∙ ap (λ n. get_or (set (cells h r) i v) n 0) ki
                ∙ get_or-set_same (cells h r) i v 0 within in
                subst (IsReference (set_cell h r i v)) (sym is) (reference-set v (right (ap (λ a. (facts h a).kind) e ∙ old_kind)))
            | inr ne ↦
                let is : get_or (cells (set_cell h r i v) q) k 0 ≡ get_or (cells h q) k 0 =
                ap (λ a. get_or (cells (set_cell h r i v) a) k 0) (sym e) ∙ ap (λ l. get_or l k 0) cells_new ∙ get_or-set_other (cells h r) i k v 0 ne
                ∙ ap (λ a. get_or (cells h a) k 0) e in
                subst (IsReference (set_cell h r i v)) (sym is) (reference-set (get_or (cells h q) k 0) (all q old_kind k old_lt))
          ]
          | inr ne ↦ subst (IsReference (set_cell h r i v)) (sym (ap (λ l. get_or l k 0) (cells-set_other h r i v q ne)))
              (reference-set (get_or (cells h q) k 0) (all q old_kind k old_lt))
        ]

    named_whole : is_allocated h r ≡ true → IsConsistent h → IsConsistent (set_cell h r i v)
    unfolding set_cell
    named_whole there w = record {
      few_packages = w.few_packages;
      few_applets = w.few_applets;
      met = λ k lt. is_allocated-set_cell h r i v (get_or h.packages k 0) ∙ w.met k lt;
      records = λ k lt. subst (λ n. 2 ≤ n) (sym (same_words (heap_item_at (set_cell h r i v) (get_or h.packages k 0)) (heap_item_at h (get_or h.packages k 0))
          (header_only-set_cell h r i v (get_or h.packages k 0)))) (w.records k lt);
      distinct = w.distinct;
      references = references-set there w.references;
      sizes = w.sizes;
      areas = λ event. filled-set h r i v event (w.areas event);
    }

    pub cell_whole : IsConsistent h → IsConsistent (set_cell h r i v)
    cell_whole w = elim (cases_Bool (is_allocated h r)) [
      | inl there ↦ named_whole there w
      | inr none ↦ subst IsConsistent (sym (set_cell-absent h r i v none)) w
    ]

pub run_whole : (h : HeapState) (r i : ℕ) (vs : List ℕ) → ((facts h r).kind ≡ ReferenceArray → (k : ℕ) → k < length vs → IsReference h (get_or vs k 0))
    → IsConsistent h → IsConsistent (set_cells h r i vs)
run_whole h r i [] right w = w
run_whole h r i (v ∷ vs) right w =
    run_whole (set_cell h r i v) r (suc i) vs
    (λ kind k lt. reference-set h r i v (get_or vs k 0) (right (ap (λ f. f.kind) (sym (facts-set_cell h r i v r)) ∙ kind) (suc k) (omega arith)))
    (cell_whole h r i v (λ kind. right kind 0 (omega arith)) w)
