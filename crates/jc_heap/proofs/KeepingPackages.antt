-- What keeps a heap whole: a package, a word of its static image, a word of the registry.
use Rattle.std.proofs.Common.{◌≡◌, ℕ, suc, ◌+◌, ◌-◌, ◌<◌, ◌≤◌, ◌==◌, ◌||◌, true, false, inl, inr, List, [], ◌∷◌, ◌++◌, length, get_or, refl, sym, ◌∙◌, ap}
use Rattle.std.proofs.Common.{subst, arith}
use Rattle.std.proofs.lemmas.List.{get_or_append_left, get_or-append_right, length-append}
use Rattle.std.proofs.lemmas.Bool.{cases_eq, cases_lt, eq-eqb, false≢true}
use Rattle.std.proofs.Math.Bool.{or-true}
use Rattle.jc_words.specs.Layout.{most_packages, most_applets}
use Rattle.jc_transient.specs.declared.cell.ClearEvent.{ClearEvent}
use Rattle.jc_transient.specs.declared.cell.ClearEvent.TheVariants.{Reset, Deselect}
use Rattle.jc_heap.specs.declared.object.Kind.{Kind}
use Rattle.jc_heap.specs.declared.object.Kind.TheVariants.{Instance, ReferenceArray}
use Rattle.jc_heap.specs.Walk.{entry_or, has_entry}
use Rattle.jc_heap.specs.Object.{Item, AnObject, APackage, facts_of, cells_of, is_object}
use Rattle.jc_heap.specs.Heap.{HeapState, heap_item_at, is_allocated, facts, area_end, area_limit, add_object, HasEnd}
use Rattle.jc_heap.specs.Package.{AreArrays, is_array_init, array_object, array_size, components_words, image_words, record_size, package_record}
use Rattle.jc_heap.specs.Package.{package_owner, push_package, add_arrays, add_package}
use Rattle.jc_heap.specs.Statics.{with_word, set_word}
use Rattle.jc_heap.specs.Component.{words_of, record_of}
use Rattle.jc_heap.specs.WholeHeap.{cells_in, FitsAt, IsFilledArea, IsReference, HoldsReferences, AreAllocated, AreRecords, AreDistinct, IsConsistent}
use Rattle.jc_heap.proofs.Tables.{at_or-push_same, at_or-push_other, has-push}
use Rattle.jc_heap.proofs.Laws.{is_allocated-add_other}
use Rattle.jc_heap.proofs.AreaRuns.{Run, filled_of, run_of}
use Rattle.jc_heap.proofs.Laws.{object_named}
use Rattle.jc_heap.proofs.RecordWords.{of_item-set_word, is_allocated-set_word, header_only-set_word, same_words}
use Rattle.jc_heap.proofs.Keeping.{run_push, run_put, object_whole}

-- a name that was added
has_entry-pushed : (es : List (ℕ × Item)) (q : ℕ) (t : Item) → has_entry (es ++ (q, t) ∷ []) q ≡ true
has_entry-pushed [] q t = ap (λ b. b || false) (eq-eqb q q refl)
has_entry-pushed (e ∷ es) q t = ap (λ b. (e.0 == q) || b) (has_entry-pushed es q t) ∙ or-true (e.0 == q)

-- a package's record after the others, where nothing stands
module _ (h : HeapState) (words : List ℕ) (free : is_allocated h h.top ≡ false) where
  other_name : (r : ℕ) → is_allocated h r ≡ true → h.top ≡ r → ⊥
  other_name r there e = false≢true (sym free ∙ ap (is_allocated h) e ∙ there)

  item_at-pushed : heap_item_at (push_package h words) h.top ≡ APackage words
  unfolding heap_item_at is_allocated push_package
  item_at-pushed = at_or-push_same (APackage []) h.items h.top (APackage words) free

  item_at-push_other : (r : ℕ) → (h.top ≡ r → ⊥) → heap_item_at (push_package h words) r ≡ heap_item_at h r
  unfolding heap_item_at push_package
  item_at-push_other r n = at_or-push_other (APackage []) h.items h.top r (APackage words) n

  names-pushed : is_allocated (push_package h words) h.top ≡ true
  unfolding is_allocated push_package
  names-pushed = has_entry-pushed h.items h.top (APackage words)

  names-push_other : (r : ℕ) → (h.top ≡ r → ⊥) → is_allocated (push_package h words) r ≡ is_allocated h r
  unfolding is_allocated push_package
  names-push_other r n = has-push h.items h.top r (APackage words) n

  reference-push : (v : ℕ) → IsReference h v → IsReference (push_package h words) v
  reference-push v ref = elim ref [
    | inl z ↦ inl z
    | inr there ↦ inr (ap is_object (item_at-push_other v (other_name v (object_named h v there))) ∙ there)
  ]

  references-push : ((r : ℕ) → HoldsReferences h (heap_item_at h r)) → (r : ℕ) → HoldsReferences (push_package h words) (heap_item_at (push_package h words) r)
  references-push all r = elim (cases_eq h.top r) [
    | inl e ↦ subst (HoldsReferences (push_package h words)) (sym item_at-pushed ∙ ap (heap_item_at (push_package h words)) e)
        (λ kind i lt. absurd (omega arith))
    | inr n ↦ subst (HoldsReferences (push_package h words)) (sym (item_at-push_other r n))
        (λ kind i lt. reference-push (get_or (cells_of (heap_item_at h r)) i 0) (all r kind i lt))
  ]

  -- the address after those that were there
  old_address : (k : ℕ) → k < length h.packages → get_or (h.packages ++ h.top ∷ []) k 0 ≡ get_or h.packages k 0
  old_address k lt = get_or_append_left h.packages (h.top ∷ []) 0 k lt

  last_address : (k : ℕ) → k < length (h.packages ++ h.top ∷ []) → length h.packages ≤ k → get_or (h.packages ++ h.top ∷ []) k 0 ≡ h.top
  last_address k lt le =
      let first : k - length h.packages ≡ 0 = omega (arith, lt, le, length-append h.packages (h.top ∷ [])) in
      get_or-append_right h.packages (h.top ∷ []) (length h.packages) k 0 refl le ∙ ap (λ n. get_or (h.top ∷ []) n 0) first

  met-push : AreAllocated h h.packages → AreAllocated (push_package h words) (h.packages ++ h.top ∷ [])
  met-push met k lt = elim (cases_lt k (length h.packages)) [
    | inl old ↦ subst (λ a. is_allocated (push_package h words) a ≡ true) (sym (old_address k old))
        (names-push_other (get_or h.packages k 0) (other_name (get_or h.packages k 0) (met k old)) ∙ met k old)
    | inr new ↦ subst (λ a. is_allocated (push_package h words) a ≡ true) (sym (last_address k lt new)) names-pushed
  ]

  records-push : 2 ≤ length words → AreAllocated h h.packages → AreRecords h h.packages → AreRecords (push_package h words) (h.packages ++ h.top ∷ [])
  records-push two met all k lt = elim (cases_lt k (length h.packages)) [
    | inl old ↦
        let same : record_of (push_package h words) (get_or h.packages k 0) ≡ record_of h (get_or h.packages k 0) =
        ap words_of (item_at-push_other (get_or h.packages k 0) (other_name (get_or h.packages k 0) (met k old))) in
        subst (λ a. 2 ≤ length (record_of (push_package h words) a)) (sym (old_address k old)) (subst (λ l. 2 ≤ length l) (sym same) (all k old))
    | inr new ↦ subst (λ a. 2 ≤ length (record_of (push_package h words) a)) (sym (last_address k lt new))
        (subst (λ l. 2 ≤ length l) (sym (ap words_of item_at-pushed)) two)
  ]

  distinct-push : AreAllocated h h.packages → AreDistinct h.packages → AreDistinct (h.packages ++ h.top ∷ [])
  distinct-push met apart j k less lt same = elim (cases_lt k (length h.packages)) [
    | inl old ↦ apart j k less old (sym (old_address j (omega arith)) ∙ same ∙ old_address k old)
    | inr new ↦
        let before : j < length h.packages = omega (arith, less, lt, new, length-append h.packages (h.top ∷ [])) in
        other_name (get_or h.packages j 0) (met j before) (sym (last_address k lt new) ∙ sym same ∙ old_address j before)
  ]

  no_cells : (event : ClearEvent) → cells_in event (APackage words) ≡ 0
  no_cells Reset = refl
  no_cells Deselect = refl

  fits-push : (event : ClearEvent) (size place : ℕ) → place ≤ size → FitsAt event size place (APackage words)
  fits-push Reset size place le = record { begins = λ there. absurd (false≢true there); ends = omega (arith, le) }
  fits-push Deselect size place le = record { begins = λ there. absurd (false≢true there); ends = omega (arith, le) }

  run-pushed : (event : ClearEvent) → IsFilledArea h event → Run event (area_limit h event) 0 (h.items ++ (h.top, APackage words) ∷ []) (area_end h event)
  run-pushed event f = subst (Run event (area_limit h event) 0 (h.items ++ (h.top, APackage words) ∷ [])) (omega (arith, no_cells event))
      (run_push event (area_limit h event) 0 h.items (area_end h event) h.top (APackage words) (run_of h event f) (fits-push event (area_limit h event) (area_end h event) f.fits))

  filled-push : (event : ClearEvent) → IsFilledArea h event → IsFilledArea (push_package h words) event
  unfolding push_package
  filled-push Reset f = filled_of (push_package h words) Reset (run-pushed Reset f)
  filled-push Deselect f = filled_of (push_package h words) Deselect (run-pushed Deselect f)

  push_whole : 2 ≤ length words → h.counts.0 < most_packages → IsConsistent h → IsConsistent (push_package h words)
  unfolding push_package
  push_whole two few w = record {
    few_packages = omega (arith, few);
    few_applets = w.few_applets;
    met = met-push w.met;
    records = records-push two w.met w.records;
    distinct = distinct-push w.met w.distinct;
    references = references-push w.references;
    sizes = w.sizes;
    areas = λ event. filled-push event (w.areas event);
  }

pub end-push : (h : HeapState) (words : List ℕ) → 0 < length words → HasEnd h → HasEnd (push_package h words)
unfolding is_allocated push_package
end-push h words some end r above = has-push h.items h.top r (APackage words) (λ e. omega arith) ∙ end r (omega arith)

-- an object more
pub end-add : (h : HeapState) (o : _) (size : ℕ) → 0 < size → HasEnd h → HasEnd (add_object h o size)
unfolding add_object
end-add h o size some end r above = is_allocated-add_other h o size r (λ e. omega arith) ∙ end r (omega arith)

-- the arrays of a package after its record
initial_other : (kind : Kind) → is_array_init kind ≡ true → kind ≡ ReferenceArray → ⊥
initial_other kind initial e = false≢true (sym (ap is_array_init e) ∙ initial)

arrays_whole : (h : HeapState) (owner : ℕ) (xs : List (Kind × List ℕ)) → ((k : ℕ) → k < length xs → is_array_init ((get_or xs k (Instance, [])).0) ≡ true)
    → HasEnd h → IsConsistent h →
    IsConsistent (add_arrays h owner xs) × HasEnd (add_arrays h owner xs)
arrays_whole h owner [] kinds end w = (w, end)
arrays_whole h owner (a ∷ xs) kinds end w =
    let initial : is_array_init a.0 ≡ true = kinds 0 (omega arith) in
    let free : is_allocated h h.top ≡ false = end h.top (omega arith) in
    arrays_whole (add_object h (array_object owner a) (array_size a)) owner xs (λ k lt. kinds (suc k) (omega arith))
    (end-add h (array_object owner a) (array_size a) (omega arith) end)
    (object_whole h (array_object owner a) (array_size a) free refl (λ kind i lt. absurd (initial_other a.0 initial kind)) w)

record_two : (at : ℕ) (cs : List (ℕ × List ℕ)) (xs : List (Kind × List ℕ)) (rest : List ℕ) → 2 ≤ length (package_record at cs xs rest)
unfolding package_record
record_two at cs xs rest = omega (arith, length-append (components_words cs) (0 ∷ image_words (at + record_size cs xs rest) xs rest))

-- a package
pub package_whole : (h : HeapState) (cs : List (ℕ × List ℕ)) (xs : List (Kind × List ℕ)) (rest : List ℕ) → h.counts.0 < most_packages → AreArrays xs → HasEnd h
    → IsConsistent h →
    IsConsistent (add_package h cs xs rest) × HasEnd (add_package h cs xs rest)
package_whole h cs xs rest few arrays end w =
    arrays_whole (push_package h (package_record h.top cs xs rest)) (package_owner (h.counts.0 + 1)) xs arrays.kinds
    (end-push h (package_record h.top cs xs rest) (omega (arith, record_two h.top cs xs rest)) end)
    (push_whole h (package_record h.top cs xs rest) (end h.top (omega arith)) (record_two h.top cs xs rest) few w)

-- a word of a static image
facts-with_word : (t : Item) (j v : ℕ) → facts_of (with_word t j v) ≡ facts_of t
facts-with_word (AnObject o) j v = refl
facts-with_word (APackage ws) j v = refl

cells-with_word : (t : Item) (j v : ℕ) → cells_of (with_word t j v) ≡ cells_of t
cells-with_word (AnObject o) j v = refl
cells-with_word (APackage ws) j v = refl

object-with_word : (t : Item) (j v : ℕ) → is_object (with_word t j v) ≡ is_object t
object-with_word (AnObject o) j v = refl
object-with_word (APackage ws) j v = refl

module _ (h : HeapState) (r j v : ℕ) where
  reference-word : (q : ℕ) → IsReference h q → IsReference (set_word h r j v) q
  reference-word q ref = elim ref [
    | inl z ↦ inl z
    | inr there ↦ inr (of_item-set_word is_object object-with_word h r j v q ∙ there)
  ]

  references-word : ((q : ℕ) → HoldsReferences h (heap_item_at h q)) → (q : ℕ) → HoldsReferences (set_word h r j v) (heap_item_at (set_word h r j v) q)
  references-word all q kind i lt =
      let same : cells_of (heap_item_at (set_word h r j v) q) ≡ cells_of (heap_item_at h q) = of_item-set_word cells_of cells-with_word h r j v q in
      let old_kind : (facts h q).kind ≡ ReferenceArray = ap (λ f. f.kind) (sym (of_item-set_word facts_of facts-with_word h r j v q)) ∙ kind in
      subst (λ l. IsReference (set_word h r j v) (get_or l i 0)) (sym same)
      (reference-word (get_or (cells_of (heap_item_at h q)) i 0) (all q old_kind i (subst (λ l. i < length l) same lt)))

  filled-word : (event : ClearEvent) → IsFilledArea h event → IsFilledArea (set_word h r j v) event
  unfolding set_word heap_item_at
  filled-word Reset f = filled_of (set_word h r j v) Reset (run_put Reset (area_limit h Reset) 0 h.items (h.area_ends.0) r (with_word (entry_or (APackage []) h.items r) j v)
      (facts-with_word (entry_or (APackage []) h.items r) j v) (run_of h Reset f))
  filled-word Deselect f = filled_of (set_word h r j v) Deselect (run_put Deselect (area_limit h Deselect) 0 h.items (h.area_ends.1) r
      (with_word (entry_or (APackage []) h.items r) j v) (facts-with_word (entry_or (APackage []) h.items r) j v) (run_of h Deselect f))

  pub word_whole : IsConsistent h → IsConsistent (set_word h r j v)
  unfolding set_word
  word_whole w = record {
    few_packages = w.few_packages;
    few_applets = w.few_applets;
    met = λ k lt. is_allocated-set_word h r j v (get_or h.packages k 0) ∙ w.met k lt;
    records = λ k lt. subst (λ n. 2 ≤ n) (sym (same_words (heap_item_at (set_word h r j v) (get_or h.packages k 0)) (heap_item_at h (get_or h.packages k 0))
        (header_only-set_word h r j v (get_or h.packages k 0)))) (w.records k lt);
    distinct = w.distinct;
    references = references-word w.references;
    sizes = w.sizes;
    areas = λ event. filled-word event (w.areas event);
  }

-- a word of the registry
filled-registry : (h : HeapState) (words : List ℕ) (event : ClearEvent) → IsFilledArea h event → IsFilledArea (record h { applets = words }) event
filled-registry h words Reset f = filled_of (record h { applets = words }) Reset (run_of h Reset f)
filled-registry h words Deselect f = filled_of (record h { applets = words }) Deselect (run_of h Deselect f)

pub registry_whole : (h : HeapState) (words : List ℕ) → IsConsistent h → IsConsistent (record h { applets = words })
unfolding heap_item_at is_allocated
registry_whole h words w = record {
  few_packages = w.few_packages;
  few_applets = w.few_applets;
  met = w.met;
  records = w.records;
  distinct = w.distinct;
  references = w.references;
  sizes = w.sizes;
  areas = λ event. filled-registry h words event (w.areas event);
}

-- the number of applets
filled-count : (h : HeapState) (n : ℕ) (event : ClearEvent) → IsFilledArea h event → IsFilledArea (record h { counts = (h.counts.0, n) }) event
filled-count h n Reset f = filled_of (record h { counts = (h.counts.0, n) }) Reset (run_of h Reset f)
filled-count h n Deselect f = filled_of (record h { counts = (h.counts.0, n) }) Deselect (run_of h Deselect f)

pub count_whole : (h : HeapState) (n : ℕ) → n ≤ most_applets → IsConsistent h → IsConsistent (record h { counts = (h.counts.0, n) })
unfolding heap_item_at is_allocated
count_whole h n few w = record {
  few_packages = w.few_packages;
  few_applets = few;
  met = w.met;
  records = w.records;
  distinct = w.distinct;
  references = w.references;
  sizes = w.sizes;
  areas = λ event. filled-count h n event (w.areas event);
}
