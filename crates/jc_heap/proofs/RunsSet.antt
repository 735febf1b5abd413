-- A run of cells that is set, in the words and in the heap.
use Rattle.std.proofs.Common.{◌≡◌, ℕ, zero, suc, ◌+◌, ◌/◌, ◌<◌, ◌≤◌, true, false, inl, inr, List, [], ◌∷◌, length, get_or, refl, sym, ◌∙◌, ap, subst, arith}
use Rattle.std.proofs.lemmas.Bool.{cases_Bool}
use Rattle.jc_commit.specs.Image.{with_words, IsPlace}
use Rattle.jc_commit.specs.Entries.{addresses_of, ArePlaces, AreDistinct}
use Rattle.jc_commit.specs.State.{State}
use Rattle.jc_commit.specs.Runs.{run_words}
use Rattle.jc_commit.proofs.WordRuns.{length-run_words}
use Rattle.jc_heap.specs.declared.object.Facts.{Facts}
use Rattle.jc_heap.specs.declared.place.Place.{Place}
use Rattle.jc_heap.specs.declared.place.Place.TheVariants.{Cell}
use Rattle.jc_heap.specs.Object.{is_packed, IsElement}
use Rattle.jc_heap.specs.Packed.{packed_words}
use Rattle.jc_heap.specs.Image.{IsWellFormed}
use Rattle.jc_heap.specs.Heap.{HeapState, HeapView, heap_view, heap_of, heap_item_at, facts, cells, set_cell, set_cells, cell_address, IsSound}
use Rattle.jc_heap.specs.Place.{place_at, words_at, cells_from}
use Rattle.jc_heap.specs.Elements.{bytes_with, byte_before, byte_behind, run_for}
use Rattle.jc_heap.proofs.Laws.{length-cells-set_cell, header_only-set_cell, same_facts}
use Rattle.jc_heap.proofs.Views.{spot_of_cell, packed_spot, single_spot, is_place}
use Rattle.jc_heap.proofs.Places.{place_set}
use Rattle.jc_heap.proofs.Runs.{distinct-run, shape-run}
use Rattle.jc_heap.proofs.WordsAt.{each_word, each_cell}
use Rattle.jc_heap.proofs.RunWords.{cell_step, cell_steps, steps_run, run_for-single, run_for-double, count_words, addresses-run_for}
use Rattle.jc_heap.proofs.Changing.{up_is}
use Rattle.jc_heap.proofs.Written.{StandsFor, IsWritten}

-- values that the cells of an object may hold
abbrev pub AreElements : HeapState → ℕ → List ℕ → Type 0
AreElements h r vs = (k : ℕ) → k < length vs → IsElement (facts h r).kind (get_or vs k 0)

steps_heap : (f : Facts) (ws : List ℕ) (r i : ℕ) (vs : List ℕ) → facts (heap_of ws) r ≡ f → i + length vs ≤ length (cells (heap_of ws) r)
    → ((k : ℕ) → k < length vs → IsElement f.kind (get_or vs k 0)) → IsWellFormed ws
    → StandsFor ws (cell_steps (is_packed f) ws r i vs) (set_cells (heap_of ws) r i vs)
steps_heap f ws r i [] is h fit laid = (refl, laid, refl)
steps_heap f ws r i (v ∷ vs) is h fit laid =
    let us : List ℕ = cell_step (is_packed f) ws r i v in
    let may : IsElement (facts (heap_of ws) r).kind v = subst (λ (g : Facts). IsElement g.kind v) (sym is) (fit 0 (omega arith)) in
    let one : StandsFor ws us (set_cell (heap_of ws) r i v) =
    subst (λ (g : Facts). StandsFor ws (cell_step (is_packed g) ws r i v) (set_cell (heap_of ws) r i v)) is
    (place_set ws (Cell r i) v laid (omega (arith, h)) may) in
    let same : facts (heap_of us) r ≡ f =
    ap (λ t. facts t r) one.0
    ∙ same_facts (heap_item_at (set_cell (heap_of ws) r i v) r) (heap_item_at (heap_of ws) r) (header_only-set_cell (heap_of ws) r i v r) ∙ is in
    let long : length (cells (heap_of us) r) ≡ length (cells (heap_of ws) r) =
    ap (λ t. length (cells t r)) one.0 ∙ length-cells-set_cell (heap_of ws) r i v r in
    let ih : StandsFor us (cell_steps (is_packed f) us r (suc i) vs) (set_cells (heap_of us) r (suc i) vs) =
    steps_heap f us r (suc i) vs same (omega (arith, h, long)) (λ k lt. fit (suc k) (omega (arith, lt))) one.1 in
    (ih.0 ∙ ap (λ t. set_cells t r (suc i) vs) one.0, ih.1, ih.2 ∙ one.2)

-- a run's words written stand for the heap with its cells set
pub run_stands : (ws : List ℕ) (r i : ℕ) (vs : List ℕ) → i + length vs ≤ length (cells (heap_of ws) r) → AreElements (heap_of ws) r vs → IsWellFormed ws
    → StandsFor ws (with_words ws (run_for ws r i vs)) (set_cells (heap_of ws) r i vs)
run_stands ws r i vs h fit laid = subst (λ us. StandsFor ws us (set_cells (heap_of ws) r i vs)) (steps_run ws r i vs)
    (steps_heap (facts (heap_of ws) r) ws r i vs refl h fit laid)

-- where the words of a run end
pub single_within : (ws : List ℕ) (r i n : ℕ) → i + suc n ≤ length (cells (heap_of ws) r) → is_packed (facts (heap_of ws) r) ≡ false
    → cell_address r i + suc n ≤ length ws
unfolding cell_address
single_within ws r i n h plain = omega (arith, (single_spot ws r (i + n) (omega (arith, h)) plain).0)

pub double_within : (ws : List ℕ) (r i n : ℕ) (vs : List ℕ) → length vs ≡ suc n → i + length vs ≤ length (cells (heap_of ws) r)
    → is_packed (facts (heap_of ws) r) ≡ true
    → cell_address r (i / 2) + length (packed_words (bytes_with (byte_before ws r i) vs (byte_behind ws r (i + length vs)))) ≤ length ws
unfolding cell_address
double_within ws r i n vs long h packed =
    omega (arith, count_words ws r i n vs long, (packed_spot ws r (i + n) (omega (arith, h, long)) packed).0)

pub run_short : (ws : List ℕ) (r i : ℕ) (vs : List ℕ) → i + length vs ≤ length (cells (heap_of ws) r) → length (run_for ws r i vs) ≤ length ws
run_short ws r i [] h = omega arith
run_short ws r i (v ∷ vs) h = elim (cases_Bool (is_packed (facts (heap_of ws) r))) [
  | inl packed ↦
      let bytes : List ℕ = bytes_with (byte_before ws r i) (v ∷ vs) (byte_behind ws r (i + length (v ∷ vs))) in
      let is : length (run_for ws r i (v ∷ vs)) ≡ length (run_words (cell_address r (i / 2)) (packed_words bytes)) =
      ap (λ (l : List (ℕ × ℕ)). length l) (run_for-double ws r i (v ∷ vs) packed (λ e. omega (arith, e))) in
      omega (arith, is, length-run_words (cell_address r (i / 2)) (packed_words bytes), double_within ws r i (length vs) (v ∷ vs) refl h packed)
  | inr plain ↦
      let is : length (run_for ws r i (v ∷ vs)) ≡ length (run_words (cell_address r i) (v ∷ vs)) =
      ap (λ (l : List (ℕ × ℕ)). length l) (run_for-single ws r i (v ∷ vs) plain (λ e. omega (arith, e))) in
      omega (arith, is, length-run_words (cell_address r i) (v ∷ vs), single_within ws r i (length vs) h plain)
]

run_distinct : (ws : List ℕ) (r i : ℕ) (vs : List ℕ) → AreDistinct (addresses_of (run_for ws r i vs))
run_distinct ws r i [] = λ k m d less lt e. absurd (omega (arith, lt))
run_distinct ws r i (v ∷ vs) = elim (cases_Bool (is_packed (facts (heap_of ws) r))) [
  | inl packed ↦ subst (λ words. AreDistinct (addresses_of words)) (sym (run_for-double ws r i (v ∷ vs) packed (λ e. omega (arith, e))))
      (distinct-run (cell_address r (i / 2)) (packed_words (bytes_with (byte_before ws r i) (v ∷ vs) (byte_behind ws r (i + length (v ∷ vs))))))
  | inr plain ↦ subst (λ words. AreDistinct (addresses_of words)) (sym (run_for-single ws r i (v ∷ vs) plain (λ e. omega (arith, e))))
      (distinct-run (cell_address r i) (v ∷ vs))
]

-- words whose addresses may be written
pub places_by : (n : ℕ) (words : List (ℕ × ℕ)) → ((k d : ℕ) → k < length (addresses_of words) → IsPlace n (get_or (addresses_of words) k d)) → ArePlaces
    n words
places_by n [] all k lt = absurd (omega (arith, lt))
places_by n (c ∷ cs) all zero lt = all 0 0 (omega arith)
places_by n (c ∷ cs) all (suc k) lt = places_by n cs (λ m d under. all (suc m) d (omega (arith, under))) k (omega (arith, lt))

run_each : (ws : List ℕ) (r i : ℕ) (vs : List ℕ) → i + length vs ≤ length (cells (heap_of ws) r) → ArePlaces (length ws) (run_for ws r i vs)
run_each ws r i vs h = places_by (length ws) (run_for ws r i vs) (subst (λ l. (k d : ℕ) → k < length l → IsPlace (length ws) (get_or l k d))
    (sym (addresses-run_for ws r i vs))
    (λ k d lt. each_word (IsPlace (length ws)) (heap_of ws) (cells_from r i (length vs)) k d
    (each_cell (λ (p : Place). IsPlace (length ws) (place_at (heap_of ws) p)) r i (length vs) (λ m low high.
    let spot = spot_of_cell ws r m (omega (arith, high, h)) in is_place (length ws) _ spot.0 spot.1)) lt))

pub run_written : (ws : List ℕ) (r i : ℕ) (vs : List ℕ) → i + length vs ≤ length (cells (heap_of ws) r) → AreElements (heap_of ws) r vs → IsWellFormed ws
    → IsWritten ws (run_for ws r i vs) (set_cells (heap_of ws) r i vs) (words_at (heap_of ws) (cells_from r i (length vs)))
run_written ws r i vs h fit laid = record {
  stands = run_stands ws r i vs h fit laid;
  shape = λ d s. shape-run d (heap_of ws) r i vs s;
  addresses = addresses-run_for ws r i vs;
  each = run_each ws r i vs h;
  distinct = run_distinct ws r i vs;
}

-- as a heap's view has it
pub view_run_written : (j : State) (v : HeapView) (n r i : ℕ) (vs : List ℕ) → heap_view j n ≡ v → i + length vs ≤ length (cells v.now r)
    → AreElements v.now r vs → IsWellFormed j.plain
    → IsWritten j.plain (run_for j.plain r i vs) (set_cells v.now r i vs) (words_at v.now (cells_from r i (length vs)))
view_run_written j v n r i vs is h fit laid = subst (λ u. i + length vs ≤ length (cells (u.now) r) → AreElements u.now r vs
    → IsWritten j.plain (run_for j.plain r i vs) (set_cells u.now r i vs) (words_at u.now (cells_from r i (length vs)))) is
    (λ there may. run_written j.plain r i vs there may laid) h fit

-- words that are those of the run
pub run_is_written : (j : State) (v : HeapView) (n r i : ℕ) (vs : List ℕ) (words : List (ℕ × ℕ)) → heap_view j n ≡ v → IsSound j n → v.down ≡ false
    → i + length vs ≤ length (cells v.now r) → AreElements v.now r vs → words ≡ run_for j.plain r i vs
    → IsWritten j.plain words (set_cells v.now r i vs) (words_at v.now (cells_from r i (length vs)))
run_is_written j v n r i vs words is s up h fit e = subst (λ l. IsWritten j.plain l (set_cells v.now r i vs) (words_at v.now (cells_from r i (length
    vs)))) (sym e)
    (view_run_written j v n r i vs is h fit (s.now (up_is j v n is up)))
