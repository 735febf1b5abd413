-- Runs of cells of two objects and places after them, set as one change.
use Rattle.std.proofs.Common.{◌≡◌, ◌≢◌, ℕ, false, suc, ◌+◌, ◌/◌, ◌%◌, ◌<◌, ◌≤◌, ◌==◌, ◌&&◌, inl, inr, List, [], ◌∷◌, ◌++◌, length, get_or, set}
use Rattle.std.proofs.Common.{Some, None, if◌then◌else◌, refl, sym, ◌∙◌, ap, subst, arith, get_or-set_other}
use Rattle.std.proofs.lemmas.Bool.{cases_Bool, cases_eq, ne_eqb, false≢true}
use Rattle.jc_commit.specs.Image.{with_words}
use Rattle.jc_commit.specs.Entries.{addresses_of}
use Rattle.jc_commit.specs.State.{State}
use Rattle.jc_commit.specs.Runs.{run_words}
use Rattle.jc_heap.specs.declared.place.Place.{Place}
use Rattle.jc_heap.specs.declared.place.Place.TheVariants.{Cell}
use Rattle.jc_heap.specs.Object.{is_packed, IsElement}
use Rattle.jc_heap.specs.Packed.{byte_in, packed_words}
use Rattle.jc_heap.specs.Image.{IsWellFormed}
use Rattle.jc_heap.specs.Heap.{HeapState, HeapView, heap_view, heap_of, facts, cells, cell_address, set_cell, set_cells, IsSound}
use Rattle.jc_heap.specs.Place.{place_at, ArePlain, share_word, words_at, cells_from, cell_changes, set_places, places_of, words_of, AreThere, AreApart}
use Rattle.jc_heap.specs.Elements.{bytes_with, byte_before, byte_behind, run_for}
use Rattle.jc_heap.proofs.Changing.{up_is}
use Rattle.jc_heap.proofs.Laws.{length-cells-set_cell, facts-set_cell}
use Rattle.jc_heap.proofs.WordsAt.{each_append, each_word, each_cell}
use Rattle.jc_heap.proofs.RunWords.{run_for-single, run_for-double, behind_even}
use Rattle.jc_heap.proofs.RunsSet.{AreElements, run_stands, run_written}
use Rattle.jc_heap.proofs.Several.{AllWords, all_there, words_apart}
use Rattle.jc_heap.proofs.RunPlaces.{AreElsewhere, plain_elsewhere, all_words-cells, places_of-both, apart_after, places_stand, both_at, run_then}
use Rattle.jc_heap.proofs.Written.{StandsFor, IsWritten}

-- cells set leave the header of each object, and how many cells it has
facts-run : (h : HeapState) (r i : ℕ) (vs : List ℕ) (q : ℕ) → facts (set_cells h r i vs) q ≡ facts h q
facts-run h r i [] q = refl
facts-run h r i (v ∷ vs) q = facts-run (set_cell h r i v) r (suc i) vs q ∙ facts-set_cell h r i v q

length-run : (h : HeapState) (r i : ℕ) (vs : List ℕ) (q : ℕ) → length (cells (set_cells h r i vs) q) ≡ length (cells h q)
length-run h r i [] q = refl
length-run h r i (v ∷ vs) q = length-run (set_cell h r i v) r (suc i) vs q ∙ length-cells-set_cell h r i v q

-- words written leave those at other addresses
other_word : (ws : List ℕ) (words : List (ℕ × ℕ)) (a : ℕ) → ((k : ℕ) → k < length (addresses_of words) → get_or (addresses_of words) k 0 ≡ a → ⊥)
    → get_or (with_words ws words) a 0 ≡ get_or ws a 0
other_word ws [] a other = refl
other_word ws (w ∷ words) a other =
    other_word (set ws w.0 w.1) words a (λ k lt. other (suc k) (omega (arith, lt)))
    ∙ get_or-set_other ws w.0 a w.1 0 (λ e. other 0 (omega arith) (sym e))

-- which words a run sets, and to what, depends on its object's header and on these words alone
run_stays : (ws us : List ℕ) (q k : ℕ) (xs : List ℕ) → facts (heap_of us) q ≡ facts (heap_of ws) q
    → ((m : ℕ) → m < k + length xs → get_or us (place_at (heap_of ws) (Cell q m)) 0 ≡ get_or ws (place_at (heap_of ws) (Cell q m)) 0)
    → run_for us q k xs ≡ run_for ws q k xs
run_stays ws us q k [] same words = refl
run_stays ws us q k (x ∷ xs) same words = elim (cases_Bool (is_packed (facts (heap_of ws) q))) [
  | inl packed ↦
      let word : (m : ℕ) → m < k + length (x ∷ xs) → get_or us (cell_address q (m / 2)) 0 ≡ get_or ws (cell_address q (m / 2)) 0 =
      λ m lt. subst (λ b. get_or us (cell_address q (if b then m / 2 else m)) 0 ≡ get_or ws (cell_address q (if b then m / 2 else m)) 0) packed (words m lt) in
      let end : ℕ = k + length (x ∷ xs) in
      let last : get_or us (cell_address q ((k + length xs) / 2)) 0 ≡ get_or ws (cell_address q ((k + length xs) / 2)) 0 =
      word (k + length xs) (omega arith) in
      let before : byte_before us q k ≡ byte_before ws q k = ap (λ w. if k % 2 == 0 then None else Some (byte_in w 0)) (word k (omega arith)) in
      let behind : byte_behind us q end ≡ byte_behind ws q end = elim (cases_eq (end % 2) 0) [
        | inl even ↦ behind_even us q end even ∙ sym (behind_even ws q end even)
        | inr odd ↦
            let half : (k + length xs) / 2 ≡ end / 2 = omega (arith, odd) in
            ap (λ w. if end % 2 == 0 then None else Some (byte_in w 1))
            (subst (λ m. get_or us (cell_address q m) 0 ≡ get_or ws (cell_address q m) 0) half last)
      ] in
      run_for-double us q k (x ∷ xs) (ap is_packed same ∙ packed) (λ e. omega (arith, e))
      ∙ (λ t. run_words (cell_address q (k / 2)) (packed_words (bytes_with (before t) (x ∷ xs) (behind t))))
      ∙ sym (run_for-double ws q k (x ∷ xs) packed (λ e. omega (arith, e)))
  | inr plain ↦
      run_for-single us q k (x ∷ xs) (ap is_packed same ∙ plain) (λ e. omega (arith, e))
      ∙ sym (run_for-single ws q k (x ∷ xs) plain (λ e. omega (arith, e)))
]

-- cells of two objects stand in no word together
abbrev object_of_cell : Place → ℕ
object_of_cell (Cell r i) = r
object_of_cell _ = 0

shares_no_object : (h : HeapState) (r i q k : ℕ) → r ≢ q → share_word h (Cell r i) (Cell q k) ≡ false
shares_no_object h r i q k ne = ap (λ b. b && (is_packed (facts h r) && (i / 2 == k / 2))) (ne_eqb r q ne)

other_cells : (h : HeapState) (r q k n : ℕ) → r ≢ q → k + n ≤ length (cells h q) → AreElsewhere h r (cells_from q k n)
other_cells h r q k n ne within = each_cell _ q k n (λ m low high. (omega (arith, high, within), λ i. shares_no_object h r i q m ne))

other_object : (ws : List ℕ) (r i q k : ℕ) → IsWellFormed ws → r ≢ q → i < length (cells (heap_of ws) r) → k < length (cells (heap_of ws) q)
    → place_at (heap_of ws) (Cell r i) ≡ place_at (heap_of ws) (Cell q k) → ⊥
other_object ws r i q k laid ne here there e = false≢true (sym (shares_no_object (heap_of ws) r i q k ne)
    ∙ words_apart ws laid (Cell r i) (Cell q k) here there (λ f. ne (ap object_of_cell f)) e)

-- so a run leaves the words of another object's cells
cell_stays : (ws : List ℕ) (r i : ℕ) (vs : List ℕ) (q k : ℕ) → IsWellFormed ws → r ≢ q → i + length vs ≤ length (cells (heap_of ws) r)
    → AreElements (heap_of ws) r vs → k < length (cells (heap_of ws) q)
    → get_or (with_words ws (run_for ws r i vs)) (place_at (heap_of ws) (Cell q k)) 0 ≡ get_or ws (place_at (heap_of ws) (Cell q k)) 0
cell_stays ws r i vs q k laid ne h fit there =
    let run : IsWritten ws (run_for ws r i vs) (set_cells (heap_of ws) r i vs) (words_at (heap_of ws) (cells_from r i (length vs))) =
    run_written ws r i vs h fit laid in
    other_word ws (run_for ws r i vs) (place_at (heap_of ws) (Cell q k))
    (subst (λ l. (m : ℕ) → m < length l → get_or l m 0 ≡ place_at (heap_of ws) (Cell q k) → ⊥) (sym run.addresses)
    (λ m lt. each_word (λ a. a ≡ place_at (heap_of ws) (Cell q k) → ⊥) (heap_of ws) (cells_from r i (length vs)) m 0
    (each_cell _ r i (length vs) (λ c low high. other_object ws r c q k laid ne (omega (arith, high, h)) there)) lt))

module _ (j : State) (n r i : ℕ) (vs : List ℕ) (q k : ℕ) (xs : List ℕ) (cs : List (Place × ℕ)) (laid : IsWellFormed j.plain) (ne : r ≢ q)
    (here : i + length vs ≤ length (cells (heap_of j.plain) r)) (fit : AreElements (heap_of j.plain) r vs)
    (next : k + length xs ≤ length (cells (heap_of j.plain) q)) (fit_next : AreElements (heap_of j.plain) q xs)
    (there : AreThere (heap_of j.plain) cs) (plain : ArePlain (heap_of j.plain) (places_of cs))
    (apart : AreApart (places_of (cell_changes r i vs ++ (cell_changes q k xs ++ cs)))) where
  abbrev us : List ℕ
  us = with_words j.plain (run_for j.plain r i vs)

  one : StandsFor j.plain us (set_cells (heap_of j.plain) r i vs)
  one = run_stands j.plain r i vs here fit laid

  all : AllWords (heap_of j.plain) cs
  all = all_there (heap_of j.plain) cs there plain

  same_facts : facts (heap_of us) q ≡ facts (heap_of j.plain) q
  same_facts = ap (λ h. facts h q) one.0 ∙ facts-run (heap_of j.plain) r i vs q

  same_words : run_for us q k xs ≡ run_for j.plain q k xs
  same_words = run_stays j.plain us q k xs same_facts (λ m lt. cell_stays j.plain r i vs q m laid ne here fit (omega (arith, lt, next)))

  next_stands : StandsFor us (with_words us (run_for j.plain q k xs ++ words_of cs)) (set_places (heap_of us) (cell_changes q k xs ++ cs))
  next_stands =
      let long : length (cells (heap_of us) q) ≡ length (cells (heap_of j.plain) q) =
      ap (λ h. length (cells h q)) one.0 ∙ length-run (heap_of j.plain) r i vs q in
      subst (λ l. StandsFor us (with_words us (l ++ words_of cs)) (set_places (heap_of us) (cell_changes q k xs ++ cs))) same_words
      (places_stand us q k xs cs one.1 (omega (arith, long, next)) (subst (λ f. (m : ℕ) → m < length xs → IsElement f.kind (get_or xs m 0)) (sym same_facts) fit_next)
      (subst (λ h. AllWords h cs) (sym one.0) (all_words-cells (heap_of j.plain) r i vs cs all)))

  others : AreElsewhere (heap_of j.plain) r (places_of (cell_changes q k xs ++ cs))
  others = subst (AreElsewhere (heap_of j.plain) r) (sym (places_of-both q k xs cs))
      (each_append _ (cells_from q k (length xs)) (places_of cs) (other_cells (heap_of j.plain) r q k (length xs) ne next)
      (plain_elsewhere (heap_of j.plain) r cs all))

  pub two_runs_at : IsWritten j.plain (run_for j.plain r i vs ++ (run_for j.plain q k xs ++ words_of cs))
      (set_places (heap_of j.plain) (cell_changes r i vs ++ (cell_changes q k xs ++ cs)))
      (words_at (heap_of j.plain) (places_of (cell_changes r i vs ++ (cell_changes q k xs ++ cs))))
  two_runs_at = run_then j.plain r i vs (run_for j.plain q k xs ++ words_of cs) (cell_changes q k xs ++ cs) laid here fit others apart
      (both_at j n q k xs cs laid next fit_next there plain (apart_after r i vs (cell_changes q k xs ++ cs) apart)) next_stands

-- words that are those of both runs and of the places, as a heap's view has it
pub two_runs_are_written : (j : State) (v : HeapView) (n r i : ℕ) (vs : List ℕ) (q k : ℕ) (xs : List ℕ) (cs : List (Place × ℕ)) (words : List (ℕ × ℕ))
    → heap_view j n ≡ v → IsSound j n → v.down ≡ false → r ≢ q → i + length vs ≤ length (cells v.now r) → AreElements v.now r vs
    → k + length xs ≤ length (cells v.now q) → AreElements v.now q xs → AreThere v.now cs → ArePlain v.now (places_of cs)
    → AreApart (places_of (cell_changes r i vs ++ (cell_changes q k xs ++ cs))) → words ≡ run_for j.plain r i vs ++ (run_for j.plain q k xs ++ words_of cs)
    → IsWritten j.plain words (set_places v.now (cell_changes r i vs ++ (cell_changes q k xs ++ cs)))
    (words_at v.now (places_of (cell_changes r i vs ++ (cell_changes q k xs ++ cs))))
two_runs_are_written j v n r i vs q k xs cs words is s up ne here fit next fit_next there plain apart e =
    subst (λ l. IsWritten j.plain l (set_places v.now (cell_changes r i vs ++ (cell_changes q k xs ++ cs)))
    (words_at v.now (places_of (cell_changes r i vs ++ (cell_changes q k xs ++ cs))))) (sym e)
    (subst (λ u. i + length vs ≤ length (cells u.now r) → AreElements u.now r vs → k + length xs ≤ length (cells u.now q) → AreElements u.now q xs
    → AreThere u.now cs → ArePlain u.now (places_of cs)
    → IsWritten j.plain (run_for j.plain r i vs ++ (run_for j.plain q k xs ++ words_of cs))
    (set_places u.now (cell_changes r i vs ++ (cell_changes q k xs ++ cs))) (words_at u.now (places_of (cell_changes r i vs ++ (cell_changes q k xs ++ cs))))) is
    (λ a b c d f g. two_runs_at j n r i vs q k xs cs (s.now (up_is j v n is up)) ne a b c d f g apart) here fit next fit_next there plain)
