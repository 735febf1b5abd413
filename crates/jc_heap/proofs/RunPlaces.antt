-- A run of cells and what is written after it, set as one change.
use Rattle.std.proofs.Common.{◌≡◌, ℕ, false, zero, suc, ◌+◌, ◌<◌, ◌≤◌, List, [], ◌∷◌, ◌++◌, length, get_or, refl, sym, ◌∙◌, ap, subst, arith}
use Rattle.std.proofs.lemmas.List.{map-append}
use Rattle.std.proofs.lemmas.Bool.{false≢true}
use Rattle.jc_commit.specs.Image.{with_words}
use Rattle.jc_commit.specs.Entries.{addresses_of}
use Rattle.jc_commit.specs.State.{State}
use Rattle.jc_heap.specs.declared.place.Place.{Place}
use Rattle.jc_heap.specs.declared.place.Place.TheVariants.{Cell}
use Rattle.jc_heap.specs.Image.{IsWellFormed}
use Rattle.jc_heap.specs.Heap.{HeapState, HeapView, heap_view, heap_of, cells, set_cell, set_cells, IsSound}
use Rattle.jc_heap.proofs.Changing.{up_is}
use Rattle.jc_heap.specs.Place.{place_at, ArePlain, share_word, words_at, cells_from, cell_changes, set_places, places_of, words_of, AreThere, IsBeside, AreApart}
use Rattle.jc_heap.specs.Elements.{run_for}
use Rattle.jc_heap.proofs.Places.{HasWord}
use Rattle.jc_heap.proofs.WordsAt.{shares_none, words_at-after, Each, each_word, places_of-cells}
use Rattle.jc_heap.proofs.RunsSet.{AreElements, run_stands, run_written}
use Rattle.jc_heap.proofs.Several.{AllWords, all_words_stay, all_there, words_set, words_apart, several_at, shape-places}
use Rattle.jc_heap.proofs.Written.{StandsFor, IsWritten, with_words-append, places-append, distinct-append, addresses-append}

-- the cells are set first
set_places-cells : (h : HeapState) (r i : ℕ) (vs : List ℕ) (cs : List (Place × ℕ)) → set_places h (cell_changes r i vs ++ cs)
    ≡ set_places (set_cells h r i vs) cs
set_places-cells h r i [] cs = refl
set_places-cells h r i (v ∷ vs) cs = set_places-cells (set_cell h r i v) r (suc i) vs cs

pub all_words-cells : (h : HeapState) (r i : ℕ) (vs : List ℕ) (cs : List (Place × ℕ)) → AllWords h cs → AllWords (set_cells h r i vs) cs
all_words-cells h r i [] cs there = there
all_words-cells h r i (v ∷ vs) cs there = all_words-cells (set_cell h r i v) r (suc i) vs cs (all_words_stay h (Cell r i) v cs there)

-- the places of both
pub places_of-both : (r i : ℕ) (vs : List ℕ) (cs : List (Place × ℕ)) → places_of (cell_changes r i vs ++ cs) ≡ cells_from r i (length vs) ++ places_of cs
places_of-both r i vs cs = map-append (λ (c : Place × ℕ). c.0) (cell_changes r i vs) cs ∙ ap (λ l. l ++ places_of cs) (places_of-cells r i vs)

-- places of which none stands twice: none of the first ones is one of those after them
beside_behind : (p : Place) (ps qs : List Place) → IsBeside p (ps ++ qs) → IsBeside p qs
beside_behind p [] qs b = b
beside_behind p (q ∷ ps) qs b = beside_behind p ps qs b.1

apart_behind : (ps qs : List Place) → AreApart (ps ++ qs) → AreApart qs
apart_behind [] qs a = a
apart_behind (p ∷ ps) qs a = apart_behind ps qs a.1

pub apart_after : (r i : ℕ) (vs : List ℕ) (cs : List (Place × ℕ)) → AreApart (places_of (cell_changes r i vs ++ cs)) → AreApart (places_of cs)
apart_after r i vs cs apart = apart_behind (cells_from r i (length vs)) (places_of cs) (subst AreApart (places_of-both r i vs cs) apart)

each_apart : (P : Place → Type 0) (r i n : ℕ) (qs : List Place) → AreApart (cells_from r i n ++ qs)
    → ((k : ℕ) → i ≤ k → k < i + n → IsBeside (Cell r k) qs → P (Cell r k)) → Each P (cells_from r i n)
each_apart P r i zero qs a all = tt
each_apart P r i (suc n) qs a all = (
  all i (omega arith) (omega arith) (beside_behind (Cell r i) (cells_from r (i + 1) n) qs a.0),
  each_apart P r (i + 1) n qs a.1 (λ k low high. all k (omega (arith, low)) (omega (arith, high))),
)

-- places with words, of which none stands in the word of a cell of this object
abbrev pub AreElsewhere : HeapState → ℕ → List Place → Type 0
AreElsewhere h r ps = Each (λ p. HasWord h p × ((k : ℕ) → share_word h (Cell r k) p ≡ false)) ps

shares_no_cell : (h : HeapState) (r : ℕ) (ps : List Place) → AreElsewhere h r ps → Each (λ p. (k : ℕ) → share_word h (Cell r k) p ≡ false) ps
shares_no_cell h r [] other = tt
shares_no_cell h r (p ∷ ps) other = (other.0.1, shares_no_cell h r ps other.1)

pub plain_elsewhere : (h : HeapState) (r : ℕ) (cs : List (Place × ℕ)) → AllWords h cs → AreElsewhere h r (places_of cs)
plain_elsewhere h r [] all = tt
plain_elsewhere h r (c ∷ cs) all = ((all.0, λ k. shares_none h (Cell r k) c.0 all.1), plain_elsewhere h r cs all.2)

-- a cell that is none of them has another word than each of them
cell_apart : (ws : List ℕ) (r c : ℕ) (ps : List Place) → IsWellFormed ws → c < length (cells (heap_of ws) r) → AreElsewhere (heap_of ws) r ps
    → IsBeside (Cell r c) ps → Each (λ p. place_at (heap_of ws) (Cell r c) ≡ place_at (heap_of ws) p → ⊥) ps
cell_apart ws r c [] laid h other beside = tt
cell_apart ws r c (p ∷ ps) laid h other beside = (
  λ e. false≢true (sym (other.0.1 c) ∙ words_apart ws laid (Cell r c) p h other.0.0 beside.0 e),
  cell_apart ws r c ps laid h other.1 beside.1,
)

-- cells are set, and then what comes after them
pub stands_after : (ws : List ℕ) (r i : ℕ) (vs : List ℕ) (rest : List (ℕ × ℕ)) (cs : List (Place × ℕ))
    → StandsFor ws (with_words ws (run_for ws r i vs)) (set_cells (heap_of ws) r i vs)
    → StandsFor (with_words ws (run_for ws r i vs)) (with_words (with_words ws (run_for ws r i vs)) rest)
    (set_places (heap_of (with_words ws (run_for ws r i vs))) cs)
    → StandsFor ws (with_words ws (run_for ws r i vs ++ rest)) (set_places (heap_of ws) (cell_changes r i vs ++ cs))
stands_after ws r i vs rest cs one more =
    subst (λ us. StandsFor ws us (set_places (heap_of ws) (cell_changes r i vs ++ cs))) (sym (with_words-append ws (run_for ws r i vs) rest))
    (more.0 ∙ ap (λ g. set_places g cs) one.0 ∙ sym (set_places-cells (heap_of ws) r i vs cs), more.1, more.2 ∙ one.2)

-- as places with words of their own do
places_after : (ws : List ℕ) (r i : ℕ) (vs : List ℕ) (cs : List (Place × ℕ)) → StandsFor ws (with_words ws (run_for ws r i vs)) (set_cells (heap_of ws) r i vs)
    → AllWords (heap_of ws) cs → StandsFor (with_words ws (run_for ws r i vs)) (with_words (with_words ws (run_for ws r i vs)) (words_of cs))
    (set_places (heap_of (with_words ws (run_for ws r i vs))) cs)
places_after ws r i vs cs one all = words_set (with_words ws (run_for ws r i vs)) cs one.1
    (subst (λ g. AllWords g cs) (sym one.0) (all_words-cells (heap_of ws) r i vs cs all))

pub places_stand : (ws : List ℕ) (r i : ℕ) (vs : List ℕ) (cs : List (Place × ℕ)) → IsWellFormed ws → i + length vs ≤ length (cells (heap_of ws) r)
    → AreElements (heap_of ws) r vs → AllWords (heap_of ws) cs
    → StandsFor ws (with_words ws (run_for ws r i vs ++ words_of cs)) (set_places (heap_of ws) (cell_changes r i vs ++ cs))
places_stand ws r i vs cs laid h fit all =
    let one : StandsFor ws (with_words ws (run_for ws r i vs)) (set_cells (heap_of ws) r i vs) = run_stands ws r i vs h fit laid in
    stands_after ws r i vs (words_of cs) cs one (places_after ws r i vs cs one all)

-- a run, and words that are written after it
module _ (ws : List ℕ) (r i : ℕ) (vs : List ℕ) (rest : List (ℕ × ℕ)) (cs : List (Place × ℕ)) (laid : IsWellFormed ws)
    (h : i + length vs ≤ length (cells (heap_of ws) r)) (fit : AreElements (heap_of ws) r vs) (other : AreElsewhere (heap_of ws) r (places_of cs))
    (apart : AreApart (places_of (cell_changes r i vs ++ cs)))
    (after : IsWritten ws rest (set_places (heap_of ws) cs) (words_at (heap_of ws) (places_of cs)))
    (stand : StandsFor (with_words ws (run_for ws r i vs)) (with_words (with_words ws (run_for ws r i vs)) rest)
    (set_places (heap_of (with_words ws (run_for ws r i vs))) cs)) where
  run : IsWritten ws (run_for ws r i vs) (set_cells (heap_of ws) r i vs) (words_at (heap_of ws) (cells_from r i (length vs)))
  run = run_written ws r i vs h fit laid

  run_addresses : addresses_of (run_for ws r i vs ++ rest) ≡ words_at (heap_of ws) (places_of (cell_changes r i vs ++ cs))
  run_addresses =
      addresses-append (run_for ws r i vs) rest
      ∙ (λ t. run.addresses t ++ after.addresses t)
      ∙ sym (words_at-after (heap_of ws) r i (length vs) (places_of cs) (shares_no_cell (heap_of ws) r (places_of cs) other))
      ∙ ap (words_at (heap_of ws)) (sym (places_of-both r i vs cs))

  -- no word of a cell of the run is one of those after it
  cells_beside : (k m d : ℕ) → k < length (words_at (heap_of ws) (cells_from r i (length vs))) → m < length (words_at (heap_of ws) (places_of cs))
      → get_or (words_at (heap_of ws) (cells_from r i (length vs))) k d ≡ get_or (words_at (heap_of ws) (places_of cs)) m d → ⊥
  cells_beside k m d low under =
      let word : ℕ = get_or (words_at (heap_of ws) (places_of cs)) m d in
      each_word (λ a. a ≡ word → ⊥) (heap_of ws) (cells_from r i (length vs)) k d
      (each_apart (λ p. place_at (heap_of ws) p ≡ word → ⊥) r i (length vs) (places_of cs) (subst AreApart (places_of-both r i vs cs) apart)
      (λ c first last beside. each_word (λ b. place_at (heap_of ws) (Cell r c) ≡ b → ⊥) (heap_of ws) (places_of cs) m d
      (cell_apart ws r c (places_of cs) laid (omega (arith, last, h)) other beside) under)) low

  run_beside : (k m d : ℕ) → k < length (addresses_of (run_for ws r i vs)) → m < length (addresses_of rest)
      → get_or (addresses_of (run_for ws r i vs)) k d ≡ get_or (addresses_of rest) m d → ⊥
  run_beside k m d low under e = cells_beside k m d (subst (λ l. k < length l) run.addresses low) (subst (λ l. m < length l) after.addresses under)
      (ap (λ l. get_or l k d) (sym run.addresses) ∙ e ∙ ap (λ l. get_or l m d) after.addresses)

  pub run_then : IsWritten ws (run_for ws r i vs ++ rest) (set_places (heap_of ws) (cell_changes r i vs ++ cs))
      (words_at (heap_of ws) (places_of (cell_changes r i vs ++ cs)))
  run_then = record {
    stands = stands_after ws r i vs rest cs run.stands stand;
    shape = λ d s. shape-places d (heap_of ws) (cell_changes r i vs ++ cs) s;
    addresses = run_addresses;
    each = places-append (length ws) (run_for ws r i vs) rest run.each after.each;
    distinct = subst (λ l. (a b d : ℕ) → a < b → b < length l → get_or l a d ≡ get_or l b d → ⊥) (sym (addresses-append (run_for ws r i vs) rest))
        (distinct-append (addresses_of (run_for ws r i vs)) (addresses_of rest) run.distinct after.distinct run_beside);
  }

-- a run, and places after it
pub both_at : (j : State) (n r i : ℕ) (vs : List ℕ) (cs : List (Place × ℕ)) → IsWellFormed j.plain → i + length vs ≤ length (cells (heap_of j.plain) r)
    → AreElements (heap_of j.plain) r vs → AreThere (heap_of j.plain) cs → ArePlain (heap_of j.plain) (places_of cs)
    → AreApart (places_of (cell_changes r i vs ++ cs))
    → IsWritten j.plain (run_for j.plain r i vs ++ words_of cs) (set_places (heap_of j.plain) (cell_changes r i vs ++ cs))
    (words_at (heap_of j.plain) (places_of (cell_changes r i vs ++ cs)))
both_at j n r i vs cs laid h fit there plain apart =
    let all : AllWords (heap_of j.plain) cs = all_there (heap_of j.plain) cs there plain in
    run_then j.plain r i vs (words_of cs) cs laid h fit (plain_elsewhere (heap_of j.plain) r cs all) apart
    (several_at j n cs laid there plain (apart_after r i vs cs apart))
    (places_after j.plain r i vs cs (run_stands j.plain r i vs h fit laid) all)

-- as a heap's view has it
pub both_written : (j : State) (v : HeapView) (n r i : ℕ) (vs : List ℕ) (cs : List (Place × ℕ)) → heap_view j n ≡ v → IsWellFormed j.plain
    → i + length vs ≤ length (cells v.now r) → AreElements v.now r vs → AreThere v.now cs → ArePlain v.now (places_of cs)
    → AreApart (places_of (cell_changes r i vs ++ cs))
    → IsWritten j.plain (run_for j.plain r i vs ++ words_of cs) (set_places v.now (cell_changes r i vs ++ cs)) (words_at v.now (places_of (cell_changes r i vs ++ cs)))
both_written j v n r i vs cs is laid h fit there plain apart = subst (λ u. i + length vs ≤ length (cells (u.now) r) → AreElements u.now r vs → AreThere u.now cs
    → ArePlain u.now (places_of cs) → IsWritten j.plain (run_for j.plain r i vs ++ words_of cs) (set_places u.now (cell_changes r i vs ++ cs))
    (words_at u.now (places_of (cell_changes r i vs ++ cs)))) is
    (λ a b c d. both_at j n r i vs cs laid a b c d apart) h fit there plain

-- words that are those of the run and of the places
pub both_are_written : (j : State) (v : HeapView) (n r i : ℕ) (vs : List ℕ) (cs : List (Place × ℕ)) (words : List (ℕ × ℕ)) → heap_view j n ≡ v → IsSound j n
    → v.down ≡ false → i + length vs ≤ length (cells v.now r) → AreElements v.now r vs → AreThere v.now cs → ArePlain v.now (places_of cs)
    → AreApart (places_of (cell_changes r i vs ++ cs)) → words ≡ run_for j.plain r i vs ++ words_of cs
    → IsWritten j.plain words (set_places v.now (cell_changes r i vs ++ cs)) (words_at v.now (places_of (cell_changes r i vs ++ cs)))
both_are_written j v n r i vs cs words is s up h fit there plain apart e =
    subst (λ l. IsWritten j.plain l (set_places v.now (cell_changes r i vs ++ cs)) (words_at v.now (places_of (cell_changes r i vs ++ cs)))) (sym e)
    (both_written j v n r i vs cs is (s.now (up_is j v n is up)) h fit there plain apart)
