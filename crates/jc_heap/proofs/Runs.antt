-- The words of a run of cells.
use Rattle.std.proofs.Common.{◌≡◌, ℕ, zero, suc, ◌+◌, ◌*◌, ◌%◌, ◌<◌, List, [], ◌∷◌, ◌++◌, length, take, set, get_or, refl, sym, ◌∙◌, ap, arith, Option, Some, None, Bool}
use Rattle.std.proofs.Common.{add-zero}
use Rattle.std.proofs.lemmas.List.{length-append, length-take, take_more, take_more_set}
use Rattle.std.specs.List.{range_with_len}
use Rattle.std.specs.Option.{is_some}
use mir.Val.{bool_byte}
use Rattle.jc_commit.specs.Entries.{addresses_of}
use Rattle.jc_commit.specs.Runs.{run_words}
use Rattle.jc_heap.specs.Heap.{HeapState, SameShape, set_cell, set_cells}
use Rattle.jc_heap.specs.Packed.{packed_words}
use Rattle.jc_heap.specs.Elements.{byte_or_none, bytes_with}
use Rattle.jc_heap.proofs.Laws.{shape-set}
use Rattle.jc_heap.proofs.Packing.{length-packed_words}

address-at : (at : ℕ) (vs : List ℕ) (k d : ℕ) → k < length (addresses_of (run_words at vs)) → get_or (addresses_of (run_words at vs)) k d ≡ at + k
address-at at [] k d h = absurd (omega arith)
address-at at (v ∷ vs) zero d h = sym (add-zero at)
address-at at (v ∷ vs) (suc k) d h = address-at (suc at) vs k d (omega arith) ∙ (omega arith)

pub distinct-run : (at : ℕ) (vs : List ℕ) (i j d : ℕ) → i < j → j < length (addresses_of (run_words at vs))
    → get_or (addresses_of (run_words at vs)) i d ≡ get_or (addresses_of (run_words at vs)) j d → ⊥
distinct-run at vs i j d below within e =
    omega (arith, address-at at vs i d (omega arith), address-at at vs j d within, e, below)

-- a run's words stand one after another
pub addresses-run : (at : ℕ) (vs : List ℕ) → addresses_of (run_words at vs) ≡ range_with_len at (length vs)
addresses-run at [] = refl
addresses-run at (v ∷ vs) = let next : suc at ≡ at + 1 = omega arith in
    ap (λ l. at ∷ l) (addresses-run (suc at) vs ∙ ap (λ a. range_with_len a (length vs)) next)

-- how many bytes stand in the words of a run of bytes
pub length-bytes_with : (before : Option ℕ) (vs : List ℕ) (behind : Option ℕ)
    → length (bytes_with before vs behind) ≡ length (byte_or_none before) + (length vs + length (byte_or_none behind))
length-bytes_with before vs behind = omega (
  arith,
  length-append (byte_or_none before) (vs ++ byte_or_none behind),
  length-append vs (byte_or_none behind),
)

-- how many words they are
pub length-double : (before : Option ℕ) (vs : List ℕ) (behind : Option ℕ) (n : ℕ) → length (byte_or_none before) + length vs + length (byte_or_none behind) ≡ n
    → 2 * length (packed_words (bytes_with before vs behind)) ≡ n + n % 2
length-double before vs behind n e = omega (
  arith,
  length-packed_words (bytes_with before vs behind),
  length-bytes_with before vs behind,
  e,
)

-- a byte that may be there counts for one where it is
pub count_byte : (b : Option ℕ) (m : Bool) (n : ℕ) → m ≡ is_some b → n ≡ bool_byte m → n ≡ length (byte_or_none b)
count_byte None m n e f = f ∙ ap bool_byte e
count_byte (Some w) m n e f = f ∙ ap bool_byte e

-- a run of cells set leaves the shape
pub shape-run : (d h : HeapState) (r i : ℕ) (vs : List ℕ) → SameShape d h → SameShape d (set_cells h r i vs)
shape-run d h r i [] s = s
shape-run d h r i (v ∷ vs) s = shape-run d (set_cell h r i v) r (suc i) vs (shape-set d h r i v s)

run_words-end : (at : ℕ) (vs : List ℕ) (v : ℕ) → run_words at (vs ++ v ∷ []) ≡ run_words at vs ++ (at + length vs, v) ∷ []
run_words-end at [] v = ap (λ (a : ℕ). (a, v) ∷ []) (sym (add-zero at))
run_words-end at (x ∷ vs) v =
    let next : suc at + length vs ≡ at + suc (length vs) = omega arith in
    ap (λ (l : List (ℕ × ℕ)). (at, x) ∷ l) (run_words-end (suc at) vs v ∙ ap (λ (a : ℕ). run_words (suc at) vs ++ (a, v) ∷ []) next)

-- one word more of a run in its room
pub filled_more : (at : ℕ) (room : List ℕ) (cs : List (ℕ × ℕ)) (k v : ℕ) → k < length room → k < length cs → run_words at (take k room) ≡ take k cs
    → (get_or cs k (0, 0)).0 ≡ at + k → v ≡ (get_or cs k (0, 0)).1 → run_words at (take (k + 1) (set room k v)) ≡ take (k + 1) cs
filled_more at room cs k v there within before address value =
    let long : length (take k room) ≡ k = omega (arith, length-take k room, there) in
    let place : at + length (take k room) ≡ (get_or cs k (0, 0)).0 = omega (arith, long, address) in
    let here : (at + length (take k room), v) ≡ get_or cs k (0, 0) = λ i. (place i, value i) in
    ap (run_words at) (take_more_set room k v there) ∙ run_words-end at (take k room) v
    ∙ (λ i. before i ++ here i ∷ []) ∙ sym (take_more cs k (0, 0) within)
