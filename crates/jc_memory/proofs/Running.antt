-- Loops over runs of cells.
use Rattle.std.proofs.Common.{◌≡◌, ℕ, Some, zero, suc, pos, replicate, ◌+◌, ◌<◌, ◌≤◌, List, [], ◌∷◌, ◌++◌, set, take, drop, length, map, refl, sym, ◌∙◌}
use Rattle.std.proofs.Common.{◌%◌, ap, arith, ext_get_or}
use Rattle.std.specs.List.{range_with_len}
use Rattle.std.proofs.lemmas.List.{set_split, take_more_set, length-append, length-map, map-append, take_all}
use Rattle.std.proofs.lemmas.List.FromFn.{map-range_with_len_more, length-map-range_with_len, get_or-map-range_with_len}
use Rattle.std.proofs.lemmas.List.Edits.{paste_all, paste-paste}
use lib.Seq.{paste}
use Rattle.jc_transient.specs.declared.cell.CellValue.{CellValue}
use Rattle.jc_transient.specs.declared.cell.CellValue.TheVariants.{Short}
use Rattle.jc_transient.specs.declared.cell.ClearEvent.{ClearEvent}
use Rattle.jc_transient.specs.declared.cell.ClearEvent.TheVariants.{Reset, Deselect}
use Rattle.jc_transient.specs.Cell.{number_of}
use Rattle.jc_transient.specs.State.{RamState, HasSizes, area, area_size, with_area, with_cells, cell_at}
use Rattle.jc_heap.specs.Heap.{facts}
use Rattle.jc_memory.specs.Cells.{word_of, word_in, word_at, bytes_at, words_at}
use Rattle.jc_memory.specs.State.{MemoryState, ram_after_set}

pub read_more : (f : ℕ → ℕ) (out : List ℕ) (i k v : ℕ) → k < length out → v ≡ f (i + k) → take k out ≡ map f (range_with_len i k)
    → take (k + 1) (set out k v) ≡ map f (range_with_len i (k + 1))
read_more f out i k v here is e =
    take_more_set out k v here ∙ ap (λ l. l ++ v ∷ []) e ∙ ap (λ x. map f (range_with_len i k) ++ x ∷ []) is ∙ sym (map-range_with_len_more f i k (i + k) refl)

pub read_all : (f : ℕ → ℕ) (out : List ℕ) (i k n : ℕ) → k ≡ n → length out ≡ n → take k out ≡ map f (range_with_len i k) → out ≡ map f (range_with_len i n)
read_all f out i k n all long e = sym (take_all k out (omega (arith, all, long))) ∙ e ∙ ap (λ m. map f (range_with_len i m)) all

zeros_are : (n : ℕ) → replicate n (Short (pos 0)) ≡ map number_of (replicate n 0)
zeros_are zero = refl
zeros_are (suc n) = ap (λ l. Short (pos 0) ∷ l) (zeros_are n)

two_parts : (d : List CellValue) (place zeros : ℕ) (bytes : List ℕ) → place ≤ length d →
    with_cells (with_cells d place (map number_of bytes)) (place + length bytes) (replicate zeros (Short (pos 0)))
    ≡ with_cells d place (map number_of (bytes ++ replicate zeros 0))
two_parts d place zeros bytes fits =
    let front = map number_of bytes in
    let back = replicate zeros (Short (pos 0)) in
    let long : length bytes ≡ length front = sym (length-map bytes number_of) in
    let first : with_cells d place front ≡ paste d place front (length front) = sym (paste_all d place front (length front) refl) in
    ap (λ n. with_cells (with_cells d place front) (place + n) back) long
    ∙ ap (λ l. with_cells l (place + length front) back) first
    ∙ sym (paste_all (paste d place front (length front)) (place + length front) back (length back) refl)
    ∙ paste-paste d place front back (length front) (length back) refl refl fits
    ∙ paste_all d place (front ++ back) (length front + length back) (sym (length-append front back))
    ∙ ap (λ n. take place d ++ ((front ++ back) ++ drop (place + n) d)) (sym (length-append front back))
    ∙ ap (with_cells d place) (ap (λ l. front ++ l) (zeros_are zeros) ∙ sym (map-append number_of bytes (replicate zeros 0)))

-- bytes and zeros after them
pub fill_two : (event : ClearEvent) (ram mid new : RamState) (place zeros : ℕ) (bytes : List ℕ) → HasSizes ram → place + length bytes ≤ area_size ram event →
    mid ≡ with_area ram event (with_cells (area ram event) place (map number_of bytes)) →
    new ≡ with_area mid event (with_cells (area mid event) (place + length bytes) (replicate zeros (Short (pos 0)))) →
    new ≡ with_area ram event (with_cells (area ram event) place (map number_of (bytes ++ replicate zeros 0)))
fill_two Reset ram mid new place zeros bytes sizes fits mid_is new_is =
    new_is ∙ ap {A = RamState} (λ m. record m { reset_cells = with_cells m.reset_cells (place + length bytes) (replicate zeros (Short (pos 0))) }) mid_is
    ∙ ap (λ l. record ram { reset_cells = l }) (two_parts ram.reset_cells place zeros bytes (omega (arith, fits, sizes.reset_cells)))
fill_two Deselect ram mid new place zeros bytes sizes fits mid_is new_is =
    new_is ∙ ap {A = RamState} (λ m. record m { deselect_cells = with_cells m.deselect_cells (place + length bytes) (replicate zeros (Short (pos 0))) }) mid_is
    ∙ ap (λ l. record ram { deselect_cells = l }) (two_parts ram.deselect_cells place zeros bytes (omega (arith, fits, sizes.deselect_cells)))

-- the same for the first cells of a transient object
pub filled_from : (event : ClearEvent) (s : MemoryState) (mid new : RamState) (r place zeros : ℕ) (bytes : List ℕ) → HasSizes s.ram
    → (facts s.heap.now r).event ≡ Some event → place ≡ (facts s.heap.now r).place → place + length bytes ≤ area_size s.ram event →
    mid ≡ with_area s.ram event (with_cells (area s.ram event) place (map number_of bytes)) →
    new ≡ with_area mid event (with_cells (area mid event) (place + length bytes) (replicate zeros (Short (pos 0)))) →
    new ≡ ram_after_set s.ram (facts s.heap.now r).event ((facts s.heap.now r).place + 0) (map number_of (bytes ++ replicate zeros 0))
filled_from event s mid new r place zeros bytes sizes transient there fits mid_is new_is =
    fill_two event s.ram mid new place zeros bytes sizes fits mid_is new_is
    ∙ ap (λ n. with_area s.ram event (with_cells (area s.ram event) n (map number_of (bytes ++ replicate zeros 0)))) (omega (arith, there))
    ∙ ap (λ e. ram_after_set s.ram e ((facts s.heap.now r).place + 0) (map number_of (bytes ++ replicate zeros 0))) (sym transient)

-- what is read of an area's cells is read of the object that is kept there
area_read_at : (g : ℕ → ℕ) (s : MemoryState) (r i n p : ℕ) (ram : RamState) (event : ClearEvent) → ram ≡ s.ram → p ≡ (facts s.heap.now r).place
    → (facts s.heap.now r).event ≡ Some event
    → map (λ k. g (word_of (cell_at ram event k))) (range_with_len (p + i) n) ≡ map (λ k. g (word_at s r k)) (range_with_len i n)
area_read_at g s r i n p ram event same there kept =
    let f : ℕ → ℕ = λ k. g (word_of (cell_at s.ram event k)) in
    let own : ℕ → ℕ = λ k. g (word_at s r k) in
    let long : length (map f (range_with_len (p + i) n)) ≡ n = length-map-range_with_len f (p + i) n in
    ap (λ (a : RamState). map (λ k. g (word_of (cell_at a event k))) (range_with_len (p + i) n)) same
    ∙ ext_get_or 0 (map f (range_with_len (p + i) n)) (map own (range_with_len i n)) (long ∙ sym (length-map-range_with_len own i n))
    (λ m h. get_or-map-range_with_len f (p + i) n m (p + (i + m)) 0 (omega (arith, h, long)) (omega arith)
    ∙ ap (λ (q : ℕ). f (q + (i + m))) there ∙ sym (ap (λ e. g (word_in e s r (i + m))) kept)
    ∙ sym (get_or-map-range_with_len own i n m (i + m) 0 (omega (arith, h, long)) (omega arith)))

-- the low bytes of an area's cells are those of the object that is kept there, and so are the words
pub area_bytes_at : (s : MemoryState) (r i n p : ℕ) (ram : RamState) (event : ClearEvent) → ram ≡ s.ram → p ≡ (facts s.heap.now r).place
    → (facts s.heap.now r).event ≡ Some event → map (λ k. word_of (cell_at ram event k) % 256) (range_with_len (p + i) n) ≡ bytes_at s r i n
area_bytes_at = area_read_at (λ w. w % 256)

pub area_words_at : (s : MemoryState) (r i n p : ℕ) (ram : RamState) (event : ClearEvent) → ram ≡ s.ram → p ≡ (facts s.heap.now r).place
    → (facts s.heap.now r).event ≡ Some event → map (λ k. word_of (cell_at ram event k)) (range_with_len (p + i) n) ≡ words_at s r i n
area_words_at = area_read_at (λ w. w)

one_cell : (d : List CellValue) (place : ℕ) (v : CellValue) → place < length d → set d place v ≡ with_cells d place (v ∷ [])
one_cell d place v lt =
    let next : suc place ≡ place + 1 = omega arith in
    set_split d place v lt ∙ ap (λ k. take place d ++ (v ∷ drop k d)) next

-- one cell set is a run of one
pub one_cell_set : (ram : RamState) (event : ClearEvent) (place : ℕ) (v : CellValue) → HasSizes ram → place < area_size ram event
    → with_area ram event (set (area ram event) place v) ≡ with_area ram event (with_cells (area ram event) place (v ∷ []))
one_cell_set ram Reset place v sizes lt = ap {A = List CellValue} (λ l. record ram { reset_cells = l }) (one_cell ram.reset_cells place v (omega (arith, lt, sizes.reset_cells)))
one_cell_set ram Deselect place v sizes lt = ap {A = List CellValue} (λ l. record ram { deselect_cells = l }) (one_cell ram.deselect_cells place v (omega (arith, lt, sizes.deselect_cells)))
