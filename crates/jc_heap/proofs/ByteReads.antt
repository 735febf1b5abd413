-- Bytes that are read out of the words of cells.
use Rattle.std.proofs.Common.{◌≡◌, ℕ, ◌+◌, ◌*◌, ◌-◌, ◌/◌, ◌%◌, ◌<◌, ◌≤◌, true, false, inl, inr, List, length, map, get_or, set, sym, ◌∙◌, ap, subst, arith}
use Rattle.std.proofs.Common.{ext_get_or, if◌then◌else◌, get_or-set_other, get_or-set_same}
use Rattle.std.specs.List.{range_with_len}
use Rattle.std.proofs.lemmas.Bool.{cases_lt, eq-eqb, ne_eqb}
use Rattle.std.proofs.lemmas.List.FromFn.{length-map-range_with_len, get_or-map-range_with_len}
use Rattle.jc_words.specs.Layout.{text_start}
use Rattle.jc_heap.specs.Object.{is_packed}
use Rattle.jc_heap.specs.Heap.{heap_of, cells, facts, cell_address}
use Rattle.jc_heap.specs.Packed.{byte_in, low_byte_of}
use Rattle.jc_heap.proofs.Views.{packed_spot, packed_read, single_spot, single_read}

-- the first n of a list are what this function gives from an index on
abbrev pub AreRead : (ℕ → ℕ) → ℕ → ℕ → List ℕ → Type 0
AreRead f i n out = (m : ℕ) → m < n → get_or out m 0 ≡ f (i + m)

pub all_read : (f : ℕ → ℕ) (out : List ℕ) (i n : ℕ) → length out ≡ n → AreRead f i n out → out ≡ map f (range_with_len i n)
all_read f out i n long read = ext_get_or 0 out (map f (range_with_len i n)) (long ∙ sym (length-map-range_with_len f i n))
    (λ m h. read m (omega (arith, h, long)) ∙ sym (get_or-map-range_with_len f i n m (i + m) 0 (omega (arith, h, long)) (omega arith)))

-- one more
pub read_more : (f : ℕ → ℕ) (out : List ℕ) (i p a : ℕ) → p < length out → AreRead f i p out → a ≡ f (i + p) → AreRead f i (p + 1) (set out p a)
read_more f out i p a within read is m h = elim (cases_lt m p) [
  | inl before ↦ get_or-set_other out p m a 0 (λ (e : m ≡ p). omega (arith, e, before)) ∙ read m before
  | inr there ↦
      let e : p ≡ m = omega (arith, h, there) in
      subst (λ (k : ℕ). get_or (set out p a) k 0 ≡ f (i + k)) e (get_or-set_same out p a 0 within ∙ is)
]

-- where the words stand that hold two bytes of the run each
pub pair_spot : (ws : List ℕ) (r i b k n : ℕ) → i + n ≤ length (cells (heap_of ws) r) → is_packed (facts (heap_of ws) r) ≡ true → b ≡ i % 2 → b + 2 * k < n
    → (cell_address r (i / 2 + b) + k < length ws) × (text_start ≤ cell_address r (i / 2 + b) + k)
    × (cell_address r (i / 2 + b) + k ≡ cell_address r ((i + (b + 2 * k)) / 2))
unfolding cell_address
pair_spot ws r i b k n fits packed odd h =
    let spot = packed_spot ws r (i + (b + 2 * k)) (omega (arith, fits, h)) packed in
    let same : i / 2 + b + k ≡ (i + (b + 2 * k)) / 2 = omega (arith, odd) in
    (omega (arith, same, spot.0), omega (arith, same, spot.1), omega (arith, same))

-- the words that hold two bytes of the run each end within the store
pub pairs_end : (ws : List ℕ) (r i b n : ℕ) → i + n ≤ length (cells (heap_of ws) r) → is_packed (facts (heap_of ws) r) ≡ true → 0 < n → length ws < 65536
    → b ≡ i % 2 → cell_address r (i / 2 + b) + (n - b) / 2 < 65536
unfolding cell_address
pairs_end ws r i b n fits packed some small odd =
    let last = packed_spot ws r (i + (n - 1)) (omega (arith, fits, some)) packed in
    omega (arith, last.0, small, odd, some)

-- the high byte of a word and the low one, as cells
pub high_read : (ws : List ℕ) (r x w b : ℕ) → x < length (cells (heap_of ws) r) → is_packed (facts (heap_of ws) r) ≡ true → x % 2 ≡ 0
    → w ≡ get_or ws (cell_address r (x / 2)) 0 → b ≡ w / 256 → b < 256 → b ≡ low_byte_of (cells (heap_of ws) r) x
high_read ws r x w b h packed even is byte small =
    let cell : get_or (cells (heap_of ws) r) x 0 ≡ w / 256 =
    packed_read ws r x h packed ∙ ap (λ (v : ℕ). byte_in v x) (sym is) ∙ ap (λ c. if c then w / 256 else w % 256) (eq-eqb (x % 2) 0 even) in
    omega (arith, cell, byte, small)

pub low_read : (ws : List ℕ) (r x w b : ℕ) → x < length (cells (heap_of ws) r) → is_packed (facts (heap_of ws) r) ≡ true → (x % 2 ≡ 0 → ⊥)
    → w ≡ get_or ws (cell_address r (x / 2)) 0 → b ≡ w % 256 → b ≡ low_byte_of (cells (heap_of ws) r) x
low_read ws r x w b h packed odd is byte =
    let cell : get_or (cells (heap_of ws) r) x 0 ≡ w % 256 =
    packed_read ws r x h packed ∙ ap (λ (v : ℕ). byte_in v x) (sym is) ∙ ap (λ c. if c then w / 256 else w % 256) (ne_eqb (x % 2) 0 odd) in
    omega (arith, cell, byte)

-- a cell that has a word of its own
pub single_at : (ws : List ℕ) (r i k n : ℕ) → i + n ≤ length (cells (heap_of ws) r) → is_packed (facts (heap_of ws) r) ≡ false → k < n
    → (cell_address r i + k < length ws) × (text_start ≤ cell_address r i + k) × (get_or (cells (heap_of ws) r) (i + k) 0 ≡ get_or ws (cell_address r i + k) 0)
unfolding cell_address
single_at ws r i k n fits single h =
    let within : i + k < length (cells (heap_of ws) r) = omega (arith, fits, h) in
    let spot = single_spot ws r (i + k) within single in
    let same : cell_address r (i + k) ≡ cell_address r i + k = omega arith in
    (omega (arith, same, spot.0), omega (arith, same, spot.1), single_read ws r (i + k) within single ∙ ap (λ (a : ℕ). get_or ws a 0) same)
