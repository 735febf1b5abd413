-- The bytes of packed words.
use Rattle.std.proofs.Common.{◌≡◌, ℕ, ◌+◌, ◌*◌, ◌/◌, ◌%◌, ◌<◌, ◌≤◌, min, inl, inr, List, ◌++◌, length, get_or, replicate, sym, ◌∙◌, ap, arith}
use Rattle.std.proofs.Common.{if◌then◌else◌, ext_get_or}
use Rattle.std.proofs.lemmas.Bool.{cases_eq, cases_lt, eq-eqb, ne_eqb}
use Rattle.std.proofs.lemmas.List.{get_or-replicate, get_or_past, get_or_append_left, length-replicate, append-nil}
use Rattle.std.proofs.lemmas.List.FromFn.{length-map-range_with_len, get_or-map-range_with_len}
use Rattle.jc_heap.specs.Packed.{packed_words, packed_byte, bytes_of_packed}
use Rattle.jc_heap.proofs.Packing.{length-packed_words, packed_words-at}

pub length-bytes_of_packed : (n : ℕ) (ws : List ℕ) → length (bytes_of_packed n ws) ≡ n
unfolding bytes_of_packed
length-bytes_of_packed n ws = length-map-range_with_len (packed_byte ws) 0 n

pub get_or-bytes_of_packed : (n : ℕ) (ws : List ℕ) (k : ℕ) → k < n → get_or (bytes_of_packed n ws) k 0 ≡ packed_byte ws k
unfolding bytes_of_packed
get_or-bytes_of_packed n ws k below = get_or-map-range_with_len (packed_byte ws) 0 n k k 0 below (omega arith)

-- the high byte of a word and the low one
pub packed_byte-even : (ws : List ℕ) (i : ℕ) → i % 2 ≡ 0 → packed_byte ws i ≡ get_or ws (i / 2) 0 / 256
packed_byte-even ws i e = ap (λ b. if b then get_or ws (i / 2) 0 / 256 else get_or ws (i / 2) 0 % 256) (eq-eqb (i % 2) 0 e)

pub packed_byte-odd : (ws : List ℕ) (i : ℕ) → (i % 2 ≡ 0 → ⊥) → packed_byte ws i ≡ get_or ws (i / 2) 0 % 256
packed_byte-odd ws i n = ap (λ b. if b then get_or ws (i / 2) 0 / 256 else get_or ws (i / 2) 0 % 256) (ne_eqb (i % 2) 0 n)

-- a byte of packed bytes
pub packed_byte-is : (bs more : List ℕ) (i : ℕ) → i < length bs → ((k : ℕ) → get_or bs k 0 < 256) → packed_byte (packed_words bs ++ more) i ≡ get_or bs i 0
packed_byte-is bs more i h small =
    let within : i / 2 < length (packed_words bs) = omega (arith, length-packed_words bs) in
    let word : get_or (packed_words bs ++ more) (i / 2) 0 ≡ get_or bs (2 * (i / 2)) 0 * 256 + get_or bs (2 * (i / 2) + 1) 0 =
    get_or_append_left (packed_words bs) more 0 (i / 2) within ∙ packed_words-at bs (i / 2) within in
    let high : get_or bs (2 * (i / 2)) 0 < 256 = small (2 * (i / 2)) in
    let low : get_or bs (2 * (i / 2) + 1) 0 < 256 = small (2 * (i / 2) + 1) in
    elim (cases_eq (i % 2) 0) [
      | inl e ↦
          let at : 2 * (i / 2) ≡ i = omega arith in
          packed_byte-even (packed_words bs ++ more) i e ∙ ap (λ w. w / 256) word ∙ (omega arith) ∙ ap (λ k. get_or bs k 0) at
      | inr n ↦
          let at : 2 * (i / 2) + 1 ≡ i = omega arith in
          packed_byte-odd (packed_words bs ++ more) i n ∙ ap (λ w. w % 256) word ∙ (omega arith) ∙ ap (λ k. get_or bs k 0) at
    ]

-- bytes that are packed stand in their words
pub bytes_of_packed_words : (bs : List ℕ) → ((k : ℕ) → get_or bs k 0 < 256) → bytes_of_packed (length bs) (packed_words bs) ≡ bs
bytes_of_packed_words bs small =
    let long : length (bytes_of_packed (length bs) (packed_words bs)) ≡ length bs = length-bytes_of_packed (length bs) (packed_words bs) in
    ext_get_or 0 (bytes_of_packed (length bs) (packed_words bs)) bs long
    (λ i h. get_or-bytes_of_packed (length bs) (packed_words bs) i (omega (arith, h, long))
    ∙ ap (λ ws. packed_byte ws i) (sym (append-nil (packed_words bs))) ∙ packed_byte-is bs _ i (omega (arith, h, long)) small)

-- words that are zero hold bytes that are
zero_word : (m k : ℕ) → get_or {A = ℕ} (replicate m 0) k 0 ≡ 0
zero_word m k = elim (cases_lt k m) [ inl h ↦ get_or-replicate m k 0 0 h | inr h ↦ get_or_past (replicate m 0) k 0 (omega (arith, h, length-replicate {A = ℕ} m 0)) ]

zero_byte : (m i : ℕ) → packed_byte (replicate m 0) i ≡ 0
zero_byte m i = elim (cases_eq (i % 2) 0) [
  | inl e ↦ packed_byte-even (replicate m 0) i e ∙ ap (λ w. w / 256) (zero_word m (i / 2))
  | inr n ↦ packed_byte-odd (replicate m 0) i n ∙ ap (λ w. w % 256) (zero_word m (i / 2))
]

pub bytes_of_zeros : (n m : ℕ) → bytes_of_packed n (replicate m 0) ≡ replicate n 0
bytes_of_zeros n m =
    let long : length (bytes_of_packed n (replicate m 0)) ≡ n = length-bytes_of_packed n (replicate m 0) in
    ext_get_or 0 (bytes_of_packed n (replicate m 0)) (replicate n 0) (long ∙ sym (length-replicate {A = ℕ} n 0))
    (λ i h. get_or-bytes_of_packed n (replicate m 0) i (omega (arith, h, long)) ∙ zero_byte m i ∙ sym (get_or-replicate n i 0 0 (omega (arith, h, long))))

-- words that have place for n bytes hold no fewer
pub bytes_of_all : (n : ℕ) (ws : List ℕ) → n ≤ 2 * length ws → bytes_of_packed (min n (2 * length ws)) ws ≡ bytes_of_packed n ws
bytes_of_all n ws le = let all : min n (2 * length ws) ≡ n = omega (arith, le) in ap (λ k. bytes_of_packed k ws) all
