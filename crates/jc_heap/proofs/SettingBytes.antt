-- A byte of packed words is set.
use Rattle.std.proofs.Common.{◌≡◌, ℕ, ◌+◌, ◌*◌, ◌/◌, ◌%◌, ◌<◌, Bool, List, length, get_or, set, sym, ◌∙◌, ap, arith, inl, inr, eq-eqb, ne_eqb, ext_get_or, set-set, get_or-set_other, get_or-set_same}
use Rattle.std.specs.Prelude.{if◌then◌else◌}
use Rattle.std.proofs.lemmas.Bool.{cases_eq}
use Rattle.std.proofs.lemmas.List.{length-set}
use Rattle.jc_heap.specs.Packed.{packed_byte, byte_in, bytes_of_packed, with_byte}
use Rattle.jc_heap.proofs.PackedBytes.{length-bytes_of_packed, get_or-bytes_of_packed, packed_byte-even, packed_byte-odd}

-- words whose word of index i says v there and at its other index what it said, and are the same beside it
pub record SetsHalf (ws us : List ℕ) (i v : ℕ) : Type 0 where
  pub size : length us ≡ length ws
  pub here : packed_byte us i ≡ v
  pub beside : (k : ℕ) → (k ≡ i → ⊥) → packed_byte us k ≡ packed_byte ws k

pub set_by : (n : ℕ) (ws us : List ℕ) (i v : ℕ) → i < n → SetsHalf ws us i v → bytes_of_packed n us ≡ set (bytes_of_packed n ws) i v
set_by n ws us i v within s =
    ext_get_or 0 (bytes_of_packed n us) (set (bytes_of_packed n ws) i v) (length-bytes_of_packed n us ∙ sym (length-set (bytes_of_packed n ws) i v ∙ length-bytes_of_packed n ws)) each
  where
    each : (k : ℕ) → k < length (bytes_of_packed n us) → get_or (bytes_of_packed n us) k 0 ≡ get_or (set (bytes_of_packed n ws) i v) k 0
    each k below = elim (cases_eq k i) [
      | inl same ↦
          get_or-bytes_of_packed n us k (omega (arith, below, length-bytes_of_packed n us)) ∙ ap (packed_byte us) same ∙ s.here
          ∙ sym (ap (λ (j : ℕ). get_or (set (bytes_of_packed n ws) i v) j 0) same ∙ get_or-set_same (bytes_of_packed n ws) i v 0 (omega (arith, within, length-bytes_of_packed n ws)))
      | inr other ↦
          get_or-bytes_of_packed n us k (omega (arith, below, length-bytes_of_packed n us)) ∙ s.beside k other
          ∙ sym (get_or-set_other (bytes_of_packed n ws) i k v 0 other ∙ get_or-bytes_of_packed n ws k (omega (arith, below, length-bytes_of_packed n us)))
    ]

high_of : (v w : ℕ) → (256 * v + w % 256) / 256 ≡ v
high_of v w = omega arith

low_of : (v w : ℕ) → (256 * v + w % 256) % 256 ≡ w % 256
low_of v w = omega arith

high_kept : (v w : ℕ) → v < 256 → (w / 256 * 256 + v) / 256 ≡ w / 256
high_kept v w small = omega (arith, small)

low_set : (v w : ℕ) → v < 256 → (w / 256 * 256 + v) % 256 ≡ v
low_set v w small = omega (arith, small)

-- another index of the same word is its other half
pub sets_half : (ws : List ℕ) (i v : ℕ) → i / 2 < length ws → v < 256 → SetsHalf ws (set ws (i / 2) (with_byte (get_or ws (i / 2) 0) i v)) i v
sets_half ws i v there small = record { size = length-set ws (i / 2) word; here = here; beside = beside }
  where
    word : ℕ
    word = with_byte (get_or ws (i / 2) 0) i v

    us : List ℕ
    us = set ws (i / 2) word

    at : get_or us (i / 2) 0 ≡ word
    at = get_or-set_same ws (i / 2) word 0 there

    word_even : i % 2 ≡ 0 → word ≡ 256 * v + get_or ws (i / 2) 0 % 256
    word_even e = ap (λ (b : Bool). if b then 256 * v + get_or ws (i / 2) 0 % 256 else get_or ws (i / 2) 0 / 256 * 256 + v) (eq-eqb (i % 2) 0 e)

    word_odd : (i % 2 ≡ 0 → ⊥) → word ≡ get_or ws (i / 2) 0 / 256 * 256 + v
    word_odd e = ap (λ (b : Bool). if b then 256 * v + get_or ws (i / 2) 0 % 256 else get_or ws (i / 2) 0 / 256 * 256 + v) (ne_eqb (i % 2) 0 e)

    here : packed_byte us i ≡ v
    here = elim (cases_eq (i % 2) 0) [
      | inl e ↦ packed_byte-even us i e ∙ ap (λ (x : ℕ). x / 256) (at ∙ word_even e) ∙ high_of v (get_or ws (i / 2) 0)
      | inr e ↦ packed_byte-odd us i e ∙ ap (λ (x : ℕ). x % 256) (at ∙ word_odd e) ∙ low_set v (get_or ws (i / 2) 0) small
    ]

    far : (k : ℕ) → (k / 2 ≡ i / 2 → ⊥) → packed_byte us k ≡ packed_byte ws k
    far k other = ap (λ (x : ℕ). byte_in x k) (get_or-set_other ws (i / 2) (k / 2) word 0 other)

    beside : (k : ℕ) → (k ≡ i → ⊥) → packed_byte us k ≡ packed_byte ws k
    beside k other = elim (cases_eq (k / 2) (i / 2)) [
      | inr apart ↦ far k apart
      | inl same ↦ elim (cases_eq (i % 2) 0) [
        | inl e ↦
            let odd_k : k % 2 ≡ 0 → ⊥ = λ f. other (omega (arith, same, e, f)) in
            packed_byte-odd us k odd_k ∙ ap (λ (j : ℕ). get_or us j 0 % 256) same ∙ ap (λ (x : ℕ). x % 256) (at ∙ word_even e) ∙ low_of v (get_or ws (i / 2) 0)
            ∙ sym (packed_byte-odd ws k odd_k ∙ ap (λ (j : ℕ). get_or ws j 0 % 256) same)
        | inr e ↦
            let even_k : k % 2 ≡ 0 = omega (arith, same, e, other) in
            packed_byte-even us k even_k ∙ ap (λ (j : ℕ). get_or us j 0 / 256) same ∙ ap (λ (x : ℕ). x / 256) (at ∙ word_odd e) ∙ high_kept v (get_or ws (i / 2) 0) small
            ∙ sym (packed_byte-even ws k even_k ∙ ap (λ (j : ℕ). get_or ws j 0 / 256) same)
      ]
    ]

-- both halves of a word
pub sets_both : (n : ℕ) (ws : List ℕ) (i v u : ℕ) → i % 2 ≡ 0 → i + 1 < n → i / 2 < length ws → v < 256 → u < 256 → bytes_of_packed n (set ws (i / 2) (256 * v + u)) ≡ set (set (bytes_of_packed n ws) i v) (i + 1) u
sets_both n ws i v u even_i within there small_v small_u =
    let w : ℕ = get_or ws (i / 2) 0 in
    let first : ℕ = with_byte w i v in
    let us : List ℕ = set ws (i / 2) first in
    let next : (i + 1) / 2 ≡ i / 2 = omega (arith, even_i) in
    let odd_i : (i + 1) % 2 ≡ 0 → ⊥ = λ e. omega (arith, even_i, e) in
    let second : ℕ = with_byte (get_or us ((i + 1) / 2) 0) (i + 1) u in
    let first_is : first ≡ 256 * v + w % 256 = ap (λ (b : Bool). if b then 256 * v + w % 256 else w / 256 * 256 + v) (eq-eqb (i % 2) 0 even_i) in
    let there_is : get_or us ((i + 1) / 2) 0 ≡ first = ap (λ (j : ℕ). get_or us j 0) next ∙ get_or-set_same ws (i / 2) first 0 there in
    let second_is : second ≡ get_or us ((i + 1) / 2) 0 / 256 * 256 + u = ap (λ (b : Bool). if b then 256 * u + get_or us ((i + 1) / 2) 0 % 256 else get_or us ((i + 1) / 2) 0 / 256 * 256 + u) (ne_eqb ((i + 1) % 2) 0 odd_i) in
    let high : first / 256 ≡ v = ap (λ (x : ℕ). x / 256) first_is ∙ high_of v w in
    let both : second ≡ 256 * v + u = omega (arith, second_is, there_is, high) in
    let words : set us ((i + 1) / 2) second ≡ set ws (i / 2) (256 * v + u) = ap (λ (j : ℕ). set us j second) next ∙ set-set ws (i / 2) first second ∙ ap (λ (x : ℕ). set ws (i / 2) x) both in
    let long : length us ≡ length ws = length-set ws (i / 2) first in
    ap (bytes_of_packed n) (sym words)
    ∙ set_by n us (set us ((i + 1) / 2) second) (i + 1) u within (sets_half us (i + 1) u (omega (arith, next, long, there)) small_u)
    ∙ ap (λ (l : List ℕ). set l (i + 1) u) (set_by n ws us i v (omega (arith, within)) (sets_half ws i v there small_v))
