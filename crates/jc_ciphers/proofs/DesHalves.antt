-- Halves of a block as numbers, the round function on them, and a block's bytes.
use Rattle.std.proofs.Common.{◌≡◌, ℕ, zero, suc, ◌+◌, ◌-◌, ◌*◌, ◌/◌, ◌%◌, ◌^◌, ◌<◌, ◌==◌, bit_xor, Bool, true, false, if◌then◌else◌, nat_le, refl, sym, ap, ◌∙◌, arith, List, [], ◌∷◌, ◌++◌, length, slice_index, inl, inr}
use Rattle.std.specs.Int.{from_be_bytes, to_be_bytes, w64}
use Rattle.std.proofs.lemmas.Bool.{cases_lt}
use Rattle.std.proofs.lemmas.Bool.Decides.{nat_tests}
use Rattle.std.proofs.lemmas.List.{get_or_append_left, get_or-append_right}
use Rattle.std.proofs.lemmas.Nat.{xor_mod}
use Rattle.jc_ciphers.specs.Des.{bit, bit_of_bytes, bits_of, byte_of_bits, bytes_of, halves, keyed, keyed_bit, listed, mangled, place_of, right_bit, right_of, round, round_bit, rounds, schedule, select, selected_bit, substituted, substituted_bit, swapped, swapped_bit}
use Rattle.jc_ciphers.specs.DesTables.{expansion, final_permutation, initial_permutation, key_choice_1, key_choice_2, permutation}
use Rattle.jc_ciphers.specs.DesNumbers.{AreBits, IsBits, number_of, six_of_bits, sixes, IsHalves, source, wide_bit}
use Rattle.jc_ciphers.proofs.DesLists.{IsBits-listed, listed-at}
use Rattle.jc_ciphers.proofs.DesNumbers.{AreBits-xor, all_below, lt_below, number_of-append, number_of-bit, number_of-lt, number_of-one, number_of-same, number_of-window, number_of-xor, same_below}

-- ---- bits

pub IsBits-select : (table bits : List ℕ) → IsBits bits → IsBits (select table bits)
IsBits-select table bits are = IsBits-listed (selected_bit table bits) (length table) (λ i. are _)

pub IsBits-bits_of : (bytes : List ℕ) → IsBits (bits_of bytes)
IsBits-bits_of bytes = IsBits-listed (bit_of_bytes bytes) 64 (λ i. omega arith)

halves-bits : (key : List ℕ) (n : ℕ) → IsBits (halves key n)
unfolding halves
halves-bits key zero = IsBits-select key_choice_1 (bits_of key) (IsBits-bits_of key)
halves-bits key (suc n) = let before = halves-bits key n in IsBits-listed _ 56 (λ i. before _)

none_bits : IsBits []
none_bits i = omega arith

append_bits : (xs ys : List ℕ) → IsBits xs → IsBits ys → IsBits (xs ++ ys)
append_bits xs ys bx by i =
    elim (cases_lt i (length xs)) as (λ _. slice_index (xs ++ ys) i < 2) [
      | inl low ↦ let is = get_or_append_left xs ys 0 i low in let fits = bx i in omega (arith, is, fits)
      | inr up ↦ let is = get_or-append_right xs ys (length xs) i 0 refl up in let fits = by (i - length xs) in omega (arith, is, fits)
    ]

pub IsBits-schedule : (key : List ℕ) (n : ℕ) → IsBits (schedule key n)
unfolding schedule
IsBits-schedule key zero = none_bits
IsBits-schedule key (suc n) = append_bits (schedule key n) _ (IsBits-schedule key n) (IsBits-select key_choice_2 _ (halves-bits key (suc n)))

pub round_bit-lt : (block mixed : List ℕ) → IsBits block → IsBits mixed → AreBits (round_bit block mixed)
round_bit-lt block mixed bb bm i =
    let sum = AreBits-xor (slice_index block) (slice_index mixed) bb bm (i - 32) in
    let plain = bb (32 + i) in
    elim (nat_le 32 i) as (λ b. (if b then bit_xor (slice_index block (i - 32)) (slice_index mixed (i - 32)) else slice_index block (32 + i)) < 2) [
      | true ↦ sum
      | false ↦ plain
    ]

pub IsBits-mangled : (right keys : List ℕ) (n : ℕ) → IsBits (mangled right keys n)
unfolding mangled
IsBits-mangled right keys n = IsBits-select permutation _ (IsBits-listed (substituted_bit _) 32 (λ i. omega arith))

pub IsBits-round : (block keys : List ℕ) (n : ℕ) → IsBits block → IsBits (round block keys n)
unfolding round
IsBits-round block keys n bits =
    IsBits-listed _ 64 (round_bit-lt block (mangled (right_of block) keys n) bits (IsBits-mangled (right_of block) keys n))

pub IsBits-rounds : (b : Bool) (keys block : List ℕ) (n : ℕ) → IsBits block → IsBits (rounds b keys block n)
unfolding rounds
IsBits-rounds b keys block zero bits = bits
IsBits-rounds b keys block (suc n) bits = IsBits-round (rounds b keys block n) keys (place_of b n) (IsBits-rounds b keys block n bits)

pub right-at : (block : List ℕ) (i : ℕ) → i < 32 → slice_index (right_of block) i ≡ slice_index block (32 + i)
unfolding right_of
right-at block i low = listed-at (right_bit block) 32 i low

pub IsBits-right_of : (block : List ℕ) → IsBits block → IsBits (right_of block)
unfolding right_of
IsBits-right_of block bits = IsBits-listed (right_bit block) 32 (λ i. bits (32 + i))

-- ---- E, as windows

pub wide-is : (f : ℕ → ℕ) (x : ℕ) → AreBits f → x ≡ number_of f 32
    → x % 2 * 8589934592 + x * 2 + x / 2147483648 ≡ number_of (wide_bit f) 34
wide-is f x bits is =
    let wf : ℕ → ℕ = wide_bit f in
    let fits : number_of f 32 < 2 ^ 32 = number_of-lt f 32 bits in
    let first : number_of wf 1 ≡ f 31 = number_of-one wf in
    let lowest : number_of f 32 / 2 ^ 0 % 2 ≡ f 31 = number_of-bit f 31 0 32 bits refl in
    let highest : number_of f 32 / 2 ^ 31 % 2 ≡ f 0 = number_of-bit f 0 31 32 bits refl in
    let outer : number_of wf 34 ≡ number_of wf 1 * 2 ^ 33 + number_of (λ i. wf (1 + i)) 33 = number_of-append wf 1 33 in
    let inner : number_of (λ i. wf (1 + i)) 33 ≡ number_of (λ i. wf (1 + i)) 32 * 2 ^ 1 + number_of (λ t. wf (1 + (32 + t))) 1 = number_of-append (λ i. wf (1 + i)) 32 1 in
    let middle : number_of (λ i. wf (1 + i)) 32 ≡ number_of f 32 = number_of-same _ f 32 (λ i low. let at : (31 + (1 + i)) % 32 ≡ i = omega arith in ap f at) in
    let last : number_of (λ t. wf (1 + (32 + t))) 1 ≡ f 0 = number_of-one (λ t. wf (1 + (32 + t))) in
    rw is (omega (arith, fits, first, lowest, highest, outer, inner, middle, last))

all_places : all_below (λ k. source expansion k == (31 + (4 * (k / 6) + k % 6)) % 32) 48 ≡ true
all_places = refl

expanded-at : (half : List ℕ) (i t : ℕ) → i < 8 → t < 6 → slice_index (select expansion half) (6 * i + t) ≡ wide_bit (slice_index half) (4 * i + t)
expanded-at half i t li lt =
    let k : ℕ = 6 * i + t in
    let within : k < 48 = omega arith in
    let whole : k / 6 ≡ i = omega arith in
    let rest : k % 6 ≡ t = omega arith in
    listed-at (selected_bit expansion half) 48 k within
    ∙ ap (slice_index half) (same_below (λ k. source expansion k) (λ k. (31 + (4 * (k / 6) + k % 6)) % 32) 48 all_places k within
    ∙ (λ j. (31 + (4 * whole j + rest j)) % 32))

bit-is : (x : ℕ) → x < 2 → x % 2 ≡ x
bit-is x low = omega arith

-- six bits of the schedule
six-number : (bits : List ℕ) (k : ℕ) → IsBits bits → six_of_bits bits k ≡ number_of (λ t. slice_index bits (6 * k + t)) 6
unfolding number_of
six-number bits k are =
    let b0 = are (6 * k) in
    let b1 = are (6 * k + 1) in
    let b2 = are (6 * k + 2) in
    let b3 = are (6 * k + 3) in
    let b4 = are (6 * k + 4) in
    let b5 = are (6 * k + 5) in
    let first : 6 * k + 0 ≡ 6 * k = omega arith in
    rw first (omega (arith, b0, b1, b2, b3, b4, b5))

pub key_bit : List ℕ → List ℕ → ℕ → ℕ → ℕ → ℕ
key_bit half bits n i t = keyed_bit (select expansion half) bits n (6 * i + t)

pub key_bit-lt : (half bits : List ℕ) (n i : ℕ) → IsBits half → IsBits bits → AreBits (key_bit half bits n i)
unfolding key_bit
key_bit-lt half bits n i bh bb t =
    AreBits-xor (λ k. slice_index (select expansion half) k) (λ k. slice_index bits (48 * n + k)) (IsBits-select expansion half bh) (λ k. bb (48 * n + k)) (6 * i + t)

-- what goes into S-box i
pub six-is : (half bits keys : List ℕ) (n i w : ℕ) → IsBits half → IsBits bits → keys ≡ sixes bits → n < 16 → i < 8
    → w ≡ number_of (wide_bit (slice_index half)) 34
    → bit_xor (w / 2 ^ (28 - 4 * i)) (slice_index keys (8 * n + i)) % 64 ≡ number_of (key_bit half bits n i) 6
unfolding key_bit
six-is half bits keys n i w bh bb is ln li whole =
    let wf : ℕ → ℕ = wide_bit (slice_index half) in
    let wide_bits : AreBits wf = λ k. bh ((31 + k) % 32) in
    let k : ℕ = 8 * n + i in
    let all : 4 * i + 6 + (28 - 4 * i) ≡ 34 = omega arith in
    let window : w / 2 ^ (28 - 4 * i) % 2 ^ 6 ≡ number_of (λ t. wf (4 * i + t)) 6 =
    ap (λ (x : ℕ). x / 2 ^ (28 - 4 * i) % 2 ^ 6) (whole ∙ ap (number_of wf) (sym all)) ∙ number_of-window wf (4 * i) 6 (28 - 4 * i) wide_bits in
    let key_at : slice_index keys k ≡ number_of (λ t. slice_index bits (6 * k + t)) 6 =
    ap (λ (xs : List ℕ). slice_index xs k) is ∙ listed-at (six_of_bits bits) 128 k (omega arith) ∙ six-number bits k bb in
    let low : number_of (λ t. slice_index bits (6 * k + t)) 6 < 64 = number_of-lt (λ t. slice_index bits (6 * k + t)) 6 (λ t. bb (6 * k + t)) in
    let key_low : slice_index keys k % 2 ^ 6 ≡ number_of (λ t. slice_index bits (6 * k + t)) 6 = omega (arith, key_at, low) in
    xor_mod (w / 2 ^ (28 - 4 * i)) (slice_index keys k) 6
    ∙ (λ j. bit_xor (window j) (key_low j))
    ∙ number_of-xor (λ t. wf (4 * i + t)) (λ t. slice_index bits (6 * k + t)) 6 (λ t. wide_bits (4 * i + t)) (λ t. bb (6 * k + t))
    ∙ number_of-same _ _ 6 (λ t lt.
    let place : 6 * k + t ≡ 48 * n + (6 * i + t) = omega arith in
    λ j. bit_xor (sym (expanded-at half i t li lt) j) (slice_index bits (place j)))

-- what the S-box takes of the bits with the round key in
pub keyed-at : (half bits : List ℕ) (n i t : ℕ) → IsBits half → IsBits bits → i < 8 → t < 6
    → bit (keyed (select expansion half) bits n) (6 * i + t) ≡ key_bit half bits n i t
unfolding key_bit
keyed-at half bits n i t bh bb li lt =
    let is : slice_index (keyed (select expansion half) bits n) (6 * i + t) ≡ keyed_bit (select expansion half) bits n (6 * i + t) =
    listed-at (keyed_bit (select expansion half) bits n) 48 (6 * i + t) (omega arith) in
    let low : keyed_bit (select expansion half) bits n (6 * i + t) < 2 =
    AreBits-xor (λ k. slice_index (select expansion half) k) (λ k. slice_index bits (48 * n + k)) (IsBits-select expansion half bh) (λ k. bb (48 * n + k)) (6 * i + t) in
    ap (λ (x : ℕ). x % 2) is ∙ bit-is _ low

pub sources_permutation : (j : ℕ) → j < 32 → source permutation j < 32
sources_permutation = lt_below (source permutation) 32 32 refl

pub groups_permutation : (j : ℕ) → j < 32 → source permutation j / 4 < 8
groups_permutation j low = let at = sources_permutation j low in omega (arith, at)

pub sources_initial : (j : ℕ) → j < 64 → source initial_permutation j < 64
sources_initial = lt_below (source initial_permutation) 64 64 refl

pub sources_final : (j : ℕ) → j < 64 → source final_permutation j < 64
sources_final = lt_below (source final_permutation) 64 64 refl

-- P of the S-boxes, as a number
pub mangled-number : (half bits : List ℕ) (n : ℕ)
    → number_of (λ j. substituted_bit (keyed (select expansion half) bits n) (source permutation j)) 32 ≡ number_of (slice_index (mangled half bits n)) 32
unfolding mangled
mangled-number half bits n =
    let kd : List ℕ = keyed (select expansion half) bits n in
    number_of-same _ _ 32 (λ j low.
    sym (listed-at (selected_bit permutation (substituted kd)) 32 j low ∙ listed-at (substituted_bit kd) 32 (source permutation j) (sources_permutation j low)))

-- ---- bytes and numbers

byte_number : (b : ℕ) → b < 256 → number_of (λ t. b / 2 ^ (7 - t) % 2) 8 ≡ b
unfolding number_of
byte_number b low = omega arith

pub byte_at_number : (block : List ℕ) (k : ℕ) → k < 8 → slice_index block k < 256 → number_of (λ t. slice_index (bits_of block) (8 * k + t)) 8 ≡ slice_index block k
byte_at_number block k lk low =
    number_of-same _ (λ t. slice_index block k / 2 ^ (7 - t) % 2) 8 (λ t lt.
    let whole : (8 * k + t) / 8 ≡ k = omega arith in
    let rest : (8 * k + t) % 8 ≡ t = omega arith in
    listed-at (bit_of_bytes block) 64 (8 * k + t) (omega arith) ∙ (λ j. slice_index block (whole j) / 2 ^ (7 - rest j) % 2))
    ∙ byte_number (slice_index block k) low

more_bytes : (f : ℕ → ℕ) (a k b : ℕ) → a ≡ 8 * k → number_of (λ t. f (8 * k + t)) 8 ≡ b → number_of f (a + 8) ≡ number_of f a * 256 + b
more_bytes f a k b at is =
    number_of-append f a 8 ∙ ap (λ (x : ℕ). number_of f a * 256 + x) (number_of-same _ _ 8 (λ t lt. let place : a + t ≡ 8 * k + t = omega arith in ap f place) ∙ is)

number_of-none : (f : ℕ → ℕ) → number_of f 0 ≡ 0
unfolding number_of
number_of-none f = refl

pub block-number : (block : List ℕ) → ((k : ℕ) → k < 8 → slice_index block k < 256) → from_be_bytes w64 block ≡ number_of (slice_index (bits_of block)) 64
block-number block bytes =
    let f : ℕ → ℕ = slice_index (bits_of block) in
    let n0 : number_of f 0 ≡ 0 = number_of-none f in
    let n1 : number_of f 8 ≡ number_of f 0 * 256 + slice_index block 0 = more_bytes f 0 0 _ refl (byte_at_number block 0 (omega arith) (bytes 0 (omega arith))) in
    let n2 : number_of f 16 ≡ number_of f 8 * 256 + slice_index block 1 = more_bytes f 8 1 _ refl (byte_at_number block 1 (omega arith) (bytes 1 (omega arith))) in
    let n3 : number_of f 24 ≡ number_of f 16 * 256 + slice_index block 2 = more_bytes f 16 2 _ refl (byte_at_number block 2 (omega arith) (bytes 2 (omega arith))) in
    let n4 : number_of f 32 ≡ number_of f 24 * 256 + slice_index block 3 = more_bytes f 24 3 _ refl (byte_at_number block 3 (omega arith) (bytes 3 (omega arith))) in
    let n5 : number_of f 40 ≡ number_of f 32 * 256 + slice_index block 4 = more_bytes f 32 4 _ refl (byte_at_number block 4 (omega arith) (bytes 4 (omega arith))) in
    let n6 : number_of f 48 ≡ number_of f 40 * 256 + slice_index block 5 = more_bytes f 40 5 _ refl (byte_at_number block 5 (omega arith) (bytes 5 (omega arith))) in
    let n7 : number_of f 56 ≡ number_of f 48 * 256 + slice_index block 6 = more_bytes f 48 6 _ refl (byte_at_number block 6 (omega arith) (bytes 6 (omega arith))) in
    let n8 : number_of f 64 ≡ number_of f 56 * 256 + slice_index block 7 = more_bytes f 56 7 _ refl (byte_at_number block 7 (omega arith) (bytes 7 (omega arith))) in
    omega (arith, n0, n1, n2, n3, n4, n5, n6, n7, n8)

pub eight : (g : ℕ → ℕ) (i : ℕ) → AreBits g
    → number_of (λ t. g (8 * i + t)) 8
    ≡ 128 * (g (8 * i) % 2) + 64 * (g (8 * i + 1) % 2) + 32 * (g (8 * i + 2) % 2) + 16 * (g (8 * i + 3) % 2)
    + 8 * (g (8 * i + 4) % 2) + 4 * (g (8 * i + 5) % 2) + 2 * (g (8 * i + 6) % 2) + g (8 * i + 7) % 2
unfolding number_of
eight g i bits =
    let b0 = bits (8 * i) in
    let b1 = bits (8 * i + 1) in
    let b2 = bits (8 * i + 2) in
    let b3 = bits (8 * i + 3) in
    let b4 = bits (8 * i + 4) in
    let b5 = bits (8 * i + 5) in
    let b6 = bits (8 * i + 6) in
    let b7 = bits (8 * i + 7) in
    let first : 8 * i + 0 ≡ 8 * i = omega arith in
    rw first (omega (arith, b0, b1, b2, b3, b4, b5, b6, b7))

-- byte i of a number, from the highest
byte-is : (g : ℕ → ℕ) (s : List ℕ) (i : ℕ) → AreBits g → ((j : ℕ) → j < 64 → slice_index s j ≡ g j) → i < 8
    → number_of g 64 / 2 ^ (56 - 8 * i) % 2 ^ 8 ≡ byte_of_bits s i
byte-is g s i bits same low =
    let all : 8 * i + 8 + (56 - 8 * i) ≡ 64 = omega arith in
    ap (λ (k : ℕ). number_of g k / 2 ^ (56 - 8 * i) % 2 ^ 8) (sym all)
    ∙ number_of-window g (8 * i) 8 (56 - 8 * i) bits
    ∙ eight g i bits
    ∙ (λ j. 128 * (sym (same (8 * i) (omega arith)) j % 2) + 64 * (sym (same (8 * i + 1) (omega arith)) j % 2)
    + 32 * (sym (same (8 * i + 2) (omega arith)) j % 2) + 16 * (sym (same (8 * i + 3) (omega arith)) j % 2)
    + 8 * (sym (same (8 * i + 4) (omega arith)) j % 2) + 4 * (sym (same (8 * i + 5) (omega arith)) j % 2)
    + 2 * (sym (same (8 * i + 6) (omega arith)) j % 2) + sym (same (8 * i + 7) (omega arith)) j % 2)

pub bytes-are : (g : ℕ → ℕ) (s : List ℕ) (x : ℕ) → AreBits g → ((j : ℕ) → j < 64 → slice_index s j ≡ g j) → x ≡ number_of g 64 → to_be_bytes w64 x ≡ bytes_of s
unfolding listed
bytes-are g s x bits same is =
    let last : number_of g 64 % 256 ≡ byte_of_bits s 7 =
    (let one : number_of g 64 / 2 ^ 0 ≡ number_of g 64 = omega arith in sym (ap (λ (y : ℕ). y % 256) one) ∙ byte-is g s 7 bits same (omega arith)) in
    ap (to_be_bytes w64) is
    ∙ (λ j. byte-is g s 0 bits same (omega arith) j ∷ byte-is g s 1 bits same (omega arith) j ∷ byte-is g s 2 bits same (omega arith) j
    ∷ byte-is g s 3 bits same (omega arith) j ∷ byte-is g s 4 bits same (omega arith) j ∷ byte-is g s 5 bits same (omega arith) j
    ∷ byte-is g s 6 bits same (omega arith) j ∷ last j ∷ [])

-- ---- halves

pub halves-of : (bits : List ℕ) (x : ℕ) → IsBits bits → x ≡ number_of (slice_index bits) 64 → IsHalves bits (x / 4294967296) (x % 4294967296)
halves-of bits x are is =
    let f : ℕ → ℕ = slice_index bits in
    let low : number_of (λ i. f (32 + i)) 32 < 2 ^ 32 = number_of-lt (λ i. f (32 + i)) 32 (λ i. are (32 + i)) in
    let both : x ≡ number_of f 32 * 2 ^ 32 + number_of (λ i. f (32 + i)) 32 = is ∙ number_of-append f 32 32 in
    record { left = omega (arith, both, low); right = omega (arith, both, low) }

pub low_bit : (bits mx : List ℕ) (i : ℕ) → i < 32 → round_bit bits mx i ≡ slice_index bits (32 + i)
low_bit bits mx i low = grind (arith, nat_tests)

pub high_bit : (bits mx : List ℕ) (i : ℕ) → round_bit bits mx (32 + i) ≡ bit_xor (slice_index bits i) (slice_index mx i)
high_bit bits mx i =
    let at : 32 + i - 32 ≡ i = omega arith in
    let reach : nat_le 32 (32 + i) ≡ true = grind (arith, nat_tests) in
    ap (λ (b : Bool). if b then bit_xor (slice_index bits (32 + i - 32)) (slice_index mx (32 + i - 32)) else slice_index bits (32 + (32 + i))) reach
    ∙ (λ j. bit_xor (slice_index bits (at j)) (slice_index mx (at j)))

pub round-halves : (bits keys : List ℕ) (n l r m : ℕ) → IsBits bits → IsHalves bits l r
    → m ≡ number_of (slice_index (mangled (right_of bits) keys n)) 32
    → IsHalves (round bits keys n) r (bit_xor l m)
unfolding round
round-halves bits keys n l r m are halves mixed =
    let mx : List ℕ = mangled (right_of bits) keys n in
    record {
      left = halves.right ∙ number_of-same _ _ 32 (λ i low. sym (listed-at (round_bit bits mx) 64 i (omega arith) ∙ low_bit bits mx i low));
      right =
          (λ j. bit_xor (halves.left j) (mixed j))
          ∙ number_of-xor (slice_index bits) (slice_index mx) 32 are (IsBits-mangled (right_of bits) keys n)
          ∙ number_of-same _ _ 32 (λ i low. sym (listed-at (round_bit bits mx) 64 (32 + i) (omega arith) ∙ high_bit bits mx i));
    }

pub right-number : (bits : List ℕ) (r : ℕ) → r ≡ number_of (λ i. slice_index bits (32 + i)) 32 → r ≡ number_of (slice_index (right_of bits)) 32
right-number bits r is = is ∙ number_of-same _ _ 32 (λ i low. sym (right-at bits i low))

pub swapped-number : (bits : List ℕ) (l r : ℕ) → IsHalves bits l r → r * 4294967296 + l ≡ number_of (slice_index (swapped bits)) 64
swapped-number bits l r halves =
    let g : ℕ → ℕ = slice_index (swapped bits) in
    let first : number_of g 32 ≡ r = number_of-same g (λ i. slice_index bits (32 + i)) 32 (λ i low.
    let at : (i + 32) % 64 ≡ 32 + i = omega arith in listed-at (swapped_bit bits) 64 i (omega arith) ∙ ap (slice_index bits) at) ∙ sym halves.right in
    let second : number_of (λ i. g (32 + i)) 32 ≡ l = number_of-same (λ i. g (32 + i)) (slice_index bits) 32 (λ i low.
    let at : (32 + i + 32) % 64 ≡ i = omega arith in listed-at (swapped_bit bits) 64 (32 + i) (omega arith) ∙ ap (slice_index bits) at) ∙ sym halves.left in
    let both : number_of g 64 ≡ number_of g 32 * 2 ^ 32 + number_of (λ i. g (32 + i)) 32 = number_of-append g 32 32 in
    omega (arith, first, second, both)

pub IsBits-swapped : (bits : List ℕ) → IsBits bits → IsBits (swapped bits)
IsBits-swapped bits are = IsBits-listed (swapped_bit bits) 64 (λ i. are _)

pub selected-number : (table bits : List ℕ) → length table ≡ 64 → number_of (λ j. slice_index bits (source table j)) 64 ≡ number_of (slice_index (select table bits)) 64
selected-number table bits long =
    number_of-same _ _ 64 (λ j low. sym (listed-at (selected_bit table bits) (length table) j (omega (arith, long))))
