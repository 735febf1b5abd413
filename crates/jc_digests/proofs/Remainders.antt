-- Remainders of bytes by tables and of pieces, and the standard's check values.
use Rattle.std.proofs.Common.{◌≡◌, ℕ, zero, suc, ◌+◌, ◌/◌, ◌%◌, ◌^◌, ◌<◌, List, [], ◌∷◌, ◌++◌, bit_xor, nat_eq, if◌then◌else◌, codes, map, refl, ap, sym, ◌∙◌, arith, take, length, slice_index}
use Rattle.std.specs.List.{range_with_len}
use Rattle.std.proofs.lemmas.List.FromFn.{get_or-map-range_with_len}
use Rattle.std.proofs.Math.Seq.{take-suc}
use Rattle.std.proofs.Math.Nat.{div-div-eq-div-mul, pow-suc}
use Rattle.std.proofs.lemmas.Nat.{xor_shr}
use Rattle.std.specs.Int.Bits.{xor_add_and, xor_assoc, xor_zero_r}
use Rattle.jc_digests.specs.Checksums.{bit_in, bits_in, crc_16, crc_32, generator_16, generator_32, remainder}
use Rattle.jc_digests.specs.declared.constants.TheConstants.{REMAINDERS_16, REMAINDERS_32}

-- what is added to the register's higher bits stays apart from the next bit
bit_apart : (g a c y : ℕ) → bit_in g (bit_xor a c) (y % 2) ≡ bit_xor (a / 2) (bit_in g c (bit_xor a y % 2))
bit_apart g a c y =
    let parity : (bit_xor a c + y % 2) % 2 ≡ (c + bit_xor a y % 2) % 2 = omega (arith, xor_add_and a c, xor_add_and a y) in
    let term : ℕ → ℕ = λ b. if nat_eq b 1 then g else 0 in
    (λ j. bit_xor (xor_shr a c 1 j) (term (parity j))) ∙ xor_assoc (a / 2) (c / 2) (term ((c + bit_xor a y % 2) % 2))

-- bits that follow a register are its higher bits, and its lower ones with them after a register of zeros
bits_apart : (g r x n : ℕ) → bits_in g r x n ≡ bit_xor (r / 2 ^ n) (bits_in g 0 (bit_xor r x) n)
unfolding bits_in
bits_apart g r x zero = let whole : r ≡ r / 2 ^ 0 = omega arith in whole ∙ sym (xor_zero_r (r / 2 ^ 0))
bits_apart g r x (suc n) =
    let low = bits_in g 0 (bit_xor r x) n in
    let half : r / 2 ^ n / 2 ≡ r / 2 ^ suc n = div-div-eq-div-mul r (2 ^ n) 2 ∙ ap (λ (k : ℕ). r / k) (sym (pow-suc 2 n)) in
    ap (λ (b : ℕ). bit_in g b (x / 2 ^ n % 2)) (bits_apart g r x n)
    ∙ bit_apart g (r / 2 ^ n) low (x / 2 ^ n)
    ∙ (λ j. bit_xor (half j) (bit_in g low (sym (xor_shr r x n) j % 2)))

-- the next bit counts, and no other
bit_alike : (g r x y n : ℕ) → bits_in g r x n ≡ bits_in g r y n → x / 2 ^ n % 2 ≡ y / 2 ^ n % 2 → bits_in g r x (suc n) ≡ bits_in g r y (suc n)
unfolding bits_in
bit_alike g r x y n before next = λ j. bit_in g (before j) (next j)

-- eight bits are those of the lowest byte
bits_low : (g x : ℕ) → bits_in g 0 (x % 256) 8 ≡ bits_in g 0 x 8
unfolding bits_in
bits_low g x =
    let y = x % 256 in
    let at_0 : bits_in g 0 y 0 ≡ bits_in g 0 x 0 = refl in
    let at_1 : bits_in g 0 y 1 ≡ bits_in g 0 x 1 = bit_alike g 0 y x 0 at_0 (omega arith) in
    let at_2 : bits_in g 0 y 2 ≡ bits_in g 0 x 2 = bit_alike g 0 y x 1 at_1 (omega arith) in
    let at_3 : bits_in g 0 y 3 ≡ bits_in g 0 x 3 = bit_alike g 0 y x 2 at_2 (omega arith) in
    let at_4 : bits_in g 0 y 4 ≡ bits_in g 0 x 4 = bit_alike g 0 y x 3 at_3 (omega arith) in
    let at_5 : bits_in g 0 y 5 ≡ bits_in g 0 x 5 = bit_alike g 0 y x 4 at_4 (omega arith) in
    let at_6 : bits_in g 0 y 6 ≡ bits_in g 0 x 6 = bit_alike g 0 y x 5 at_5 (omega arith) in
    let at_7 : bits_in g 0 y 7 ≡ bits_in g 0 x 7 = bit_alike g 0 y x 6 at_6 (omega arith) in
    bit_alike g 0 y x 7 at_7 (omega arith)

-- a byte by the remainder of the register's lowest byte with it
pub byte_by_low : (g r x : ℕ) → bit_xor (r / 256) (bits_in g 0 (bit_xor r x % 256) 8) ≡ bits_in g r x 8
byte_by_low g r x = ap (bit_xor (r / 256)) (bits_low g (bit_xor r x)) ∙ sym (bits_apart g r x 8)

-- a table of the remainders of all bytes at one of them
at_byte : (g : ℕ) (table : List ℕ) → map (λ (y : ℕ). bits_in g 0 y 8) (range_with_len 0 256) ≡ table
    → (b : ℕ) → b < 256 → slice_index table b ≡ bits_in g 0 b 8
at_byte g table all b below =
    let of_byte : ℕ → ℕ = λ y. bits_in g 0 y 8 in
    ap (λ (xs : List ℕ). slice_index xs b) (sym all) ∙ get_or-map-range_with_len of_byte 0 256 b b 0 below (omega arith)

all-REMAINDERS_16 : map (λ (y : ℕ). bits_in generator_16 0 y 8) (range_with_len 0 256) ≡ REMAINDERS_16
unfolding bits_in
all-REMAINDERS_16 = refl

pub slice_index-REMAINDERS_16 : (b : ℕ) → b < 256 → slice_index REMAINDERS_16 b ≡ bits_in generator_16 0 b 8
slice_index-REMAINDERS_16 = at_byte generator_16 REMAINDERS_16 all-REMAINDERS_16

all-REMAINDERS_32 : map (λ (y : ℕ). bits_in generator_32 0 y 8) (range_with_len 0 256) ≡ REMAINDERS_32
unfolding bits_in
all-REMAINDERS_32 = refl

pub slice_index-REMAINDERS_32 : (b : ℕ) → b < 256 → slice_index REMAINDERS_32 b ≡ bits_in generator_32 0 b 8
slice_index-REMAINDERS_32 = at_byte generator_32 REMAINDERS_32 all-REMAINDERS_32

-- a message in two pieces
pub remainder-append : (g r : ℕ) (m p : List ℕ) → remainder g r (m ++ p) ≡ remainder g (remainder g r m) p
unfolding remainder
remainder-append g r [] p = refl
remainder-append g r (x ∷ m) p = remainder-append g (bits_in g r x 8) m p

pub remainder_more : (g r : ℕ) (m : List ℕ) (i : ℕ) → i < length m → remainder g r (take (i + 1) m) ≡ bits_in g (remainder g r (take i m)) (slice_index m i) 8
unfolding remainder
remainder_more g r m i low =
    let next : i + 1 ≡ suc i = omega arith in
    ap (λ (n : ℕ). remainder g r (take n m)) next ∙ ap (remainder g r) (take-suc m i 0 low)
    ∙ remainder-append g r (take i m) (slice_index m i ∷ [])

pub check_16 : crc_16 (codes "123456789") ≡ 0x906e
unfolding remainder bits_in
check_16 = refl

pub check_32 : crc_32 (codes "123456789") ≡ 0xcbf43926
unfolding remainder bits_in
check_32 = refl
