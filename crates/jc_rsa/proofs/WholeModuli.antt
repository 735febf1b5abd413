-- Candidates have their two highest bits, and so their products have the highest one.
use Rattle.std.proofs.Common.{◌≡◌, ◌≢◌, ℕ, ◌+◌, ◌-◌, ◌*◌, ◌^◌, ◌<◌, ◌≤◌, List, [], ◌∷◌, ◌++◌, bit_or, length, slice_index, ap, ◌∙◌, arith}
use Rattle.std.specs.Int.{to_be_bytes, w32}
use Rattle.std.proofs.lemmas.List.{get_or-set_other, get_or-set_same, length-set}
use Rattle.std.proofs.lemmas.Nat.{le_or_r, mul-le, pow-add}
use Rattle.std.proofs.Math.Nat.{mul-le-mul_right}
use Rattle.jc_digests.specs.declared.kept.HashAlgorithm.TheVariants.{Sha256}
use Rattle.jc_numbers.specs.Numbers.{number_of_bytes}
use Rattle.jc_numbers.proofs.NumbersOfBytes.{byte_first, byte_power, bytes_none}
use Rattle.jc_rsa.specs.KeyPair.{ArePrimesOf, candidate, with_bits}
use Rattle.jc_rsa.specs.Mgf1.{mgf1}
use Rattle.jc_rsa.proofs.Masks.{length-mgf1}

-- the first byte counts 256 ^ (n - 1)
number_at_least : (bs : List ℕ) → slice_index bs 0 * 256 ^ (length bs - 1) ≤ number_of_bytes bs
number_at_least [] = omega (arith, bytes_none)
number_at_least (b ∷ bs) =
    let long : length (b ∷ bs) - 1 ≡ length bs = omega arith in
    omega (arith, byte_first b bs, ap (λ (k : ℕ). b * 256 ^ k) long)

candidate_first : (seed : List ℕ) (size i : ℕ) → 2 ≤ size → 192 ≤ slice_index (candidate seed size i) 0
unfolding candidate
candidate_first seed size i many =
    let m : List ℕ = mgf1 Sha256 (seed ++ to_be_bytes w32 i) size in
    let ys : List ℕ = with_bits 0 0xc0 m in
    let long : length m ≡ size = length-mgf1 Sha256 (seed ++ to_be_bytes w32 i) size in
    let some : 0 < length m = omega arith in
    let other : 0 ≢ size - 1 = omega arith in
    let outer : slice_index (with_bits (size - 1) 0x01 ys) 0 ≡ slice_index ys 0 =
    get_or-set_other ys (size - 1) 0 (bit_or (slice_index ys (size - 1)) 0x01) 0 other in
    let inner : slice_index ys 0 ≡ bit_or (slice_index m 0) 0xc0 = get_or-set_same m 0 (bit_or (slice_index m 0) 0xc0) 0 some in
    omega (arith, outer, inner, le_or_r (slice_index m 0) 0xc0)

candidate_long : (seed : List ℕ) (size i : ℕ) → length (candidate seed size i) ≡ size
unfolding candidate
candidate_long seed size i =
    let m : List ℕ = mgf1 Sha256 (seed ++ to_be_bytes w32 i) size in
    let ys : List ℕ = with_bits 0 0xc0 m in
    length-set ys (size - 1) (bit_or (slice_index ys (size - 1)) 0x01) ∙ length-set m 0 (bit_or (slice_index m 0) 0xc0)
    ∙ length-mgf1 Sha256 (seed ++ to_be_bytes w32 i) size

candidate_high : (seed : List ℕ) (size i : ℕ) → 2 ≤ size → 192 * 256 ^ (size - 1) ≤ number_of_bytes (candidate seed size i)
candidate_high seed size i many =
    let x : List ℕ = candidate seed size i in
    let w : ℕ = 256 ^ (size - 1) in
    let first : 192 * w ≤ slice_index x 0 * w = mul-le-mul_right w (candidate_first seed size i many) in
    let place : slice_index x 0 * 256 ^ (length x - 1) ≡ slice_index x 0 * w =
    ap (λ (n : ℕ). slice_index x 0 * 256 ^ (n - 1)) (candidate_long seed size i) in
    omega (arith, first, place, number_at_least x)

squared : (w : ℕ) → (192 * w) * (192 * w) ≡ 36864 * (w * w)
squared w = grind arith

pub product_whole : (seed : List ℕ) (e size : ℕ) (p q : List ℕ) → 2 ≤ size → ArePrimesOf seed e size p q
    → 2 ^ (16 * size - 1) ≤ number_of_bytes p * number_of_bytes q
product_whole seed e size p q many are =
    let w : ℕ = 256 ^ (size - 1) in
    let k : ℕ = 8 * (size - 1) in
    let first : 192 * w ≤ number_of_bytes p = omega (arith, candidate_high seed size are.first many, ap number_of_bytes are.p_is) in
    let second : 192 * w ≤ number_of_bytes q = omega (arith, candidate_high seed size are.second many, ap number_of_bytes are.q_is) in
    let most : (192 * w) * (192 * w) ≤ number_of_bytes p * number_of_bytes q =
    mul-le (192 * w) (192 * w) (number_of_bytes p) (number_of_bytes q) first second in
    let place : 16 * size - 1 ≡ 15 + (k + k) = omega arith in
    let power : 2 ^ (16 * size - 1) ≡ 2 ^ 15 * (2 ^ k * 2 ^ k) =
    ap (λ (n : ℕ). 2 ^ n) place ∙ pow-add 2 15 (k + k) ∙ ap (λ (n : ℕ). 2 ^ 15 * n) (pow-add 2 k k) in
    let same : w * w ≡ 2 ^ k * 2 ^ k = (λ j. byte_power (size - 1) j * byte_power (size - 1) j) in
    omega (arith, most, squared w, power, same)
