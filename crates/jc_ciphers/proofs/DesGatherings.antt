-- The code's tables are the standard's permutations and S-boxes, and the bits that they gather are those of the definitions.
use Rattle.std.proofs.Common.{◌≡◌, ℕ, ◌+◌, ◌-◌, ◌*◌, ◌/◌, ◌%◌, ◌^◌, ◌<◌, if◌then◌else◌, nat_eq, refl, sym, ap, ◌∙◌, arith, List, slice_index}
use Rattle.std.proofs.lemmas.List.FromFn.{get_or-map-range_with_len}
use Rattle.std.proofs.lemmas.Bool.Decides.{nat_tests}
use Rattle.jc_ciphers.specs.Des.{substitute, substituted_bit, bit}
use Rattle.jc_ciphers.specs.DesNumbers.{AreBits, number_of, box, box_entry, box_table, nibble_bit, nibble_entry, nibble_table, source}
use Rattle.jc_ciphers.specs.DesTables.{final_permutation, initial_permutation, permutation, substitutions}
use Rattle.jc_ciphers.specs.declared.des_tables.TheConstants.{FINAL, INITIAL, SUBSTITUTED}
use Rattle.jc_ciphers.proofs.DesNumbers.{group_bit, number_of-bit, number_of-lt, number_of-same, number_of-window}

pub initial_is : INITIAL ≡ nibble_table initial_permutation
unfolding number_of nibble_table
initial_is = refl

pub final_is : FINAL ≡ nibble_table final_permutation
unfolding number_of nibble_table
final_is = refl

pub substituted_is : SUBSTITUTED ≡ box_table
unfolding number_of box_entry
substituted_is = refl

pub substituted_at : (k : ℕ) → k < 512 → slice_index SUBSTITUTED k ≡ box_entry k
substituted_at k within =
    ap (λ (t : List ℕ). slice_index t k) substituted_is ∙ get_or-map-range_with_len box_entry 0 512 k k 0 within (omega arith)

-- the four bits at place n, as a number
pub nibble : (f : ℕ → ℕ) (n : ℕ) → AreBits f → n < 16 → number_of f 64 / 2 ^ (60 - 4 * n) % 2 ^ 4 ≡ number_of (λ t. f (4 * n + t)) 4
nibble f n bits low =
    let all : 4 * n + 4 + (60 - 4 * n) ≡ 64 = omega arith in
    ap (λ (k : ℕ). number_of f k / 2 ^ (60 - 4 * n) % 2 ^ 4) (sym all) ∙ number_of-window f (4 * n) 4 (60 - 4 * n) bits

same_if : (q n : ℕ) (x y : ℕ) → (q ≡ n → x ≡ y) → (if nat_eq q n then x else 0) ≡ (if nat_eq q n then y else 0)
same_if q n x y same = grind (arith, nat_tests, same)

-- a bit of four
bit_of_four : (f : ℕ → ℕ) (n p : ℕ) → AreBits f → p / 4 ≡ n → number_of (λ t. f (4 * n + t)) 4 / 2 ^ (3 - p % 4) % 2 ≡ f p
bit_of_four f n p bits at =
    let whole : p % 4 + 1 + (3 - p % 4) ≡ 4 = omega arith in
    let place : 4 * n + p % 4 ≡ p = omega arith in
    number_of-bit (λ t. f (4 * n + t)) (p % 4) (3 - p % 4) 4 (λ t. bits (4 * n + t)) whole ∙ ap f place

-- an entry of a table of nibbles, at the four bits of f
pub entry : (table p : List ℕ) (f : ℕ → ℕ) (n x k : ℕ) → AreBits f → table ≡ nibble_table p → n < 16 → x ≡ number_of f 64
    → k ≡ 16 * n + x / 2 ^ (60 - 4 * n) % 2 ^ 4
    → slice_index table k ≡ number_of (group_bit (λ j. source p j / 4) (λ j. f (source p j)) n) 64
unfolding nibble_table
entry table p f n x k bits is low whole at =
    let v : ℕ = number_of (λ t. f (4 * n + t)) 4 in
    let four : x / 2 ^ (60 - 4 * n) % 2 ^ 4 ≡ v = ap (λ (y : ℕ). y / 2 ^ (60 - 4 * n) % 2 ^ 4) whole ∙ nibble f n bits low in
    let fits : v < 16 = number_of-lt (λ t. f (4 * n + t)) 4 (λ t. bits (4 * n + t)) in
    let high : k / 16 ≡ n = omega (arith, four, fits, at) in
    let low_part : k % 16 ≡ v = omega (arith, four, fits, at) in
    let within : k < 256 = omega (arith, four, fits, at) in
    ap (λ (t : List ℕ). slice_index t k) is
    ∙ get_or-map-range_with_len (nibble_entry p) 0 256 k k 0 within (omega arith)
    ∙ (λ i. number_of (nibble_bit p (high i) (low_part i)) 64)
    ∙ number_of-same _ _ 64 (λ j _. same_if (source p j / 4) n _ _ (λ here. bit_of_four f n (source p j) bits here))

-- an S-box at the six bits of f
pub box-is : (bits : List ℕ) (f : ℕ → ℕ) (n : ℕ) → AreBits f → ((t : ℕ) → t < 6 → bit bits (6 * n + t) ≡ f t)
    → box n (number_of f 6) ≡ substitute bits n
box-is bits f n are same =
    let first : 6 * n + 0 ≡ 6 * n = omega arith in
    let at0 : number_of f 6 / 2 ^ 5 % 2 ≡ bit bits (6 * n) = number_of-bit f 0 5 6 are refl ∙ sym (same 0 (omega arith)) ∙ ap (bit bits) first in
    let at1 : number_of f 6 / 2 ^ 4 % 2 ≡ bit bits (6 * n + 1) = number_of-bit f 1 4 6 are refl ∙ sym (same 1 (omega arith)) in
    let at2 : number_of f 6 / 2 ^ 3 % 2 ≡ bit bits (6 * n + 2) = number_of-bit f 2 3 6 are refl ∙ sym (same 2 (omega arith)) in
    let at3 : number_of f 6 / 2 ^ 2 % 2 ≡ bit bits (6 * n + 3) = number_of-bit f 3 2 6 are refl ∙ sym (same 3 (omega arith)) in
    let at4 : number_of f 6 / 2 ^ 1 % 2 ≡ bit bits (6 * n + 4) = number_of-bit f 4 1 6 are refl ∙ sym (same 4 (omega arith)) in
    let at5 : number_of f 6 / 2 ^ 0 % 2 ≡ bit bits (6 * n + 5) = number_of-bit f 5 0 6 are refl ∙ sym (same 5 (omega arith)) in
    λ i. slice_index substitutions (64 * n + (16 * (2 * at0 i + at5 i) + (8 * at1 i + 4 * at2 i + 2 * at3 i + at4 i)))

-- what S-box n and P make of the six bits of f
pub box_entry-is : (bits : List ℕ) (f : ℕ → ℕ) (n k : ℕ) → AreBits f → n < 8
    → ((t : ℕ) → t < 6 → bit bits (6 * n + t) ≡ f t) → k ≡ 64 * n + number_of f 6
    → box_entry k ≡ number_of (group_bit (λ j. source permutation j / 4) (λ j. substituted_bit bits (source permutation j)) n) 32
unfolding box_entry
box_entry-is bits f n k are low same at =
    let fits : number_of f 6 < 64 = number_of-lt f 6 are in
    let high : k / 64 ≡ n = omega (arith, fits, at) in
    let low_part : k % 64 ≡ number_of f 6 = omega (arith, fits, at) in
    (λ i. number_of (nibble_bit permutation (high i) (box (high i) (low_part i))) 32)
    ∙ number_of-same _ _ 32 (λ j _. same_if (source permutation j / 4) n _ _ (λ here.
    ap (λ (s : ℕ). s / 2 ^ (3 - source permutation j % 4) % 2) (box-is bits f n are same ∙ ap (substitute bits) (sym here))))
