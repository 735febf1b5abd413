-- Deciphering undoes enciphering: Feistel's argument, by induction over the rounds.
use Rattle.std.proofs.Common.{◌≡◌, ℕ, zero, suc, ◌+◌, ◌-◌, ◌*◌, ◌/◌, ◌%◌, ◌^◌, ◌<◌, ◌≤◌, ◌⊎◌, ◌==◌, bit_xor, Bool, true, false, not, refl, sym, ap, ◌∙◌, arith, List, [], ◌∷◌, ◌++◌, length, take, slice_index, inl, inr}
use Rattle.std.specs.Int.Bits.{xor_assoc, xor_self, xor_zero_r}
use Rattle.std.proofs.Math.Seq.{take-suc}
use Rattle.std.proofs.lemmas.Bool.{cases_lt}
use Rattle.std.proofs.lemmas.List.{get_or_past, take_all}
use Rattle.jc_ciphers.specs.Des.{bit_of_bytes, bits_of, byte_of_bits, bytes_of, crypted, decrypted, encrypted, listed, mangled, place_of, right_bit, right_of, round, round_bit, rounds, schedule, select, selected_bit, swapped, swapped_bit}
use Rattle.jc_ciphers.specs.TripleDes.{triple_decrypted, triple_encrypted}
use Rattle.jc_ciphers.specs.DesTables.{final_permutation, initial_permutation}
use Rattle.jc_ciphers.specs.DesNumbers.{IsBits, number_of, source}
use Rattle.jc_ciphers.specs.DesLaws.{DecipheringUndoesEnciphering, EncipheringUndoesDeciphering, IsBlock, TripleDecipheringUndoesEnciphering}
use Rattle.jc_ciphers.proofs.DesLists.{length-listed, listed-at, listed-same}
use Rattle.jc_ciphers.proofs.DesNumbers.{all_below, number_of-bit, same_below}
use Rattle.jc_ciphers.proofs.DesHalves.{IsBits-bits_of, IsBits-rounds, IsBits-select, IsBits-swapped, byte_at_number, eight, high_bit, low_bit, sources_final, sources_initial}

xor_back : (a k : ℕ) → bit_xor (bit_xor a k) k ≡ a
xor_back a k = xor_assoc a k k ∙ ap (bit_xor a) (xor_self k) ∙ xor_zero_r a

-- a list of n bits is listed bit by bit
listed-front : (xs : List ℕ) (n : ℕ) → n ≤ length xs → listed (slice_index xs) n ≡ take n xs
unfolding listed
listed-front xs zero within = refl
listed-front xs (suc n) within =
    ap (λ (ys : List ℕ). ys ++ slice_index xs n ∷ []) (listed-front xs n (omega arith)) ∙ sym (take-suc xs n 0 (omega arith))

listed-whole : (xs : List ℕ) (n : ℕ) → length xs ≡ n → listed (slice_index xs) n ≡ xs
listed-whole xs n long = listed-front xs n (omega (arith, long)) ∙ take_all n xs (omega (arith, long))

-- a permutation of 64 bits and its inverse
permuted_back : (p q y : List ℕ) → length p ≡ 64 → length q ≡ 64 → length y ≡ 64
    → ((j : ℕ) → j < 64 → source p j < 64) → ((j : ℕ) → j < 64 → source q (source p j) ≡ j) → select p (select q y) ≡ y
permuted_back p q y lp lq ly within back =
    ap (listed (selected_bit p (select q y))) lp
    ∙ listed-same (selected_bit p (select q y)) (slice_index y) 64 (λ j low.
    listed-at (selected_bit q y) (length q) (source p j) (let at = within j low in omega (arith, at, lq)) ∙ ap (slice_index y) (back j low))
    ∙ listed-whole y 64 ly

all_back : all_below (λ j. source final_permutation (source initial_permutation j) == j) 64 ≡ true
all_back = refl

all_forth : all_below (λ j. source initial_permutation (source final_permutation j) == j) 64 ≡ true
all_forth = refl

final_then_initial : (y : List ℕ) → length y ≡ 64 → select initial_permutation (select final_permutation y) ≡ y
final_then_initial y long =
    permuted_back initial_permutation final_permutation y refl refl long sources_initial
    (same_below (λ j. source final_permutation (source initial_permutation j)) (λ j. j) 64 all_back)

initial_then_final : (y : List ℕ) → length y ≡ 64 → select final_permutation (select initial_permutation y) ≡ y
initial_then_final y long =
    permuted_back final_permutation initial_permutation y refl refl long sources_final
    (same_below (λ j. source initial_permutation (source final_permutation j)) (λ j. j) 64 all_forth)

length-select : (table bits : List ℕ) → length (select table bits) ≡ length table
length-select table bits = length-listed (selected_bit table bits) (length table)

length-swapped : (bits : List ℕ) → length (swapped bits) ≡ 64
length-swapped bits = length-listed (swapped_bit bits) 64

-- ---- bytes and bits

byte-number : (s : List ℕ) (i : ℕ) → IsBits s → number_of (λ t. slice_index s (8 * i + t)) 8 ≡ byte_of_bits s i
byte-number s i bits = eight (slice_index s) i bits

bits_back : (s : List ℕ) → IsBits s → length s ≡ 64 → bits_of (bytes_of s) ≡ s
bits_back s bits long =
    listed-same (bit_of_bytes (bytes_of s)) (slice_index s) 64 (λ j low.
    let i : ℕ = j / 8 in
    let whole : j % 8 + 1 + (7 - j % 8) ≡ 8 = omega arith in
    let place : 8 * i + j % 8 ≡ j = omega arith in
    ap (λ (b : ℕ). b / 2 ^ (7 - j % 8) % 2) (listed-at (byte_of_bits s) 8 i (omega arith) ∙ sym (byte-number s i bits))
    ∙ number_of-bit (λ t. slice_index s (8 * i + t)) (j % 8) (7 - j % 8) 8 (λ t. bits (8 * i + t)) whole
    ∙ ap (slice_index s) place)
    ∙ listed-whole s 64 long

bytes_back : (block : List ℕ) → IsBlock block → bytes_of (bits_of block) ≡ block
bytes_back block is =
    listed-same (byte_of_bits (bits_of block)) (slice_index block) 8 (λ i low.
    sym (byte-number (bits_of block) i (IsBits-bits_of block)) ∙ byte_at_number block i low (is.byte i))
    ∙ listed-whole block 8 is.long

byte-lt : (s : List ℕ) (i : ℕ) → byte_of_bits s i < 256
byte-lt s i = omega arith

either_byte : (s : List ℕ) (i : ℕ) → (i < 8) ⊎ (8 ≤ i) → slice_index (bytes_of s) i < 256
either_byte s i (inl low) = let is = listed-at (byte_of_bits s) 8 i low in let fits = byte-lt s i in omega (arith, is, fits)
either_byte s i (inr up) = let is = get_or_past (bytes_of s) i 0 (omega (arith, length-listed (byte_of_bits s) 8)) in omega (arith, is)

IsBlock-bytes_of : (s : List ℕ) → IsBlock (bytes_of s)
IsBlock-bytes_of s = record { long = length-listed (byte_of_bits s) 8; byte = λ i. either_byte s i (cases_lt i 8) }

-- ---- rounds

swapped-low : (z : List ℕ) (i : ℕ) → i < 32 → slice_index (swapped z) i ≡ slice_index z (32 + i)
swapped-low z i low =
    let at : (i + 32) % 64 ≡ 32 + i = omega arith in
    listed-at (swapped_bit z) 64 i (omega arith) ∙ ap (slice_index z) at

swapped-high : (z : List ℕ) (i : ℕ) → i < 32 → slice_index (swapped z) (32 + i) ≡ slice_index z i
swapped-high z i low =
    let at : (32 + i + 32) % 64 ≡ i = omega arith in
    listed-at (swapped_bit z) 64 (32 + i) (omega arith) ∙ ap (slice_index z) at

round-low : (z keys : List ℕ) (m i : ℕ) → i < 32 → slice_index (round z keys m) i ≡ slice_index z (32 + i)
unfolding round
round-low z keys m i low =
    let f : List ℕ = mangled (right_of z) keys m in
    listed-at (round_bit z f) 64 i (omega arith) ∙ low_bit z f i low

round-high : (z keys : List ℕ) (m i : ℕ) → i < 32
    → slice_index (round z keys m) (32 + i) ≡ bit_xor (slice_index z i) (slice_index (mangled (right_of z) keys m) i)
unfolding round
round-high z keys m i low =
    let f : List ℕ = mangled (right_of z) keys m in
    listed-at (round_bit z f) 64 (32 + i) (omega arith) ∙ high_bit z f i

length-round : (z keys : List ℕ) (m : ℕ) → length (round z keys m) ≡ 64
unfolding round
length-round z keys m = length-listed (round_bit z (mangled (right_of z) keys m)) 64

-- two lists of 64 bits with the same halves
same_halves : (xs ys : List ℕ) → length xs ≡ 64 → length ys ≡ 64
    → ((i : ℕ) → i < 32 → slice_index xs i ≡ slice_index ys i) → ((i : ℕ) → i < 32 → slice_index xs (32 + i) ≡ slice_index ys (32 + i)) → xs ≡ ys
same_halves xs ys lx ly low high =
    sym (listed-whole xs 64 lx)
    ∙ listed-same (slice_index xs) (slice_index ys) 64 (λ j below.
    elim (cases_lt j 32) as (λ _. slice_index xs j ≡ slice_index ys j) [
      | inl first ↦ low j first
      | inr second ↦ let at : 32 + (j - 32) ≡ j = omega arith in ap (slice_index xs) (sym at) ∙ high (j - 32) (omega arith) ∙ ap (slice_index ys) at
    ])
    ∙ listed-whole ys 64 ly

same_right : (x y : List ℕ) → ((i : ℕ) → i < 32 → slice_index x (32 + i) ≡ slice_index y (32 + i)) → right_of x ≡ right_of y
unfolding right_of
same_right x y same = listed-same (right_bit x) (right_bit y) 32 same

-- a round with the same key, of the halves swapped, undoes a round
round_back : (z keys : List ℕ) (m : ℕ) → round (swapped (round z keys m)) keys m ≡ swapped z
round_back z keys m =
    let r : List ℕ = round z keys m in
    let s : List ℕ = swapped r in
    let rights : right_of s ≡ right_of z = same_right s z (λ i low. swapped-high r i low ∙ round-low z keys m i low) in
    same_halves (round s keys m) (swapped z) (length-round s keys m) (length-swapped z)
    (λ i low. round-low s keys m i low ∙ swapped-high r i low ∙ round-low z keys m i low ∙ sym (swapped-low z i low))
    (λ i low.
    round-high s keys m i low
    ∙ (λ j. bit_xor ((swapped-low r i low ∙ round-high z keys m i low) j) (slice_index (mangled (rights j) keys m) i))
    ∙ xor_back (slice_index z i) (slice_index (mangled (right_of z) keys m) i)
    ∙ sym (swapped-high z i low))

swapped_back : (z : List ℕ) → length z ≡ 64 → swapped (swapped z) ≡ z
swapped_back z long =
    same_halves (swapped (swapped z)) z (length-swapped (swapped z)) long
    (λ i low. swapped-low (swapped z) i low ∙ swapped-high z i low)
    (λ i low. swapped-high (swapped z) i low ∙ swapped-low z i low)

other_place : (b : Bool) (m n : ℕ) → m + suc n ≡ 16 → place_of (not b) n ≡ place_of b m
other_place true m n all = omega arith
other_place false m n all = omega arith

-- the rounds the other way round walk back
walked_back : (b : Bool) (keys z : List ℕ) (m n : ℕ) → m + n ≡ 16
    → rounds (not b) keys (swapped (rounds b keys z 16)) n ≡ swapped (rounds b keys z m)
unfolding rounds
walked_back b keys z m zero all = let last : 16 ≡ m = omega arith in ap (λ (k : ℕ). swapped (rounds b keys z k)) last
walked_back b keys z m (suc n) all =
    let before = walked_back b keys z (suc m) n (omega arith) in
    (λ j. round (before j) keys (other_place b m n all j)) ∙ round_back (rounds b keys z m) keys (place_of b m)

crypted_back : (b : Bool) (keys block : List ℕ) → IsBlock block → crypted (not b) keys (crypted b keys block) ≡ block
unfolding crypted rounds
crypted_back b keys block is =
    let plain : List ℕ = bits_of block in
    let first : List ℕ = select initial_permutation plain in
    let last : List ℕ = rounds b keys first 16 in
    let out : List ℕ = select final_permutation (swapped last) in
    let first_bits = IsBits-select initial_permutation plain (IsBits-bits_of block) in
    let last_bits = IsBits-rounds b keys first 16 first_bits in
    let read : bits_of (bytes_of out) ≡ out = bits_back out (IsBits-select final_permutation (swapped last) (IsBits-swapped last last_bits)) (length-select final_permutation (swapped last)) in
    let halves : select initial_permutation (bits_of (bytes_of out)) ≡ swapped last =
    ap (select initial_permutation) read ∙ final_then_initial (swapped last) (length-swapped last) in
    let walked : rounds (not b) keys (select initial_permutation (bits_of (bytes_of out))) 16 ≡ swapped first =
    ap (λ (z : List ℕ). rounds (not b) keys z 16) halves ∙ walked_back b keys first 0 16 refl in
    ap (λ (z : List ℕ). bytes_of (select final_permutation (swapped z))) walked
    ∙ ap (λ (z : List ℕ). bytes_of (select final_permutation z)) (swapped_back first (length-select initial_permutation plain))
    ∙ ap bytes_of (initial_then_final plain (length-listed (bit_of_bytes block) 64))
    ∙ bytes_back block is

pub deciphered : DecipheringUndoesEnciphering
unfolding encrypted decrypted
deciphered key block is = crypted_back false (schedule key 16) block is

pub enciphered : EncipheringUndoesDeciphering
unfolding encrypted decrypted
enciphered key block is = crypted_back true (schedule key 16) block is

pub IsBlock-encrypted : (key block : List ℕ) → IsBlock (encrypted key block)
unfolding encrypted crypted
IsBlock-encrypted key block = IsBlock-bytes_of _

pub IsBlock-decrypted : (key block : List ℕ) → IsBlock (decrypted key block)
unfolding decrypted crypted
IsBlock-decrypted key block = IsBlock-bytes_of _

pub triple_deciphered : TripleDecipheringUndoesEnciphering
unfolding triple_encrypted triple_decrypted
triple_deciphered keys block is =
    let once : List ℕ = encrypted keys.first block in
    let twice : List ℕ = decrypted keys.second once in
    ap (λ (x : List ℕ). decrypted keys.first (encrypted keys.second x)) (deciphered keys.third twice (IsBlock-decrypted keys.second once))
    ∙ ap (decrypted keys.first) (enciphered keys.second once (IsBlock-encrypted keys.first block))
    ∙ deciphered keys.first block is
