-- Deciphering undoes enciphering: each step of a round has its inverse, and the rounds are walked back.
use Rattle.std.proofs.Common.{◌≡◌, ℕ, zero, suc, ◌+◌, ◌-◌, ◌*◌, ◌/◌, ◌%◌, ◌<◌, ◌≤◌, inl, inr, List, [], ◌∷◌, ◌++◌, Bool, true, false, length, bit_xor, slice_index, refl, sym, ap, ◌∙◌, arith, if◌then◌else◌, nat_lt, nat_eq, ◌==◌, ◌&&◌}
use Rattle.std.specs.Int.Bits.{xor_zero_r}
use Rattle.std.proofs.lemmas.Bool.{cases_lt}
use Rattle.std.proofs.lemmas.Bool.Decides.{Decides-below_and, Decides-eqb}
use Rattle.std.proofs.lemmas.List.{get_or_append_left, get_or-append_right}
use Rattle.std.proofs.lemmas.List.FromFn.{fill_by_all}
use Rattle.jc_ciphers.specs.AesField.{xtimes, times_power, times_low, times, affine, sub_byte, inv_sub_byte}
use Rattle.jc_ciphers.specs.Aes.{add_round_key, at, cipher_with, decrypted, encrypted, inv_cipher_with, inv_mix_columns, inv_rounds, inv_shift_rows, inv_sub_bytes, mix_columns, mixed_word, next_word, rot_word, round_constant, round_count, rounds, schedule, shift_rows, state_of, sub_bytes, sub_word, word_before, word_of, xor_words}
use Rattle.jc_ciphers.specs.AesLaws.{DecipheringUndoesEnciphering, IsBytes}
use Rattle.jc_ciphers.specs.declared.aes_field.TheConstants.{S_BOX, INVERSE_S_BOX}
use Rattle.jc_ciphers.proofs.AesTables.{slice_index-INVERSE_S_BOX, slice_index-S_BOX}
use Rattle.jc_ciphers.proofs.AesXor.{by_columns, four, four_is, linear_2, linear_3, linear_9, linear_11, linear_13, linear_14, through_four, xor_back, xor_byte, xtimes-lt}

-- ---- facts of all bytes, by computing

abbrev all_below : (ℕ → Bool) → ℕ → Bool
all_below p zero = true
all_below p (suc n) = p n && all_below p n

same_below : (f g : ℕ → ℕ) (n : ℕ) → all_below (λ k. f k == g k) n ≡ true → (k : ℕ) → k < n → f k ≡ g k
same_below f g n all =
    (Decides-below_and (λ k. f k == g k) (λ k. f k ≡ g k) (all_below (λ k. f k == g k)) (λ k. Decides-eqb (f k) (g k)) refl (λ _. refl) n).0 all

sub_byte-lt : (b : ℕ) → sub_byte b < 256
unfolding sub_byte affine
sub_byte-lt b = omega arith

back_by_tables : all_below (λ b. slice_index INVERSE_S_BOX (slice_index S_BOX b) == b) 256 ≡ true
back_by_tables = refl

substitute_back : (b : ℕ) → b < 256 → inv_sub_byte (sub_byte b) ≡ b
substitute_back b below =
    sym (slice_index-INVERSE_S_BOX (sub_byte b) (sub_byte-lt b))
    ∙ ap (slice_index INVERSE_S_BOX) (sym (slice_index-S_BOX b below))
    ∙ same_below (λ k. slice_index INVERSE_S_BOX (slice_index S_BOX k)) (λ k. k) 256 back_by_tables b below

-- the columns of the product of the two matrices
column_0 : ℕ → ℕ
column_0 a = four (times (times a 2) 14) (times a 11) (times a 13) (times (times a 3) 9)

column_1 : ℕ → ℕ
column_1 b = four (times (times b 3) 14) (times (times b 2) 11) (times b 13) (times b 9)

column_2 : ℕ → ℕ
column_2 c = four (times c 14) (times (times c 3) 11) (times (times c 2) 13) (times c 9)

column_3 : ℕ → ℕ
column_3 d = four (times d 14) (times d 11) (times (times d 3) 13) (times (times d 2) 9)

all_0 : all_below (λ b. column_0 b == b) 256 ≡ true
unfolding xtimes times_power times_low times column_0
all_0 = refl

all_1 : all_below (λ b. column_1 b == 0) 256 ≡ true
unfolding xtimes times_power times_low times column_1
all_1 = refl

all_2 : all_below (λ b. column_2 b == 0) 256 ≡ true
unfolding xtimes times_power times_low times column_2
all_2 = refl

all_3 : all_below (λ b. column_3 b == 0) 256 ≡ true
unfolding xtimes times_power times_low times column_3
all_3 = refl

abbrev mixed : ℕ → ℕ → ℕ → ℕ → ℕ
mixed a b c d = bit_xor (bit_xor (bit_xor (times a 2) (times b 3)) c) d

-- InvMixColumns after MixColumns, at one place
mixed_back : (a b c d : ℕ) → a < 256 → b < 256 → c < 256 → d < 256
    → bit_xor (bit_xor (bit_xor (times (mixed a b c d) 14) (times (mixed b c d a) 11)) (times (mixed c d a b) 13)) (times (mixed d a b c) 9) ≡ a
unfolding column_0 column_1 column_2 column_3
mixed_back a b c d la lb lc ld =
    let two = linear_2.byte in
    let three = linear_3.byte in
    let by_14 = through_four (λ x. times x 14) (times a 2) (times b 3) c d linear_14 (two a la) (three b lb) lc ld in
    let by_11 = through_four (λ x. times x 11) (times b 2) (times c 3) d a linear_11 (two b lb) (three c lc) ld la in
    let by_13 = through_four (λ x. times x 13) (times c 2) (times d 3) a b linear_13 (two c lc) (three d ld) la lb in
    let by_9 = through_four (λ x. times x 9) (times d 2) (times a 3) b c linear_9 (two d ld) (three a la) lb lc in
    four_is (times (mixed a b c d) 14) (times (mixed b c d a) 11) (times (mixed c d a b) 13) (times (mixed d a b c) 9)
    ∙ (λ i. four (by_14 i) (by_11 i) (by_13 i) (by_9 i))
    ∙ by_columns (times (times a 2) 14) (times a 11) (times a 13) (times (times a 3) 9)
    (times (times b 3) 14) (times (times b 2) 11) (times b 13) (times b 9)
    (times c 14) (times (times c 3) 11) (times (times c 2) 13) (times c 9)
    (times d 14) (times d 11) (times (times d 3) 13) (times (times d 2) 9)
    ∙ (λ i. four (same_below column_0 (λ x. x) 256 all_0 a la i) (same_below column_1 (λ _. 0) 256 all_1 b lb i)
    (same_below column_2 (λ _. 0) 256 all_2 c lc i) (same_below column_3 (λ _. 0) 256 all_3 d ld i))
    ∙ ap (λ (x : ℕ). bit_xor x 0) (xor_zero_r a) ∙ xor_zero_r a

-- ---- bytes in lists

IsBytes_none : IsBytes []
IsBytes_none = record { byte = λ i. omega arith }

byte_cons : (x : ℕ) (xs : List ℕ) (i : ℕ) → x < 256 → IsBytes xs → slice_index (x ∷ xs) i < 256
byte_cons x xs zero first rest = first
byte_cons x xs (suc i) first rest = rest.byte i

IsBytes_cons : {x : ℕ} {xs : List ℕ} → x < 256 → IsBytes xs → IsBytes (x ∷ xs)
IsBytes_cons {x} {xs} first rest = record { byte = λ i. byte_cons x xs i first rest }

IsBytes-append : (xs ys : List ℕ) → IsBytes xs → IsBytes ys → IsBytes (xs ++ ys)
IsBytes-append xs ys bx by = record {
  byte = λ i.
      elim (cases_lt i (length xs)) as (λ _. slice_index (xs ++ ys) i < 256) [
        | inl low ↦ let is = get_or_append_left xs ys 0 i low in let fits = bx.byte i in omega (arith, is, fits)
        | inr up ↦ let is = get_or-append_right xs ys (length xs) i 0 refl up in let fits = by.byte (i - length xs) in omega (arith, is, fits)
      ];
}

IsBytes-word_of : (f : ℕ → ℕ) → ((j : ℕ) → f j < 256) → IsBytes (word_of f)
IsBytes-word_of f fits = IsBytes_cons (fits 0) (IsBytes_cons (fits 1) (IsBytes_cons (fits 2) (IsBytes_cons (fits 3) IsBytes_none)))

IsBytes-state_of : (f : ℕ → ℕ → ℕ) → ((r c : ℕ) → f r c < 256) → IsBytes (state_of f)
IsBytes-state_of f fits =
    IsBytes_cons (fits 0 0) (IsBytes_cons (fits 1 0) (IsBytes_cons (fits 2 0) (IsBytes_cons (fits 3 0)
    (IsBytes_cons (fits 0 1) (IsBytes_cons (fits 1 1) (IsBytes_cons (fits 2 1) (IsBytes_cons (fits 3 1)
    (IsBytes_cons (fits 0 2) (IsBytes_cons (fits 1 2) (IsBytes_cons (fits 2 2) (IsBytes_cons (fits 3 2)
    (IsBytes_cons (fits 0 3) (IsBytes_cons (fits 1 3) (IsBytes_cons (fits 2 3) (IsBytes_cons (fits 3 3) IsBytes_none)))))))))))))))

-- ---- the schedule has bytes

power-lt : (n : ℕ) → times_power 1 n < 256
unfolding times_power
power-lt zero = omega arith
power-lt (suc n) = xtimes-lt (times_power 1 n)

either_bytes : (p : Bool) (xs ys : List ℕ) → IsBytes xs → IsBytes ys → IsBytes (if p then xs else ys)
either_bytes p xs ys bx by = elim p as (λ b. IsBytes (if b then xs else ys)) [ true ↦ bx | false ↦ by ]

IsBytes-round_constant : (n : ℕ) → IsBytes (round_constant n)
IsBytes-round_constant n =
    IsBytes_cons (power-lt (n - 1)) (IsBytes_cons (omega arith) (IsBytes_cons (omega arith) (IsBytes_cons (omega arith) IsBytes_none)))

IsBytes-sub_word : (t : List ℕ) → IsBytes (sub_word t)
IsBytes-sub_word t = IsBytes-word_of (λ j. sub_byte (slice_index t j)) (λ j. sub_byte-lt (slice_index t j))

IsBytes-xor_words : (s t : List ℕ) → IsBytes s → IsBytes t → IsBytes (xor_words s t)
IsBytes-xor_words s t bs bt =
    IsBytes-word_of (λ j. bit_xor (slice_index s j) (slice_index t j)) (λ j. xor_byte (slice_index s j) (slice_index t j) (bs.byte j) (bt.byte j))

IsBytes-mixed_word : (k : ℕ) (t : List ℕ) (n r : ℕ) → IsBytes t → IsBytes (mixed_word k t n r)
IsBytes-mixed_word k t n r bytes =
    either_bytes (nat_eq r 0) (xor_words (sub_word (rot_word t)) (round_constant n))
    (if nat_lt 6 k && nat_eq r 4 then sub_word t else t)
    (IsBytes-xor_words (sub_word (rot_word t)) (round_constant n) (IsBytes-sub_word (rot_word t)) (IsBytes-round_constant n))
    (either_bytes (nat_lt 6 k && nat_eq r 4) (sub_word t) t (IsBytes-sub_word t) bytes)

IsBytes-next_word : (key w : List ℕ) (i : ℕ) → IsBytes key → IsBytes w → IsBytes (next_word key w i)
IsBytes-next_word key w i bk bw =
    let old : List ℕ = word_of (λ j. slice_index w (4 * (i - length key / 4) + j)) in
    let k = length key / 4 in
    let before : List ℕ = word_before w i in
    let mixed : List ℕ = mixed_word k before (i / k) (i % k) in
    either_bytes (nat_lt i (length key / 4)) (word_of (λ j. slice_index key (4 * i + j))) (xor_words old mixed)
    (IsBytes-word_of (λ j. slice_index key (4 * i + j)) (λ j. bk.byte (4 * i + j)))
    (IsBytes-xor_words old mixed
    (IsBytes-word_of (λ j. slice_index w (4 * (i - length key / 4) + j)) (λ j. bw.byte (4 * (i - length key / 4) + j)))
    (IsBytes-mixed_word k before (i / k) (i % k) (IsBytes-word_of (λ j. slice_index w (4 * (i - 1) + j)) (λ j. bw.byte (4 * (i - 1) + j)))))

IsBytes-schedule : (key : List ℕ) (n : ℕ) → IsBytes key → IsBytes (schedule key n)
unfolding schedule
IsBytes-schedule key zero bytes = IsBytes_none
IsBytes-schedule key (suc n) bytes =
    let before = IsBytes-schedule key n bytes in
    IsBytes-append (schedule key n) (next_word key (schedule key n) n) before (IsBytes-next_word key (schedule key n) n bytes before)

-- ---- each step and its inverse

abbrev substituted : List ℕ → List ℕ
substituted s = shift_rows (sub_bytes s)

key_back : (f : ℕ → ℕ → ℕ) (w : List ℕ) (n : ℕ) → add_round_key (add_round_key (state_of f) w n) w n ≡ state_of f
key_back f w n = λ i. state_of (λ r c. xor_back (f r c) (slice_index w (16 * n + (r + 4 * c))) i)

substituted_back : (s : List ℕ) → IsBytes s → inv_sub_bytes (inv_shift_rows (substituted s)) ≡ state_of (at s)
substituted_back s bytes = λ i. state_of (λ r c. substitute_back (at s r c) (bytes.byte (r + 4 * c)) i)

columns_back : (f : ℕ → ℕ → ℕ) → ((r c : ℕ) → f r c < 256) → inv_mix_columns (mix_columns (state_of f)) ≡ state_of f
columns_back f bytes = λ i. state_of (λ r c.
    mixed_back (f r c) (f ((r + 1) % 4) c) (f ((r + 2) % 4) c) (f ((r + 3) % 4) c) (bytes r c) (bytes ((r + 1) % 4) c) (bytes ((r + 2) % 4) c) (bytes ((r + 3) % 4) c) i)

-- ---- the rounds

IsBytes-key : (s w : List ℕ) (n : ℕ) → IsBytes s → IsBytes w → IsBytes (add_round_key s w n)
IsBytes-key s w n bs bw =
    IsBytes-state_of (λ r c. bit_xor (at s r c) (slice_index w (16 * n + (r + 4 * c))))
    (λ r c. xor_byte (at s r c) (slice_index w (16 * n + (r + 4 * c))) (bs.byte (r + 4 * c)) (bw.byte (16 * n + (r + 4 * c))))

mixed-lt : (a b c d : ℕ) → a < 256 → b < 256 → c < 256 → d < 256 → mixed a b c d < 256
mixed-lt a b c d la lb lc ld =
    xor_byte (bit_xor (bit_xor (times a 2) (times b 3)) c) d
    (xor_byte (bit_xor (times a 2) (times b 3)) c (xor_byte (times a 2) (times b 3) (linear_2.byte a la) (linear_3.byte b lb)) lc) ld

IsBytes-mixed : (s : List ℕ) → IsBytes s → IsBytes (mix_columns s)
IsBytes-mixed s bs =
    IsBytes-state_of (λ r c. mixed (at s r c) (at s ((r + 1) % 4) c) (at s ((r + 2) % 4) c) (at s ((r + 3) % 4) c))
    (λ r c. mixed-lt (at s r c) (at s ((r + 1) % 4) c) (at s ((r + 2) % 4) c) (at s ((r + 3) % 4) c)
    (bs.byte (r + 4 * c)) (bs.byte ((r + 1) % 4 + 4 * c)) (bs.byte ((r + 2) % 4 + 4 * c)) (bs.byte ((r + 3) % 4 + 4 * c)))

IsBytes-substituted : (s : List ℕ) → IsBytes (substituted s)
IsBytes-substituted s =
    let all : IsBytes (sub_bytes s) = IsBytes-state_of (λ r c. sub_byte (at s r c)) (λ r c. sub_byte-lt (at s r c)) in
    IsBytes-state_of (λ r c. at (sub_bytes s) r ((c + r) % 4)) (λ r c. all.byte (r + 4 * ((c + r) % 4)))

IsBytes-rounds : (w s : List ℕ) (n : ℕ) → IsBytes w → IsBytes s → IsBytes (rounds w s n)
unfolding rounds
IsBytes-rounds w s zero bw bs = IsBytes-key s w 0 bs bw
IsBytes-rounds w s (suc n) bw bs = IsBytes-key (mix_columns (substituted (rounds w s n))) w (n + 1) (IsBytes-mixed (substituted (rounds w s n)) (IsBytes-substituted (rounds w s n))) bw

-- a state within the rounds is its own 16 bytes
state_again : (w s : List ℕ) (n : ℕ) → state_of (at (rounds w s n)) ≡ rounds w s n
unfolding rounds
state_again w s zero = refl
state_again w s (suc n) = refl

one_back : (w s : List ℕ) (m : ℕ) → inv_mix_columns (add_round_key (rounds w s (suc m)) w (m + 1)) ≡ substituted (rounds w s m)
unfolding rounds
one_back w s m =
    ap inv_mix_columns (key_back (λ r c. at (mix_columns (substituted (rounds w s m))) r c) w (m + 1))
    ∙ columns_back (λ r c. at (substituted (rounds w s m)) r c) (λ r c. let all = IsBytes-substituted (rounds w s m) in all.byte (r + 4 * c))

-- the inverse's rounds walk the states back
walked_back : (w s : List ℕ) (count m n : ℕ) → IsBytes w → IsBytes s → m + n ≡ count - 1 → 1 ≤ count
    → inv_rounds w count (cipher_with w count s) n ≡ substituted (rounds w s m)
unfolding inv_rounds cipher_with
walked_back w s count m zero bw bs all some =
    let last : count - 1 ≡ m = omega arith in
    key_back (λ r c. at (substituted (rounds w s (count - 1))) r c) w count ∙ ap (λ (k : ℕ). substituted (rounds w s k)) last
walked_back w s count m (suc n) bw bs all some =
    let before = walked_back w s count (suc m) n bw bs (omega arith) some in
    let here : count - (n + 1) ≡ m + 1 = omega arith in
    ap (λ (t : List ℕ). inv_mix_columns (add_round_key (inv_sub_bytes (inv_shift_rows t)) w (count - (n + 1)))) before
    ∙ ap (λ (t : List ℕ). inv_mix_columns (add_round_key t w (count - (n + 1)))) (substituted_back (rounds w s (suc m)) (IsBytes-rounds w s (suc m) bw bs) ∙ state_again w s (suc m))
    ∙ ap (λ (k : ℕ). inv_mix_columns (add_round_key (rounds w s (suc m)) w k)) here
    ∙ one_back w s m

block_is : (s : List ℕ) → length s ≡ 16 → s ≡ state_of (at s)
block_is s long = fill_by_all (slice_index s) s 16 0 long (λ k low. refl)

cipher_back : (w s : List ℕ) (count : ℕ) → IsBytes w → IsBytes s → length s ≡ 16 → 1 ≤ count
    → inv_cipher_with w count (cipher_with w count s) ≡ s
unfolding inv_cipher_with rounds
cipher_back w s count bw bs long some =
    ap (λ (t : List ℕ). add_round_key (inv_sub_bytes (inv_shift_rows t)) w 0) (walked_back w s count 0 (count - 1) bw bs (omega arith) some)
    ∙ ap (λ (t : List ℕ). add_round_key t w 0) (substituted_back (rounds w s 0) (IsBytes-rounds w s 0 bw bs) ∙ state_again w s 0)
    ∙ key_back (λ r c. at s r c) w 0 ∙ sym (block_is s long)

pub undoing : DecipheringUndoesEnciphering
unfolding encrypted decrypted
undoing key block lengths bk long bb =
    cipher_back (schedule key (4 * (round_count key + 1))) block (round_count key) (IsBytes-schedule key _ bk) bb long (omega arith)
