-- Laws of numbers by their bits.
use Rattle.std.proofs.Common.{◌≡◌, ℕ, zero, suc, ◌+◌, ◌*◌, ◌/◌, ◌%◌, ◌^◌, ◌<◌, ◌&&◌, ◌==◌, bit_xor, Bool, true, false, if◌then◌else◌, nat_lt, nat_eq, refl, sym, ap, ◌∙◌, arith}
use Rattle.std.proofs.lemmas.Nat.{mod_low, shr_high, xor_block, xor_lt}
use Rattle.std.proofs.lemmas.Bool.Decides.{nat_tests, Decides-below_and, Decides-eqb, Decides-ltb}
use Rattle.std.specs.Int.Bits.{xor_zero_l, xor_zero_r}
use Rattle.jc_ciphers.specs.DesNumbers.{AreBits, number_of}

pub number_of-lt : (f : ℕ → ℕ) (n : ℕ) → AreBits f → number_of f n < 2 ^ n
unfolding number_of
number_of-lt f zero bits = omega arith
number_of-lt f (suc n) bits =
    let before = number_of-lt f n bits in
    let last = bits n in
    let power : 2 ^ suc n ≡ 2 ^ n * 2 = omega arith in
    omega (arith, before, last, power)

pub number_of-same : (f g : ℕ → ℕ) (n : ℕ) → ((i : ℕ) → i < n → f i ≡ g i) → number_of f n ≡ number_of g n
unfolding number_of
number_of-same f g zero same = refl
number_of-same f g (suc n) same =
    λ j. number_of-same f g n (λ i low. same i (omega arith)) j * 2 + same n (omega arith) j

sum_of : (x p y z : ℕ) → (x * p + y) * 2 + z ≡ x * (p * 2) + (y * 2 + z)
sum_of x p y z = grind arith

pub number_of-append : (f : ℕ → ℕ) (a b : ℕ) → number_of f (a + b) ≡ number_of f a * 2 ^ b + number_of (λ i. f (a + i)) b
unfolding number_of
number_of-append f a zero =
    let none : a + 0 ≡ a = omega arith in
    ap (number_of f) none ∙ omega arith
number_of-append f a (suc b) =
    let more : a + suc b ≡ suc (a + b) = omega arith in
    let before = number_of-append f a b in
    let power : 2 ^ suc b ≡ 2 ^ b * 2 = omega arith in
    ap (number_of f) more ∙ ap (λ (x : ℕ). x * 2 + f (a + b)) before
    ∙ sum_of (number_of f a) (2 ^ b) (number_of (λ i. f (a + i)) b) (f (a + b))
    ∙ ap (λ (x : ℕ). number_of f a * x + (number_of (λ i. f (a + i)) b * 2 + f (a + b))) (sym power)

pub number_of-xor : (f g : ℕ → ℕ) (n : ℕ) → AreBits f → AreBits g
    → bit_xor (number_of f n) (number_of g n) ≡ number_of (λ i. bit_xor (f i) (g i)) n
unfolding number_of
number_of-xor f g zero bf bg = refl
number_of-xor f g (suc n) bf bg =
    xor_block 1 (number_of f n) (number_of g n) (f n) (g n) (bf n) (bg n)
    ∙ ap (λ (x : ℕ). x * 2 + bit_xor (f n) (g n)) (number_of-xor f g n bf bg)

-- a window of bits
pub number_of-window : (f : ℕ → ℕ) (a b c : ℕ) → AreBits f → number_of f (a + b + c) / 2 ^ c % 2 ^ b ≡ number_of (λ i. f (a + i)) b
number_of-window f a b c bits =
    let low = number_of-lt (λ i. f (a + b + i)) c (λ i. bits (a + b + i)) in
    let high = number_of-lt (λ i. f (a + i)) b (λ i. bits (a + i)) in
    ap (λ (x : ℕ). x / 2 ^ c % 2 ^ b) (number_of-append f (a + b) c)
    ∙ ap (λ (x : ℕ). x % 2 ^ b) (shr_high (number_of f (a + b)) c (number_of (λ i. f (a + b + i)) c) low)
    ∙ ap (λ (x : ℕ). x % 2 ^ b) (number_of-append f a b)
    ∙ mod_low (number_of f a) b (number_of (λ i. f (a + i)) b) high

pub number_of-one : (f : ℕ → ℕ) → number_of f 1 ≡ f 0
unfolding number_of
number_of-one f = omega arith

-- one bit
pub number_of-bit : (f : ℕ → ℕ) (a c n : ℕ) → AreBits f → a + 1 + c ≡ n → number_of f n / 2 ^ c % 2 ≡ f a
number_of-bit f a c n bits all =
    let first : a + 0 ≡ a = omega arith in
    ap (λ (k : ℕ). number_of f k / 2 ^ c % 2) (sym all)
    ∙ number_of-window f a 1 c bits ∙ number_of-one (λ i. f (a + i)) ∙ ap f first

xor_bits : (a b : ℕ) → a < 2 → b < 2 → bit_xor a b < 2
xor_bits a b la lb = xor_lt 1 a b la lb

pub AreBits-xor : (f g : ℕ → ℕ) → AreBits f → AreBits g → AreBits (λ i. bit_xor (f i) (g i))
AreBits-xor f g bf bg i = xor_bits (f i) (g i) (bf i) (bg i)

-- ---- bits that are gathered group by group

-- bit j of what the groups before n wrote, of group q j and value v j
abbrev pub gathered_bit : (ℕ → ℕ) → (ℕ → ℕ) → ℕ → ℕ → ℕ
gathered_bit q v n j = if nat_lt (q j) n then v j else 0

-- what group n alone writes
abbrev pub group_bit : (ℕ → ℕ) → (ℕ → ℕ) → ℕ → ℕ → ℕ
group_bit q v n j = if nat_eq (q j) n then v j else 0

one_more : (q n v : ℕ) → bit_xor (if nat_lt q n then v else 0) (if nat_eq q n then v else 0) ≡ (if nat_lt q (n + 1) then v else 0)
one_more q n v = grind (arith, nat_tests, xor_zero_l, xor_zero_r)

AreBits-if : (p : ℕ → Bool) (v : ℕ → ℕ) → AreBits v → AreBits (λ j. if p j then v j else 0)
AreBits-if p v bits j = elim (p j) as (λ b. (if b then v j else 0) < 2) [ true ↦ bits j | false ↦ omega arith ]

pub gathered_more : (q v : ℕ → ℕ) (n w : ℕ) → AreBits v
    → bit_xor (number_of (gathered_bit q v n) w) (number_of (group_bit q v n) w) ≡ number_of (gathered_bit q v (n + 1)) w
gathered_more q v n w bits =
    number_of-xor (gathered_bit q v n) (group_bit q v n) w (AreBits-if (λ j. nat_lt (q j) n) v bits) (AreBits-if (λ j. nat_eq (q j) n) v bits)
    ∙ number_of-same _ _ w (λ j low. one_more (q j) n (v j))

pub number_of-zeros : (f : ℕ → ℕ) (n : ℕ) → ((i : ℕ) → f i ≡ 0) → number_of f n ≡ 0
unfolding number_of
number_of-zeros f zero none = refl
number_of-zeros f (suc n) none = let before = number_of-zeros f n none in let last = none n in omega (arith, before, last)

pub gathered_none : (q v : ℕ → ℕ) (w : ℕ) → number_of (gathered_bit q v 0) w ≡ 0
gathered_none q v w = number_of-zeros _ w (λ j. grind (arith, nat_tests))

all_in : (q n v : ℕ) → q < n → (if nat_lt q n then v else 0) ≡ v
all_in q n v below = grind (arith, nat_tests)

pub gathered_all : (q v : ℕ → ℕ) (n w : ℕ) → ((j : ℕ) → j < w → q j < n) → number_of (gathered_bit q v n) w ≡ number_of v w
gathered_all q v n w below = number_of-same _ _ w (λ j low. all_in (q j) n (v j) (below j low))

-- a fact of each number below n, by computing
abbrev pub all_below : (ℕ → Bool) → ℕ → Bool
all_below p zero = true
all_below p (suc n) = p n && all_below p n

pub same_below : (f g : ℕ → ℕ) (n : ℕ) → all_below (λ k. f k == g k) n ≡ true → (k : ℕ) → k < n → f k ≡ g k
same_below f g n all =
    (Decides-below_and (λ k. f k == g k) (λ k. f k ≡ g k) (all_below (λ k. f k == g k)) (λ k. Decides-eqb (f k) (g k)) refl (λ _. refl) n).0 all

pub lt_below : (f : ℕ → ℕ) (m n : ℕ) → all_below (λ k. nat_lt (f k) m) n ≡ true → (k : ℕ) → k < n → f k < m
lt_below f m n all =
    (Decides-below_and (λ k. nat_lt (f k) m) (λ k. f k < m) (all_below (λ k. nat_lt (f k) m)) (λ k. Decides-ltb (f k) m) refl (λ _. refl) n).0 all
