-- Sums of bytes, and functions that go through them.
use Rattle.std.proofs.Common.{◌≡◌, ℕ, zero, suc, ◌+◌, ◌*◌, ◌/◌, ◌%◌, ◌<◌, bit_xor, refl, sym, ap, ◌∙◌, arith}
use Rattle.std.specs.Int.Bits.{xor_assoc, xor_self, xor_zero_l, xor_zero_r}
use Rattle.std.proofs.lemmas.Nat.{xor_block, xor_comm, xor_lt}
use Rattle.std.proofs.lemmas.Bool.Decides.{nat_tests}
use Rattle.jc_ciphers.specs.AesField.{times, xtimes}
use Rattle.jc_ciphers.proofs.AesProducts.{times-2, times-3, times-9, times-11, times-13, times-14}

pub xor_back : (a k : ℕ) → bit_xor (bit_xor a k) k ≡ a
xor_back a k = xor_assoc a k k ∙ ap (bit_xor a) (xor_self k) ∙ xor_zero_r a

pub xor_byte : (a b : ℕ) → a < 256 → b < 256 → bit_xor a b < 256
xor_byte a b la lb = xor_lt 8 a b la lb

pub swap_middle : (p q r s : ℕ) → bit_xor (bit_xor p q) (bit_xor r s) ≡ bit_xor (bit_xor p r) (bit_xor q s)
swap_middle p q r s =
    xor_assoc p q (bit_xor r s)
    ∙ ap (bit_xor p) (sym (xor_assoc q r s) ∙ ap (λ (x : ℕ). bit_xor x s) (xor_comm q r) ∙ xor_assoc r q s)
    ∙ sym (xor_assoc p r (bit_xor q s))

-- ---- four at once

abbrev pub four : ℕ → ℕ → ℕ → ℕ → ℕ
four p q r s = bit_xor (bit_xor p q) (bit_xor r s)

pub four_is : (p q r s : ℕ) → bit_xor (bit_xor (bit_xor p q) r) s ≡ four p q r s
four_is p q r s = xor_assoc (bit_xor p q) r s

-- the last one first
turned : (p q r s : ℕ) → four p q r s ≡ four s p q r
turned p q r s =
    ap (bit_xor (bit_xor p q)) (xor_comm r s) ∙ swap_middle p q s r ∙ ap (λ (x : ℕ). bit_xor x (bit_xor q r)) (xor_comm p s)

added : (p q r s p' q' r' s' : ℕ)
    → bit_xor (four p q r s) (four p' q' r' s') ≡ four (bit_xor p p') (bit_xor q q') (bit_xor r r') (bit_xor s s')
added p q r s p' q' r' s' =
    swap_middle (bit_xor p q) (bit_xor r s) (bit_xor p' q') (bit_xor r' s')
    ∙ (λ i. bit_xor (swap_middle p q p' q' i) (swap_middle r s r' s' i))

-- rows of a matrix, each turned by one more, against its columns
pub by_columns : (a1 a2 a3 a4 b1 b2 b3 b4 c1 c2 c3 c4 d1 d2 d3 d4 : ℕ)
    → four (four a1 b1 c1 d1) (four b2 c2 d2 a2) (four c3 d3 a3 b3) (four d4 a4 b4 c4)
    ≡ four (four a1 a2 a3 a4) (four b1 b2 b3 b4) (four c1 c2 c3 c4) (four d1 d2 d3 d4)
by_columns a1 a2 a3 a4 b1 b2 b3 b4 c1 c2 c3 c4 d1 d2 d3 d4 =
    let second = turned b2 c2 d2 a2 in
    let third = turned c3 d3 a3 b3 ∙ turned b3 c3 d3 a3 in
    let fourth = turned d4 a4 b4 c4 ∙ turned c4 d4 a4 b4 ∙ turned b4 c4 d4 a4 in
    (λ i. four (four a1 b1 c1 d1) (second i) (third i) (fourth i))
    ∙ (λ i. bit_xor (added a1 b1 c1 d1 a2 b2 c2 d2 i) (added a3 b3 c3 d3 a4 b4 c4 d4 i))
    ∙ added (bit_xor a1 a2) (bit_xor b1 b2) (bit_xor c1 c2) (bit_xor d1 d2) (bit_xor a3 a4) (bit_xor b3 b4) (bit_xor c3 c4) (bit_xor d3 d4)

-- ---- functions of bytes that go through sums

pub record IsLinear (f : ℕ → ℕ) : Type 0 where
  pub byte : (x : ℕ) → x < 256 → f x < 256
  pub sum : (x y : ℕ) → x < 256 → y < 256 → f (bit_xor x y) ≡ bit_xor (f x) (f y)

pub same_linear : IsLinear (λ x. x)
same_linear = record { byte = λ x l. l; sum = λ x y lx ly. refl }

pub sum_linear : (f g : ℕ → ℕ) → IsLinear f → IsLinear g → IsLinear (λ x. bit_xor (f x) (g x))
sum_linear f g lf lg = record {
  byte = λ x l. xor_byte (f x) (g x) (lf.byte x l) (lg.byte x l);
  sum = λ x y lx ly. (λ i. bit_xor (lf.sum x y lx ly i) (lg.sum x y lx ly i)) ∙ swap_middle (f x) (f y) (g x) (g y);
}

pub chain_linear : (f g : ℕ → ℕ) → IsLinear f → IsLinear g → IsLinear (λ x. f (g x))
chain_linear f g lf lg = record {
  byte = λ x l. lf.byte (g x) (lg.byte x l);
  sum = λ x y lx ly. ap f (lg.sum x y lx ly) ∙ lf.sum (g x) (g y) (lg.byte x lx) (lg.byte y ly);
}

pub like_linear : (f g : ℕ → ℕ) → ((x : ℕ) → g x ≡ f x) → IsLinear f → IsLinear g
like_linear f g same lf = record {
  byte = λ x l. let fits = lf.byte x l in let is = same x in omega (arith, fits, is);
  sum = λ x y lx ly. same (bit_xor x y) ∙ lf.sum x y lx ly ∙ (λ i. bit_xor (sym (same x) i) (sym (same y) i));
}

-- times x, by the highest bit h and the others
split : (h l : ℕ) → h < 2 → l < 128 → xtimes (h * 128 + l) ≡ bit_xor (l * 2) (h * 27)
unfolding xtimes
split zero l lh ll = grind (arith, nat_tests, xor_zero_r)
split (suc zero) l lh ll = grind (arith, nat_tests)
split (suc (suc h)) l lh ll = absurd (omega arith)

pub xtimes-lt : (b : ℕ) → xtimes b < 256
unfolding xtimes
xtimes-lt b = let low = xor_byte (2 * b % 256) 0x1b (omega arith) (omega arith) in grind (arith, nat_tests, low)

xor_27 : (h k : ℕ) → h < 2 → k < 2 → bit_xor h k * 27 ≡ bit_xor (h * 27) (k * 27)
xor_27 zero k lh lk = ap (λ (x : ℕ). x * 27) (xor_zero_l k) ∙ sym (xor_zero_l (k * 27))
xor_27 (suc zero) zero lh lk = refl
xor_27 (suc zero) (suc zero) lh lk = refl
xor_27 (suc zero) (suc (suc k)) lh lk = absurd (omega arith)
xor_27 (suc (suc h)) k lh lk = absurd (omega arith)

sums_doubled : (l m : ℕ) → bit_xor l m * 2 ≡ bit_xor (l * 2) (m * 2)
sums_doubled l m =
    let a : l * 2 ≡ l * 2 + 0 = omega arith in
    let b : m * 2 ≡ m * 2 + 0 = omega arith in
    let c : bit_xor l m * 2 ≡ bit_xor l m * 2 + 0 = omega arith in
    c ∙ sym (xor_block 1 l m 0 0 (omega arith) (omega arith)) ∙ (λ i. bit_xor (sym a i) (sym b i))

xtimes_sum : (x y : ℕ) → x < 256 → y < 256 → xtimes (bit_xor x y) ≡ bit_xor (xtimes x) (xtimes y)
xtimes_sum x y lx ly =
    let h : ℕ = x / 128 in
    let l : ℕ = x % 128 in
    let k : ℕ = y / 128 in
    let m : ℕ = y % 128 in
    let xs : x ≡ h * 128 + l = omega arith in
    let ys : y ≡ k * 128 + m = omega arith in
    let lh : h < 2 = omega arith in
    let ll : l < 128 = omega arith in
    let lk : k < 2 = omega arith in
    let lm : m < 128 = omega arith in
    let top : bit_xor h k < 2 = xor_lt 1 h k lh lk in
    let low : bit_xor l m < 128 = xor_lt 7 l m ll lm in
    let doubled : bit_xor l m * 2 ≡ bit_xor (l * 2) (m * 2) = sums_doubled l m in
    (λ i. xtimes (bit_xor (xs i) (ys i))) ∙ ap xtimes (xor_block 7 h k l m ll lm)
    ∙ split (bit_xor h k) (bit_xor l m) top low
    ∙ (λ i. bit_xor (doubled i) (xor_27 h k lh lk i))
    ∙ swap_middle (l * 2) (m * 2) (h * 27) (k * 27)
    ∙ (λ i. bit_xor (sym (split h l lh ll) i) (sym (split k m lk lm) i))
    ∙ (λ i. bit_xor (xtimes (sym xs i)) (xtimes (sym ys i)))

once : IsLinear xtimes
once = record { byte = λ x l. xtimes-lt x; sum = xtimes_sum }

twice : IsLinear (λ x. xtimes (xtimes x))
twice = chain_linear xtimes xtimes once once

thrice : IsLinear (λ x. xtimes (xtimes (xtimes x)))
thrice = chain_linear xtimes (λ x. xtimes (xtimes x)) once twice

pub linear_2 : IsLinear (λ x. times x 2)
linear_2 = like_linear xtimes (λ x. times x 2) times-2 once

pub linear_3 : IsLinear (λ x. times x 3)
linear_3 = like_linear (λ x. bit_xor x (xtimes x)) (λ x. times x 3) times-3 (sum_linear (λ x. x) xtimes same_linear once)

pub linear_9 : IsLinear (λ x. times x 9)
linear_9 =
    like_linear (λ x. bit_xor x (xtimes (xtimes (xtimes x)))) (λ x. times x 9) times-9
    (sum_linear (λ x. x) (λ x. xtimes (xtimes (xtimes x))) same_linear thrice)

pub linear_11 : IsLinear (λ x. times x 11)
linear_11 =
    like_linear (λ x. bit_xor (bit_xor x (xtimes x)) (xtimes (xtimes (xtimes x)))) (λ x. times x 11) times-11
    (sum_linear (λ x. bit_xor x (xtimes x)) (λ x. xtimes (xtimes (xtimes x))) (sum_linear (λ x. x) xtimes same_linear once) thrice)

pub linear_13 : IsLinear (λ x. times x 13)
linear_13 =
    like_linear (λ x. bit_xor (bit_xor x (xtimes (xtimes x))) (xtimes (xtimes (xtimes x)))) (λ x. times x 13) times-13
    (sum_linear (λ x. bit_xor x (xtimes (xtimes x))) (λ x. xtimes (xtimes (xtimes x)))
    (sum_linear (λ x. x) (λ x. xtimes (xtimes x)) same_linear twice) thrice)

pub linear_14 : IsLinear (λ x. times x 14)
linear_14 =
    like_linear (λ x. bit_xor (bit_xor (xtimes x) (xtimes (xtimes x))) (xtimes (xtimes (xtimes x)))) (λ x. times x 14) times-14
    (sum_linear (λ x. bit_xor (xtimes x) (xtimes (xtimes x))) (λ x. xtimes (xtimes (xtimes x)))
    (sum_linear xtimes (λ x. xtimes (xtimes x)) once twice) thrice)

pub through_four : (f : ℕ → ℕ) (p q r s : ℕ) → IsLinear f → p < 256 → q < 256 → r < 256 → s < 256
    → f (bit_xor (bit_xor (bit_xor p q) r) s) ≡ four (f p) (f q) (f r) (f s)
through_four f p q r s lf lp lq lr ls =
    ap f (four_is p q r s)
    ∙ lf.sum (bit_xor p q) (bit_xor r s) (xor_byte p q lp lq) (xor_byte r s lr ls)
    ∙ (λ i. bit_xor (lf.sum p q lp lq i) (lf.sum r s lr ls i))
