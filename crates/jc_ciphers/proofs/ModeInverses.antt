-- Modes undo each other, block by block.
use Rattle.std.proofs.Common.{◌≡◌, ℕ, zero, suc, ◌+◌, ◌-◌, ◌*◌, ◌<◌, ◌≤◌, List, [], ◌∷◌, ◌++◌, bit_xor, get_or-drop, inl, inr, length, length-append, length-drop, length-take-le, slice_index, take, drop, refl, sym, ap, ◌∙◌, arith}
use Rattle.std.proofs.Math.Nat.{mul-le-mul_right}
use Rattle.std.proofs.Math.Seq.{take-add, take-suc}
use Rattle.std.proofs.lemmas.Bool.{cases_lt}
use Rattle.std.proofs.lemmas.List.{drop_all, get_or-append_right, get_or-take, get_or_append_left, get_or_past, take_all, drop-append-le}
use Rattle.std.proofs.lemmas.Nat.{xor_comm, xor_lt}
use Rattle.std.specs.Int.Bits.{xor_assoc, xor_self, xor_zero_r}
use Rattle.jc_ciphers.specs.Laws.{CbcIsUndone, EcbIsUndone, IsBlock}
use Rattle.jc_ciphers.specs.Modes.{block_at, chain_after, output, xor_first}
use Rattle.jc_ciphers.proofs.Pieces.{block-append, rows_more}

-- a mode that undoes another, a block at a time
record IsUndone (f g f' g' : List ℕ → List ℕ → List ℕ) (size : ℕ) : Type 0 where
  back : (c b : List ℕ) → IsBlock size c → IsBlock size b → g' c (g c b) ≡ b
  chain : (c b : List ℕ) → IsBlock size c → IsBlock size b → f' c (g c b) ≡ f c b
  written : (c b : List ℕ) → IsBlock size c → IsBlock size b → IsBlock size (g c b)
  next : (c b : List ℕ) → IsBlock size c → IsBlock size b → IsBlock size (f c b)

taken-lt : (k n : ℕ) (xs : List ℕ) (i : ℕ) → ((j : ℕ) → slice_index xs j < 256) → k + n ≤ length xs → slice_index (take n (drop k xs)) i < 256
taken-lt k n xs i bytes within =
    let long : length (take n (drop k xs)) ≡ n = length-take-le n (drop k xs) (omega (arith, length-drop k xs, within)) in
    elim (cases_lt i n) as (λ _. slice_index (take n (drop k xs)) i < 256) [
      | inl low ↦ let is = get_or-take n (drop k xs) i 0 low ∙ get_or-drop k xs i 0 in let fits = bytes (k + i) in omega (arith, is, fits)
      | inr up ↦ let is = get_or_past (take n (drop k xs)) i 0 (omega (arith, long, up)) in omega (arith, is)
    ]

IsBlock-block_at : (size : ℕ) (m : List ℕ) (n k : ℕ) → IsBlock (n * size) m → suc k * size ≤ n * size → IsBlock size (block_at size m k)
IsBlock-block_at size m n k is fits =
    let more = rows_more k size in
    let within : k * size + size ≤ length m = omega (arith, is.long, more, fits) in
    record {
      long = length-take-le size (drop (k * size) m) (omega (arith, within, length-drop (k * size) m));
      byte = λ i. taken-lt (k * size) size m i is.byte within;
    }

rows_below : (k n size : ℕ) → k < n → suc k * size ≤ n * size
rows_below k n size below = mul-le-mul_right size below

chain-block : (f g f' g' : List ℕ → List ℕ → List ℕ) (size : ℕ) (first m : List ℕ) (n k : ℕ) → IsUndone f g f' g' size
    → IsBlock size first → IsBlock (n * size) m → k ≤ n → IsBlock size (chain_after f size first m k)
unfolding chain_after
chain-block f g f' g' size first m n zero u bf bm within = bf
chain-block f g f' g' size first m n (suc k) u bf bm within =
    u.next (chain_after f size first m k) (block_at size m k) (chain-block f g f' g' size first m n k u bf bm (omega arith))
    (IsBlock-block_at size m n k bm (rows_below k n size (omega arith)))

output-block : (f g f' g' : List ℕ → List ℕ → List ℕ) (size : ℕ) (first m : List ℕ) (n k : ℕ) → IsUndone f g f' g' size
    → IsBlock size first → IsBlock (n * size) m → k < n → IsBlock size (g (chain_after f size first m k) (block_at size m k))
output-block f g f' g' size first m n k u bf bm below =
    u.written (chain_after f size first m k) (block_at size m k) (chain-block f g f' g' size first m n k u bf bm (omega arith))
    (IsBlock-block_at size m n k bm (rows_below k n size below))

length-output : (f g f' g' : List ℕ → List ℕ → List ℕ) (size : ℕ) (first m : List ℕ) (n k : ℕ) → IsUndone f g f' g' size
    → IsBlock size first → IsBlock (n * size) m → k ≤ n → length (output f g size first m k) ≡ k * size
unfolding output
length-output f g f' g' size first m n zero u bf bm within = grind arith
length-output f g f' g' size first m n (suc k) u bf bm within =
    let before = length-output f g f' g' size first m n k u bf bm (omega arith) in
    let last = output-block f g f' g' size first m n k u bf bm (omega arith) in
    let long = last.long in
    let more = rows_more k size in
    omega (arith, before, long, more, length-append (output f g size first m k) (g (chain_after f size first m k) (block_at size m k)))

-- block k of the output of n blocks
written-at : (f g f' g' : List ℕ → List ℕ → List ℕ) (size : ℕ) (first m : List ℕ) (n k j : ℕ) → IsUndone f g f' g' size
    → IsBlock size first → IsBlock (n * size) m → k < j → j ≤ n
    → block_at size (output f g size first m j) k ≡ g (chain_after f size first m k) (block_at size m k)
unfolding output
written-at f g f' g' size first m n k zero u bf bm below within = absurd (omega arith)
written-at f g f' g' size first m n k (suc j) u bf bm below within =
    let before : List ℕ = output f g size first m j in
    let last : List ℕ = g (chain_after f size first m j) (block_at size m j) in
    let long = length-output f g f' g' size first m n j u bf bm (omega arith) in
    let whole = output-block f g f' g' size first m n j u bf bm (omega arith) in
    elim (cases_lt k j) as (λ _. block_at size (before ++ last) k ≡ g (chain_after f size first m k) (block_at size m k)) [
      | inl low ↦
          block-append size before last k (omega (arith, long, rows_below k j size low))
          ∙ written-at f g f' g' size first m n k j u bf bm low (omega arith)
      | inr up ↦
          let here : k ≡ j = omega arith in
          let all : drop (j * size) before ≡ [] = drop_all (j * size) before (omega (arith, long)) in
          let length_is = whole.long in
          ap (λ (i : ℕ). take size (drop (i * size) (before ++ last))) here
          ∙ ap (take size) (drop-append-le (j * size) before last (omega (arith, long)) ∙ ap (λ (xs : List ℕ). xs ++ last) all)
          ∙ take_all size last (omega (arith, length_is))
          ∙ ap (λ (i : ℕ). g (chain_after f size first m i) (block_at size m i)) (sym here)
    ]

pub record WalksBack (f g f' g' : List ℕ → List ℕ → List ℕ) (size : ℕ) (first m : List ℕ) (n k : ℕ) : Type 0 where
  pub chain : chain_after f' size first (output f g size first m n) k ≡ chain_after f size first m k
  pub out : output f' g' size first (output f g size first m n) k ≡ take (k * size) m

walked : (f g f' g' : List ℕ → List ℕ → List ℕ) (size : ℕ) (first m : List ℕ) (n k : ℕ) → IsUndone f g f' g' size
    → IsBlock size first → IsBlock (n * size) m → k ≤ n → WalksBack f g f' g' size first m n k
unfolding chain_after output
walked f g f' g' size first m n zero u bf bm within =
    let none : 0 ≡ 0 * size = grind arith in
    record { chain = refl; out = ap (λ (k : ℕ). take k m) none }
walked f g f' g' size first m n (suc k) u bf bm within =
    let before = walked f g f' g' size first m n k u bf bm (omega arith) in
    let c : List ℕ = chain_after f size first m k in
    let b : List ℕ = block_at size m k in
    let bc = chain-block f g f' g' size first m n k u bf bm (omega arith) in
    let bb = IsBlock-block_at size m n k bm (rows_below k n size (omega arith)) in
    let is = written-at f g f' g' size first m n k n u bf bm (omega arith) (omega arith) in
    let more = rows_more k size in
    record {
      chain = (λ i. f' (before.chain i) (is i)) ∙ u.chain c b bc bb;
      out = (λ i. before.out i ++ g' (before.chain i) (is i)) ∙ ap (λ (xs : List ℕ). take (k * size) m ++ xs) (u.back c b bc bb)
          ∙ sym (take-add (k * size) size m) ∙ ap (λ (i : ℕ). take i m) (sym more);
    }

undone : (f g f' g' : List ℕ → List ℕ → List ℕ) (size : ℕ) (first m : List ℕ) (n : ℕ) → IsUndone f g f' g' size
    → IsBlock size first → IsBlock (n * size) m → output f' g' size first (output f g size first m n) n ≡ m
undone f g f' g' size first m n u bf bm =
    let all = walked f g f' g' size first m n n u bf bm (omega arith) in
    let long = bm.long in
    all.out ∙ take_all (n * size) m (omega (arith, long))

pub ecb_undone : EcbIsUndone
ecb_undone size d e first m n u bf bm =
    undone (λ c b. c) (λ c b. e b) (λ c b. c) (λ c b. d b) size first m n
    (record { back = λ c b bc bb. u.back b bb; chain = λ c b bc bb. refl; written = λ c b bc bb. u.block b bb; next = λ c b bc bb. bc }) bf bm

-- ---- sums of blocks

pub length-xor_first : (xs ys : List ℕ) (n : ℕ) → length (xor_first xs ys n) ≡ n
unfolding xor_first
length-xor_first xs ys zero = refl
length-xor_first xs ys (suc n) =
    omega (arith, length-append (xor_first xs ys n) (bit_xor (slice_index xs n) (slice_index ys n) ∷ []), length-xor_first xs ys n)

xor_first-at : (xs ys : List ℕ) (n i : ℕ) → i < n → slice_index (xor_first xs ys n) i ≡ bit_xor (slice_index xs i) (slice_index ys i)
unfolding xor_first
xor_first-at xs ys zero i low = absurd (omega arith)
xor_first-at xs ys (suc n) i low =
    let v : ℕ = bit_xor (slice_index xs n) (slice_index ys n) in
    let long = length-xor_first xs ys n in
    elim (cases_lt i n) as (λ _. slice_index (xor_first xs ys n ++ v ∷ []) i ≡ bit_xor (slice_index xs i) (slice_index ys i)) [
      | inl below ↦ get_or_append_left (xor_first xs ys n) (v ∷ []) 0 i (omega (arith, long)) ∙ xor_first-at xs ys n i below
      | inr up ↦
          let here : i ≡ n = omega arith in
          let none : i - n ≡ 0 = omega arith in
          get_or-append_right (xor_first xs ys n) (v ∷ []) n i 0 long up ∙ ap (slice_index (v ∷ [])) none
          ∙ ap (λ (k : ℕ). bit_xor (slice_index xs k) (slice_index ys k)) (sym here)
    ]

IsBlock-xor_first : (size : ℕ) (xs ys : List ℕ) → IsBlock size xs → IsBlock size ys → IsBlock size (xor_first xs ys size)
IsBlock-xor_first size xs ys bx by = record {
  long = length-xor_first xs ys size;
  byte = λ i.
      let sum = xor_lt 8 (slice_index xs i) (slice_index ys i) (bx.byte i) (by.byte i) in
      let long = length-xor_first xs ys size in
      elim (cases_lt i size) as (λ _. slice_index (xor_first xs ys size) i < 256) [
        | inl low ↦ let is = xor_first-at xs ys size i low in omega (arith, is, sum)
        | inr up ↦ let is = get_or_past (xor_first xs ys size) i 0 (omega (arith, long, up)) in omega (arith, is)
      ];
}

xor_twice : (c b : ℕ) → bit_xor (bit_xor c b) c ≡ b
xor_twice c b = ap (λ (x : ℕ). bit_xor x c) (xor_comm c b) ∙ xor_assoc b c c ∙ ap (bit_xor b) (xor_self c) ∙ xor_zero_r b

xor_first-back : (c b : List ℕ) (size n : ℕ) → n ≤ size → n ≤ length b → xor_first (xor_first c b size) c n ≡ take n b
unfolding xor_first
xor_first-back c b size zero within all = refl
xor_first-back c b size (suc n) within all =
    (λ i. xor_first-back c b size n (omega arith) (omega arith) i
    ++ (ap (λ (x : ℕ). bit_xor x (slice_index c n)) (xor_first-at c b size n (omega arith)) ∙ xor_twice (slice_index c n) (slice_index b n)) i ∷ [])
    ∙ sym (take-suc b n 0 (omega arith))

pub cbc_undone : CbcIsUndone
cbc_undone size d e first m n u bf bm =
    undone (λ c b. e (xor_first c b size)) (λ c b. e (xor_first c b size)) (λ c b. b) (λ c b. xor_first (d b) c size) size first m n
    (record {
      back = λ c b bc bb.
          let long = bb.long in
          ap (λ (x : List ℕ). xor_first x c size) (u.back (xor_first c b size) (IsBlock-xor_first size c b bc bb))
          ∙ xor_first-back c b size size (omega arith) (omega (arith, long)) ∙ take_all size b (omega (arith, long));
      chain = λ c b bc bb. refl;
      written = λ c b bc bb. u.block (xor_first c b size) (IsBlock-xor_first size c b bc bb);
      next = λ c b bc bb. u.block (xor_first c b size) (IsBlock-xor_first size c b bc bb);
    }) bf bm
