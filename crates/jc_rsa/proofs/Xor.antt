-- Exclusive-or of bytes with a mask.
use Rattle.std.proofs.Common.{◌≡◌, ◌<◌, ◌+◌, [], ◌∷◌, ◌++◌, ℕ, zero, suc, List, bit_xor, drop, length, length-take-le, slice_index, take, refl, sym, ap, ◌∙◌, arith}
use Rattle.std.proofs.lemmas.List.{drop-drop, get_or-drop, take_more}
use Rattle.std.specs.Int.Bits.{xor_assoc, xor_self, xor_zero_r}
use Rattle.jc_rsa.specs.Bytes.{xor}

-- bytes that are written from the front
pub drop_next : (xs ys : List ℕ) (i : ℕ) → drop i xs ≡ drop i ys → drop (i + 1) xs ≡ drop (i + 1) ys
drop_next xs ys i same = sym (drop-drop 1 i xs) ∙ ap (drop 1) same ∙ drop-drop 1 i ys

pub same_at : (xs ys : List ℕ) (i : ℕ) → drop i xs ≡ drop i ys → slice_index xs i ≡ slice_index ys i
same_at xs ys i same =
    let here : i + 0 ≡ i = omega arith in
    sym (ap (slice_index xs) here) ∙ sym (get_or-drop i xs 0 0) ∙ ap (λ (l : List ℕ). slice_index l 0) same ∙ get_or-drop i ys 0 0
    ∙ ap (slice_index ys) here

drop_suc : (n : ℕ) (mask : List ℕ) → drop n (drop 1 mask) ≡ drop (suc n) mask
drop_suc n mask =
    let next : 1 + n ≡ suc n = omega arith in
    drop-drop n 1 mask ∙ ap (λ (k : ℕ). drop k mask) next

pub length-xor : (xs mask : List ℕ) → length (xor xs mask) ≡ length xs
unfolding xor
length-xor [] mask = refl
length-xor (x ∷ xs) mask = ap suc (length-xor xs (drop 1 mask))

pub xor-append : (xs ys mask : List ℕ) → xor (xs ++ ys) mask ≡ xor xs mask ++ xor ys (drop (length xs) mask)
unfolding xor
xor-append [] ys mask = refl
xor-append (x ∷ xs) ys mask =
    let first : ℕ = bit_xor x (slice_index mask 0) in
    ap (λ (l : List ℕ). first ∷ l) (
    xor-append xs ys (drop 1 mask) ∙ ap (λ (l : List ℕ). xor xs (drop 1 mask) ++ xor ys l) (drop_suc (length xs) mask)
    )

-- a mask taken twice
pub xor-twice : (xs mask : List ℕ) → xor (xor xs mask) mask ≡ xs
unfolding xor
xor-twice [] mask = refl
xor-twice (x ∷ xs) mask =
    let y = slice_index mask 0 in
    let back : bit_xor (bit_xor x y) y ≡ x = xor_assoc x y y ∙ ap (bit_xor x) (xor_self y) ∙ xor_zero_r x in
    λ j. back j ∷ xor-twice xs (drop 1 mask) j

pub drop-xor : (n : ℕ) (xs mask : List ℕ) → drop n (xor xs mask) ≡ xor (drop n xs) (drop n mask)
unfolding xor
drop-xor zero xs mask = refl
drop-xor (suc n) [] mask = refl
drop-xor (suc n) (x ∷ xs) mask = drop-xor n xs (drop 1 mask) ∙ ap (xor (drop n xs)) (drop_suc n mask)

xor-one : (x : ℕ) (mask : List ℕ) → xor (x ∷ []) mask ≡ bit_xor x (slice_index mask 0) ∷ []
unfolding xor
xor-one x mask = refl

-- one byte more
pub xor_more : (old mask : List ℕ) (i : ℕ) → i < length old
    → xor (take (i + 1) old) mask ≡ xor (take i old) mask ++ bit_xor (slice_index old i) (slice_index mask i) ∷ []
xor_more old mask i within =
    let x = slice_index old i in
    let long : length (take i old) ≡ i = length-take-le i old (omega arith) in
    let here : i + 0 ≡ i = omega arith in
    let at : slice_index (drop i mask) 0 ≡ slice_index mask i = get_or-drop i mask 0 0 ∙ ap (slice_index mask) here in
    ap (λ (l : List ℕ). xor l mask) (take_more old i 0 within) ∙ xor-append (take i old) (x ∷ []) mask
    ∙ ap (λ (n : ℕ). xor (take i old) mask ++ xor (x ∷ []) (drop n mask)) long
    ∙ ap (λ (l : List ℕ). xor (take i old) mask ++ l) (xor-one x (drop i mask))
    ∙ ap (λ (b : ℕ). xor (take i old) mask ++ bit_xor x b ∷ []) at
