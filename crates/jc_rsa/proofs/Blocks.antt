-- Blocks of two bytes, a padding without zeros, a zero and a message.
use Rattle.std.proofs.Common.{◌≡◌, ◌≢◌, ◌≤◌, ◌+◌, ◌-◌, ◌∷◌, ◌++◌, [], ℕ, List, append_assoc, length, length-append, length-drop, length-take-le, replicate, drop, take, slice_index, refl, sym, ap, subst, ◌∙◌, inl, inr, arith}
use Rattle.std.proofs.lemmas.Bool.{cases_lt}
use Rattle.std.proofs.lemmas.List.{drop-drop, drop_at, drop_more, get_or-append_right, get_or-drop, get_or-take, get_or-replicate, get_or_append_left, get_or_at, length-replicate, take-append-drop, take_all}
use Rattle.jc_rsa.specs.Bytes.{HasNone, IsFirst, IsOther, IsZero}
use Rattle.jc_rsa.specs.EmePkcs1.{AreNonzero}

-- what was written from the front, in four parts
pub four_parts : (n : ℕ) (xs ys zs ws to : List ℕ) → take n to ≡ ((xs ++ ys) ++ zs) ++ ws → length to ≤ n → to ≡ (xs ++ ys) ++ (zs ++ ws)
four_parts n xs ys zs ws to is whole = sym (take_all n to whole) ∙ is ∙ append_assoc (xs ++ ys) zs ws

-- the padding ends at the first zero
pub block_end : (b : ℕ) (ps m : List ℕ) → AreNonzero ps → IsFirst IsZero 2 (0 ∷ b ∷ ps ++ 0 ∷ m) (length ps + 2)
block_end b ps m nonzero =
    let front : List ℕ = 0 ∷ b ∷ ps in
    let long : length front ≡ length ps + 2 = omega arith in
    record {
      low = omega arith;
      within = omega (arith, length-append front (0 ∷ m), long);
      here = get_or_at front 0 m 0 (length ps + 2) long;
      before = λ i low below.
          let here : slice_index (front ++ 0 ∷ m) i ≡ slice_index front i = get_or_append_left front (0 ∷ m) 0 i (omega (arith, long)) in
          let there : slice_index front i ≡ slice_index ps (i - 2) = get_or-append_right (0 ∷ b ∷ []) ps 2 i 0 refl low in
          λ is. nonzero (i - 2) (omega arith) (sym there ∙ sym here ∙ is);
    }

pub one_first : (P : ℕ → Type 0) (start : ℕ) (bytes : List ℕ) (i j : ℕ) → IsFirst P start bytes i → IsFirst P start bytes j → i ≡ j
one_first P start bytes i j first second =
    elim (cases_lt i j) as (λ _. i ≡ j) [
      | inl low ↦ absurd (second.before i first.low low first.here)
      | inr up ↦
          elim (cases_lt j i) as (λ _. i ≡ j) [
            | inl low ↦ absurd (first.before j second.low low second.here)
            | inr same ↦ omega arith
          ]
    ]

-- what follows the first zero of such a block is the message
pub block_rest : (b : ℕ) (ps m em : List ℕ) (place : ℕ) → AreNonzero ps → em ≡ 0 ∷ b ∷ ps ++ 0 ∷ m → IsFirst IsZero 2 em place → drop (place + 1) em ≡ m
block_rest b ps m em place nonzero is first =
    let P : List ℕ → Type 0 = λ xs. IsFirst IsZero 2 xs place in
    let at : place ≡ length ps + 2 = one_first IsZero 2 (0 ∷ b ∷ ps ++ 0 ∷ m) place (length ps + 2) (subst P is first) (block_end b ps m nonzero) in
    let front : List ℕ = (0 ∷ b ∷ ps) ++ 0 ∷ [] in
    let parts : em ≡ front ++ m = is ∙ sym (append_assoc (0 ∷ b ∷ ps) (0 ∷ []) m) in
    let long : length front ≡ place + 1 = omega (arith, length-append (0 ∷ b ∷ ps) (0 ∷ []), at) in
    ap (drop (place + 1)) parts ∙ drop_at front m (place + 1) long

-- such a block has a zero
pub block_has_zero : (b : ℕ) (ps m em : List ℕ) → AreNonzero ps → em ≡ 0 ∷ b ∷ ps ++ 0 ∷ m → HasNone IsZero 2 em → ⊥
block_has_zero b ps m em nonzero is none =
    let end = block_end b ps m nonzero in
    let P : List ℕ → Type 0 = λ xs. HasNone IsZero 2 xs in
    subst P is none (length ps + 2) end.low end.within end.here

-- what has a zero after its second byte is such a block
pub parts_of : (em : List ℕ) (place : ℕ) → IsFirst IsZero 2 em place
    → em ≡ slice_index em 0 ∷ slice_index em 1 ∷ take (place - 2) (drop 2 em) ++ 0 ∷ drop (place + 1) em
parts_of em place first =
    let first_byte = drop_more em 0 0 (omega (arith, first.low, first.within)) in
    let second_byte = drop_more em 1 0 (omega (arith, first.low, first.within)) in
    let at : 2 + (place - 2) ≡ place = omega (arith, first.low) in
    let rest : drop (place - 2) (drop 2 em) ≡ 0 ∷ drop (place + 1) em =
    drop-drop (place - 2) 2 em ∙ ap (λ (n : ℕ). drop n em) at ∙ drop_more em place 0 first.within
    ∙ ap (λ (x : ℕ). x ∷ drop (place + 1) em) first.here in
    let all : drop 2 em ≡ take (place - 2) (drop 2 em) ++ 0 ∷ drop (place + 1) em =
    sym (take-append-drop (place - 2) (drop 2 em)) ∙ ap (λ (xs : List ℕ). take (place - 2) (drop 2 em) ++ xs) rest in
    first_byte ∙ ap (λ (xs : List ℕ). slice_index em 0 ∷ xs) second_byte ∙ ap (λ (xs : List ℕ). slice_index em 0 ∷ slice_index em 1 ∷ xs) all

-- its padding has no zero
pub padding_of : (em : List ℕ) (place : ℕ) → IsFirst IsZero 2 em place → AreNonzero (take (place - 2) (drop 2 em))
padding_of em place first = λ i below is.
    let long = length-take-le (place - 2) (drop 2 em) (omega (arith, length-drop 2 em, first.within)) in
    let here = get_or-take (place - 2) (drop 2 em) i 0 (omega (arith, below, long)) ∙ get_or-drop 2 em i 0 in
    first.before (2 + i) (omega arith) (omega (arith, below, long)) (sym here ∙ is)

-- what an encoding with such a padding has at least
pub long_block : (b : ℕ) (ps m em : List ℕ) → em ≡ 0 ∷ b ∷ ps ++ 0 ∷ m → length em ≡ length ps + length m + 3
long_block b ps m em is = ap length is ∙ omega (arith, length-append (0 ∷ b ∷ ps) (0 ∷ m))

-- the first place of another byte, after a number of equal ones
pub filler_end : (front : List ℕ) (n b c : ℕ) (rest : List ℕ) → c ≢ b
    → IsFirst (IsOther b) (length front) ((front ++ replicate n b) ++ c ∷ rest) (length front + n)
filler_end front n b c rest other =
    let filled : List ℕ = front ++ replicate n b in
    let long : length filled ≡ length front + n = length-append front (replicate n b) ∙ ap (λ (k : ℕ). length front + k) (length-replicate n b) in
    let here : slice_index (filled ++ c ∷ rest) (length front + n) ≡ c = get_or_at filled c rest 0 (length front + n) long in
    record {
      low = omega arith;
      within = omega (arith, length-append filled (c ∷ rest), long);
      here = λ is. other (sym here ∙ is);
      before = λ i low below different.
          different (
          get_or_append_left filled (c ∷ rest) 0 i (omega (arith, long))
          ∙ get_or-append_right front (replicate n b) (length front) i 0 refl low
          ∙ get_or-replicate n (i - length front) b 0 (omega arith)
          );
    }
