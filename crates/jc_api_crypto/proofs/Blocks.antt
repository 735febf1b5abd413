-- Whole blocks of a message that goes on.
use Rattle.std.proofs.Common.{◌≡◌, ◌∙◌, ◌≤◌, ◌<◌, ◌+◌, ◌-◌, ◌*◌, ◌/◌, ◌%◌, ℕ, zero, suc, List, [], ◌∷◌, ◌++◌, append_assoc, length, length-append, length-drop, take, drop, replicate, sym, ap, arith}
use Rattle.std.proofs.Math.Nat.{add-mul-div_left, div-add-mod, mod-eq_of_lt, mod-lt}
use Rattle.std.proofs.lemmas.List.{drop-append-le}
use Rattle.jc_digests.specs.Kept.{HashForm, after_blocks, whole_blocks}
use Rattle.jc_digests.specs.Pieces.{closed, filling, hash_after}
use Rattle.jc_digests.proofs.Pieces.{hash_after-append}

drop_twice : (a b : ℕ) (xs : List ℕ) → drop a (drop b xs) ≡ drop (b + a) xs
drop_twice a zero xs = ap (λ (n : ℕ). drop n xs) (omega arith)
drop_twice zero (suc b) [] = let next : suc (b + 0) ≡ suc b + 0 = omega arith in ap (λ (n : ℕ). drop n []) next
drop_twice (suc a) (suc b) [] = let next : suc (b + suc a) ≡ suc b + suc a = omega arith in ap (λ (n : ℕ). drop n []) next
drop_twice a (suc b) (x ∷ xs) = let next : suc b + a ≡ suc (b + a) = omega arith in
    drop_twice a b xs ∙ ap (λ (n : ℕ). drop n (x ∷ xs)) (sym next)

-- what follows the first q blocks of a message, and more, is what follows them in the longer message
rest_goes_on : (b : ℕ) (m t : List ℕ) (q k : ℕ) → q * b ≤ length m → drop (k * b) (drop (q * b) m ++ t) ≡ drop ((q + k) * b) (m ++ t)
rest_goes_on b m t q k fits =
    let both : q * b + k * b ≡ (q + k) * b = grind arith in
    ap (drop (k * b)) (sym (drop-append-le (q * b) m t fits)) ∙ drop_twice (k * b) (q * b) (m ++ t) ∙ ap (λ (n : ℕ). drop n (m ++ t)) both

hash_goes_on : (c : List ℕ → List ℕ → List ℕ) (b : ℕ) (i m t : List ℕ) (q k : ℕ) → q * b ≤ length m
    → hash_after c b (hash_after c b i m q) (drop (q * b) m ++ t) k ≡ hash_after c b i (m ++ t) (q + k)
unfolding hash_after
hash_goes_on c b i m t q zero fits = sym (hash_after-append c b i m t q fits) ∙ ap (hash_after c b i (m ++ t)) (omega arith)
hash_goes_on c b i m t q (suc k) fits =
    let next : suc (q + k) ≡ q + suc k = omega arith in
    (λ j. c (hash_goes_on c b i m t q k fits j) (take b (rest_goes_on b m t q k fits j))) ∙ ap (hash_after c b i (m ++ t)) next

module _ (f : HashForm) (some : 0 < f.block) where
  swapped : (q : ℕ) → q * f.block ≡ f.block * q
  swapped q = grind arith

  parts : (m : List ℕ) → length m / f.block * f.block + length m % f.block ≡ length m
  parts m = omega (arith, div-add-mod (length m) f.block, swapped (length m / f.block))

  fits : (m : List ℕ) → length m / f.block * f.block ≤ length m
  fits m = omega (arith, parts m)

  pub rest_length : (m : List ℕ) → length (after_blocks f m) ≡ length m % f.block
  rest_length m = omega (arith, length-drop (length m / f.block * f.block) m, parts m)

  -- as many blocks in the rest with more, as the longer message has more
  count_goes_on : (m t : List ℕ) → length m / f.block + length (after_blocks f m ++ t) / f.block ≡ length (m ++ t) / f.block
  count_goes_on m t =
      let q : ℕ = length m / f.block in
      let x : ℕ = length (after_blocks f m ++ t) in
      let all : length (m ++ t) ≡ x + f.block * q =
      omega (arith, length-append m t, length-append (after_blocks f m) t, rest_length m, parts m, swapped q) in
      let div : (x + f.block * q) / f.block ≡ x / f.block + q = add-mul-div_left x q some in
      omega (arith, ap (λ (n : ℕ). n / f.block) all, div)

  pub blocks_go_on : (i m t : List ℕ) → whole_blocks f (whole_blocks f i m) (after_blocks f m ++ t) ≡ whole_blocks f i (m ++ t)
  blocks_go_on i m t = hash_goes_on f.compressed f.block i m t (length m / f.block) (length (after_blocks f m ++ t) / f.block) (fits m)
      ∙ ap (hash_after f.compressed f.block i (m ++ t)) (count_goes_on m t)

  pub rests_go_on : (m t : List ℕ) → after_blocks f (after_blocks f m ++ t) ≡ after_blocks f (m ++ t)
  rests_go_on m t = rest_goes_on f.block m t (length m / f.block) (length (after_blocks f m ++ t) / f.block) (fits m)
      ∙ ap (λ (n : ℕ). drop (n * f.block) (m ++ t)) (count_goes_on m t)

  filling_same : (m : List ℕ) → filling f.block (length (after_blocks f m)) ≡ filling f.block (length m)
  filling_same m =
      let less : length m % f.block < f.block = mod-lt (length m) some in
      let same : length (after_blocks f m) % f.block ≡ length m % f.block = ap (λ (n : ℕ). n % f.block) (rest_length m) ∙ mod-eq_of_lt less in
      ap (λ (n : ℕ). 0x80 ∷ replicate ((f.block + f.block - f.block / 8 - 1 - n) % f.block) 0) same

  -- the padding of the rest is that of the message
  pub closed_goes_on : (i m field : List ℕ) → closed f.compressed f.block (whole_blocks f i m) (after_blocks f m) field ≡ closed f.compressed f.block i m field
  closed_goes_on i m field =
      let fill : List ℕ = filling f.block (length m) in
      let h : List ℕ = whole_blocks f i m in
      let r : List ℕ = after_blocks f m in
      ap (λ (x : List ℕ). whole_blocks f h ((r ++ x) ++ field)) (filling_same m) ∙ ap (whole_blocks f h) (append_assoc r fill field)
      ∙ blocks_go_on i m (fill ++ field) ∙ ap (whole_blocks f i) (sym (append_assoc m fill field))
