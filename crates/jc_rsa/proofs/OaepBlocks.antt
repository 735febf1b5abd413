-- Masked blocks, and the data blocks in them.
use Rattle.std.proofs.Common.{◌≡◌, ◌≢◌, ◌≤◌, ◌+◌, ◌-◌, ◌*◌, ◌∷◌, ◌++◌, [], ℕ, List, append_assoc, drop, length, length-append, length-drop, length-take-le, replicate, slice_index, take, refl, sym, ap, subst, ◌∙◌, arith}
use Rattle.std.proofs.lemmas.List.{append-nil, drop-drop, drop_all, drop_at, drop_more, length-replicate, take-append-drop, take_at, take_rest}
use borrow.Rule.Slice.PartMut.{put_mid}
use Rattle.jc_digests.specs.Kept.{digest_size}
use Rattle.jc_digests.specs.declared.kept.HashAlgorithm.{HashAlgorithm}
use Rattle.jc_rsa.specs.Bytes.{HasNone, IsFirst, IsOther, xor}
use Rattle.jc_rsa.specs.EmeOaep.{IsDataBlock, IsOaep, data_block, masked, oaep}
use Rattle.jc_rsa.specs.Hashing.{digest_of}
use Rattle.jc_rsa.specs.Mgf1.{mgf1}
use Rattle.jc_rsa.proofs.Blocks.{filler_end, one_first}
use Rattle.jc_rsa.proofs.Digests.{length-digest_of}
use Rattle.jc_rsa.proofs.Xor.{length-xor, xor-twice}

-- ---- data blocks

-- how many zeros stand in the block
abbrev zeros : HashAlgorithm → List ℕ → ℕ → ℕ
zeros a m n = n - length m - digest_size a - 1

data_block-is : (a : HashAlgorithm) (m : List ℕ) (n : ℕ) → data_block a m n ≡ (digest_of a [] ++ replicate (zeros a m n) 0) ++ 1 ∷ m
unfolding data_block
data_block-is a m n = refl

abbrev one : ℕ
one = 1

one_not_zero : one ≢ 0
one_not_zero = λ is. omega (arith, is)

-- the zeros end before the message
pub data_end : (a : HashAlgorithm) (m block : List ℕ) → IsDataBlock a m block → IsFirst (IsOther 0) (digest_size a) block (length block - length m - 1)
data_end a m block is =
    let label : List ℕ = digest_of a [] in
    let k = zeros a m (length block) in
    let parts : List ℕ = (label ++ replicate k 0) ++ 1 ∷ m in
    let same : block ≡ parts = is.is ∙ data_block-is a m (length block) in
    let long = length-digest_of a [] in
    let at : length label + k ≡ length block - length m - 1 = omega (arith, long, is.fits) in
    let P : List ℕ → Type 0 = λ xs. IsFirst (IsOther 0) (digest_size a) xs (length block - length m - 1) in
    let Q : ℕ → Type 0 = λ start. IsFirst (IsOther 0) start parts (length block - length m - 1) in
    let R : ℕ → Type 0 = λ place. IsFirst (IsOther 0) (length label) parts place in
    subst P (sym same) (subst Q long (subst R at (filler_end label k 0 1 m one_not_zero)))

-- and the message follows
pub data_rest : (a : HashAlgorithm) (m block : List ℕ) (place : ℕ) → IsDataBlock a m block → IsFirst (IsOther 0) (digest_size a) block place
    → drop (place + 1) block ≡ m
data_rest a m block place is first =
    let label : List ℕ = digest_of a [] in
    let k = zeros a m (length block) in
    let front : List ℕ = (label ++ replicate k 0) ++ 1 ∷ [] in
    let at = one_first (IsOther 0) (digest_size a) block place (length block - length m - 1) first (data_end a m block is) in
    let same : block ≡ front ++ m = is.is ∙ data_block-is a m (length block) ∙ sym (append_assoc (label ++ replicate k 0) (1 ∷ []) m) in
    let long : length front ≡ place + 1 =
    omega (
      arith,
      length-append (label ++ replicate k 0) (1 ∷ []),
      length-append label (replicate k 0),
      length-replicate {A = ℕ} k 0,
      length-digest_of a [],
      at,
      is.fits,
    ) in
    ap (drop (place + 1)) same ∙ drop_at front m (place + 1) long

pub data_has_end : (a : HashAlgorithm) (m block : List ℕ) → IsDataBlock a m block → HasNone (IsOther 0) (digest_size a) block → ⊥
data_has_end a m block is none =
    let end = data_end a m block is in
    none (length block - length m - 1) end.low end.within end.here

-- ---- masks

masked-is : (a : HashAlgorithm) (seed block : List ℕ)
    → masked a seed block ≡ 0 ∷ xor seed (mgf1 a (xor block (mgf1 a seed (length block))) (length seed)) ++ xor block (mgf1 a seed (length block))
unfolding masked
masked-is a seed block = refl

-- the seed and the block of an encoding, without their masks
abbrev pub seed_in : HashAlgorithm → List ℕ → List ℕ
seed_in a em = xor (take (digest_size a) (drop 1 em)) (mgf1 a (drop (digest_size a + 1) em) (digest_size a))

abbrev pub block_in : HashAlgorithm → List ℕ → List ℕ
block_in a em = xor (drop (digest_size a + 1) em) (mgf1 a (seed_in a em) (length em - (digest_size a + 1)))

pub length-block_in : (a : HashAlgorithm) (em : List ℕ) → length (block_in a em) ≡ length em - (digest_size a + 1)
length-block_in a em =
    length-xor (drop (digest_size a + 1) em) (mgf1 a (seed_in a em) (length em - (digest_size a + 1))) ∙ length-drop (digest_size a + 1) em

pub length-seed_in : (a : HashAlgorithm) (em : List ℕ) → digest_size a + 1 ≤ length em → length (seed_in a em) ≡ digest_size a
length-seed_in a em long =
    length-xor (take (digest_size a) (drop 1 em)) (mgf1 a (drop (digest_size a + 1) em) (digest_size a))
    ∙ length-take-le (digest_size a) (drop 1 em) (omega (arith, long, length-drop 1 em))

-- with the masks again it is the encoding
pub masked_again : (a : HashAlgorithm) (em : List ℕ) → digest_size a + 1 ≤ length em → slice_index em 0 ≡ 0 → em ≡ masked a (seed_in a em) (block_in a em)
masked_again a em long zero =
    let size = digest_size a in
    let masked_seed : List ℕ = take size (drop 1 em) in
    let masked_block : List ℕ = drop (size + 1) em in
    let seed : List ℕ = seed_in a em in
    let block : List ℕ = block_in a em in
    let at : 1 + size ≡ size + 1 = omega arith in
    let parts : em ≡ 0 ∷ masked_seed ++ masked_block =
    drop_more em 0 0 (omega (arith, long)) ∙ (λ j. zero j ∷ sym (take-append-drop size (drop 1 em)) j)
    ∙ ap (λ (xs : List ℕ). 0 ∷ masked_seed ++ xs) (drop-drop size 1 em ∙ ap (λ (n : ℕ). drop n em) at) in
    let back : xor block (mgf1 a seed (length block)) ≡ masked_block =
    ap (λ (n : ℕ). xor block (mgf1 a seed n)) (length-block_in a em) ∙ xor-twice masked_block (mgf1 a seed (length em - (size + 1))) in
    let seed_back : xor seed (mgf1 a (xor block (mgf1 a seed (length block))) (length seed)) ≡ masked_seed =
    (λ j. xor seed (mgf1 a (back j) (length-seed_in a em long j))) ∙ xor-twice masked_seed (mgf1 a masked_block size) in
    parts ∙ sym ((λ j. 0 ∷ seed_back j ++ back j)) ∙ sym (masked-is a seed block)

-- where an encoding is made of a seed and a block, they are found in it
pub record IsFound (a : HashAlgorithm) (seed block em : List ℕ) : Type 0 where
  pub zero : slice_index em 0 ≡ 0
  pub seed_is : seed_in a em ≡ seed
  pub block_is : block_in a em ≡ block

pub found : (a : HashAlgorithm) (seed block em : List ℕ) → em ≡ masked a seed block → length seed ≡ digest_size a → IsFound a seed block em
found a seed block em is whole =
    let size = digest_size a in
    let masked_block : List ℕ = xor block (mgf1 a seed (length block)) in
    let masked_seed : List ℕ = xor seed (mgf1 a masked_block (length seed)) in
    let parts : em ≡ 0 ∷ masked_seed ++ masked_block = is ∙ masked-is a seed block in
    let seed_long : length masked_seed ≡ size = length-xor seed (mgf1 a masked_block (length seed)) ∙ whole in
    let front_long : length (0 ∷ masked_seed) ≡ size + 1 = omega (arith, seed_long) in
    let block_long : length masked_block ≡ length block = length-xor block (mgf1 a seed (length block)) in
    let first : take size (drop 1 em) ≡ masked_seed = ap (λ (xs : List ℕ). take size (drop 1 xs)) parts ∙ take_at masked_seed masked_block size seed_long in
    let rest : drop (size + 1) em ≡ masked_block = ap (drop (size + 1)) parts ∙ drop_at (0 ∷ masked_seed) masked_block (size + 1) front_long in
    let seed_is : seed_in a em ≡ seed =
    (λ j. xor (first j) (mgf1 a (rest j) size)) ∙ ap (λ (n : ℕ). xor masked_seed (mgf1 a masked_block n)) (sym whole)
    ∙ xor-twice seed (mgf1 a masked_block (length seed)) in
    let long : length em - (size + 1) ≡ length block =
    omega (arith, ap length parts, length-append (0 ∷ masked_seed) masked_block, front_long, block_long) in
    record {
      zero = ap (λ (xs : List ℕ). slice_index xs 0) parts;
      seed_is = seed_is;
      block_is = (λ j. xor (rest j) (mgf1 a (seed_is j) (long j))) ∙ xor-twice block (mgf1 a seed (length block));
    }

pub oaep-is : (a : HashAlgorithm) (seed m : List ℕ) (k : ℕ) → oaep a seed m k ≡ masked a seed (data_block a m (k - digest_size a - 1))
unfolding oaep
oaep-is a seed m k = refl

pub length-data_block : (a : HashAlgorithm) (m : List ℕ) (n : ℕ) → length m + digest_size a + 1 ≤ n → length (data_block a m n) ≡ n
length-data_block a m n fits =
    let label : List ℕ = digest_of a [] in
    let k = zeros a m n in
    ap length (data_block-is a m n)
    ∙ omega (
      arith,
      length-append (label ++ replicate k 0) (1 ∷ m),
      length-append label (replicate k 0),
      length-replicate {A = ℕ} k 0,
      length-digest_of a [],
      fits,
    )

-- an encoding of a message has its data block
pub oaep_has : (a : HashAlgorithm) (m em : List ℕ) → IsOaep a m em → IsDataBlock a m (block_in a em)
oaep_has a m em is =
    let size = digest_size a in
    let n = length em - size - 1 in
    let block : List ℕ = data_block a m n in
    let fits : length m + size + 1 ≤ n = omega (arith, is.fits) in
    let at = found a is.seed block em (is.is ∙ oaep-is a is.seed m (length em)) is.whole in
    let long : n ≡ length (block_in a em) = omega (arith, length-block_in a em) in
    record {
      fits = omega (arith, fits, long);
      is = at.block_is ∙ ap (data_block a m) long;
    }

pub oaep_zero : (a : HashAlgorithm) (m em : List ℕ) → IsOaep a m em → slice_index em 0 ≡ 0
oaep_zero a m em is =
    let at = found a is.seed (data_block a m (length em - digest_size a - 1)) em (is.is ∙ oaep-is a is.seed m (length em)) is.whole in
    at.zero

-- what has the data block of a message is an encoding of it
pub oaep_of : (a : HashAlgorithm) (m em : List ℕ) → 2 * digest_size a + 2 ≤ length em → slice_index em 0 ≡ 0 → IsDataBlock a m (block_in a em) → IsOaep a m em
oaep_of a m em long zero is =
    let size = digest_size a in
    let room : size + 1 ≤ length em = omega (arith, long) in
    let block_long : length (block_in a em) ≡ length em - size - 1 = omega (arith, length-block_in a em) in
    record {
      seed = seed_in a em;
      whole = length-seed_in a em room;
      fits = omega (arith, is.fits, block_long, long);
      is =
          masked_again a em room zero ∙ ap (masked a (seed_in a em)) (is.is ∙ ap (data_block a m) block_long)
          ∙ sym (oaep-is a (seed_in a em) m (length em));
    }

pub length-masked : (a : HashAlgorithm) (seed block : List ℕ) → length (masked a seed block) ≡ length seed + length block + 1
length-masked a seed block =
    let masked_block : List ℕ = xor block (mgf1 a seed (length block)) in
    let masked_seed : List ℕ = xor seed (mgf1 a masked_block (length seed)) in
    ap length (masked-is a seed block)
    ∙ omega (
      arith,
      length-append (0 ∷ masked_seed) masked_block,
      length-xor seed (mgf1 a masked_block (length seed)),
      length-xor block (mgf1 a seed (length block)),
    )

-- what the code takes apart, without its masks
pub unmasked : (a : HashAlgorithm) (em copied middle seed block : List ℕ) (size : ℕ) → size ≡ digest_size a → size + 1 ≤ length em
    → copied ≡ take (size + 1 - 1) (drop 1 em) → middle ≡ take (length em - (size + 1)) (drop (size + 1) em)
    → seed ≡ xor copied (mgf1 a middle (length copied)) → block ≡ xor middle (mgf1 a seed (length middle)) → block ≡ block_in a em
unmasked a em copied middle seed block size is room front rest seed_made block_made =
    let at : size + 1 - 1 ≡ digest_size a = omega (arith, is) in
    let copied_is : copied ≡ take (digest_size a) (drop 1 em) = front ∙ ap (λ (n : ℕ). take n (drop 1 em)) at in
    let middle_is : middle ≡ drop (digest_size a + 1) em = rest ∙ take_rest em (size + 1) ∙ ap (λ (n : ℕ). drop (n + 1) em) is in
    let copied_long : length copied ≡ digest_size a =
    ap length copied_is ∙ length-take-le (digest_size a) (drop 1 em) (omega (arith, length-drop 1 em, room, is)) in
    let middle_long : length middle ≡ length em - (digest_size a + 1) = ap length middle_is ∙ length-drop (digest_size a + 1) em in
    let seed_is : seed ≡ seed_in a em = seed_made ∙ (λ j. xor (copied_is j) (mgf1 a (middle_is j) (copied_long j))) in
    block_made ∙ (λ j. xor (middle_is j) (mgf1 a (seed_is j) (middle_long j)))

-- what follows a place within the part from another place on
pub rest_of_part : (at start : ℕ) (xs ys : List ℕ) → at ≤ length xs → drop (at + start) (put_mid at (length xs - at) xs ys) ≡ drop start ys
rest_of_part at start xs ys within =
    let front : List ℕ = take at xs in
    let end : List ℕ = drop (length xs - at) (drop at xs) in
    let none : end ≡ [] = drop_all (length xs - at) (drop at xs) (omega (arith, length-drop at xs)) in
    sym (drop-drop start at (front ++ (ys ++ end)))
    ∙ ap (drop start) (drop_at front (ys ++ end) at (length-take-le at xs within) ∙ ap (λ (zs : List ℕ). ys ++ zs) none ∙ append-nil ys)
