-- Blocks of a mask.
use Rattle.std.proofs.Common.{◌≡◌, ◌≤◌, ◌<◌, ◌+◌, ◌-◌, ◌*◌, ◌/◌, ◌%◌, ◌++◌, [], ℕ, zero, suc, List, length, length-append, length-take-le, min, take, refl, sym, ap, ◌∙◌, inl, inr, arith}
use Rattle.std.proofs.Math.Nat.{div-add-mod', div-mul-le_self, mul-le-mul_right, suc-mul, zero-mul}
use Rattle.std.proofs.Math.Seq.{take-append-add}
use Rattle.std.proofs.lemmas.Bool.{cases_lt}
use Rattle.std.proofs.lemmas.List.{take_all, take_min}
use Rattle.std.specs.Int.{div_ceil, to_be_bytes, w32}
use Rattle.jc_digests.specs.Kept.{digest_size}
use Rattle.jc_digests.specs.declared.kept.HashAlgorithm.{HashAlgorithm}
use Rattle.jc_rsa.specs.Hashing.{digest_of}
use Rattle.jc_rsa.specs.Mgf1.{mask_blocks, mgf1}
use Rattle.jc_rsa.proofs.Digests.{digest_some, length-digest_of}

-- a block that is begun begins within the mask
pub start_below : (i n size : ℕ) → 1 ≤ size → i < div_ceil n size → i * size < n
start_below i n size some below =
    elim (cases_lt i (n / size)) as (λ _. i * size < n) [
      | inl low ↦
          let rows : suc i * size ≤ n / size * size = mul-le-mul_right size low in
          omega (arith, rows, suc-mul i size, div-mul-le_self n size, some)
      | inr up ↦
          let last : i ≤ n / size = omega (arith, below) in
          let rows : i * size ≤ n / size * size = mul-le-mul_right size last in
          let more : 1 ≤ n % size = omega (arith, below, up) in
          omega (arith, rows, more, div-add-mod' n size)
    ]

-- all blocks together are long enough
pub blocks_cover : (n size : ℕ) → 1 ≤ size → n ≤ div_ceil n size * size
blocks_cover n size some =
    let parts = div-add-mod' n size in
    elim (cases_lt 0 (n % size)) as (λ _. n ≤ div_ceil n size * size) [
      | inl more ↦
          let is : div_ceil n size ≡ suc (n / size) = omega (arith, more) in
          let rows = ap (λ (k : ℕ). k * size) is ∙ suc-mul (n / size) size in
          let rest : n % size < size = omega arith in
          omega (arith, rows, parts, rest)
      | inr none ↦
          let is : div_ceil n size ≡ n / size = omega (arith, none) in
          let rows = ap (λ (k : ℕ). k * size) is in
          omega (arith, rows, parts, none)
    ]

pub row_few : (i size : ℕ) → 1 ≤ size → i ≤ i * size
row_few zero size some = omega arith
row_few (suc i) size some = omega (arith, row_few i size some, suc-mul i size, some)

pub length-mask_blocks : (a : HashAlgorithm) (seed : List ℕ) (n : ℕ) → length (mask_blocks a seed n) ≡ n * digest_size a
unfolding mask_blocks
length-mask_blocks a seed zero = omega arith
length-mask_blocks a seed (suc n) =
    let block : List ℕ = digest_of a (seed ++ to_be_bytes w32 n) in
    let long = length-digest_of a (seed ++ to_be_bytes w32 n) in
    omega (arith, length-append (mask_blocks a seed n) block, length-mask_blocks a seed n, long, suc-mul n (digest_size a))

pub length-mgf1 : (a : HashAlgorithm) (seed : List ℕ) (n : ℕ) → length (mgf1 a seed n) ≡ n
unfolding mgf1
length-mgf1 a seed n =
    let count = div_ceil n (digest_size a) in
    length-take-le n (mask_blocks a seed count) (omega (arith, length-mask_blocks a seed count, blocks_cover n (digest_size a) (digest_some a)))

mask_blocks-suc : (a : HashAlgorithm) (seed : List ℕ) (i : ℕ) → mask_blocks a seed (suc i) ≡ mask_blocks a seed i ++ digest_of a (seed ++ to_be_bytes w32 i)
unfolding mask_blocks
mask_blocks-suc a seed i = refl

-- before the first block
pub none_yet : (a : HashAlgorithm) (seed to : List ℕ) (n : ℕ) → take (min (0 * digest_size a) n) to ≡ take n (mask_blocks a seed 0)
unfolding mask_blocks
none_yet a seed to n =
    let none : min (0 * digest_size a) n ≡ 0 = omega (arith, zero-mul (digest_size a)) in
    ap (λ (k : ℕ). take k to) none ∙ sym (take_all n [] (omega arith))

-- a block more
pub block_more : (a : HashAlgorithm) (seed to next : List ℕ) (i n : ℕ) → i * digest_size a < n
    → take (min (i * digest_size a) n) to ≡ take n (mask_blocks a seed i)
    → take (min (i * digest_size a + digest_size a) n) next
    ≡ take (i * digest_size a) to ++ take (n - i * digest_size a) (digest_of a (seed ++ to_be_bytes w32 i))
    → take (min ((i + 1) * digest_size a) n) next ≡ take n (mask_blocks a seed (i + 1))
block_more a seed to next i n below before step =
    let size = digest_size a in
    let start = i * size in
    let block : List ℕ = digest_of a (seed ++ to_be_bytes w32 i) in
    let blocks : List ℕ = mask_blocks a seed i in
    let long : length blocks ≡ start = length-mask_blocks a seed i in
    let next_row : suc i ≡ i + 1 = omega arith in
    let rows : (i + 1) * size ≡ start + size = ap (λ (k : ℕ). k * size) (sym next_row) ∙ suc-mul i size in
    let here : min start n ≡ start = omega (arith, below) in
    let so_far : take start to ≡ blocks = ap (λ (k : ℕ). take k to) (sym here) ∙ before ∙ take_all n blocks (omega (arith, long, below)) in
    let all : n ≡ length blocks + (n - start) = omega (arith, long, below) in
    ap (λ (k : ℕ). take (min k n) next) rows ∙ step ∙ ap (λ (xs : List ℕ). xs ++ take (n - start) block) so_far
    ∙ sym (ap (λ (k : ℕ). take k (blocks ++ block)) all ∙ take-append-add blocks block (n - start))
    ∙ ap (take n) (sym (mask_blocks-suc a seed i) ∙ ap (mask_blocks a seed) next_row)

-- as much of a block as there is room for
pub block_cut : (n k : ℕ) (block : List ℕ) → k ≡ min (length block) n → take k block ≡ take n block
block_cut n k block is =
    let turned : k ≡ min n (length block) = omega (arith, is) in
    ap (λ (c : ℕ). take c block) turned ∙ take_min n block

-- the whole mask
pub mask_whole : (a : HashAlgorithm) (seed to : List ℕ) (i n : ℕ) → i ≡ div_ceil n (digest_size a) → length to ≡ n
    → take (min (i * digest_size a) n) to ≡ take n (mask_blocks a seed i) → to ≡ mgf1 a seed n
unfolding mgf1
mask_whole a seed to i n all long is =
    let cover = blocks_cover n (digest_size a) (digest_some a) in
    let rows = ap (λ (k : ℕ). k * digest_size a) all in
    let whole : n ≡ min (i * digest_size a) n = omega (arith, cover, rows) in
    sym (take_all n to (omega (arith, long))) ∙ ap (λ (k : ℕ). take k to) whole ∙ is ∙ ap (λ (k : ℕ). take n (mask_blocks a seed k)) all
