-- Sealed blocks, and the salt in them.
use Rattle.std.proofs.Common.{◌≡◌, ◌≤◌, ◌+◌, ◌-◌, ◌/◌, ◌^◌, ◌∷◌, ◌++◌, [], ℕ, suc, List, append_assoc, bit_and, drop, length, length-append, length-take-le, replicate, set, slice_index, take, refl, sym, ap, ◌∙◌, arith}
use Rattle.std.proofs.lemmas.List.{drop_at, length-replicate, take_at}
use Rattle.jc_digests.specs.Kept.{digest_size}
use Rattle.jc_digests.specs.declared.kept.HashAlgorithm.{HashAlgorithm}
use Rattle.jc_rsa.specs.Bytes.{xor}
use Rattle.jc_rsa.specs.EmsaPss.{IsPss, cleared, pss, salt_block, salted_digest, sealed}
use Rattle.jc_rsa.specs.Mgf1.{mgf1}
use Rattle.jc_rsa.proofs.Digests.{length-digest_of}
use Rattle.jc_rsa.proofs.Xor.{drop-xor, length-xor, xor-twice}

length-cleared : (spare : ℕ) (xs : List ℕ) → length (cleared spare xs) ≡ length xs
unfolding cleared
length-cleared spare [] = refl
length-cleared spare (x ∷ xs) = refl

-- all bytes but the first stay
drop-cleared : (n spare : ℕ) (xs : List ℕ) → drop (suc n) (cleared spare xs) ≡ drop (suc n) xs
unfolding cleared
drop-cleared n spare [] = refl
drop-cleared n spare (x ∷ xs) = refl

salt_block-is : (salt : List ℕ) (n : ℕ) → salt_block salt n ≡ replicate (n - length salt - 1) 0 ++ 1 ∷ salt
unfolding salt_block
salt_block-is salt n = refl

length-salt_block : (salt : List ℕ) (n : ℕ) → length salt + 1 ≤ n → length (salt_block salt n) ≡ n
length-salt_block salt n fits =
    let k = n - length salt - 1 in
    ap length (salt_block-is salt n) ∙ omega (arith, length-append (replicate k 0) (1 ∷ salt), length-replicate {A = ℕ} k 0, fits)

-- the salt ends the block
salt_ends : (salt : List ℕ) (n : ℕ) → length salt + 1 ≤ n → drop (n - length salt) (salt_block salt n) ≡ salt
salt_ends salt n fits =
    let k = n - length salt - 1 in
    let front : List ℕ = replicate k 0 ++ 1 ∷ [] in
    let long : length front ≡ n - length salt = omega (arith, length-append {A = ℕ} (replicate k 0) (1 ∷ []), length-replicate {A = ℕ} k 0, fits) in
    ap (drop (n - length salt)) (salt_block-is salt n ∙ sym (append_assoc (replicate k 0) (1 ∷ []) salt)) ∙ drop_at front salt (n - length salt) long

sealed-is : (a : HashAlgorithm) (hash block : List ℕ) (spare : ℕ)
    → sealed a hash block spare ≡ (cleared spare (xor block (mgf1 a hash (length block))) ++ hash) ++ 0xbc ∷ []
unfolding sealed
sealed-is a hash block spare = refl

pss-is : (a : HashAlgorithm) (digest salt : List ℕ) (spare n : ℕ)
    → pss a digest salt spare n ≡ sealed a (salted_digest a digest salt) (salt_block salt (n - digest_size a - 1)) spare
unfolding pss
pss-is a digest salt spare n = refl

length-salted_digest : (a : HashAlgorithm) (digest salt : List ℕ) → length (salted_digest a digest salt) ≡ digest_size a
unfolding salted_digest
length-salted_digest a digest salt = length-digest_of a ((replicate 8 0 ++ digest) ++ salt)

-- H in an encoding, and the block without its mask
abbrev pub hash_in : HashAlgorithm → List ℕ → List ℕ
hash_in a em = take (digest_size a) (drop (length em - digest_size a - 1) em)

abbrev pub unmasked_in : HashAlgorithm → List ℕ → List ℕ
unmasked_in a em = xor (take (length em - digest_size a - 1) em) (mgf1 a (hash_in a em) (length em - digest_size a - 1))

-- the salt is found in an encoding
pub salt_found : (a : HashAlgorithm) (digest : List ℕ) (salt_size spare : ℕ) (em : List ℕ) (is : IsPss a digest salt_size spare em)
    → drop (length em - digest_size a - 1 - salt_size) (unmasked_in a em) ≡ is.salt
salt_found a digest salt_size spare em is =
    let salt : List ℕ = is.salt in
    let size = digest_size a in
    let n = length em - size - 1 in
    let hash : List ℕ = salted_digest a digest salt in
    let block : List ℕ = salt_block salt n in
    let fits : length salt + 1 ≤ n = omega (arith, is.fits, is.whole) in
    let block_long : length block ≡ n = length-salt_block salt n fits in
    let mask : List ℕ = mgf1 a hash n in
    let first : List ℕ = cleared spare (xor block mask) in
    let first_long : length first ≡ n = length-cleared spare (xor block mask) ∙ length-xor block mask ∙ block_long in
    let parts : em ≡ first ++ (hash ++ 0xbc ∷ []) =
    is.is ∙ pss-is a digest salt spare (length em) ∙ sealed-is a hash block spare
    ∙ ap (λ (k : ℕ). (cleared spare (xor block (mgf1 a hash k)) ++ hash) ++ 0xbc ∷ []) block_long ∙ append_assoc first hash (0xbc ∷ []) in
    let hash_is : hash_in a em ≡ hash =
    ap (λ (xs : List ℕ). take size (drop n xs)) parts ∙ ap (take size) (drop_at first (hash ++ 0xbc ∷ []) n first_long)
    ∙ take_at hash (0xbc ∷ []) size (length-salted_digest a digest salt) in
    let first_is : take n em ≡ first = ap (take n) parts ∙ take_at first (hash ++ 0xbc ∷ []) n first_long in
    let place = n - salt_size in
    let before = place - 1 in
    let next : place ≡ suc before = omega (arith, is.fits) in
    let rest : drop place first ≡ drop place (xor block mask) =
    ap (λ (k : ℕ). drop k first) next ∙ drop-cleared before spare (xor block mask) ∙ ap (λ (k : ℕ). drop k (xor block mask)) (sym next) in
    let at : place ≡ n - length salt = ap (λ (k : ℕ). n - k) (sym is.whole) in
    ap (drop place) (λ j. xor (first_is j) (mgf1 a (hash_is j) n)) ∙ drop-xor place first mask
    ∙ ap (λ (xs : List ℕ). xor xs (drop place mask)) (rest ∙ drop-xor place block mask) ∙ xor-twice (drop place block) (drop place mask)
    ∙ ap (λ (k : ℕ). drop k block) at ∙ salt_ends salt n fits

-- the first byte, masked in place
pub cleared-is : (spare : ℕ) (xs : List ℕ) → set xs 0 (bit_and (slice_index xs 0) (0xff / 2 ^ spare)) ≡ cleared spare xs
unfolding cleared
cleared-is spare [] = refl
cleared-is spare (x ∷ xs) = refl

-- what the code takes apart, without its mask
pub unmasked_is : (a : HashAlgorithm) (em copied hash block : List ℕ) (end : ℕ) → end ≡ length em - digest_size a - 1 → digest_size a + 1 ≤ length em
    → copied ≡ take end em → hash ≡ take (length em - 1 - end) (drop end em) → block ≡ xor copied (mgf1 a hash (length copied)) → block ≡ unmasked_in a em
unmasked_is a em copied hash block end is room front middle made =
    let size : length em - 1 - end ≡ digest_size a = omega (arith, is, room) in
    let copied_is : copied ≡ take (length em - digest_size a - 1) em = front ∙ ap (λ (n : ℕ). take n em) is in
    let long : length copied ≡ length em - digest_size a - 1 =
    ap length copied_is ∙ length-take-le (length em - digest_size a - 1) em (omega arith) in
    let hash_is : hash ≡ hash_in a em = middle ∙ (λ j. take (size j) (drop (is j) em)) in
    made ∙ (λ j. xor (copied_is j) (mgf1 a (hash_is j) (long j)))

pub length-unmasked_in : (a : HashAlgorithm) (em : List ℕ) → length (unmasked_in a em) ≡ length em - digest_size a - 1
length-unmasked_in a em =
    let n = length em - digest_size a - 1 in
    length-xor (take n em) (mgf1 a (hash_in a em) n) ∙ length-take-le n em (omega arith)
