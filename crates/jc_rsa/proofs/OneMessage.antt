-- An encoding is of one message.
use Rattle.std.proofs.Common.{◌≡◌, ◌≤◌, ◌+◌, ◌-◌, ◌∷◌, ◌++◌, ℕ, List, length, length-drop, length-take-le, drop, take, replicate, slice_index, sym, ap, subst, ◌∙◌, arith}
use Rattle.std.proofs.lemmas.List.{get_or-replicate, length-replicate}
use Rattle.jc_rsa.specs.Bytes.{IsFirst, IsZero}
use Rattle.jc_rsa.specs.EmePkcs1.{AreNonzero, IsEncryptionBlock, encryption_block}
use Rattle.jc_rsa.specs.EmsaPkcs1.{IsSignatureBlock, signature_block}
use Rattle.jc_rsa.proofs.Blocks.{block_end, block_rest, long_block, one_first, padding_of, parts_of}

-- a padding of bytes FF has no zero
pub ones-nonzero : (n : ℕ) → AreNonzero (replicate n 0xff)
ones-nonzero n = λ i below is.
    let here = get_or-replicate {A = ℕ} n i 0xff 0 (omega (arith, below, length-replicate {A = ℕ} n 0xff)) in
    omega (arith, here, is)

pub encryption_block-parts : (m em : List ℕ) (e : IsEncryptionBlock m em) → em ≡ 0 ∷ 2 ∷ e.padding ++ 0 ∷ m
unfolding encryption_block
encryption_block-parts m em e = e.is

pub signature_block-parts : (m em : List ℕ) → IsSignatureBlock m em → em ≡ 0 ∷ 1 ∷ replicate (length em - length m - 3) 0xff ++ 0 ∷ m
unfolding signature_block
signature_block-parts m em e = e.is

same_rest : (b c : ℕ) (ps qs m n em : List ℕ) → AreNonzero ps → AreNonzero qs → em ≡ 0 ∷ b ∷ ps ++ 0 ∷ m → em ≡ 0 ∷ c ∷ qs ++ 0 ∷ n → m ≡ n
same_rest b c ps qs m n em nonzero none is also =
    let P : List ℕ → Type 0 = λ xs. IsFirst IsZero 2 xs (length ps + 2) in
    let first = subst P (sym is) (block_end b ps m nonzero) in
    sym (block_rest b ps m em (length ps + 2) nonzero is first) ∙ block_rest c qs n em (length ps + 2) none also first

pub encryption_one : (m n em : List ℕ) → IsEncryptionBlock m em → IsEncryptionBlock n em → m ≡ n
encryption_one m n em e f =
    same_rest 2 2 e.padding f.padding m n em e.nonzero f.nonzero (encryption_block-parts m em e) (encryption_block-parts n em f)

pub signature_one : (m n em : List ℕ) → IsSignatureBlock m em → IsSignatureBlock n em → m ≡ n
signature_one m n em e f =
    same_rest 1 1 (replicate (length em - length m - 3) 0xff) (replicate (length em - length n - 3) 0xff) m n em
    (ones-nonzero (length em - length m - 3)) (ones-nonzero (length em - length n - 3)) (signature_block-parts m em e) (signature_block-parts n em f)

-- what an encryption block begins with, and where its padding ends
pub record BeginsBlock (em : List ℕ) : Type 0 where
  pub long : 11 ≤ length em
  pub zero : slice_index em 0 ≡ 0
  pub two : slice_index em 1 ≡ 2

pub begins : (m em : List ℕ) → IsEncryptionBlock m em → BeginsBlock em
begins m em e =
    let parts = encryption_block-parts m em e in
    record {
      long = omega (arith, long_block 2 e.padding m em parts, e.long);
      zero = ap (λ (xs : List ℕ). slice_index xs 0) parts;
      two = ap (λ (xs : List ℕ). slice_index xs 1) parts;
    }

pub padding_long : (m em : List ℕ) (place : ℕ) → IsEncryptionBlock m em → IsFirst IsZero 2 em place → 10 ≤ place
padding_long m em place e first =
    let parts = encryption_block-parts m em e in
    let P : List ℕ → Type 0 = λ xs. IsFirst IsZero 2 xs place in
    let at = one_first IsZero 2 (0 ∷ 2 ∷ e.padding ++ 0 ∷ m) place (length e.padding + 2) (subst P parts first) (block_end 2 e.padding m e.nonzero) in
    omega (arith, at, e.long)

pub encryption_block_of : (em : List ℕ) (place : ℕ) → IsFirst IsZero 2 em place → slice_index em 0 ≡ 0 → slice_index em 1 ≡ 2 → 10 ≤ place
    → IsEncryptionBlock (drop (place + 1) em) em
unfolding encryption_block
encryption_block_of em place first zero two many =
    let ps : List ℕ = take (place - 2) (drop 2 em) in
    let m : List ℕ = drop (place + 1) em in
    let within = first.within in
    record {
      padding = ps;
      long = omega (arith, length-take-le (place - 2) (drop 2 em) (omega (arith, length-drop 2 em, within)), many);
      nonzero = padding_of em place first;
      is = parts_of em place first ∙ (λ j. zero j ∷ two j ∷ ps ++ 0 ∷ m);
    }
