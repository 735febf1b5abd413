-- Hash values that are read back from their bytes.
use Rattle.std.proofs.Common.{◌≡◌, ◌∙◌, ◌<◌, ◌%◌, ◌^◌, ℕ, zero, suc, List, [], ◌∷◌, ◌++◌, length, slice_index, refl, arith}
use Rattle.std.proofs.lemmas.Nat.{from_be_bytes-to_be_bytes_4, from_be_bytes-to_be_bytes_8, from_le_bytes-to_le_bytes_4}
use Rattle.md5.specs.Md5 as M5
use Rattle.sha1.specs.Sha1 as S1
use Rattle.sha2.specs.Sha256 as S256
use Rattle.sha2.specs.Sha512 as S512
use Rattle.jc_digests.specs.Kept.{HashForm, md_5, sha_1, sha_256, sha_512}
use Rattle.jc_digests.specs.Pieces.{bytes_of_words, hash_after}

-- four, five and eight words below a limit
pub record AreFour (limit : ℕ) (h : List ℕ) : Type 0 where
  pub all : slice_index h 0 ∷ slice_index h 1 ∷ slice_index h 2 ∷ slice_index h 3 ∷ [] ≡ h
  pub a : slice_index h 0 < limit
  pub b : slice_index h 1 < limit
  pub c : slice_index h 2 < limit
  pub d : slice_index h 3 < limit

pub record AreFive (limit : ℕ) (h : List ℕ) : Type 0 where
  pub all : slice_index h 0 ∷ slice_index h 1 ∷ slice_index h 2 ∷ slice_index h 3 ∷ slice_index h 4 ∷ [] ≡ h
  pub a : slice_index h 0 < limit
  pub b : slice_index h 1 < limit
  pub c : slice_index h 2 < limit
  pub d : slice_index h 3 < limit
  pub e : slice_index h 4 < limit

pub record AreEight (limit : ℕ) (h : List ℕ) : Type 0 where
  pub all : slice_index h 0 ∷ slice_index h 1 ∷ slice_index h 2 ∷ slice_index h 3 ∷ slice_index h 4 ∷ slice_index h 5 ∷ slice_index h 6
      ∷ slice_index h 7 ∷ [] ≡ h
  pub a : slice_index h 0 < limit
  pub b : slice_index h 1 < limit
  pub c : slice_index h 2 < limit
  pub d : slice_index h 3 < limit
  pub e : slice_index h 4 < limit
  pub f : slice_index h 5 < limit
  pub g : slice_index h 6 < limit
  pub i : slice_index h 7 < limit

-- what a hash function has to have so that its states are read back
pub record IsReadBack (f : HashForm) (W : List ℕ → Type 0) : Type 0 where
  pub some : 0 < f.block
  pub long : (h : List ℕ) → length (f.bytes h) ≡ f.width
  pub value : (h rest : List ℕ) → W h → f.value (f.bytes h ++ rest) ≡ h
  pub stays : (h block : List ℕ) → W (f.compressed h block)

-- after any blocks
pub words_after : (f : HashForm) (W : List ℕ → Type 0) → IsReadBack f W → (i m : List ℕ) (n : ℕ) → W i → W (hash_after f.compressed f.block i m n)
unfolding hash_after
words_after f W is i m zero first = first
words_after f W is i m (suc n) first = is.stays _ _

below : (x limit : ℕ) → 0 < limit → x % limit < limit
below x limit some = omega arith

-- ---- MD5

md_5_value : (h rest : List ℕ) → AreFour (2 ^ 32) h → md_5.value (md_5.bytes h ++ rest) ≡ h
unfolding bytes_of_words
md_5_value h rest w = (λ j.
    from_le_bytes-to_le_bytes_4 (slice_index h 0) w.a j ∷ from_le_bytes-to_le_bytes_4 (slice_index h 1) w.b j
    ∷ from_le_bytes-to_le_bytes_4 (slice_index h 2) w.c j ∷ from_le_bytes-to_le_bytes_4 (slice_index h 3) w.d j ∷ []) ∙ w.all

md_5_stays : (h block : List ℕ) → AreFour (2 ^ 32) (M5.compress h block)
unfolding M5.compress
md_5_stays h block = record { all = refl; a = omega arith; b = omega arith; c = omega arith; d = omega arith }

md_5_long : (h : List ℕ) → length (md_5.bytes h) ≡ 16
unfolding bytes_of_words
md_5_long h = refl

pub md_5_back : IsReadBack md_5 (AreFour (2 ^ 32))
md_5_back = record { some = omega arith; long = md_5_long; value = md_5_value; stays = md_5_stays }

-- ---- SHA-1

sha_1_value : (h rest : List ℕ) → AreFive (2 ^ 32) h → sha_1.value (sha_1.bytes h ++ rest) ≡ h
unfolding bytes_of_words
sha_1_value h rest w = (λ j.
    from_be_bytes-to_be_bytes_4 (slice_index h 0) w.a j ∷ from_be_bytes-to_be_bytes_4 (slice_index h 1) w.b j
    ∷ from_be_bytes-to_be_bytes_4 (slice_index h 2) w.c j ∷ from_be_bytes-to_be_bytes_4 (slice_index h 3) w.d j
    ∷ from_be_bytes-to_be_bytes_4 (slice_index h 4) w.e j ∷ []) ∙ w.all

sha_1_stays : (h block : List ℕ) → AreFive (2 ^ 32) (S1.compress h block)
unfolding S1.compress
sha_1_stays h block = record { all = refl; a = omega arith; b = omega arith; c = omega arith; d = omega arith; e = omega arith }

sha_1_long : (h : List ℕ) → length (sha_1.bytes h) ≡ 20
unfolding bytes_of_words
sha_1_long h = refl

pub sha_1_back : IsReadBack sha_1 (AreFive (2 ^ 32))
sha_1_back = record { some = omega arith; long = sha_1_long; value = sha_1_value; stays = sha_1_stays }

-- ---- SHA-224 and SHA-256

sha_256_value : (h rest : List ℕ) → AreEight (2 ^ 32) h → sha_256.value (sha_256.bytes h ++ rest) ≡ h
unfolding bytes_of_words
sha_256_value h rest w = (λ j.
    from_be_bytes-to_be_bytes_4 (slice_index h 0) w.a j ∷ from_be_bytes-to_be_bytes_4 (slice_index h 1) w.b j
    ∷ from_be_bytes-to_be_bytes_4 (slice_index h 2) w.c j ∷ from_be_bytes-to_be_bytes_4 (slice_index h 3) w.d j
    ∷ from_be_bytes-to_be_bytes_4 (slice_index h 4) w.e j ∷ from_be_bytes-to_be_bytes_4 (slice_index h 5) w.f j
    ∷ from_be_bytes-to_be_bytes_4 (slice_index h 6) w.g j ∷ from_be_bytes-to_be_bytes_4 (slice_index h 7) w.i j ∷ []) ∙ w.all

sha_256_stays : (h block : List ℕ) → AreEight (2 ^ 32) (S256.compress h block)
unfolding S256.compress
sha_256_stays h block = record {
  all = refl;
  a = omega arith;
  b = omega arith;
  c = omega arith;
  d = omega arith;
  e = omega arith;
  f = omega arith;
  g = omega arith;
  i = omega arith;
}

sha_256_long : (h : List ℕ) → length (sha_256.bytes h) ≡ 32
unfolding bytes_of_words
sha_256_long h = refl

pub sha_256_back : IsReadBack sha_256 (AreEight (2 ^ 32))
sha_256_back = record { some = omega arith; long = sha_256_long; value = sha_256_value; stays = sha_256_stays }

-- ---- SHA-384 and SHA-512

sha_512_value : (h rest : List ℕ) → AreEight (2 ^ 64) h → sha_512.value (sha_512.bytes h ++ rest) ≡ h
unfolding bytes_of_words
sha_512_value h rest w = (λ j.
    from_be_bytes-to_be_bytes_8 (slice_index h 0) w.a j ∷ from_be_bytes-to_be_bytes_8 (slice_index h 1) w.b j
    ∷ from_be_bytes-to_be_bytes_8 (slice_index h 2) w.c j ∷ from_be_bytes-to_be_bytes_8 (slice_index h 3) w.d j
    ∷ from_be_bytes-to_be_bytes_8 (slice_index h 4) w.e j ∷ from_be_bytes-to_be_bytes_8 (slice_index h 5) w.f j
    ∷ from_be_bytes-to_be_bytes_8 (slice_index h 6) w.g j ∷ from_be_bytes-to_be_bytes_8 (slice_index h 7) w.i j ∷ []) ∙ w.all

sha_512_stays : (h block : List ℕ) → AreEight (2 ^ 64) (S512.compress h block)
unfolding S512.compress
sha_512_stays h block = record {
  all = refl;
  a = omega arith;
  b = omega arith;
  c = omega arith;
  d = omega arith;
  e = omega arith;
  f = omega arith;
  g = omega arith;
  i = omega arith;
}

sha_512_long : (h : List ℕ) → length (sha_512.bytes h) ≡ 64
unfolding bytes_of_words
sha_512_long h = refl

pub sha_512_back : IsReadBack sha_512 (AreEight (2 ^ 64))
sha_512_back = record { some = omega arith; long = sha_512_long; value = sha_512_value; stays = sha_512_stays }

-- ---- the initial hash values

pub first_md5 : AreFour (2 ^ 32) M5.initial_hash
first_md5 = record { all = refl; a = omega arith; b = omega arith; c = omega arith; d = omega arith }

pub first_sha1 : AreFive (2 ^ 32) S1.initial_hash
first_sha1 = record { all = refl; a = omega arith; b = omega arith; c = omega arith; d = omega arith; e = omega arith }

pub first_sha224 : AreEight (2 ^ 32) S256.initial_hash_224
first_sha224 = record {
  all = refl;
  a = omega arith;
  b = omega arith;
  c = omega arith;
  d = omega arith;
  e = omega arith;
  f = omega arith;
  g = omega arith;
  i = omega arith;
}

pub first_sha256 : AreEight (2 ^ 32) S256.initial_hash_256
first_sha256 = record {
  all = refl;
  a = omega arith;
  b = omega arith;
  c = omega arith;
  d = omega arith;
  e = omega arith;
  f = omega arith;
  g = omega arith;
  i = omega arith;
}

pub first_sha384 : AreEight (2 ^ 64) S512.initial_hash_384
first_sha384 = record {
  all = refl;
  a = omega arith;
  b = omega arith;
  c = omega arith;
  d = omega arith;
  e = omega arith;
  f = omega arith;
  g = omega arith;
  i = omega arith;
}

pub first_sha512 : AreEight (2 ^ 64) S512.initial_hash_512
first_sha512 = record {
  all = refl;
  a = omega arith;
  b = omega arith;
  c = omega arith;
  d = omega arith;
  e = omega arith;
  f = omega arith;
  g = omega arith;
  i = omega arith;
}
