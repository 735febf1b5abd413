-- How many bytes digests have.
use Rattle.std.proofs.Common.{◌≡◌, ◌≤◌, ◌*◌, ℕ, zero, suc, List, length, length-append, length-take-le, slice_index, take, refl, arith}
use Rattle.std.specs.Int.{to_be_bytes, to_le_bytes, w32, w64}
use Rattle.md5.specs.Md5 as M5
use Rattle.sha1.specs.Sha1 as S1
use Rattle.sha2.specs.Sha256 as S256
use Rattle.sha2.specs.Sha512 as S512
use Rattle.jc_digests.specs.Kept.{digest_size}
use Rattle.jc_digests.specs.declared.kept.HashAlgorithm.{HashAlgorithm}
use Rattle.jc_digests.specs.declared.kept.HashAlgorithm.TheVariants.{Md5, Sha1, Sha224, Sha256, Sha384, Sha512}
use Rattle.jc_rsa.specs.Hashing.{digest_of}

bytes_128 : (h : List ℕ) (n : ℕ) → length (M5.digest_bytes h n) ≡ n * 4
unfolding M5.digest_bytes
bytes_128 h zero = refl
bytes_128 h (suc n) =
    let last : length (to_le_bytes w32 (slice_index h n)) ≡ 4 = refl in
    omega (arith, bytes_128 h n, last, length-append (M5.digest_bytes h n) (to_le_bytes w32 (slice_index h n)))

bytes_160 : (h : List ℕ) (n : ℕ) → length (S1.digest_bytes h n) ≡ n * 4
unfolding S1.digest_bytes
bytes_160 h zero = refl
bytes_160 h (suc n) =
    let last : length (to_be_bytes w32 (slice_index h n)) ≡ 4 = refl in
    omega (arith, bytes_160 h n, last, length-append (S1.digest_bytes h n) (to_be_bytes w32 (slice_index h n)))

bytes_256 : (h : List ℕ) (n : ℕ) → length (S256.digest_bytes h n) ≡ n * 4
unfolding S256.digest_bytes
bytes_256 h zero = refl
bytes_256 h (suc n) =
    let last : length (to_be_bytes w32 (slice_index h n)) ≡ 4 = refl in
    omega (arith, bytes_256 h n, last, length-append (S256.digest_bytes h n) (to_be_bytes w32 (slice_index h n)))

bytes_512 : (h : List ℕ) (n : ℕ) → length (S512.digest_bytes h n) ≡ n * 8
unfolding S512.digest_bytes
bytes_512 h zero = refl
bytes_512 h (suc n) =
    let last : length (to_be_bytes w64 (slice_index h n)) ≡ 8 = refl in
    omega (arith, bytes_512 h n, last, length-append (S512.digest_bytes h n) (to_be_bytes w64 (slice_index h n)))

taken_224 : (h : List ℕ) → length (take 28 (S256.digest_bytes h 8)) ≡ 28
taken_224 h = length-take-le 28 (S256.digest_bytes h 8) (omega (arith, bytes_256 h 8))

taken_384 : (h : List ℕ) → length (take 48 (S512.digest_bytes h 8)) ≡ 48
taken_384 h = length-take-le 48 (S512.digest_bytes h 8) (omega (arith, bytes_512 h 8))

length-md5 : (m : List ℕ) → length (M5.md5 m) ≡ 16
unfolding M5.md5
length-md5 m = bytes_128 _ 4

length-sha1 : (m : List ℕ) → length (S1.sha1 m) ≡ 20
unfolding S1.sha1
length-sha1 m = bytes_160 _ 5

length-sha224 : (m : List ℕ) → length (S256.sha224 m) ≡ 28
unfolding S256.sha224
length-sha224 m = taken_224 _

length-sha256 : (m : List ℕ) → length (S256.sha256 m) ≡ 32
unfolding S256.sha256
length-sha256 m = bytes_256 _ 8

length-sha384 : (m : List ℕ) → length (S512.sha384 m) ≡ 48
unfolding S512.sha384
length-sha384 m = taken_384 _

length-sha512 : (m : List ℕ) → length (S512.sha512 m) ≡ 64
unfolding S512.sha512
length-sha512 m = bytes_512 _ 8

pub length-digest_of : (a : HashAlgorithm) (m : List ℕ) → length (digest_of a m) ≡ digest_size a
unfolding digest_of
length-digest_of Md5 m = length-md5 m
length-digest_of Sha1 m = length-sha1 m
length-digest_of Sha224 m = length-sha224 m
length-digest_of Sha256 m = length-sha256 m
length-digest_of Sha384 m = length-sha384 m
length-digest_of Sha512 m = length-sha512 m

pub digest_few : (a : HashAlgorithm) → digest_size a ≤ 64
digest_few Md5 = omega arith
digest_few Sha1 = omega arith
digest_few Sha224 = omega arith
digest_few Sha256 = omega arith
digest_few Sha384 = omega arith
digest_few Sha512 = omega arith

pub digest_some : (a : HashAlgorithm) → 1 ≤ digest_size a
digest_some Md5 = omega arith
digest_some Sha1 = omega arith
digest_some Sha224 = omega arith
digest_some Sha256 = omega arith
digest_some Sha384 = omega arith
digest_some Sha512 = omega arith
