-- The constants of the code are those of the definitions, and what the code keeps makes the digests of the definitions.
use Rattle.std.proofs.Common.{◌≡◌, ℕ, zero, suc, ◌*◌, ◌/◌, ◌%◌, ◌^◌, List, ◌++◌, append_assoc, length, length-append, take, drop, slice_index, refl, sym, ap, ◌∙◌, arith}
use Rattle.std.proofs.lemmas.List.{take-append-le, take_all}
use Rattle.std.specs.Int.{to_be_bytes, to_le_bytes, w32, w64, w128}
use Rattle.sha1.specs.Sha1 as S1
use Rattle.md5.specs.Md5 as M5
use Rattle.sha2.specs.Sha256 as S256
use Rattle.sha2.specs.Sha512 as S512
use Rattle.jc_digests.specs.Pieces.{bytes_of_words, closed, filling, hash_after}

-- hash values after blocks
pub after-sha1 : (p : List ℕ) (n : ℕ) → hash_after S1.compress 64 S1.initial_hash p n ≡ S1.hash_after p n
unfolding hash_after S1.hash_after
after-sha1 p zero = refl
after-sha1 p (suc n) = ap (λ (h : List ℕ). S1.compress h (take 64 (drop (n * 64) p))) (after-sha1 p n)

pub after-md5 : (p : List ℕ) (n : ℕ) → hash_after M5.compress 64 M5.initial_hash p n ≡ M5.hash_after p n
unfolding hash_after M5.hash_after
after-md5 p zero = refl
after-md5 p (suc n) = ap (λ (h : List ℕ). M5.compress h (take 64 (drop (n * 64) p))) (after-md5 p n)

pub after-sha256 : (h p : List ℕ) (n : ℕ) → hash_after S256.compress 64 h p n ≡ S256.hash_after h p n
unfolding hash_after S256.hash_after
after-sha256 h p zero = refl
after-sha256 h p (suc n) = ap (λ (k : List ℕ). S256.compress k (take 64 (drop (n * 64) p))) (after-sha256 h p n)

pub after-sha512 : (h p : List ℕ) (n : ℕ) → hash_after S512.compress 128 h p n ≡ S512.hash_after h p n
unfolding hash_after S512.hash_after
after-sha512 h p zero = refl
after-sha512 h p (suc n) = ap (λ (k : List ℕ). S512.compress k (take 128 (drop (n * 128) p))) (after-sha512 h p n)

-- words as bytes
pub bytes-sha1 : (h : List ℕ) (n : ℕ) → bytes_of_words (to_be_bytes w32) h n ≡ S1.digest_bytes h n
unfolding bytes_of_words S1.digest_bytes
bytes-sha1 h zero = refl
bytes-sha1 h (suc n) = λ j. bytes-sha1 h n j ++ to_be_bytes w32 (slice_index h n)

pub bytes-md5 : (h : List ℕ) (n : ℕ) → bytes_of_words (to_le_bytes w32) h n ≡ M5.digest_bytes h n
unfolding bytes_of_words M5.digest_bytes
bytes-md5 h zero = refl
bytes-md5 h (suc n) = λ j. bytes-md5 h n j ++ to_le_bytes w32 (slice_index h n)

pub bytes-sha256 : (h : List ℕ) (n : ℕ) → bytes_of_words (to_be_bytes w32) h n ≡ S256.digest_bytes h n
unfolding bytes_of_words S256.digest_bytes
bytes-sha256 h zero = refl
bytes-sha256 h (suc n) = λ j. bytes-sha256 h n j ++ to_be_bytes w32 (slice_index h n)

pub bytes-sha512 : (h : List ℕ) (n : ℕ) → bytes_of_words (to_be_bytes w64) h n ≡ S512.digest_bytes h n
unfolding bytes_of_words S512.digest_bytes
bytes-sha512 h zero = refl
bytes-sha512 h (suc n) = λ j. bytes-sha512 h n j ++ to_be_bytes w64 (slice_index h n)

-- ---- the digests

length-bytes_32 : (h : List ℕ) (n : ℕ) → length (bytes_of_words (to_be_bytes w32) h n) ≡ 4 * n
unfolding bytes_of_words
length-bytes_32 h zero = refl
length-bytes_32 h (suc n) =
    let before = length-bytes_32 h n in
    let last : length (to_be_bytes w32 (slice_index h n)) ≡ 4 = refl in
    let both = length-append (bytes_of_words (to_be_bytes w32) h n) (to_be_bytes w32 (slice_index h n)) in
    omega (arith, before, last, both)

length-bytes_64 : (h : List ℕ) (n : ℕ) → length (bytes_of_words (to_be_bytes w64) h n) ≡ 8 * n
unfolding bytes_of_words
length-bytes_64 h zero = refl
length-bytes_64 h (suc n) =
    let before = length-bytes_64 h n in
    let last : length (to_be_bytes w64 (slice_index h n)) ≡ 8 = refl in
    let both = length-append (bytes_of_words (to_be_bytes w64) h n) (to_be_bytes w64 (slice_index h n)) in
    omega (arith, before, last, both)

front : (n : ℕ) (xs ys : List ℕ) → length xs ≡ n → take n (xs ++ ys) ≡ xs
front n xs ys long = take-append-le n xs ys (omega (arith, long)) ∙ take_all n xs (omega (arith, long))

pub digest-sha1 : (m field : List ℕ) → field ≡ to_be_bytes w64 (length m * 8 % 2 ^ 64)
    → bytes_of_words (to_be_bytes w32) (closed S1.compress 64 S1.initial_hash m field) 5 ≡ S1.sha1 m
unfolding S1.sha1
digest-sha1 m field is =
    let P : List ℕ = (m ++ filling 64 (length m)) ++ field in
    let whole : P ≡ S1.padded_message m = append_assoc m (filling 64 (length m)) field ∙ ap (λ (x : List ℕ). m ++ (filling 64 (length m) ++ x)) is in
    let hash = after-sha1 P (length P / 64) ∙ ap (λ (p : List ℕ). S1.hash_after p (length p / 64)) whole in
    ap (λ (h : List ℕ). bytes_of_words (to_be_bytes w32) h 5) hash ∙ bytes-sha1 _ 5

pub digest-md5 : (m field : List ℕ) → field ≡ to_le_bytes w64 (length m * 8 % 2 ^ 64)
    → bytes_of_words (to_le_bytes w32) (closed M5.compress 64 M5.initial_hash m field) 4 ≡ M5.md5 m
unfolding M5.md5
digest-md5 m field is =
    let P : List ℕ = (m ++ filling 64 (length m)) ++ field in
    let whole : P ≡ M5.padded_message m = append_assoc m (filling 64 (length m)) field ∙ ap (λ (x : List ℕ). m ++ (filling 64 (length m) ++ x)) is in
    let hash = after-md5 P (length P / 64) ∙ ap (λ (p : List ℕ). M5.hash_after p (length p / 64)) whole in
    ap (λ (h : List ℕ). bytes_of_words (to_le_bytes w32) h 4) hash ∙ bytes-md5 _ 4

pub digest-sha256 : (m field : List ℕ) → field ≡ to_be_bytes w64 (length m * 8 % 2 ^ 64)
    → bytes_of_words (to_be_bytes w32) (closed S256.compress 64 S256.initial_hash_256 m field) 8 ≡ S256.sha256 m
unfolding S256.sha256
digest-sha256 m field is =
    let P : List ℕ = (m ++ filling 64 (length m)) ++ field in
    let whole : P ≡ S256.padded_message m = append_assoc m (filling 64 (length m)) field ∙ ap (λ (x : List ℕ). m ++ (filling 64 (length m) ++ x)) is in
    let hash = after-sha256 S256.initial_hash_256 P (length P / 64) ∙ ap (λ (p : List ℕ). S256.hash_after S256.initial_hash_256 p (length p / 64)) whole in
    ap (λ (h : List ℕ). bytes_of_words (to_be_bytes w32) h 8) hash ∙ bytes-sha256 _ 8

front_sha224 : (h : List ℕ) → take 28 (bytes_of_words (to_be_bytes w32) h 8) ≡ bytes_of_words (to_be_bytes w32) h 7
unfolding bytes_of_words
front_sha224 h = front 28 (bytes_of_words (to_be_bytes w32) h 7) (to_be_bytes w32 (slice_index h 7)) (length-bytes_32 h 7)

pub digest-sha224 : (m field : List ℕ) → field ≡ to_be_bytes w64 (length m * 8 % 2 ^ 64)
    → bytes_of_words (to_be_bytes w32) (closed S256.compress 64 S256.initial_hash_224 m field) 7 ≡ S256.sha224 m
unfolding S256.sha224
digest-sha224 m field is =
    let P : List ℕ = (m ++ filling 64 (length m)) ++ field in
    let whole : P ≡ S256.padded_message m = append_assoc m (filling 64 (length m)) field ∙ ap (λ (x : List ℕ). m ++ (filling 64 (length m) ++ x)) is in
    let hash = after-sha256 S256.initial_hash_224 P (length P / 64) ∙ ap (λ (p : List ℕ). S256.hash_after S256.initial_hash_224 p (length p / 64)) whole in
    let last : List ℕ = S256.final_hash S256.initial_hash_224 m in
    ap (λ (h : List ℕ). bytes_of_words (to_be_bytes w32) h 7) hash
    ∙ sym (front_sha224 last) ∙ ap (take 28) (bytes-sha256 last 8)

pub digest-sha512 : (m field : List ℕ) → field ≡ to_be_bytes w128 (length m * 8 % 2 ^ 128)
    → bytes_of_words (to_be_bytes w64) (closed S512.compress 128 S512.initial_hash_512 m field) 8 ≡ S512.sha512 m
unfolding S512.sha512
digest-sha512 m field is =
    let P : List ℕ = (m ++ filling 128 (length m)) ++ field in
    let whole : P ≡ S512.padded_message m = append_assoc m (filling 128 (length m)) field ∙ ap (λ (x : List ℕ). m ++ (filling 128 (length m) ++ x)) is in
    let hash = after-sha512 S512.initial_hash_512 P (length P / 128) ∙ ap (λ (p : List ℕ). S512.hash_after S512.initial_hash_512 p (length p / 128)) whole in
    ap (λ (h : List ℕ). bytes_of_words (to_be_bytes w64) h 8) hash ∙ bytes-sha512 _ 8

front_sha384 : (h : List ℕ) → take 48 (bytes_of_words (to_be_bytes w64) h 8) ≡ bytes_of_words (to_be_bytes w64) h 6
unfolding bytes_of_words
front_sha384 h = ap (take 48) (append_assoc (bytes_of_words (to_be_bytes w64) h 6) (to_be_bytes w64 (slice_index h 6)) (to_be_bytes w64 (slice_index h 7)))
    ∙ front 48 (bytes_of_words (to_be_bytes w64) h 6) (to_be_bytes w64 (slice_index h 6) ++ to_be_bytes w64 (slice_index h 7)) (length-bytes_64 h 6)

pub digest-sha384 : (m field : List ℕ) → field ≡ to_be_bytes w128 (length m * 8 % 2 ^ 128)
    → bytes_of_words (to_be_bytes w64) (closed S512.compress 128 S512.initial_hash_384 m field) 6 ≡ S512.sha384 m
unfolding S512.sha384
digest-sha384 m field is =
    let P : List ℕ = (m ++ filling 128 (length m)) ++ field in
    let whole : P ≡ S512.padded_message m = append_assoc m (filling 128 (length m)) field ∙ ap (λ (x : List ℕ). m ++ (filling 128 (length m) ++ x)) is in
    let hash = after-sha512 S512.initial_hash_384 P (length P / 128) ∙ ap (λ (p : List ℕ). S512.hash_after S512.initial_hash_384 p (length p / 128)) whole in
    let last : List ℕ = S512.final_hash S512.initial_hash_384 m in
    ap (λ (h : List ℕ). bytes_of_words (to_be_bytes w64) h 6) hash
    ∙ sym (front_sha384 last) ∙ ap (take 48) (bytes-sha512 last 8)
