-- The digest of a message in pieces is that of the whole.
use Rattle.std.proofs.Common.{◌≡◌, ◌∙◌, ◌<◌, ◌++◌, ◌^◌, ℕ, List, [], length, replicate, take, refl, ap}
use Rattle.std.specs.Int.{to_be_bytes, to_le_bytes, w32, w64}
use Rattle.md5.specs.Md5 as M5
use Rattle.sha1.specs.Sha1 as S1
use Rattle.sha2.specs.Sha256 as S256
use Rattle.sha2.specs.Sha512 as S512
use Rattle.jc_digests.specs.Kept.{HashForm, digest_of_state, form_of, initial_of, last_hash, md_5, sha_1, sha_256, sha_512, state_after, state_size}
use Rattle.jc_digests.specs.Pieces.{bytes_of_words, closed, hash_after}
use Rattle.jc_digests.specs.declared.kept.HashAlgorithm.{HashAlgorithm}
use Rattle.jc_digests.specs.declared.kept.HashAlgorithm.TheVariants.{Md5, Sha1, Sha224, Sha256, Sha384, Sha512}
use Rattle.jc_digests.proofs.StandardFacts.{digest-md5, digest-sha1, digest-sha224, digest-sha256, digest-sha384, digest-sha512}
use Rattle.jc_api_crypto.specs.MessagesInPieces.{AreOfTheWhole, HoldsMessage, hash_of}
use Rattle.jc_api_crypto.proofs.Blocks.{closed_goes_on}
use Rattle.jc_api_crypto.proofs.HashValues.{AreEight, AreFive, AreFour, first_md5, first_sha1, first_sha224, first_sha256, first_sha384, first_sha512, md_5_back, sha_1_back, sha_256_back, sha_512_back}
use Rattle.jc_api_crypto.proofs.StatesRead.{goes_on}

nothing_held : (a : HashAlgorithm) → HoldsMessage (form_of a) (initial_of a) [] (replicate (state_size a) 0)
unfolding hash_after
nothing_held Md5 = record { hash = refl; rest = refl; long = refl }
nothing_held Sha1 = record { hash = refl; rest = refl; long = refl }
nothing_held Sha224 = record { hash = refl; rest = refl; long = refl }
nothing_held Sha256 = record { hash = refl; rest = refl; long = refl }
nothing_held Sha384 = record { hash = refl; rest = refl; long = refl }
nothing_held Sha512 = record { hash = refl; rest = refl; long = refl }

-- the hash value of a message that a state holds
last_of : (f : HashForm) (i m state : List ℕ) → 0 < f.block → HoldsMessage f i m state
    → last_hash f i state ≡ closed f.compressed f.block i m (f.field (length m))
unfolding last_hash
last_of f i m state some held =
    (λ j. closed f.compressed f.block (held.hash j) (held.rest j) (f.field (held.long j))) ∙ closed_goes_on f some i m (f.field (length m))

eight : (h : List ℕ) → take 32 (sha_256.bytes h) ≡ bytes_of_words (to_be_bytes w32) h 8
unfolding bytes_of_words
eight h = refl

seven : (h : List ℕ) → take 28 (sha_256.bytes h) ≡ bytes_of_words (to_be_bytes w32) h 7
unfolding bytes_of_words
seven h = refl

five : (h : List ℕ) → take 20 (sha_1.bytes h) ≡ bytes_of_words (to_be_bytes w32) h 5
unfolding bytes_of_words
five h = refl

four : (h : List ℕ) → take 16 (md_5.bytes h) ≡ bytes_of_words (to_le_bytes w32) h 4
unfolding bytes_of_words
four h = refl

six_long : (h : List ℕ) → take 48 (sha_512.bytes h) ≡ bytes_of_words (to_be_bytes w64) h 6
unfolding bytes_of_words
six_long h = refl

eight_long : (h : List ℕ) → take 64 (sha_512.bytes h) ≡ bytes_of_words (to_be_bytes w64) h 8
unfolding bytes_of_words
eight_long h = refl

digest_held : (a : HashAlgorithm) (m state : List ℕ) → HoldsMessage (form_of a) (initial_of a) m state → digest_of_state a state ≡ hash_of a m
digest_held Md5 m state held =
    ap (λ (h : List ℕ). take 16 (md_5.bytes h)) (last_of md_5 M5.initial_hash m state md_5_back.some held) ∙ four _ ∙ digest-md5 m _ refl
digest_held Sha1 m state held =
    ap (λ (h : List ℕ). take 20 (sha_1.bytes h)) (last_of sha_1 S1.initial_hash m state sha_1_back.some held) ∙ five _ ∙ digest-sha1 m _ refl
digest_held Sha224 m state held =
    ap (λ (h : List ℕ). take 28 (sha_256.bytes h)) (last_of sha_256 S256.initial_hash_224 m state sha_256_back.some held) ∙ seven _ ∙ digest-sha224 m _ refl
digest_held Sha256 m state held =
    ap (λ (h : List ℕ). take 32 (sha_256.bytes h)) (last_of sha_256 S256.initial_hash_256 m state sha_256_back.some held) ∙ eight _ ∙ digest-sha256 m _ refl
digest_held Sha384 m state held =
    ap (λ (h : List ℕ). take 48 (sha_512.bytes h)) (last_of sha_512 S512.initial_hash_384 m state sha_512_back.some held) ∙ six_long _ ∙ digest-sha384 m _ refl
digest_held Sha512 m state held =
    ap (λ (h : List ℕ). take 64 (sha_512.bytes h)) (last_of sha_512 S512.initial_hash_512 m state sha_512_back.some held) ∙ eight_long _ ∙ digest-sha512 m _ refl

longer_held : (a : HashAlgorithm) (m piece state : List ℕ) → length (m ++ piece) < 2 ^ 64 → HoldsMessage (form_of a) (initial_of a) m state
    → HoldsMessage (form_of a) (initial_of a) (m ++ piece) (state_after a state piece)
longer_held Md5 m piece state small = goes_on md_5 (AreFour (2 ^ 32)) md_5_back M5.initial_hash m piece state first_md5 small
longer_held Sha1 m piece state small = goes_on sha_1 (AreFive (2 ^ 32)) sha_1_back S1.initial_hash m piece state first_sha1 small
longer_held Sha224 m piece state small = goes_on sha_256 (AreEight (2 ^ 32)) sha_256_back S256.initial_hash_224 m piece state first_sha224 small
longer_held Sha256 m piece state small = goes_on sha_256 (AreEight (2 ^ 32)) sha_256_back S256.initial_hash_256 m piece state first_sha256 small
longer_held Sha384 m piece state small = goes_on sha_512 (AreEight (2 ^ 64)) sha_512_back S512.initial_hash_384 m piece state first_sha384 small
longer_held Sha512 m piece state small = goes_on sha_512 (AreEight (2 ^ 64)) sha_512_back S512.initial_hash_512 m piece state first_sha512 small

pub of_the_whole : (a : HashAlgorithm) → AreOfTheWhole a
of_the_whole a = record { nothing = nothing_held a; longer = longer_held a; digest = digest_held a }
