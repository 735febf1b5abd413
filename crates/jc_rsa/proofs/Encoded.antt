-- What is encoded is an encoding of its message, and of no other.
use Rattle.std.proofs.Common.{◌≡◌, ◌≤◌, ◌+◌, ◌-◌, ◌*◌, ◌∷◌, ◌++◌, ℕ, Bool, true, false, List, drop, length, length-append, replicate, take, refl, sym, ap, ◌∙◌, inl, inr, arith}
use Rattle.std.proofs.lemmas.Bool.{cases_lt}
use Rattle.std.proofs.lemmas.List.{length-replicate}
use Rattle.jc_digests.specs.Kept.{digest_size}
use Rattle.jc_digests.specs.declared.kept.HashAlgorithm.{HashAlgorithm}
use Rattle.jc_rsa.specs.Bytes.{IsOther}
use Rattle.jc_rsa.specs.EmeOaep.{IsOaep, data_block, oaep}
use Rattle.jc_rsa.specs.EmePkcs1.{IsEncryptionBlock, encryption_block}
use Rattle.jc_rsa.specs.EmsaPkcs1.{IsSignatureBlock, signature_block}
use Rattle.jc_rsa.specs.Iso9796.{IsRepresentative, header, heading, representative, trailer_bytes}
use Rattle.jc_rsa.specs.Laws.{DecodedIsEncoded, IsOnlyOf, IsOnlyOfParts}
use Rattle.jc_rsa.specs.declared.iso_9796.Trailer.{Trailer}
use Rattle.jc_rsa.proofs.Blocks.{long_block, one_first}
use Rattle.jc_rsa.proofs.Headings.{HasParts, first-more, first-one, heading_ends, length-heading, parts_of_representative, representative-is}
use Rattle.jc_rsa.proofs.OaepBlocks.{block_in, data_end, data_rest, length-data_block, length-masked, oaep-is, oaep_has}
use Rattle.jc_rsa.proofs.OneMessage.{encryption_one, signature_one}

-- ---- EMSA-PKCS1-v1_5 and EME-PKCS1-v1_5

signature_block-is : (t : List ℕ) (n : ℕ) → signature_block t n ≡ 0 ∷ 1 ∷ replicate (n - length t - 3) 0xff ++ 0 ∷ t
unfolding signature_block
signature_block-is t n = refl

signature : (t : List ℕ) (n : ℕ) → length t + 11 ≤ n → IsOnlyOf IsSignatureBlock t (signature_block t n)
signature t n fits =
    let em : List ℕ = signature_block t n in
    let k = n - length t - 3 in
    let long : n ≡ length em =
    omega (arith, long_block 1 (replicate k 0xff) t em (signature_block-is t n), length-replicate {A = ℕ} k 0xff, fits) in
    let is : IsSignatureBlock t em = record { fits = omega (arith, fits, long); is = ap (signature_block t) long } in
    record { encoded = is; only = λ u other. signature_one u t em other is }

-- ---- EME-OAEP

oaep_only : (a : HashAlgorithm) (m n em : List ℕ) → IsOaep a m em → IsOaep a n em → m ≡ n
oaep_only a m n em first second =
    let block : List ℕ = block_in a em in
    let has = oaep_has a m em first in
    let end = data_end a m block has in
    let place = length block - length m - 1 in
    sym (data_rest a m block place has end) ∙ data_rest a n block place (oaep_has a n em second) end

oaep_law : (a : HashAlgorithm) (seed m : List ℕ) (k : ℕ) → length seed ≡ digest_size a → length m + 2 * digest_size a + 2 ≤ k
    → IsOnlyOf (IsOaep a) m (oaep a seed m k)
oaep_law a seed m k whole fits =
    let em : List ℕ = oaep a seed m k in
    let n = k - digest_size a - 1 in
    let block_long = length-data_block a m n (omega (arith, fits)) in
    let long : k ≡ length em = omega (arith, ap length (oaep-is a seed m k), length-masked a seed (data_block a m n), block_long, whole, fits) in
    let is : IsOaep a m em = record { seed = seed; whole = whole; fits = omega (arith, fits, long); is = ap (oaep a seed m) long } in
    record { encoded = is; only = λ other e. oaep_only a other m em e is }

-- ---- ISO/IEC 9796-2

other_ends : (more other : Bool) → header more + 0x0a ≡ header other + 0x0b → ⊥
other_ends true true is = omega (arith, is)
other_ends true false is = omega (arith, is)
other_ends false true is = omega (arith, is)
other_ends false false is = omega (arith, is)

one_header : (more other : Bool) (k : ℕ) → header more + k ≡ header other + k → more ≡ other
one_header true true k is = refl
one_header true false k is = absurd (omega (arith, is))
one_header false true k is = absurd (omega (arith, is))
one_header false false k is = refl

-- two headings of the same bytes
record SameHeading (more other : Bool) (n k : ℕ) : Type 0 where
  same_more : more ≡ other
  count : n ≡ k

same_heading : (more other : Bool) (n k : ℕ) (rest others em : List ℕ) → 1 ≤ n → 1 ≤ k → em ≡ heading more n ++ rest → em ≡ heading other k ++ others
    → SameHeading more other n k
same_heading more other n k rest others em some one is also =
    let H : ℕ → List ℕ → Type 0 = λ j xs. em ≡ heading more j ++ xs in
    let K : ℕ → List ℕ → Type 0 = λ j xs. em ≡ heading other j ++ xs in
    elim (cases_lt 1 n) as (λ _. SameHeading more other n k) [
      | inl many ↦
          elim (cases_lt 1 k) as (λ _. SameHeading more other n k) [
            | inl much ↦
                let at = one_first (IsOther 0xbb) 1 em (n - 1) (k - 1) (heading_ends more n rest em many is) (heading_ends other k others em much also) in
                record {
                  same_more = one_header more other 0x0b (sym (first-more more n rest em many is) ∙ first-more other k others em much also);
                  count = omega (arith, at, many, much);
                }
            | inr few ↦
                let only : k ≡ 1 = omega (arith, few, one) in
                let alone : em ≡ heading other 1 ++ others = also ∙ ap (λ (j : ℕ). heading other j ++ others) only in
                absurd (other_ends other more (sym (first-one other others em alone) ∙ first-more more n rest em many is))
          ]
      | inr little ↦
          let only : n ≡ 1 = omega (arith, little, some) in
          let alone : em ≡ heading more 1 ++ rest = is ∙ ap (λ (j : ℕ). heading more j ++ rest) only in
          elim (cases_lt 1 k) as (λ _. SameHeading more other n k) [
            | inl much ↦ absurd (other_ends more other (sym (first-one more rest em alone) ∙ first-more other k others em much also))
            | inr few ↦
                let single : k ≡ 1 = omega (arith, few, one) in
                let apart : em ≡ heading other 1 ++ others = also ∙ ap (λ (j : ℕ). heading other j ++ others) single in
                record {
                  same_more = one_header more other 0x0a (sym (first-one more rest em alone) ∙ first-one other others em apart);
                  count = only ∙ sym single;
                }
          ]
    ]

-- two representations by the same bytes
pub record SameParts (more other : Bool) (m n h k : List ℕ) : Type 0 where
  pub same_more : more ≡ other
  pub message : m ≡ n
  pub digest : h ≡ k

same_parts : (trailer : Trailer) (size : ℕ) (more other : Bool) (m n h k em : List ℕ) (start begin : ℕ)
    → HasParts trailer size more m h em start → HasParts trailer size other n k em begin → SameParts more other m n h k
same_parts trailer size more other m n h k em start begin first second =
    let at = same_heading more other start begin (m ++ (h ++ trailer_bytes trailer)) (n ++ (k ++ trailer_bytes trailer)) em
    first.some second.some first.heading second.heading in
    let same : start ≡ begin = at.count in
    let long : length m ≡ length n = omega (arith, first.long, second.long, same) in
    record {
      same_more = at.same_more;
      message = sym first.message ∙ (λ j. take (long j) (drop (same j) em)) ∙ second.message;
      digest = sym first.digest ∙ (λ j. take size (drop (same j + long j) em)) ∙ second.digest;
    }

-- the same of two representatives
pub same_representatives : (trailer : Trailer) (size : ℕ) (more other : Bool) (m n h k em : List ℕ)
    → IsRepresentative trailer size more m h em → IsRepresentative trailer size other n k em → SameParts more other m n h k
same_representatives trailer size more other m n h k em first second =
    same_parts trailer size more other m n h k em _ _ (parts_of_representative trailer size more m h em first)
    (parts_of_representative trailer size other n k em second)

length-representative : (trailer : Trailer) (more : Bool) (m h : List ℕ) (n : ℕ) → length m + length h + length (trailer_bytes trailer) + 1 ≤ n
    → length (representative more m h trailer n) ≡ n
length-representative trailer more m h n fits =
    let ending : List ℕ = trailer_bytes trailer in
    let count = n - length m - length h - length ending in
    ap length (representative-is more m h trailer n)
    ∙ omega (
      arith,
      length-append (heading more count) (m ++ (h ++ ending)),
      length-append m (h ++ ending),
      length-append h ending,
      length-heading more count,
      fits,
    )

recovery : (trailer : Trailer) (more : Bool) (m h : List ℕ) (n : ℕ) → length m + length h + length (trailer_bytes trailer) + 1 ≤ n
    → (more ≡ true → length m + length h + length (trailer_bytes trailer) + 1 ≡ n)
    → IsOnlyOfParts trailer (length h) more m h (representative more m h trailer n)
recovery trailer more m h n fits full =
    let em : List ℕ = representative more m h trailer n in
    let long : n ≡ length em = sym (length-representative trailer more m h n fits) in
    let is : IsRepresentative trailer (length h) more m h em = record {
      whole = refl;
      fits = omega (arith, fits, long);
      full = λ yes. full yes ∙ long;
      is = ap (representative more m h trailer) long;
    } in
    record {
      encoded = is;
      only_more = λ other p d e. (same_representatives trailer (length h) other more p m d h em e is).same_more;
      only_message = λ other p d e. (same_representatives trailer (length h) other more p m d h em e is).message;
      only_digest = λ other p d e. (same_representatives trailer (length h) other more p m d h em e is).digest;
    }

pub decoded : DecodedIsEncoded
decoded = record {
  signature = signature;
  encryption = λ ps m long nonzero.
      let is : IsEncryptionBlock m (encryption_block ps m) = record { padding = ps; long = long; nonzero = nonzero; is = refl } in
      record { encoded = is; only = λ n e. encryption_one n m (encryption_block ps m) e is };
  oaep = oaep_law;
  recovery = recovery;
}
