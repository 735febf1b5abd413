-- Headings of encodings by ISO/IEC 9796-2, and the parts after them.
use Rattle.std.proofs.Common.{◌≡◌, ◌≢◌, ◌≤◌, ◌+◌, ◌-◌, ◌∷◌, ◌++◌, [], ℕ, zero, suc, Bool, true, false, nat_le, List, append_assoc, drop, length, length-append, replicate, slice_index, take, refl, sym, ap, subst, ◌∙◌, ◌⊎◌, inl, inr, arith}
use Rattle.std.proofs.lemmas.Bool.{cases_lt}
use Rattle.std.proofs.lemmas.List.{drop_at, length-replicate, take_at}
use Rattle.jc_rsa.specs.Bytes.{IsFirst, IsOther}
use Rattle.jc_rsa.specs.Iso9796.{IsRepresentative, header, heading, representative, trailer_bytes}
use Rattle.jc_rsa.specs.declared.iso_9796.Trailer.{Trailer}
use Rattle.jc_rsa.proofs.Blocks.{filler_end}

pub heading-one : (more : Bool) → heading more 1 ≡ (header more + 0x0a) ∷ []
unfolding heading
heading-one more = refl

pub heading-more : (more : Bool) (n : ℕ) → 2 ≤ n → heading more n ≡ (((header more + 0x0b) ∷ []) ++ replicate (n - 2) 0xbb) ++ 0xba ∷ []
unfolding heading
heading-more more zero few = absurd (omega arith)
heading-more more (suc zero) few = absurd (omega arith)
heading-more more (suc (suc n)) few =
    let is : n ≡ suc (suc n) - 2 = omega arith in
    ap (λ (k : ℕ). (((header more + 0x0b) ∷ []) ++ replicate k 0xbb) ++ 0xba ∷ []) is

pub length-heading : (more : Bool) (n : ℕ) → length (heading more n) ≡ n
unfolding heading
length-heading more zero = refl
length-heading more (suc zero) = refl
length-heading more (suc (suc n)) =
    let front : List ℕ = (header more + 0x0b) ∷ replicate n 0xbb in
    let filled : length front ≡ suc n = ap suc (length-replicate {A = ℕ} n 0xbb) in
    length-append front (0xba ∷ []) ∙ omega (arith, filled)

-- the first byte says whether there is more, and whether it is the whole heading
pub first-one : (more : Bool) (rest em : List ℕ) → em ≡ heading more 1 ++ rest → slice_index em 0 ≡ header more + 0x0a
first-one more rest em is = ap (λ (xs : List ℕ). slice_index xs 0) (is ∙ ap (λ (xs : List ℕ). xs ++ rest) (heading-one more))

pub first-more : (more : Bool) (n : ℕ) (rest em : List ℕ) → 2 ≤ n → em ≡ heading more n ++ rest → slice_index em 0 ≡ header more + 0x0b
first-more more n rest em many is = ap (λ (xs : List ℕ). slice_index xs 0) (is ∙ ap (λ (xs : List ℕ). xs ++ rest) (heading-more more n many))

abbrev ba : ℕ
ba = 0xba

ba_not_bb : ba ≢ 0xbb
ba_not_bb = λ is. omega (arith, is)

-- a longer heading ends by the first byte other than BB
pub heading_ends : (more : Bool) (n : ℕ) (rest em : List ℕ) → 2 ≤ n → em ≡ heading more n ++ rest → IsFirst (IsOther 0xbb) 1 em (n - 1)
heading_ends more n rest em many is =
    let front : List ℕ = (header more + 0x0b) ∷ [] in
    let filled : List ℕ = front ++ replicate (n - 2) 0xbb in
    let same : em ≡ filled ++ 0xba ∷ rest =
    is ∙ ap (λ (xs : List ℕ). xs ++ rest) (heading-more more n many) ∙ append_assoc filled (0xba ∷ []) rest in
    let at : 1 + (n - 2) ≡ n - 1 = omega (arith, many) in
    let P : List ℕ → Type 0 = λ xs. IsFirst (IsOther 0xbb) 1 xs (n - 1) in
    let R : ℕ → Type 0 = λ place. IsFirst (IsOther 0xbb) 1 (filled ++ 0xba ∷ rest) place in
    subst P (sym same) (subst R at (filler_end front (n - 2) 0xbb 0xba rest ba_not_bb))

other_first : (more : Bool) (x : ℕ) → x ≡ header more + 0x0b → (x ≡ 0x4a) ⊎ (x ≡ 0x6a) → ⊥
other_first true x is (inl at) = omega (arith, is, at)
other_first true x is (inr at) = omega (arith, is, at)
other_first false x is (inl at) = omega (arith, is, at)
other_first false x is (inr at) = omega (arith, is, at)

this_first : (more : Bool) (x : ℕ) → x ≡ header more + 0x0a → (x ≡ 0x4a) ⊎ (x ≡ 0x6a)
this_first true x is = inr is
this_first false x is = inl is

-- the first byte tells a heading of one byte
pub short_heading : (more : Bool) (n : ℕ) (rest em : List ℕ) → 1 ≤ n → em ≡ heading more n ++ rest
    → (slice_index em 0 ≡ 0x4a) ⊎ (slice_index em 0 ≡ 0x6a) → 1 ≡ n
short_heading more n rest em some is at =
    elim (cases_lt 1 n) as (λ _. 1 ≡ n) [
      | inl many ↦ absurd (other_first more (slice_index em 0) (first-more more n rest em many is) at)
      | inr few ↦ omega arith
    ]

pub long_heading : (more : Bool) (n : ℕ) (rest em : List ℕ) → 1 ≤ n → em ≡ heading more n ++ rest
    → slice_index em 0 ≢ 0x4a → slice_index em 0 ≢ 0x6a → 2 ≤ n
long_heading more n rest em some is not_total not_partial =
    elim (cases_lt 1 n) as (λ _. 2 ≤ n) [
      | inl many ↦ many
      | inr few ↦
          let only : n ≡ 1 = omega (arith, few, some) in
          let alone : em ≡ heading more 1 ++ rest = is ∙ ap (λ (j : ℕ). heading more j ++ rest) only in
          let at = this_first more (slice_index em 0) (first-one more rest em alone) in
          elim at as (λ _. 2 ≤ n) [ inl total ↦ absurd (not_total total) | inr partial ↦ absurd (not_partial partial) ]
    ]

-- ---- the parts of a representative

pub representative-is : (more : Bool) (m h : List ℕ) (trailer : Trailer) (n : ℕ)
    → representative more m h trailer n ≡ heading more (n - length m - length h - length (trailer_bytes trailer)) ++ (m ++ (h ++ trailer_bytes trailer))
unfolding representative
representative-is more m h trailer n =
    let front : List ℕ = heading more (n - length m - length h - length (trailer_bytes trailer)) in
    append_assoc (front ++ m) h (trailer_bytes trailer) ∙ append_assoc front m (h ++ trailer_bytes trailer)

-- where a part begins and ends
pub record HasParts (trailer : Trailer) (size : ℕ) (more : Bool) (m h em : List ℕ) (start : ℕ) : Type 0 where
  pub some : 1 ≤ start
  pub long : start + length m + size + length (trailer_bytes trailer) ≡ length em
  pub heading : em ≡ heading more start ++ (m ++ (h ++ trailer_bytes trailer))
  pub message : take (length m) (drop start em) ≡ m
  pub digest : take size (drop (start + length m) em) ≡ h

pub parts_of_representative : (trailer : Trailer) (size : ℕ) (more : Bool) (m h em : List ℕ) → IsRepresentative trailer size more m h em
    → HasParts trailer size more m h em (length em - length m - size - length (trailer_bytes trailer))
parts_of_representative trailer size more m h em is =
    let ending : List ℕ = trailer_bytes trailer in
    let start = length em - length m - size - length ending in
    let front : List ℕ = heading more start in
    let count : length em - length m - length h - length ending ≡ start = ap (λ (k : ℕ). length em - length m - k - length ending) is.whole in
    let parts : em ≡ front ++ (m ++ (h ++ ending)) =
    is.is ∙ representative-is more m h trailer (length em) ∙ ap (λ (k : ℕ). heading more k ++ (m ++ (h ++ ending))) count in
    let regrouped : em ≡ (front ++ m) ++ (h ++ ending) = parts ∙ sym (append_assoc front m (h ++ ending)) in
    let front_long : length front ≡ start = length-heading more start in
    let both_long : length (front ++ m) ≡ start + length m = length-append front m ∙ ap (λ (k : ℕ). k + length m) front_long in
    record {
      some = omega (arith, is.fits);
      long = omega (arith, is.fits);
      heading = parts;
      message = ap (λ (xs : List ℕ). take (length m) (drop start xs)) parts ∙ ap (take (length m)) (drop_at front (m ++ (h ++ ending)) start front_long)
          ∙ take_at m (h ++ ending) (length m) refl;
      digest = ap (λ (xs : List ℕ). take size (drop (start + length m) xs)) regrouped
          ∙ ap (take size) (drop_at (front ++ m) (h ++ ending) (start + length m) both_long) ∙ take_at h ending size is.whole;
    }

-- the first byte says whether there is more
first_is : (more : Bool) (x : ℕ) → (x ≡ header more + 0x0a) ⊎ (x ≡ header more + 0x0b) → nat_le 0x60 x ≡ more
first_is true x (inl is) = ap (nat_le 0x60) is
first_is true x (inr is) = ap (nat_le 0x60) is
first_is false x (inl is) = ap (nat_le 0x60) is
first_is false x (inr is) = ap (nat_le 0x60) is

pub more_said : (more : Bool) (n : ℕ) (rest em : List ℕ) → 1 ≤ n → em ≡ heading more n ++ rest → nat_le 0x60 (slice_index em 0) ≡ more
more_said more n rest em some is =
    elim (cases_lt 1 n) as (λ _. nat_le 0x60 (slice_index em 0) ≡ more) [
      | inl many ↦ first_is more (slice_index em 0) (inr (first-more more n rest em many is))
      | inr few ↦
          let only : n ≡ 1 = omega (arith, few, some) in
          let alone : em ≡ heading more 1 ++ rest = is ∙ ap (λ (j : ℕ). heading more j ++ rest) only in
          first_is more (slice_index em 0) (inl (first-one more rest em alone))
    ]

-- the parts of an encoding stand where its heading ends
pub record StandsAt (size : ℕ) (more : Bool) (m h em : List ℕ) (found : Bool) (start end : ℕ) : Type 0 where
  pub more_is : found ≡ more
  pub order : start ≤ end
  pub whole : more ≡ true → start ≡ 1
  pub message : take (end - start) (drop start em) ≡ m
  pub digest : take size (drop end em) ≡ h

pub stands_at : (trailer : Trailer) (size : ℕ) (more : Bool) (m h em : List ℕ) (found : Bool) (start end : ℕ)
    → IsRepresentative trailer size more m h em
    → ((b : Bool) (n : ℕ) (rest : List ℕ) → 1 ≤ n → em ≡ heading b n ++ rest → found ≡ b)
    → ((b : Bool) (n : ℕ) (rest : List ℕ) → 1 ≤ n → em ≡ heading b n ++ rest → start ≡ n)
    → end ≡ length em - (size + length (trailer_bytes trailer)) → StandsAt size more m h em found start end
stands_at trailer size more m h em found start end is says begins ends =
    let ending : List ℕ = trailer_bytes trailer in
    let n = length em - length m - size - length ending in
    let rest : List ℕ = m ++ (h ++ ending) in
    let parts = parts_of_representative trailer size more m h em is in
    let at : start ≡ n = begins more n rest parts.some parts.heading in
    let last : end ≡ n + length m = omega (arith, ends, parts.long) in
    let span : end - start ≡ length m = omega (arith, at, last) in
    record {
      more_is = says more n rest parts.some parts.heading;
      order = omega (arith, at, last);
      whole = λ yes. let full = is.full yes in omega (arith, full, at);
      message = (λ j. take (span j) (drop (at j) em)) ∙ parts.message;
      digest = ap (λ (k : ℕ). take size (drop k em)) last ∙ parts.digest;
    }
