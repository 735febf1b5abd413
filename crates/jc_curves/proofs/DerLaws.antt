-- Signatures in DER: what is written, and what is read.
use Rattle.std.proofs.Common.{◌≡◌, ℕ, zero, suc, ◌+◌, ◌-◌, ◌*◌, ◌^◌, ◌<◌, ◌≤◌, ◌⊎◌, Bool, true, false, eqb, List, [], ◌∷◌, ◌++◌, append-nil, append_assoc, inl, inr, length, length-append, take, drop, slice_index, refl, sym, ap, subst, ◌∙◌, arith}
use Rattle.std.proofs.lemmas.Bool.{cases_lt}
use Rattle.std.proofs.lemmas.Bool.Decides.{nat_tests}
use Rattle.std.proofs.lemmas.List.{drop_more, get_or-drop, length-drop, length-take-le, take-append-drop}
use Rattle.std.proofs.Math.Seq.{drop-append_seam, take-length}
use Rattle.jc_numbers.specs.Numbers.{number_of_bytes}
use Rattle.jc_numbers.proofs.ModulusLaws.{kept}
use Rattle.jc_numbers.proofs.NumbersOfBytes.{byte_first}
use Rattle.jc_curves.specs.Der.{BeginsWithInteger, IsHead, IsInteger, IsMinimal, IsSequence, IsSignatureEncoding}

-- ---- what is written

nothing_before : (w n : ℕ) → 0 * w + n ≡ n
nothing_before w n = grind arith

zero_first : (bs : List ℕ) → number_of_bytes (0 ∷ bs) ≡ number_of_bytes bs
zero_first bs = byte_first 0 bs ∙ nothing_before (256 ^ length bs) (number_of_bytes bs)

-- a number with a zero before it
pub with_zero : (number : List ℕ) → length number ≤ 66 → (length number ≡ 0) ⊎ (128 ≤ slice_index number 0)
    → IsInteger (number_of_bytes number) (2 ∷ (length number + 1) ∷ 0 ∷ number)
with_zero number few needs =
    let contents : List ℕ = 0 ∷ number in
    let long : length number + 1 ≡ length contents = omega arith in
    record {
      contents = contents;
      integer = record {
        some = omega (arith, long);
        few = omega (arith, few, long);
        minimal = record {
          not_negative = omega arith;
          shortest = λ more first. elim needs [ inl none ↦ absurd (omega (arith, none, more, long)) | inr high ↦ high ];
        };
        is = ap (λ (n : ℕ). 2 ∷ n ∷ contents) long;
      };
      number = zero_first number;
    }

above_zero : (n : ℕ) → (n ≡ 0 → ⊥) → 0 < n
above_zero zero some = absurd (some refl)
above_zero (suc n) some = omega arith

below_not : (x : ℕ) → (128 ≤ x → ⊥) → x < 128
below_not x low =
    elim (cases_lt x 128) [ inl less ↦ less | inr more ↦ absurd (low more) ]

-- a number by itself
pub by_itself : (number : List ℕ) → length number ≤ 66 → (0 < length number → 0 < slice_index number 0)
    → ((length number ≡ 0) ⊎ (128 ≤ slice_index number 0) → ⊥) → IsInteger (number_of_bytes number) (2 ∷ length number ∷ number)
by_itself number few first plain =
    let some : 0 < length number = above_zero (length number) (λ none. plain (inl none)) in
    record {
      contents = number;
      integer = record {
        some = some;
        few = omega (arith, few);
        minimal = record {
          not_negative = below_not (slice_index number 0) (λ high. plain (inr high));
          shortest = λ more zero. absurd (omega (arith, zero, first some));
        };
        is = refl;
      };
      number = refl;
    }

-- two writes one after the other
pub both_written : (now before front head part : List ℕ) → now ≡ before ++ part → before ≡ front ++ head → now ≡ front ++ (head ++ part)
both_written now before front head part is first = is ∙ ap (λ (xs : List ℕ). xs ++ part) first ∙ append_assoc front head part

pub signature_written : (r s size : ℕ) (left right contents head bytes : List ℕ) → IsInteger r left → IsInteger s right → contents ≡ left ++ right
    → length contents ≡ size → IsHead size head → bytes ≡ head ++ contents → IsSignatureEncoding r s bytes
signature_written r s size left right contents head bytes is_r is_s both long is_head is =
    record {
      left = left;
      right = right;
      left_is = is_r;
      right_is = is_s;
      is = record {
        head = head;
        is_head = subst (λ (n : ℕ). IsHead n head) (sym long ∙ ap length both) is_head;
        is = is ∙ ap (λ (xs : List ℕ). head ++ xs) both;
      };
    }

-- ---- an INTEGER that is read

-- what bytes have that begin with an INTEGER
pub record IsRead (contents rest bytes : List ℕ) : Type 0 where
  pub long : 3 ≤ length bytes
  pub tag : slice_index bytes 0 ≡ 2
  pub size : slice_index bytes 1 ≡ length contents
  pub room : 2 + length contents ≤ length bytes
  pub contents_is : take (length contents) (drop 2 bytes) ≡ contents
  pub rest_is : drop (2 + length contents) bytes ≡ rest

read_first : (contents rest : List ℕ) → 0 < length contents → IsRead contents rest (2 ∷ length contents ∷ (contents ++ rest))
read_first contents rest some =
    let both : length (contents ++ rest) ≡ length contents + length rest = length-append contents rest in
    let next : 2 + length contents ≡ suc (suc (length contents)) = omega arith in
    record {
      long = omega (arith, both, some);
      tag = refl;
      size = refl;
      room = omega (arith, both);
      contents_is = kept rest contents contents (length contents) refl refl;
      rest_is = ap (λ (n : ℕ). drop n (2 ∷ length contents ∷ (contents ++ rest))) next ∙ drop-append_seam contents rest;
    }

pub integer_read : (contents rest bytes : List ℕ) → BeginsWithInteger contents rest bytes → IsRead contents rest bytes
integer_read contents rest bytes begins =
    let is : bytes ≡ 2 ∷ length contents ∷ (contents ++ rest) = begins.is ∙ ap (λ (xs : List ℕ). xs ++ rest) begins.integer.is in
    subst (λ (bs : List ℕ). IsRead contents rest bs) (sym is) (read_first contents rest begins.integer.some)

-- what the tests find is an INTEGER
pub integer_from : (bytes contents rest : List ℕ) (size : ℕ) → 3 ≤ length bytes → slice_index bytes 0 ≡ 2 → size ≡ slice_index bytes 1 → 0 < size
    → size ≤ 67 → 2 + size ≤ length bytes → contents ≡ take (2 + size - 2) (drop 2 bytes)
    → rest ≡ take (length bytes - (2 + size)) (drop (2 + size) bytes) → IsMinimal contents → BeginsWithInteger contents rest bytes
integer_from [] contents rest size long tag is some few room front end minimal = absurd (omega (arith, long))
integer_from (t ∷ []) contents rest size long tag is some few room front end minimal = absurd (omega (arith, long))
integer_from (t ∷ l ∷ more) contents rest size long tag is some few room front end minimal =
    let first : contents ≡ take size more = front ∙ ap (λ (n : ℕ). take n more) (omega arith) in
    let next : 2 + size ≡ suc (suc size) = omega arith in
    let last : rest ≡ drop size more =
    end ∙ ap (λ (n : ℕ). take (suc (suc (length more)) - (2 + size)) (drop n (t ∷ l ∷ more))) next
    ∙ ap (λ (n : ℕ). take n (drop size more)) (omega (arith, length-drop size more)) ∙ take-length (drop size more) in
    let size_is : length contents ≡ size = ap length first ∙ length-take-le size more (omega (arith, room)) in
    record {
      part = 2 ∷ length contents ∷ contents;
      integer = record { some = omega (arith, size_is, some); few = omega (arith, size_is, few); minimal = minimal; is = refl };
      is = (λ i. tag i ∷ (sym is ∙ sym size_is) i ∷ sym (take-append-drop size more) i) ∙ (λ i. 2 ∷ length contents ∷ (sym first i ++ sym last i));
    }

-- bytes begin with one INTEGER
pub one_contents : (contents rest other others bytes : List ℕ) → BeginsWithInteger contents rest bytes → BeginsWithInteger other others bytes
    → contents ≡ other
one_contents contents rest other others bytes left right =
    let l = integer_read contents rest bytes left in
    let r = integer_read other others bytes right in
    sym l.contents_is ∙ ap (λ (n : ℕ). take n (drop 2 bytes)) (sym l.size ∙ r.size) ∙ r.contents_is

pub one_rest : (contents rest other others bytes : List ℕ) → BeginsWithInteger contents rest bytes → BeginsWithInteger other others bytes
    → rest ≡ others
one_rest contents rest other others bytes left right =
    let l = integer_read contents rest bytes left in
    let r = integer_read other others bytes right in
    sym l.rest_is ∙ ap (λ (n : ℕ). drop (2 + n) bytes) (sym l.size ∙ r.size) ∙ r.rest_is

-- ---- a SEQUENCE that is read

-- what a SEQUENCE has with a length of one byte, and of two
pub record IsShort (contents bytes : List ℕ) : Type 0 where
  pub tag : slice_index bytes 0 ≡ 0x30
  pub size : slice_index bytes 1 ≡ length contents
  pub low : length contents < 128
  pub long : length bytes ≡ 2 + length contents
  pub contents_is : drop 2 bytes ≡ contents

pub record IsLong (contents bytes : List ℕ) : Type 0 where
  pub tag : slice_index bytes 0 ≡ 0x30
  pub form : slice_index bytes 1 ≡ 0x81
  pub size : slice_index bytes 2 ≡ length contents
  pub high : 128 ≤ length contents
  pub long : length bytes ≡ 3 + length contents
  pub contents_is : drop 3 bytes ≡ contents

pub sequence_read : (contents bytes : List ℕ) → IsSequence contents bytes → IsShort contents bytes ⊎ IsLong contents bytes
sequence_read contents bytes sequence =
    elim sequence.is_head [
      | inl short ↦
          let is : bytes ≡ 0x30 ∷ length contents ∷ contents = sequence.is ∙ ap (λ (head : List ℕ). head ++ contents) short.1 in
          let plain : IsShort contents (0x30 ∷ length contents ∷ contents) =
          record { tag = refl; size = refl; low = short.0; long = omega arith; contents_is = refl } in
          inl (subst (λ (bs : List ℕ). IsShort contents bs) (sym is) plain)
      | inr long ↦
          let is : bytes ≡ 0x30 ∷ 0x81 ∷ length contents ∷ contents = sequence.is ∙ ap (λ (head : List ℕ). head ++ contents) long.1 in
          let plain : IsLong contents (0x30 ∷ 0x81 ∷ length contents ∷ contents) =
          record { tag = refl; form = refl; size = refl; high = long.0; long = omega arith; contents_is = refl } in
          inr (subst (λ (bs : List ℕ). IsLong contents bs) (sym is) plain)
    ]

pub one_sequence : (contents other bytes : List ℕ) → IsSequence contents bytes → IsSequence other bytes → contents ≡ other
one_sequence contents other bytes left right =
    elim (sequence_read contents bytes left) [
      | inl short ↦
          elim (sequence_read other bytes right) [
            | inl again ↦ sym short.contents_is ∙ again.contents_is
            | inr long ↦ absurd (omega (arith, short.size, short.low, long.form))
          ]
      | inr long ↦
          elim (sequence_read other bytes right) [
            | inl short ↦ absurd (omega (arith, short.size, short.low, long.form))
            | inr again ↦ sym long.contents_is ∙ again.contents_is
          ]
    ]

pub short_from : (bytes contents : List ℕ) → 2 ≤ length bytes → slice_index bytes 0 ≡ 0x30 → slice_index bytes 1 < 128
    → length bytes ≡ 2 + slice_index bytes 1 → contents ≡ take (length bytes - 2) (drop 2 bytes) → IsSequence contents bytes
short_from [] contents long tag low size is = absurd (omega (arith, long))
short_from (t ∷ []) contents long tag low size is = absurd (omega (arith, long))
short_from (t ∷ l ∷ more) contents long tag low size is =
    let all : contents ≡ more = is ∙ ap (λ (n : ℕ). take n more) (omega arith) ∙ take-length more in
    let size_is : l ≡ length contents = omega (arith, size, ap length all) in
    record {
      head = 0x30 ∷ length contents ∷ [];
      is_head = inl (omega (arith, low, size_is), refl);
      is = λ i. tag i ∷ size_is i ∷ sym all i;
    }

pub long_from : (bytes contents : List ℕ) → 3 ≤ length bytes → slice_index bytes 0 ≡ 0x30 → slice_index bytes 1 ≡ 0x81 → 128 ≤ slice_index bytes 2
    → length bytes ≡ 3 + slice_index bytes 2 → contents ≡ take (length bytes - 3) (drop 3 bytes) → IsSequence contents bytes
long_from [] contents long tag form high size is = absurd (omega (arith, long))
long_from (t ∷ []) contents long tag form high size is = absurd (omega (arith, long))
long_from (t ∷ f ∷ []) contents long tag form high size is = absurd (omega (arith, long))
long_from (t ∷ f ∷ l ∷ more) contents long tag form high size is =
    let all : contents ≡ more = is ∙ ap (λ (n : ℕ). take n more) (omega arith) ∙ take-length more in
    let size_is : l ≡ length contents = omega (arith, size, ap length all) in
    record {
      head = 0x30 ∷ 0x81 ∷ length contents ∷ [];
      is_head = inr (omega (arith, high, size_is), refl);
      is = λ i. tag i ∷ form i ∷ size_is i ∷ sym all i;
    }

-- ---- a signature that is read

starts : (r : ℕ) (left right contents : List ℕ) (is : IsInteger r left) → contents ≡ left ++ right → BeginsWithInteger is.contents right contents
starts r left right contents is both = record { part = left; integer = is.integer; is = both }

-- where the contents begin with no INTEGER
pub no_first : (r s : ℕ) (contents bytes : List ℕ) → IsSequence contents bytes → ((c rest : List ℕ) → BeginsWithInteger c rest contents → ⊥)
    → IsSignatureEncoding r s bytes → ⊥
no_first r s contents bytes sequence none encoded =
    let both : contents ≡ encoded.left ++ encoded.right = one_sequence contents (encoded.left ++ encoded.right) bytes sequence encoded.is in
    none encoded.left_is.contents encoded.right (starts r encoded.left encoded.right contents encoded.left_is both)

right_of : (r s : ℕ) (contents first rest bytes : List ℕ) → IsSequence contents bytes → BeginsWithInteger first rest contents
    → (encoded : IsSignatureEncoding r s bytes) → rest ≡ encoded.right
right_of r s contents first rest bytes sequence begins encoded =
    let both : contents ≡ encoded.left ++ encoded.right = one_sequence contents (encoded.left ++ encoded.right) bytes sequence encoded.is in
    one_rest first rest encoded.left_is.contents encoded.right contents begins (starts r encoded.left encoded.right contents encoded.left_is both)

second_of : (r s : ℕ) (contents first rest bytes : List ℕ) → IsSequence contents bytes → BeginsWithInteger first rest contents
    → (encoded : IsSignatureEncoding r s bytes) → BeginsWithInteger encoded.right_is.contents [] rest
second_of r s contents first rest bytes sequence begins encoded =
    starts s encoded.right [] rest encoded.right_is (right_of r s contents first rest bytes sequence begins encoded ∙ sym (append-nil encoded.right))

pub no_second : (r s : ℕ) (contents first rest bytes : List ℕ) → IsSequence contents bytes → BeginsWithInteger first rest contents
    → ((c others : List ℕ) → BeginsWithInteger c others rest → ⊥) → IsSignatureEncoding r s bytes → ⊥
no_second r s contents first rest bytes sequence begins none encoded =
    none encoded.right_is.contents [] (second_of r s contents first rest bytes sequence begins encoded)

pub no_end : (r s : ℕ) (contents first rest second others bytes : List ℕ) → IsSequence contents bytes → BeginsWithInteger first rest contents
    → BeginsWithInteger second others rest → (others ≡ [] → ⊥) → IsSignatureEncoding r s bytes → ⊥
no_end r s contents first rest second others bytes sequence begins next some encoded =
    some (one_rest second others encoded.right_is.contents [] rest next (second_of r s contents first rest bytes sequence begins encoded))

pub signature_read : (contents first rest second others bytes : List ℕ) → IsSequence contents bytes → BeginsWithInteger first rest contents
    → BeginsWithInteger second others rest → others ≡ [] → IsSignatureEncoding (number_of_bytes first) (number_of_bytes second) bytes
signature_read contents first rest second others bytes sequence begins next none =
    let end : rest ≡ next.part = next.is ∙ ap (λ (xs : List ℕ). next.part ++ xs) none ∙ append-nil next.part in
    let both : contents ≡ begins.part ++ next.part = begins.is ∙ ap (λ (xs : List ℕ). begins.part ++ xs) end in
    record {
      left = begins.part;
      right = next.part;
      left_is = record { contents = first; integer = begins.integer; number = refl };
      right_is = record { contents = second; integer = next.integer; number = refl };
      is = subst (λ (cs : List ℕ). IsSequence cs bytes) both sequence;
    }

-- ---- leading zeros

pub zero_passed : (bs : List ℕ) (i : ℕ) → i < length bs → slice_index bs i ≡ 0 → number_of_bytes (drop (i + 1) bs) ≡ number_of_bytes (drop i bs)
zero_passed bs i within none =
    sym (ap number_of_bytes (drop_more bs i 0 within) ∙ ap (λ (b : ℕ). number_of_bytes (b ∷ drop (i + 1) bs)) none ∙ zero_first (drop (i + 1) bs))

-- the bytes from a place on, as a slice has them
pub rest_is : (n : ℕ) (bs : List ℕ) → take (length bs - n) (drop n bs) ≡ drop n bs
rest_is n bs = ap (λ (k : ℕ). take k (drop n bs)) (sym (length-drop n bs)) ∙ take-length (drop n bs)

pub rest_number : (n : ℕ) (bs : List ℕ) → number_of_bytes (drop n bs) ≡ number_of_bytes bs
    → number_of_bytes (take (length bs - n) (drop n bs)) ≡ number_of_bytes bs
rest_number n bs is = ap number_of_bytes (rest_is n bs) ∙ is

pub rest_first : (n : ℕ) (bs : List ℕ) → slice_index (take (length bs - n) (drop n bs)) 0 ≡ slice_index bs n
rest_first n bs = ap (λ (xs : List ℕ). slice_index xs 0) (rest_is n bs) ∙ get_or-drop n bs 0 0 ∙ ap (slice_index bs) (omega arith)

-- ---- whether bytes are left

none_left : (bs : List ℕ) → length bs ≡ 0 → bs ≡ []
none_left [] none = refl
none_left (b ∷ bs) none = absurd (omega (arith, none))

pub nothing_left : (bs : List ℕ) (empty : Bool) → empty ≡ eqb (length bs) 0 → empty ≡ true → bs ≡ []
nothing_left bs empty is holds = none_left bs (grind (arith, nat_tests, is, holds))

pub something_left : (bs : List ℕ) (empty : Bool) → empty ≡ eqb (length bs) 0 → empty ≡ false → bs ≡ [] → ⊥
something_left bs empty is fails none =
    let zero_length : length bs ≡ 0 = ap length none in
    grind (arith, nat_tests, is, fails, zero_length)
