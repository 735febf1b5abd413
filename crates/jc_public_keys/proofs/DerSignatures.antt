-- Signatures in DER are what the relations of jc_curves hold of.
use Rattle.std.proofs.Common.{◌≡◌, ◌≢◌, ◌≤◌, ◌<◌, ◌+◌, ◌-◌, ◌*◌, ◌^◌, ◌∙◌, ◌∷◌, ◌++◌, [], ℕ, zero, suc, List, true, append_assoc, drop, get_or, length, length-append, replicate, Option, Some, None, inl, inr, refl, sym, ap, subst, arith}
use Rattle.std.proofs.lemmas.Bool.{and_from, and_parts, cases_Bool, cases_eq, cases_lt, cond-false, cond-true, eq-eqb, eqb-true, le-leb, leb-true, lt-leb, lt-ltb, le-ltb, ne_eqb}
use Rattle.std.proofs.lemmas.List.{drop_at, length-replicate, take_at}
use Rattle.std.proofs.lemmas.Slice.Eq.{bytes_eq-Decides}
use Rattle.std.specs.Prelude.{◌==◌, ◌&&◌, ◌⊎◌, nat_le, nat_lt}
use Rattle.std.specs.Str.{bytes_eq}
use Rattle.jc_numbers.specs.Numbers.{number_of_bytes}
use Rattle.jc_numbers.proofs.NumbersOfBytes.{byte_first}
use Rattle.jc_curves.specs.Der.{IsHead, IsInteger, IsMinimal, IsSequence, IsSignatureEncoding}
use Rattle.jc_public_keys.specs.Ecdsa.{Numbers, contents_start, der_if, der_numbers, der_of, first_number, integer_contents, integer_of, is_short}
use Rattle.jc_public_keys.specs.Ecdsa.{not_negative, second_number, sequence_of, significant}
use Rattle.jc_public_keys.specs.Rsa.{bytes_of_number}
use Rattle.jc_public_keys.proofs.BytesOfNumbers.{bytes_from}

-- ---- bytes of parts

record AreBytes (xs : List ℕ) : Type 0 where
  each : (k : ℕ) → get_or xs k 0 < 256

both : {x : ℕ} {xs : List ℕ} → x < 256 → AreBytes xs → (k : ℕ) → get_or (x ∷ xs) k 0 < 256
both first rest zero = first
both first rest (suc k) = rest.each k

first_bytes : (xs ys : List ℕ) → AreBytes (xs ++ ys) → AreBytes xs
first_bytes [] ys all = record { each = λ k. omega arith }
first_bytes (x ∷ xs) ys all =
    let rest = first_bytes xs ys (record { each = λ k. all.each (suc k) }) in
    record { each = both (all.each 0) rest }

last_bytes : (xs ys : List ℕ) → AreBytes (xs ++ ys) → AreBytes ys
last_bytes [] ys all = all
last_bytes (x ∷ xs) ys all = last_bytes xs ys (record { each = λ k. all.each (suc k) })

padded_bytes : (k : ℕ) (xs : List ℕ) → AreBytes xs → (i : ℕ) → get_or (replicate k 0 ++ xs) i 0 < 256
padded_bytes zero xs all i = all.each i
padded_bytes (suc k) xs all zero = omega arith
padded_bytes (suc k) xs all (suc i) = padded_bytes k xs all i

inner_bytes : (n : ℕ) (xs : List ℕ) → AreBytes (0x02 ∷ n ∷ xs) → AreBytes xs
inner_bytes n xs all = record { each = λ k. all.each (suc (suc k)) }

zero_sum : (n : ℕ) → 0 + n ≡ n
zero_sum n = omega arith

nothing_left : significant [] ≡ []
unfolding significant
nothing_left = refl

-- ---- contents of an INTEGER

zeros_before : (k : ℕ) (xs : List ℕ) → number_of_bytes (replicate k 0 ++ xs) ≡ number_of_bytes xs
zeros_before zero xs = refl
zeros_before (suc k) xs =
    let rest = zeros_before k xs in
    let none : 0 * 256 ^ length (replicate k 0 ++ xs) ≡ 0 = omega arith in
    byte_first 0 (replicate k 0 ++ xs) ∙ (λ j. none j + rest j) ∙ zero_sum (number_of_bytes xs)

zeros_dropped : (k : ℕ) (xs : List ℕ) → significant (replicate k 0 ++ xs) ≡ significant xs
unfolding significant
zeros_dropped zero xs = refl
zeros_dropped (suc k) xs = zeros_dropped k xs

kept : (x : ℕ) (xs : List ℕ) → x ≢ 0 → significant (x ∷ xs) ≡ x ∷ xs
unfolding significant
kept x xs some = cond-false (x == 0) (significant xs) (x ∷ xs) (ne_eqb x 0 some)

dropped : (x : ℕ) (xs : List ℕ) → x ≡ 0 → significant (x ∷ xs) ≡ significant xs
unfolding significant
dropped x xs none = cond-true (x == 0) (significant xs) (x ∷ xs) (eq-eqb x 0 none)

low_kept : (x : ℕ) (xs : List ℕ) → x < 128 → not_negative (x ∷ xs) ≡ x ∷ xs
low_kept x xs low = cond-false (nat_le 128 x) (0 ∷ x ∷ xs) (x ∷ xs) (lt-leb 128 x low)

high_after_zero : (x : ℕ) (xs : List ℕ) → 128 ≤ x → not_negative (x ∷ xs) ≡ 0 ∷ x ∷ xs
high_after_zero x xs high = cond-true (nat_le 128 x) (0 ∷ x ∷ xs) (x ∷ xs) (le-leb 128 x high)

minimal_is : (xs : List ℕ) → 0 < length xs → IsMinimal xs → not_negative (significant xs) ≡ xs
minimal_is [] some is = absurd (omega (arith, some))
minimal_is (x ∷ []) some is = elim (cases_eq x 0) as (λ _. not_negative (significant (x ∷ [])) ≡ x ∷ []) [
  | inl none ↦ ap not_negative (dropped x [] none ∙ nothing_left) ∙ ap (λ (t : ℕ). t ∷ []) (sym none)
  | inr more ↦ ap not_negative (kept x [] more) ∙ low_kept x [] is.not_negative
]
minimal_is (x ∷ y ∷ rest) some is = elim (cases_eq x 0) as (λ _. not_negative (significant (x ∷ y ∷ rest)) ≡ x ∷ y ∷ rest) [
  | inl none ↦
      let high : 128 ≤ y = is.shortest (omega arith) none in
      let other : y ≢ 0 = λ is_zero. absurd (omega (arith, high, is_zero)) in
      ap not_negative (dropped x (y ∷ rest) none ∙ kept y rest other) ∙ high_after_zero y rest high ∙ ap (λ (t : ℕ). t ∷ y ∷ rest) (sym none)
  | inr more ↦ ap not_negative (kept x (y ∷ rest) more) ∙ low_kept x (y ∷ rest) is.not_negative
]

contents_one : (n : ℕ) (xs : List ℕ) → AreBytes xs → 0 < length xs → length xs ≤ 67 → IsMinimal xs → number_of_bytes xs ≡ n → integer_contents n ≡ xs
unfolding integer_contents
contents_one n xs all some few minimal is =
    let k = 67 - length xs in
    let padded : List ℕ = replicate k 0 ++ xs in
    let long : length padded ≡ 67 = omega (arith, length-append (replicate k 0) xs, length-replicate {A = ℕ} k 0, few) in
    let padded_is : padded ≡ bytes_of_number 67 n = bytes_from padded 67 n (padded_bytes k xs all) long (zeros_before k xs ∙ is) in
    ap (λ (t : List ℕ). not_negative (significant t)) (sym padded_is) ∙ ap not_negative (zeros_dropped k xs) ∙ minimal_is xs some minimal

-- what is made is minimal
starts_high : (xs : List ℕ) → (significant xs ≡ []) ⊎ ((x : ℕ) × (ys : List ℕ) × (significant xs ≡ x ∷ ys) × (x ≢ 0))
starts_high [] = inl nothing_left
starts_high (x ∷ xs) = elim (cases_eq x 0) as (λ _. (significant (x ∷ xs) ≡ []) ⊎ ((z : ℕ) × (ys : List ℕ) × (significant (x ∷ xs) ≡ z ∷ ys) × (z ≢ 0))) [
  | inl none ↦ elim (starts_high xs) as (λ _. (significant (x ∷ xs) ≡ []) ⊎ ((z : ℕ) × (ys : List ℕ) × (significant (x ∷ xs) ≡ z ∷ ys) × (z ≢ 0))) [
    | inl nothing ↦ inl (dropped x xs none ∙ nothing)
    | inr some ↦ inr (some.0, some.1, dropped x xs none ∙ some.2, some.3)
  ]
  | inr more ↦ inr (x, xs, kept x xs more, more)
]

record IsGood (xs : List ℕ) : Type 0 where
  some : 0 < length xs
  minimal : IsMinimal xs

good_after : (x : ℕ) (ys : List ℕ) → x ≢ 0 → IsGood (not_negative (x ∷ ys))
good_after x ys other = elim (cases_lt x 128) as (λ _. IsGood (not_negative (x ∷ ys))) [
  | inl low ↦ subst IsGood (sym (low_kept x ys low)) (record {
    some = omega arith;
    minimal = record { not_negative = low; shortest = λ two none. absurd (other none) };
  })
  | inr high ↦ subst IsGood (sym (high_after_zero x ys high)) (record {
    some = omega arith;
    minimal = record { not_negative = omega arith; shortest = λ two none. high };
  })
]

good_none : IsGood (0 ∷ [])
good_none = record { some = omega arith; minimal = record { not_negative = omega arith; shortest = λ two none. absurd (omega (arith, two)) } }

good : (n : ℕ) → IsGood (integer_contents n)
unfolding integer_contents
good n = elim (starts_high (bytes_of_number 67 n)) as (λ _. IsGood (integer_contents n)) [
  | inl nothing ↦ subst (λ (t : List ℕ). IsGood (not_negative t)) (sym nothing) good_none
  | inr some ↦ subst (λ (t : List ℕ). IsGood (not_negative t)) (sym some.2) (good_after some.0 some.1 some.3)
]

-- ---- encodings

integer_one : (n : ℕ) (part : List ℕ) (is : IsInteger n part) → AreBytes part → integer_contents n ≡ is.contents
integer_one n part is all =
    let inner : AreBytes is.contents = inner_bytes (length is.contents) is.contents (subst AreBytes is.integer.is all) in
    contents_one n is.contents inner is.integer.some is.integer.few is.integer.minimal is.number

sequence_told : (contents head bytes : List ℕ) → IsHead (length contents) head → bytes ≡ head ++ contents → bytes ≡ sequence_of contents
sequence_told contents head bytes (inl short) is =
    is ∙ ap (λ (t : List ℕ). t ++ contents) short.1
    ∙ sym (cond-true (nat_lt (length contents) 128) (0x30 ∷ length contents ∷ contents) (0x30 ∷ 0x81 ∷ length contents ∷ contents)
    (lt-ltb (length contents) 128 short.0))
sequence_told contents head bytes (inr long) is =
    is ∙ ap (λ (t : List ℕ). t ++ contents) long.1
    ∙ sym (cond-false (nat_lt (length contents) 128) (0x30 ∷ length contents ∷ contents) (0x30 ∷ 0x81 ∷ length contents ∷ contents)
    (le-ltb (length contents) 128 long.0))

sequence_is : (contents : List ℕ) → IsSequence contents (sequence_of contents)
sequence_is contents = elim (cases_lt (length contents) 128) as (λ _. IsSequence contents (sequence_of contents)) [
  | inl short ↦ record {
    head = 0x30 ∷ length contents ∷ [];
    is_head = inl (short, refl);
    is = cond-true (nat_lt (length contents) 128) (0x30 ∷ length contents ∷ contents) (0x30 ∷ 0x81 ∷ length contents ∷ contents)
        (lt-ltb (length contents) 128 short);
  }
  | inr long ↦ record {
    head = 0x30 ∷ 0x81 ∷ length contents ∷ [];
    is_head = inr (long, refl);
    is = cond-false (nat_lt (length contents) 128) (0x30 ∷ length contents ∷ contents) (0x30 ∷ 0x81 ∷ length contents ∷ contents)
        (le-ltb (length contents) 128 long);
  }
]

-- an encoding of r and s
record HasParts (r s : ℕ) (bytes : List ℕ) : Type 0 where
  is : bytes ≡ der_of r s
  short_r : is_short r ≡ true
  short_s : is_short s ≡ true

short_is : (n : ℕ) (part : List ℕ) (is : IsInteger n part) → AreBytes part → is_short n ≡ true
short_is n part is all =
    let one = integer_one n part is all in
    let few : length (integer_contents n) ≤ 67 = subst (λ (t : List ℕ). length t ≤ 67) (sym one) is.integer.few in
    let number : number_of_bytes (integer_contents n) ≡ n = ap number_of_bytes one ∙ is.number in
    and_from (nat_le (length (integer_contents n)) 67) (number_of_bytes (integer_contents n) == n) (le-leb (length (integer_contents n)) 67 few)
    (eq-eqb (number_of_bytes (integer_contents n)) n number)

encoded : (r s : ℕ) (bytes : List ℕ) → AreBytes bytes → IsSignatureEncoding r s bytes → HasParts r s bytes
unfolding der_of
encoded r s bytes all is =
    let inside : AreBytes (is.left ++ is.right) = last_bytes is.is.head (is.left ++ is.right) (subst AreBytes is.is.is all) in
    let left_all : AreBytes is.left = first_bytes is.left is.right inside in
    let right_all : AreBytes is.right = last_bytes is.left is.right inside in
    let left : is.left ≡ integer_of (integer_contents r) = is.left_is.integer.is ∙ ap integer_of (sym (integer_one r is.left is.left_is left_all)) in
    let right : is.right ≡ integer_of (integer_contents s) = is.right_is.integer.is ∙ ap integer_of (sym (integer_one s is.right is.right_is right_all)) in
    record {
      is = sequence_told (is.left ++ is.right) is.is.head bytes is.is.is_head is.is.is ∙ (λ j. sequence_of (left j ++ right j));
      short_r = short_is r is.left is.left_is left_all;
      short_s = short_is s is.right is.right_is right_all;
    }

integer_is : (n : ℕ) → is_short n ≡ true → IsInteger n (integer_of (integer_contents n))
integer_is n short =
    let both = and_parts (nat_le (length (integer_contents n)) 67) (number_of_bytes (integer_contents n) == n) short in
    let made = good n in
    record {
      contents = integer_contents n;
      integer = record { some = made.some; few = leb-true (length (integer_contents n)) 67 both.0; minimal = made.minimal; is = refl };
      number = eqb-true (number_of_bytes (integer_contents n)) n both.1;
    }

encoding_is : (r s : ℕ) → is_short r ≡ true → is_short s ≡ true → IsSignatureEncoding r s (der_of r s)
unfolding der_of
encoding_is r s short_r short_s = record {
  left = integer_of (integer_contents r);
  right = integer_of (integer_contents s);
  left_is = integer_is r short_r;
  right_is = integer_is s short_s;
  is = sequence_is (integer_of (integer_contents r) ++ integer_of (integer_contents s));
}

-- ---- decoding

short_start : (bytes contents : List ℕ) → length contents < 128 → bytes ≡ 0x30 ∷ length contents ∷ contents → drop (contents_start bytes) bytes ≡ contents
short_start bytes contents few is =
    let all : List ℕ = 0x30 ∷ length contents ∷ contents in
    let other : length contents ≢ 0x81 = λ same. absurd (omega (arith, few, same)) in
    let start : contents_start all ≡ 2 = cond-false (length contents == 0x81) 3 2 (ne_eqb (length contents) 0x81 other) in
    ap (λ (t : List ℕ). drop (contents_start t) t) is ∙ ap (λ (n : ℕ). drop n all) start

long_start : (bytes contents : List ℕ) → bytes ≡ 0x30 ∷ 0x81 ∷ length contents ∷ contents → drop (contents_start bytes) bytes ≡ contents
long_start bytes contents is = ap (λ (t : List ℕ). drop (contents_start t) t) is

start_is : (bytes head contents : List ℕ) → IsHead (length contents) head → bytes ≡ head ++ contents → drop (contents_start bytes) bytes ≡ contents
start_is bytes head contents (inl short) is = short_start bytes contents short.0 (is ∙ ap (λ (t : List ℕ). t ++ contents) short.1)
start_is bytes head contents (inr long) is = long_start bytes contents (is ∙ ap (λ (t : List ℕ). t ++ contents) long.1)

first_is : (left right : List ℕ) → first_number (integer_of left ++ right) ≡ number_of_bytes left
first_is left right = ap number_of_bytes (take_at left right (length left) refl)

second_is : (left right : List ℕ) → second_number (integer_of left ++ integer_of right) ≡ number_of_bytes right
second_is left right =
    let front : List ℕ = (0x02 ∷ length left ∷ left) ++ (0x02 ∷ length right ∷ []) in
    let long : length front ≡ length left + 4 = omega (arith, length-append {A = ℕ} (0x02 ∷ length left ∷ left) (0x02 ∷ length right ∷ [])) in
    let parts : integer_of left ++ integer_of right ≡ front ++ right = sym (append_assoc (0x02 ∷ length left ∷ left) (0x02 ∷ length right ∷ []) right) in
    ap number_of_bytes (ap (drop (length left + 4)) parts ∙ drop_at front right (length left + 4) long)

pub der_told : (r s : ℕ) (bytes : List ℕ) → ((k : ℕ) → get_or bytes k 0 < 256) → IsSignatureEncoding r s bytes
    → der_numbers bytes ≡ Some (record { r = r; s = s })
unfolding der_numbers
der_told r s bytes small is =
    let has = encoded r s bytes (record { each = small }) is in
    let contents : List ℕ = is.left ++ is.right in
    let start : drop (contents_start bytes) bytes ≡ contents = start_is bytes is.is.head contents is.is.is_head is.is.is in
    let parts : contents ≡ integer_of is.left_is.contents ++ integer_of is.right_is.contents =
    (λ j. is.left_is.integer.is j ++ is.right_is.integer.is j) in
    let whole = start ∙ parts in
    let first : first_number (drop (contents_start bytes) bytes) ≡ r =
    ap first_number whole ∙ first_is is.left_is.contents (integer_of is.right_is.contents) ∙ is.left_is.number in
    let second : second_number (drop (contents_start bytes) bytes) ≡ s =
    ap second_number whole ∙ second_is is.left_is.contents is.right_is.contents ∙ is.right_is.number in
    let test = and_from (is_short r && is_short s) (bytes_eq bytes (der_of r s)) (and_from (is_short r) (is_short s) has.short_r has.short_s)
    ((bytes_eq-Decides bytes (der_of r s)).1 has.is) in
    (λ j. der_if bytes (first j) (second j))
    ∙ cond-true ((is_short r && is_short s) && bytes_eq bytes (der_of r s)) (Some (record { r = r; s = s })) None test

told_der : (bytes : List ℕ) (r s : ℕ) (v : Numbers) → der_if bytes r s ≡ Some v → IsSignatureEncoding v.r v.s bytes
told_der bytes r s v is = elim (cases_Bool ((is_short r && is_short s) && bytes_eq bytes (der_of r s))) as (λ _. IsSignatureEncoding v.r v.s bytes) [
  | inl holds ↦
      let parts = and_parts (is_short r && is_short s) (bytes_eq bytes (der_of r s)) holds in
      let shorts = and_parts (is_short r) (is_short s) parts.0 in
      let same_bytes : bytes ≡ der_of r s = (bytes_eq-Decides bytes (der_of r s)).0 parts.1 in
      let one : Some (record { r = r; s = s }) ≡ Some v =
      sym (cond-true ((is_short r && is_short s) && bytes_eq bytes (der_of r s)) (Some (record { r = r; s = s })) None holds) ∙ is in
      let same : ◌≡◌ {A = Numbers} (record { r = r; s = s }) v = cc in
      subst (λ (u : Numbers). IsSignatureEncoding u.r u.s bytes) same
      (subst (λ (t : List ℕ). IsSignatureEncoding r s t) (sym same_bytes) (encoding_is r s shorts.0 shorts.1))
  | inr fails ↦
      let none : None ≡ Some v =
      sym (cond-false ((is_short r && is_short s) && bytes_eq bytes (der_of r s)) (Some (record { r = r; s = s })) None fails) ∙ is in absurd (cc)
]

numbers_of : (o : Option Numbers) → (o ≡ None) ⊎ ((v : Numbers) × (o ≡ Some v))
numbers_of None = inl refl
numbers_of (Some v) = inr (v, refl)

pub der_untold : (bytes : List ℕ) → ((r s : ℕ) → ¬ (IsSignatureEncoding r s bytes)) → der_numbers bytes ≡ None
unfolding der_numbers
der_untold bytes none = elim (numbers_of (der_numbers bytes)) as (λ _. der_numbers bytes ≡ None) [
  | inl nothing ↦ nothing
  | inr some ↦ absurd (none (some.0).r (some.0).s (told_der bytes _ _ some.0 some.1))
]

-- what is encoded
pub der_is : (r s : ℕ) (bytes : List ℕ) → ((k : ℕ) → get_or bytes k 0 < 256) → IsSignatureEncoding r s bytes → bytes ≡ der_of r s
der_is r s bytes small is = (encoded r s bytes (record { each = small }) is).is
