-- The message that EME-PKCS1-v1_5 encodes, by what the library says of it.
use Rattle.std.proofs.Common.{◌≡◌, ◌≢◌, ◌≤◌, ◌+◌, ◌∙◌, ◌∷◌, ◌++◌, [], ℕ, zero, suc, List, length, Option, Some, None, inl, inr, refl, sym, ap, arith}
use Rattle.std.proofs.lemmas.Bool.{cases_Bool, cond-false, cond-true, eq-eqb, eqb-true, le-leb, leb-true, ne_eqb, and_parts, cases_eq}
use Rattle.std.specs.Option.{option_map}
use Rattle.std.specs.Prelude.{MatchOption, ◌==◌, ◌&&◌, ◌⊎◌, nat_le, if◌then◌else◌}
use Rattle.jc_rsa.specs.EmePkcs1.{AreNonzero, IsEncryptionBlock, encryption_block}
use Rattle.jc_public_keys.specs.RsaCiphers.{after_padding, pkcs1_message}

-- a padding without zeros is passed
passed : (count : ℕ) (ps m : List ℕ) → AreNonzero ps → 8 ≤ count + length ps → after_padding count (ps ++ 0 ∷ m) ≡ Some m
unfolding after_padding
passed count [] m nonzero long = cond-true (nat_le 8 count) (Some m) None (le-leb 8 count (omega arith))
passed count (x ∷ xs) m nonzero long =
    let some : x ≢ 0 = nonzero 0 (omega arith) in
    cond-false (x == 0) _ (after_padding (suc count) (xs ++ 0 ∷ m)) (ne_eqb x 0 some)
    ∙ passed (suc count) xs m (λ i below. nonzero (suc i) (omega (arith, below))) (omega arith)

block_is : (ps m : List ℕ) → encryption_block ps m ≡ 0 ∷ 2 ∷ ps ++ 0 ∷ m
unfolding encryption_block
block_is ps m = refl

pub of_block : (m em : List ℕ) → IsEncryptionBlock m em → pkcs1_message em ≡ Some m
unfolding pkcs1_message
of_block m em is = ap pkcs1_message (is.is ∙ block_is is.padding m) ∙ passed 0 is.padding m is.nonzero (omega (arith, is.long))

-- a rest that is passed has such a padding
record HasPadding (count : ℕ) (rest m : List ℕ) : Type 0 where
  padding : List ℕ
  nonzero : AreNonzero padding
  long : 8 ≤ count + length padding
  is : rest ≡ padding ++ 0 ∷ m

more_nonzero : (x : ℕ) (ps : List ℕ) → x ≢ 0 → AreNonzero ps → AreNonzero (x ∷ ps)
more_nonzero x ps some rest zero below = some
more_nonzero x ps some rest (suc i) below = rest i (omega (arith, below))

no_nonzero : AreNonzero []
no_nonzero i below = absurd (omega (arith, below))

ended : (count : ℕ) (xs m : List ℕ) → (if nat_le 8 count then Some xs else None) ≡ Some m → HasPadding count (0 ∷ xs) m
ended count xs m is = elim (cases_Bool (nat_le 8 count)) as (λ _. HasPadding count (0 ∷ xs) m) [
  | inl holds ↦
      let one : Some xs ≡ Some m = sym (cond-true (nat_le 8 count) (Some xs) None holds) ∙ is in
      let same : xs ≡ m = cc in
      record { padding = []; nonzero = no_nonzero; long = omega (arith, leb-true 8 count holds); is = ap (λ (l : List ℕ). 0 ∷ l) same }
  | inr fails ↦
      let none : None ≡ Some m = sym (cond-false (nat_le 8 count) (Some xs) None fails) ∙ is in
      absurd (cc)
]

found : (count : ℕ) (rest m : List ℕ) → after_padding count rest ≡ Some m → HasPadding count rest m
unfolding after_padding
found count [] m is = absurd (cc)
found count (x ∷ xs) m is = elim (cases_eq x 0) as (λ _. HasPadding count (x ∷ xs) m) [
  | inl zero_first ↦
      let ends = ended count xs m (sym (cond-true (x == 0) _ (after_padding (suc count) xs) (eq-eqb x 0 zero_first)) ∙ is) in
      record { padding = ends.padding; nonzero = ends.nonzero; long = ends.long; is = ap (λ (n : ℕ). n ∷ xs) zero_first ∙ ends.is }
  | inr some ↦
      let next = found (suc count) xs m (sym (cond-false (x == 0) _ (after_padding (suc count) xs) (ne_eqb x 0 some)) ∙ is) in
      record {
        padding = x ∷ next.padding;
        nonzero = more_nonzero x next.padding some next.nonzero;
        long = omega (arith, next.long);
        is = ap (λ (l : List ℕ). x ∷ l) next.is;
      }
]

option_cases : (o : Option (List ℕ)) → (o ≡ None) ⊎ ((m : List ℕ) × (o ≡ Some m))
option_cases None = inl refl
option_cases (Some m) = inr (m, refl)

of_rest : (rest em : List ℕ) → em ≡ 0 ∷ 2 ∷ rest → ((m : List ℕ) → ¬ (IsEncryptionBlock m em)) → after_padding 0 rest ≡ None
of_rest rest em is none = elim (option_cases (after_padding 0 rest)) as (λ _. after_padding 0 rest ≡ None) [
  | inl nothing ↦ nothing
  | inr some ↦
      let m : List ℕ = some.0 in
      let has = found 0 rest m some.1 in
      absurd (none m (record {
        padding = has.padding;
        long = omega (arith, has.long);
        nonzero = has.nonzero;
        is = is ∙ ap (λ (l : List ℕ). 0 ∷ 2 ∷ l) has.is ∙ sym (block_is has.padding m);
      }))
]

pub of_none : (em : List ℕ) → ((m : List ℕ) → ¬ (IsEncryptionBlock m em)) → pkcs1_message em ≡ None
unfolding pkcs1_message
of_none [] none = refl
of_none (x ∷ []) none = refl
of_none (x ∷ y ∷ rest) none = elim (cases_Bool (x == 0 && y == 2)) as (λ _. pkcs1_message (x ∷ y ∷ rest) ≡ None) [
  | inl holds ↦
      let both = and_parts (x == 0) (y == 2) holds in
      let first : x ≡ 0 = eqb-true x 0 both.0 in
      let second : y ≡ 2 = eqb-true y 2 both.1 in
      cond-true (x == 0 && y == 2) (after_padding 0 rest) None holds ∙ of_rest rest (x ∷ y ∷ rest) (λ j. first j ∷ second j ∷ rest) none
  | inr fails ↦ cond-false (x == 0 && y == 2) (after_padding 0 rest) None fails
]

pub told : {T : Type 0} (o : Option T) (f : T → List ℕ) (em : List ℕ)
    → MatchOption o ((m : List ℕ) → ¬ (IsEncryptionBlock m em)) (λ t. IsEncryptionBlock (f t) em) → option_map f o ≡ pkcs1_message em
told None f em is = sym (of_none em is)
told (Some t) f em is = sym (of_block (f t) em is)
