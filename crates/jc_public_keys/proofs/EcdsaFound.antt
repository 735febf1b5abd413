-- Signatures by ECDSA are what the relations of jc_curves hold of.
use Rattle.std.proofs.Common.{◌≡◌, ◌≢◌, ◌<◌, ◌+◌, ◌*◌, ◌%◌, ◌∙◌, ℕ, true, false, Option, Some, None, inl, inr, refl, sym, ap, subst, arith}
use Rattle.std.proofs.lemmas.Bool.{and_from, and_parts, cases_Bool, cases_eq, cond-false, cond-true, eq-eqb, eqb-true, ne_eqb}
use Rattle.std.proofs.lemmas.Bool.Decides.{Decides-and, Decides-ltb}
use Rattle.std.specs.Bool.{Decides}
use Rattle.std.specs.Prelude.{◌==◌, ◌&&◌, ◌⊎◌, nat_lt}
use Rattle.jc_numbers.specs.Inverses.{IsInverse}
use Rattle.jc_curves.specs.Calls.{HasX, IsBelowOrder, IsSignature, IsVerified}
use Rattle.jc_curves.specs.Curves.{CurveNumbers}
use Rattle.jc_curves.specs.Points.{Point, Infinity, At, IsMultiple}
use Rattle.jc_curves.proofs.Congruences.{divided, equals, products}
use Rattle.jc_public_keys.specs.CurveSums.{inverse_of, multiple_of, sum_of}
use Rattle.jc_public_keys.specs.Ecdsa.{Numbers, has_x, is_in_order, is_verified, signed, sum_has_x, verified_by, with_inverse, with_multiple, with_r, with_s}
use Rattle.jc_public_keys.proofs.InversesFound.{found_is, inverse_found}
use Rattle.jc_public_keys.proofs.MultiplesFound.{multiple_back, multiple_found}
use Rattle.jc_public_keys.proofs.SumsFound.{sum_back, sum_found}

point_cases : (o : Option Point) → (o ≡ None) ⊎ ((q : Point) × (o ≡ Some q))
point_cases None = inl refl
point_cases (Some q) = inr (q, refl)

-- inverses of one number are congruent
one_inverse : (n x i j : ℕ) → 1 < n → IsInverse n x i → IsInverse n x j → i % n ≡ j % n
one_inverse n x i j above first second =
    let turned : (k : ℕ) → k * x ≡ x * k = λ k. grind arith in
    divided n i j x above (i, first) (equals n (i * x) (x * i) (turned i) ∙ first ∙ sym second ∙ sym (equals n (j * x) (x * j) (turned j)))

-- ---- signing

in_order : (c : CurveNumbers) (k : ℕ) → Decides (is_in_order c k) (IsBelowOrder c k)
in_order c k = Decides-and (nat_lt 0 k) (nat_lt k c.n) (Decides-ltb 0 k) (Decides-ltb k c.n)

-- numbers that sign are the signature found
pub found_signature : (c : CurveNumbers) (d e k r s : ℕ) → 1 < c.p → 1 < c.n → IsBelowOrder c d → IsBelowOrder c k → IsSignature c d e k r s
    → signed c d e k ≡ Some (record { r = r; s = s })
unfolding signed
found_signature c d e k r s field above d_in k_in is =
    let point : Point = At is.x is.y in
    let both = and_from (is_in_order c d) (is_in_order c k) ((in_order c d).1 d_in) ((in_order c k).1 k_in) in
    let multiple : Option Point = multiple_of c.p c.a k (At c.x c.y) in
    let told : multiple ≡ Some point = multiple_found c.p field c.a k (At c.x c.y) point is.point in
    let r_some : is.x % c.n ≢ 0 = λ none. omega (arith, is.r_some, is.r_is, none) in
    let found = inverse_found c.n k above (is.inverse, is.inverted) in
    let i : ℕ = found.0 in
    let same : i % c.n ≡ is.inverse % c.n = one_inverse c.n k i is.inverse above (found_is c.n k i found.1) is.inverted in
    let s_is : (i * (e + (is.x % c.n) * d)) % c.n ≡ s =
    products c.n i is.inverse (e + (is.x % c.n) * d) (e + (is.x % c.n) * d) same refl
    ∙ ap (λ (t : ℕ). (is.inverse * (e + t * d)) % c.n) (sym is.r_is) ∙ sym is.s_is in
    let r_back : is.x % c.n ≡ r = sym is.r_is in
    let s_some : (i * (e + (is.x % c.n) * d)) % c.n ≢ 0 = λ none. omega (arith, is.s_some, s_is, none) in
    cond-true (is_in_order c d && is_in_order c k) (with_multiple c d e k multiple) None both
    ∙ ap (with_multiple c d e k) told
    ∙ cond-false (is.x % c.n == 0) None (with_inverse c d e (is.x % c.n) (inverse_of c.n k)) (ne_eqb (is.x % c.n) 0 r_some)
    ∙ ap (with_inverse c d e (is.x % c.n)) found.1
    ∙ cond-false ((i * (e + (is.x % c.n) * d)) % c.n == 0) None (Some (record { r = is.x % c.n; s = (i * (e + (is.x % c.n) * d)) % c.n }))
    (ne_eqb ((i * (e + (is.x % c.n) * d)) % c.n) 0 s_some)
    ∙ (λ j. Some (record { r = r_back j; s = s_is j }))

number_cases : (o : Option ℕ) → (o ≡ None) ⊎ ((i : ℕ) × (o ≡ Some i))
number_cases None = inl refl
number_cases (Some i) = inr (i, refl)

numbers_cases : (o : Option Numbers) → (o ≡ None) ⊎ ((v : Numbers) × (o ≡ Some v))
numbers_cases None = inl refl
numbers_cases (Some v) = inr (v, refl)

-- the signature found signs
r_signs : (c : CurveNumbers) (d e k x y : ℕ) (v : Numbers) → IsMultiple c.p c.a k (At c.x c.y) (At x y) → with_r c d e k (x % c.n) ≡ Some v
    → IsSignature c d e k v.r v.s
r_signs c d e k x y v point is = elim (cases_eq (x % c.n) 0) as (λ _. IsSignature c d e k v.r v.s) [
  | inl none ↦
      let nothing : None ≡ Some v =
      sym (cond-true (x % c.n == 0) None (with_inverse c d e (x % c.n) (inverse_of c.n k)) (eq-eqb (x % c.n) 0 none)) ∙ is in absurd (cc)
  | inr some ↦
      let r = x % c.n in
      let rest : with_inverse c d e r (inverse_of c.n k) ≡ Some v =
      sym (cond-false (r == 0) None (with_inverse c d e r (inverse_of c.n k)) (ne_eqb r 0 some)) ∙ is in
      elim (number_cases (inverse_of c.n k)) as (λ _. IsSignature c d e k v.r v.s) [
        | inl nothing ↦ let none : None ≡ Some v = sym (ap (with_inverse c d e r) nothing) ∙ rest in absurd (cc)
        | inr found ↦
            let i : ℕ = found.0 in
            let s = (i * (e + r * d)) % c.n in
            let last : with_s r s ≡ Some v = sym (ap (with_inverse c d e r) found.1) ∙ rest in
            elim (cases_eq s 0) as (λ _. IsSignature c d e k v.r v.s) [
              | inl zero_s ↦
                  let none : None ≡ Some v = sym (cond-true (s == 0) None (Some (record { r = r; s = s })) (eq-eqb s 0 zero_s)) ∙ last in absurd (cc)
              | inr some_s ↦
                  let one : Some (record { r = r; s = s }) ≡ Some v =
                  sym (cond-false (s == 0) None (Some (record { r = r; s = s })) (ne_eqb s 0 some_s)) ∙ last in
                  let same : ◌≡◌ {A = Numbers} (record { r = r; s = s }) v = cc in
                  subst (λ (u : Numbers). IsSignature c d e k u.r u.s) same (record {
                    x = x;
                    y = y;
                    point = point;
                    r_is = refl;
                    r_some = omega (arith, some);
                    inverse = i;
                    inverted = found_is c.n k i found.1;
                    s_is = refl;
                    s_some = omega (arith, some_s);
                  })
            ]
      ]
]

point_signs : (c : CurveNumbers) (d e k : ℕ) (q : Point) (v : Numbers) → IsMultiple c.p c.a k (At c.x c.y) q → with_multiple c d e k (Some q) ≡ Some v
    → IsSignature c d e k v.r v.s
point_signs c d e k Infinity v point is = absurd (cc)
point_signs c d e k (At x y) v point is = r_signs c d e k x y v point is

found_signs : (c : CurveNumbers) (d e k : ℕ) (v : Numbers) → 1 < c.p → signed c d e k ≡ Some v
    → IsBelowOrder c d × IsBelowOrder c k × IsSignature c d e k v.r v.s
unfolding signed
found_signs c d e k v field is =
    let multiple : Option Point = multiple_of c.p c.a k (At c.x c.y) in
    elim (cases_Bool (is_in_order c d && is_in_order c k)) as (λ _. IsBelowOrder c d × IsBelowOrder c k × IsSignature c d e k v.r v.s) [
      | inl holds ↦
          let both = and_parts (is_in_order c d) (is_in_order c k) holds in
          let rest : with_multiple c d e k multiple ≡ Some v =
          sym (cond-true (is_in_order c d && is_in_order c k) (with_multiple c d e k multiple) None holds) ∙ is in
          elim (point_cases multiple) as (λ _. IsBelowOrder c d × IsBelowOrder c k × IsSignature c d e k v.r v.s) [
            | inl nothing ↦ let none : None ≡ Some v = sym (ap (with_multiple c d e k) nothing) ∙ rest in absurd (cc)
            | inr found ↦
                let point = multiple_back c.p field c.a k (At c.x c.y) found.0 found.1 in (
                  (in_order c d).0 both.0,
                  (in_order c k).0 both.1,
                  point_signs c d e k found.0 v point (sym (ap (with_multiple c d e k) found.1) ∙ rest),
                )
          ]
      | inr fails ↦
          let none : None ≡ Some v = sym (cond-false (is_in_order c d && is_in_order c k) (with_multiple c d e k multiple) None fails) ∙ is in absurd (cc)
    ]

-- where nothing signs, no signature is found
pub no_signature_found : (c : CurveNumbers) (d e k : ℕ) → 1 < c.p
    → (IsBelowOrder c d → IsBelowOrder c k → (r s : ℕ) → ¬ (IsSignature c d e k r s)) → signed c d e k ≡ None
no_signature_found c d e k field none = elim (numbers_cases (signed c d e k)) as (λ _. signed c d e k ≡ None) [
  | inl nothing ↦ nothing
  | inr some ↦ let is = found_signs c d e k some.0 field some.1 in absurd (none is.0 is.1 (some.0).r (some.0).s is.2)
]

-- ---- verification

x_is_told : (c : CurveNumbers) (r : ℕ) (t : Point) → HasX c.n t r → has_x c r (Some t) ≡ true
x_is_told c r Infinity is = absurd is
x_is_told c r (At x y) is = eq-eqb r (x % c.n) is

verified_told : (c : CurveNumbers) (qx qy e r s : ℕ) → 1 < c.p → 1 < c.n → IsVerified c qx qy e r s → is_verified c (At qx qy) e r s ≡ true
unfolding is_verified
verified_told c qx qy e r s field above is =
    let q : Point = At qx qy in
    let g : Point = At c.x c.y in
    let w : ℕ = is.factors.inverse in
    let both = and_from (is_in_order c r) (is_in_order c s) ((in_order c r).1 is.r_below) ((in_order c s).1 is.s_below) in
    let found = inverse_found c.n s above (w, is.factors.inverted) in
    let i : ℕ = found.0 in
    let same : i % c.n ≡ w % c.n = one_inverse c.n s i w above (found_is c.n s i found.1) is.factors.inverted in
    let u : (e * i) % c.n ≡ is.u = products c.n e e i w refl same ∙ sym is.factors.u_is in
    let v : (r * i) % c.n ≡ is.v = products c.n r r i w refl same ∙ sym is.factors.v_is in
    let left : multiple_of c.p c.a ((e * i) % c.n) g ≡ Some is.sum.left =
    ap (λ (t : ℕ). multiple_of c.p c.a t g) u ∙ multiple_found c.p field c.a is.u g is.sum.left is.sum.left_is in
    let right : multiple_of c.p c.a ((r * i) % c.n) q ≡ Some is.sum.right =
    ap (λ (t : ℕ). multiple_of c.p c.a t q) v ∙ multiple_found c.p field c.a is.v q is.sum.right is.sum.right_is in
    let sum : sum_of c.p c.a is.sum.left is.sum.right ≡ Some is.point = sum_found c.p field c.a is.sum.left is.sum.right is.point is.sum.sum in
    let last : verified_by c q e r (inverse_of c.n s) ≡ true =
    ap (verified_by c q e r) found.1 ∙ (λ j. sum_has_x c r (left j) (right j)) ∙ ap (has_x c r) sum ∙ x_is_told c r is.point is.r_is in
    and_from (is_in_order c r && is_in_order c s) (verified_by c q e r (inverse_of c.n s)) both last

x_told : (c : CurveNumbers) (r : ℕ) (o : Option Point) → has_x c r o ≡ true → (x : ℕ) × (y : ℕ) × (o ≡ Some (At x y)) × (r ≡ x % c.n)
x_told c r None is = absurd (cc)
x_told c r (Some Infinity) is = absurd (cc)
x_told c r (Some (At x y)) is = (x, y, refl, eqb-true r (x % c.n) is)

sums_told : (c : CurveNumbers) (r : ℕ) (left right : Option Point) → sum_has_x c r left right ≡ true
    → (a : Point) × (b : Point) × (left ≡ Some a) × (right ≡ Some b) × (has_x c r (sum_of c.p c.a a b) ≡ true)
sums_told c r None right is = absurd (cc)
sums_told c r (Some left) None is = absurd (cc)
sums_told c r (Some left) (Some right) is = (left, right, refl, refl, is)

told_verifies : (c : CurveNumbers) (qx qy e r s : ℕ) → 1 < c.p → is_verified c (At qx qy) e r s ≡ true → IsVerified c qx qy e r s
unfolding is_verified
told_verifies c qx qy e r s field is =
    let q : Point = At qx qy in
    let g : Point = At c.x c.y in
    let parts = and_parts (is_in_order c r && is_in_order c s) (verified_by c q e r (inverse_of c.n s)) is in
    let both = and_parts (is_in_order c r) (is_in_order c s) parts.0 in
    elim (number_cases (inverse_of c.n s)) as (λ _. IsVerified c qx qy e r s) [
      | inl nothing ↦ let none : false ≡ true = sym (ap (verified_by c q e r) nothing) ∙ parts.1 in absurd (cc)
      | inr found ↦
          let i : ℕ = found.0 in
          let u = (e * i) % c.n in
          let v = (r * i) % c.n in
          let by : sum_has_x c r (multiple_of c.p c.a u g) (multiple_of c.p c.a v q) ≡ true = sym (ap (verified_by c q e r) found.1) ∙ parts.1 in
          let sums = sums_told c r (multiple_of c.p c.a u g) (multiple_of c.p c.a v q) by in
          let left : Point = sums.0 in
          let right : Point = sums.1 in
          let left_is = multiple_back c.p field c.a u g left sums.2 in
          let at = x_told c r (sum_of c.p c.a left right) sums.4 in
          record {
            r_below = (in_order c r).0 both.0;
            s_below = (in_order c s).0 both.1;
            u = u;
            v = v;
            factors = record { inverse = i; inverted = found_is c.n s i found.1; u_is = refl; v_is = refl };
            point = At at.0 at.1;
            sum = record {
              left = left;
              left_is = left_is;
              right = right;
              right_is = multiple_back c.p field c.a v q right sums.3;
              sum = sum_back c.p field c.a left right (At at.0 at.1) at.2;
            };
            r_is = at.3;
          }
    ]

pub verified_is : (c : CurveNumbers) (qx qy e r s : ℕ) → 1 < c.p → 1 < c.n
    → Decides (is_verified c (At qx qy) e r s) (IsVerified c qx qy e r s)
verified_is c qx qy e r s field above = (told_verifies c qx qy e r s field, verified_told c qx qy e r s field above)

-- what is verified is of numbers in order
pub in_order_is : (c : CurveNumbers) (q : Point) (e r s : ℕ) → is_verified c q e r s ≡ true → IsBelowOrder c r × IsBelowOrder c s
unfolding is_verified
in_order_is c q e r s is =
    let parts = and_parts (is_in_order c r && is_in_order c s) (verified_by c q e r (inverse_of c.n s)) is in
    let both = and_parts (is_in_order c r) (is_in_order c s) parts.0 in
    ((in_order c r).0 both.0, (in_order c s).0 both.1)
