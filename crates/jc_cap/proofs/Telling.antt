-- What is read stands in the bytes so, and what stands so is read.
use Rattle.std.proofs.Common.{◌≡◌, ℕ, zero, suc, ◌+◌, ◌*◌, ◌-◌, ◌≤◌, Bool, true, false, cond, ltb, List, [], ◌∷◌, ◌++◌, length, take, drop, Result, Ok, Err}
use Rattle.std.proofs.Common.{refl, sym, ap, subst, ◌∙◌, append_assoc, arith, inl, inr, ◌⊎◌}
use Rattle.std.proofs.lemmas.Bool.{ltb-false, ltb-true, le-ltb, lt-ltb}
use Rattle.std.proofs.lemmas.List.{take_at, drop_at, take-append-drop, length-append, length-take}
use Rattle.jc_cap.specs.declared.fault.CapFault.{CapFault}
use Rattle.jc_cap.specs.declared.fault.CapFault.TheVariants.{Truncated}
use Rattle.jc_cap.specs.declared.class_refs.ClassRef.{ClassRef}
use Rattle.jc_cap.specs.declared.class_refs.ClassRef.TheVariants.{Internal, External}
use Rattle.jc_cap.specs.Reading.{Field, u1_at, u2_at, run_at, aid_at, many_at}
use Rattle.jc_cap.specs.ClassRefs.{class_ref_at}
use Rattle.jc_cap.specs.Packages.{NamedPackage, package_at}
use Rattle.jc_cap.specs.Grammar.{AreEncodedInTurn, IsU2, IsAid, IsPackageInfo, IsClassRef, IsPrefixEncoding, ReadsEncodings}
use Rattle.jc_cap.proofs.Many.{bind_ok, ok_is}

-- a test that did not fail
pub guard_ok : {A : Type 0} (b : Bool) (d : CapFault) (r : Result A CapFault) (y : A) → cond b (Err d) r ≡ Ok y → (b ≡ false) × (r ≡ Ok y)
guard_ok true d r y e = absurd cc
guard_ok false d r y e = (refl, e)

-- one that had to hold
pub wanted_ok : {A : Type 0} (b : Bool) (d : CapFault) (r : Result A CapFault) (y : A) → cond b r (Err d) ≡ Ok y → (b ≡ true) × (r ≡ Ok y)
wanted_ok true d r y e = (refl, e)
wanted_ok false d r y e = absurd cc

-- which way a test went
pub chosen : {A : Type 0} (b : Bool) (x y z : A) → cond b x y ≡ z → ((b ≡ true) × (x ≡ z)) ⊎ ((b ≡ false) × (y ≡ z))
chosen true x y z e = inl (refl, e)
chosen false x y z e = inr (refl, e)

-- ---- bytes

pub u1_takes : (bytes : List ℕ) (n : ℕ) (rest : List ℕ) → u1_at bytes ≡ Ok (n, rest) → bytes ≡ n ∷ rest
u1_takes [] n rest e = absurd cc
u1_takes (b ∷ bs) n rest e = ap (λ (p : ℕ × List ℕ). p.0 ∷ p.1) (ok_is (b, bs) (n, rest) e)

pub u2_takes : (bytes : List ℕ) (n : ℕ) (rest : List ℕ) → u2_at bytes ≡ Ok (n, rest) → IsPrefixEncoding IsU2 bytes n rest
u2_takes [] n rest e = absurd cc
u2_takes (a ∷ []) n rest e = absurd cc
u2_takes (a ∷ b ∷ bs) n rest e =
    let same = ok_is (a * 256 + b, bs) (n, rest) e in
    record { text = a ∷ b ∷ []; is = (a, b, refl, ap (λ (p : ℕ × List ℕ). p.0) (sym same)); parts = ap (λ (p : ℕ × List ℕ). a ∷ b ∷ p.1) same }

pub u2_again : (n : ℕ) (text rest : List ℕ) → IsU2 n text → u2_at (text ++ rest) ≡ Ok (n, rest)
u2_again n text rest is = rw (is.2, is.3) refl

pub u2_tells : ReadsEncodings u2_at IsU2
u2_tells = record { takes = u2_takes; again = u2_again }

-- ---- runs of bytes

pub run_takes : (n : ℕ) (bytes xs rest : List ℕ) → run_at n bytes ≡ Ok (xs, rest) → (bytes ≡ xs ++ rest) × (length xs ≡ n)
run_takes n bytes xs rest e =
    let g = guard_ok (ltb (length bytes) n) Truncated (Ok (take n bytes, drop n bytes)) (xs, rest) e in
    let same = ok_is (take n bytes, drop n bytes) (xs, rest) g.1 in
    let long : n ≤ length bytes = ltb-false _ _ g.0 in
    subst (λ (p : List ℕ × List ℕ). (bytes ≡ p.0 ++ p.1) × (length p.0 ≡ n)) same (sym (take-append-drop n bytes), omega (arith, length-take n bytes))

pub run_again : (xs rest : List ℕ) → run_at (length xs) (xs ++ rest) ≡ Ok (xs, rest)
run_again xs rest =
    let long : ltb (length (xs ++ rest)) (length xs) ≡ false = le-ltb _ _ (omega (arith, length-append xs rest)) in
    rw (long, take_at xs rest (length xs) refl, drop_at xs rest (length xs) refl) refl

-- ---- AIDs and packages

aid_takes : (bytes xs rest : List ℕ) → aid_at bytes ≡ Ok (xs, rest) → IsPrefixEncoding IsAid bytes xs rest
unfolding aid_at
aid_takes bytes xs rest e =
    let a = bind_ok (u1_at bytes) _ (xs, rest) e in
    let n = a.0.0 in
    let low = guard_ok _ _ _ (xs, rest) a.2 in
    let high = guard_ok _ _ _ (xs, rest) low.1 in
    let run = run_takes n a.0.1 xs rest high.1 in
    let at_least : 5 ≤ n = ltb-false _ _ low.0 in
    let at_most : n ≤ 16 = ltb-false _ _ high.0 in
    record { text = length xs ∷ xs; is = (refl, omega (arith, run.1), omega (arith, run.1)); parts = u1_takes bytes n a.0.1 a.1 ∙ rw (run.0, run.1) refl }

aid_again : (xs text rest : List ℕ) → IsAid xs text → aid_at (text ++ rest) ≡ Ok (xs, rest)
unfolding aid_at
aid_again xs text rest is = rw (is.0, le-ltb (length xs) 5 is.1, le-ltb 16 (length xs) is.2) (run_again xs rest)

pub aid_tells : ReadsEncodings aid_at IsAid
aid_tells = record { takes = aid_takes; again = aid_again }

package_takes : (bytes : List ℕ) (p : NamedPackage) (rest : List ℕ) → package_at bytes ≡ Ok (p, rest) → IsPrefixEncoding IsPackageInfo bytes p rest
unfolding package_at
package_takes bytes p rest e =
    let minor = bind_ok (u1_at bytes) _ (p, rest) e in
    let major = bind_ok (u1_at minor.0.1) _ (p, rest) minor.2 in
    let aid = bind_ok (aid_at major.0.1) _ (p, rest) major.2 in
    let made : NamedPackage × List ℕ = (record { minor_version = minor.0.0; major_version = major.0.0; aid = aid.0.0 }, aid.0.1) in
    let t = aid_takes major.0.1 aid.0.0 aid.0.1 aid.1 in
    subst (λ (y : NamedPackage × List ℕ). IsPrefixEncoding IsPackageInfo bytes y.0 y.1) (ok_is made (p, rest) aid.2)
    (record {
      text = minor.0.0 ∷ major.0.0 ∷ t.text;
      is = (t.text, t.is, refl);
      parts = u1_takes bytes minor.0.0 minor.0.1 minor.1 ∙ ap (λ (s : List ℕ). minor.0.0 ∷ s)
          (u1_takes minor.0.1 major.0.0 major.0.1 major.1 ∙ ap (λ (s : List ℕ). major.0.0 ∷ s) t.parts);
    })

package_again : (p : NamedPackage) (text rest : List ℕ) → IsPackageInfo p text → package_at (text ++ rest) ≡ Ok (p, rest)
unfolding package_at
package_again p text rest is = rw (is.2, aid_again p.aid is.0 rest is.1) refl

pub package_tells : ReadsEncodings package_at IsPackageInfo
package_tells = record { takes = package_takes; again = package_again }

-- ---- class references

class_ref_takes : (bytes : List ℕ) (x : ClassRef) (rest : List ℕ) → class_ref_at bytes ≡ Ok (x, rest) → IsPrefixEncoding IsClassRef bytes x rest
unfolding class_ref_at
class_ref_takes bytes x rest e =
    let high = bind_ok (u1_at bytes) _ (x, rest) e in
    let low = bind_ok (u1_at high.0.1) _ (x, rest) high.2 in
    let parts : bytes ≡ high.0.0 ∷ low.0.0 ∷ low.0.1 = u1_takes bytes high.0.0 high.0.1 high.1
    ∙ ap (λ (t : List ℕ). high.0.0 ∷ t) (u1_takes high.0.1 low.0.0 low.0.1 low.1) in
    let Goal : ClassRef × List ℕ → Type 0 = λ y. IsPrefixEncoding IsClassRef bytes y.0 y.1 in
    elim (chosen (ltb high.0.0 128) _ _ _ low.2) [
      | inl own ↦ subst Goal (ok_is (Internal (high.0.0 * 256 + low.0.0), low.0.1) (x, rest) own.1)
          (record { text = high.0.0 ∷ low.0.0 ∷ []; is = (high.0.0, low.0.0, ltb-true _ _ own.0, refl, refl); parts = parts })
      | inr imported ↦
          let high-is : high.0.0 ≡ 128 + (high.0.0 - 128) = omega (arith, ltb-false _ _ imported.0) in
          subst Goal (ok_is (External (high.0.0 - 128) low.0.0, low.0.1) (x, rest) imported.1)
          (record { text = high.0.0 ∷ low.0.0 ∷ []; is = ap (λ (h : ℕ). h ∷ low.0.0 ∷ []) high-is; parts = parts })
    ]

class_ref_again : (x : ClassRef) (text rest : List ℕ) → IsClassRef x text → class_ref_at (text ++ rest) ≡ Ok (x, rest)
unfolding class_ref_at
class_ref_again (Internal offset) text rest is = rw (is.4, is.3, lt-ltb is.0 128 is.2) refl
class_ref_again (External package_token class_token) text rest is =
    let high : ltb (128 + package_token) 128 ≡ false = le-ltb _ _ (omega arith) in
    let back : 128 + package_token - 128 ≡ package_token = omega arith in
    rw (is, high, back) refl

pub class_ref_tells : ReadsEncodings class_ref_at IsClassRef
class_ref_tells = record { takes = class_ref_takes; again = class_ref_again }

-- ---- lists

pub many_takes : {A : Type 0} (read : List ℕ → Field A) (Is : A → List ℕ → Type 0) → ReadsEncodings read Is
    → (n : ℕ) (bytes : List ℕ) (xs : List A) (rest : List ℕ) → many_at read n bytes ≡ Ok (xs, rest)
    → IsPrefixEncoding (AreEncodedInTurn Is) bytes xs rest × (length xs ≡ n)
unfolding many_at
many_takes read Is tells zero bytes xs rest e =
    subst (λ (y : List _ × List ℕ). IsPrefixEncoding (AreEncodedInTurn Is) bytes y.0 y.1 × (length y.0 ≡ 0)) (ok_is ([], bytes) (xs, rest) e)
    (record { text = []; is = refl; parts = refl }, refl)
many_takes read Is tells (suc n) bytes xs rest e =
    let a = bind_ok (read bytes) _ (xs, rest) e in
    let b = bind_ok (many_at read n a.0.1) _ (xs, rest) a.2 in
    let t = tells.takes bytes a.0.0 a.0.1 a.1 in
    let u = many_takes read Is tells n a.0.1 b.0.0 b.0.1 b.1 in
    subst (λ (y : List _ × List ℕ). IsPrefixEncoding (AreEncodedInTurn Is) bytes y.0 y.1 × (length y.0 ≡ suc n)) (ok_is (a.0.0 ∷ b.0.0, b.0.1) (xs, rest) b.2) (
      record {
        text = t.text ++ u.0.text;
        is = (t.text, u.0.text, t.is, refl, u.0.is);
        parts = t.parts ∙ ap (λ (s : List ℕ). t.text ++ s) u.0.parts ∙ sym (append_assoc t.text u.0.text b.0.1);
      },
      ap suc u.1,
    )

pub many_again : {A : Type 0} (read : List ℕ → Field A) (Is : A → List ℕ → Type 0) → ReadsEncodings read Is → (xs : List A) (text rest : List ℕ)
    → AreEncodedInTurn Is xs text → many_at read (length xs) (text ++ rest) ≡ Ok (xs, rest)
unfolding many_at
many_again read Is tells [] text rest is = rw is refl
many_again read Is tells (x ∷ xs) text rest is =
    let regrouped : text ++ rest ≡ is.0 ++ (is.1 ++ rest) = ap (λ (t : List ℕ). t ++ rest) is.3 ∙ append_assoc is.0 is.1 rest in
    rw (regrouped, tells.again x is.0 (is.1 ++ rest) is.2, many_again read Is tells xs is.1 rest is.4) refl
