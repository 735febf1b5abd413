-- Words of the platform's classes, and what stands after them.
use Rattle.std.proofs.Common.{◌≡◌, ◌<◌, ◌+◌, ◌*◌, ◌/◌, ◌%◌, ◌==◌, ◌&&◌, ℕ, Bool, true, false, List, [], ◌∷◌, Option, Some, None, refl, ap, sym, subst, ◌∙◌}
use Rattle.std.proofs.Common.{arith, if◌then◌else◌}
use Rattle.std.specs.Prelude.{find, unwrap_or}
use Rattle.std.specs.Option.{option_map, option_and_then}
use Rattle.std.proofs.lemmas.Bool.{and_parts, eqb-true, false≢true}
use Rattle.std.proofs.lemmas.Option.{none-some, option_and_then_some, same_Some}
use Rattle.jc_platform.specs.declared.names.PlatformPackage.{PlatformPackage}
use Rattle.jc_platform.specs.declared.names.PlatformPackage.TheVariants.{JavaLang, JavacardFramework, JavacardxApdu, JavacardSecurity, JavacardxCrypto}
use Rattle.jc_platform.specs.declared.names.PlatformClass.{PlatformClass}
use Rattle.jc_platform.specs.declared.names.MethodKind.{MethodKind}
use Rattle.jc_platform.specs.declared.names.PlatformMethod.{PlatformMethod}
use Rattle.jc_platform.specs.NamePlaces.{class_of, class_word, home_of, kind_of_method, word_of_token}
use Rattle.jc_platform.specs.Names.{ClassEntry, MethodEntry, classes, methods}
use Rattle.jc_platform.specs.Numbers.{class_number, kind_number, package_number, same_class, same_kind, same_package}
use Rattle.jc_platform.specs.Platform.{TellNames, class_by_token, class_by_word, method_by_token, package_by_number}
use Rattle.jc_platform.specs.Tokens.{Tokens, number_in, token_of_class, token_of_method}
use Rattle.jc_platform.specs.Rows.{is_token}
use Rattle.law_code.specs.ReadPackages.{HasByteTokens}
use Rattle.jc_platform.proofs.Distinct.{class_by_number, found_has}
use Rattle.jc_platform.proofs.Facts.{homes, method_homes}

-- ---- a class by its word

pub word_parts : (n token : ℕ) → token < 256 → ((256 * n + token) / 256 ≡ n) × ((256 * n + token) % 256 ≡ token)
word_parts n token small = (omega (arith, small), omega (arith, small))

-- the platform has the class
abbrev pub HasToken : Tokens → PlatformClass → Type 0
HasToken t c = (k : ℕ) × (token_of_class t c ≡ Some k)

pub word_told : (t : Tokens) → TellNames t → HasByteTokens t → (c : PlatformClass) → HasToken t c → class_by_word t (class_word t c) ≡ Some c
unfolding class_by_word
word_told t told bytes c stands =
    let n = number_in t (home_of c) in
    let word = 256 * n + stands.0 in
    let low : stands.0 < 256 = subst (λ k. k < 256) (ap (λ o. unwrap_or o 0) stands.1) (bytes c) in
    let parts = word_parts n stands.0 low in
    ap (λ w. option_and_then (λ home. class_by_token t home (w % 256)) (package_by_number t (w / 256))) (ap (word_of_token n) stands.1)
    ∙ ap (λ w. option_and_then (λ home. class_by_token t home (word % 256)) (package_by_number t w)) parts.0
    ∙ ap (option_and_then (λ home. class_by_token t home (word % 256))) (told.packages (home_of c))
    ∙ ap (class_by_token t (home_of c)) parts.1 ∙ told.classes c stands.0 stands.1

-- ---- the word of a class that a word names

by_numbers : (a b c d e : Bool) (home : PlatformPackage) (P : PlatformPackage → Type 0) → (a ≡ true → P JavaLang) → (b ≡ true → P JavacardFramework)
    → (c ≡ true → P JavacardxApdu) → (d ≡ true → P JavacardSecurity) → (e ≡ true → P JavacardxCrypto)
    → (if a then Some JavaLang else (if b then Some JavacardFramework else (if c then Some JavacardxApdu else
    (if d then Some JavacardSecurity else (if e then Some JavacardxCrypto else None))))) ≡ Some home → P home
by_numbers true b c d e home P first second third fourth fifth is = subst P (same_Some JavaLang home is) (first refl)
by_numbers false true c d e home P first second third fourth fifth is = subst P (same_Some JavacardFramework home is) (second refl)
by_numbers false false true d e home P first second third fourth fifth is = subst P (same_Some JavacardxApdu home is) (third refl)
by_numbers false false false true e home P first second third fourth fifth is = subst P (same_Some JavacardSecurity home is) (fourth refl)
by_numbers false false false false true home P first second third fourth fifth is = subst P (same_Some JavacardxCrypto home is) (fifth refl)
by_numbers false false false false false home P first second third fourth fifth is = absurd (none-some home is)

package_is : (t : Tokens) (n : ℕ) (home : PlatformPackage) → package_by_number t n ≡ Some home → n ≡ number_in t home
unfolding package_by_number
package_is t n home is = by_numbers (n == number_in t JavaLang) (n == number_in t JavacardFramework) (n == number_in t JavacardxApdu)
    (n == number_in t JavacardSecurity) (n == number_in t JavacardxCrypto) home (λ q. n ≡ number_in t q) (eqb-true n (number_in t JavaLang))
    (eqb-true n (number_in t JavacardFramework)) (eqb-true n (number_in t JavacardxApdu)) (eqb-true n (number_in t JavacardSecurity))
    (eqb-true n (number_in t JavacardxCrypto)) is

passing : {X : Type 0} (test : X → Bool) (x e : X) (xs : List X) (b : Bool) → test x ≡ b → (find test xs ≡ Some e → test e ≡ true)
    → (if b then Some x else find test xs) ≡ Some e → test e ≡ true
passing test x e xs true is rest found = subst (λ y. test y ≡ true) (same_Some x e found) is
passing test x e xs false is rest found = rest found

found_passes : {X : Type 0} (test : X → Bool) (xs : List X) (e : X) → find test xs ≡ Some e → test e ≡ true
found_passes test [] e found = absurd (none-some e found)
found_passes test (x ∷ xs) e found = passing test x e xs (test x) refl (found_passes test xs e) found

mapped : {X Y : Type 0} (f : X → Y) (o : Option X) (y : Y) → option_map f o ≡ Some y → (x : X) × (o ≡ Some x) × (f x ≡ y)
mapped f None y is = absurd (none-some y is)
mapped f (Some x) y is = (x, refl, same_Some (f x) y is)

token_is : (o : Option ℕ) (token : ℕ) → is_token o token ≡ true → o ≡ Some token
token_is None token is = absurd (false≢true is)
token_is (Some n) token is = ap Some (eqb-true n token is)

pub class_is : (t : Tokens) (home : PlatformPackage) (token : ℕ) (c : PlatformClass) → class_by_token t home token ≡ Some c
    → (number_in t home ≡ number_in t (home_of c)) × (token_of_class t c ≡ Some token)
unfolding class_by_token
class_is t home token c is =
    let test : ClassEntry → Bool = λ e. same_package e.home home && is_token (token_of_class t e.class) token in
    let one = mapped (λ (e : ClassEntry). e.class) (find test classes) c is in
    let row = and_parts (same_package (one.0).home home) (is_token (token_of_class t (one.0).class) token)
    (found_passes test classes one.0 one.1) in
    let its = found_has (λ g. same_package (home_of g.class) g.home) test classes one.0 homes one.1 in
    let first : number_in t (one.0).home ≡ number_in t home = number_same t (one.0).home home row.0 in
    let second : number_in t (home_of (one.0).class) ≡ number_in t (one.0).home = number_same t (home_of (one.0).class) (one.0).home its in (
      sym first ∙ sym second ∙ ap (λ d. number_in t (home_of d)) one.2,
      ap (token_of_class t) (sym one.2) ∙ token_is (token_of_class t (one.0).class) token row.1,
    )
  where
    number_same : (u : Tokens) (p q : PlatformPackage) → same_package p q ≡ true → number_in u p ≡ number_in u q
    number_same u p q same =
        ap (λ n. if n == 2 then 66 else (if n == 3 then 67 else (if n == 4 then 68 else (if n == package_number u.first then 64 else 65))))
        (eqb-true (package_number p) (package_number q) same)

back_again : (w n token : ℕ) → w / 256 ≡ n → token ≡ w % 256 → w ≡ 256 * n + token
back_again w n token high low = omega (arith, high, low)

pub word_of_class : (t : Tokens) (w : ℕ) (c : PlatformClass) → class_by_word t w ≡ Some c → w ≡ class_word t c
unfolding class_by_word
word_of_class t w c is =
    option_and_then_some (λ home. class_by_token t home (w % 256)) (package_by_number t (w / 256)) c is
    (λ home at more. let a = class_is t home (w % 256) c more in back_again w (number_in t (home_of c)) (w % 256) (package_is t (w / 256) home at ∙ a.0) refl
    ∙ sym (ap (word_of_token (number_in t (home_of c))) a.1))

pub token_of_word : (t : Tokens) (w : ℕ) (c : PlatformClass) → class_by_word t w ≡ Some c → HasToken t c
unfolding class_by_word
token_of_word t w c is =
    option_and_then_some (λ home. class_by_token t home (w % 256)) (package_by_number t (w / 256)) c is
    (λ home at more. (w % 256, (class_is t home (w % 256) c more).1))

-- ---- the class and the kind of a method

pub place_of_method : (t : Tokens) (c : PlatformClass) (kind : MethodKind) (token : ℕ) (m : PlatformMethod) → method_by_token t c kind token ≡ Some m
    → (class_of m ≡ c) × (kind_number (kind_of_method m) ≡ kind_number kind)
unfolding method_by_token
place_of_method t c kind token m is =
    let test : MethodEntry → Bool = λ e. same_class e.class c && same_kind e.kind kind && is_token (token_of_method t e.method) token in
    let one = mapped (λ (e : MethodEntry). e.method) (find test methods) m is in
    let e : MethodEntry = one.0 in
    let row = and_parts (same_class e.class c && same_kind e.kind kind) (is_token (token_of_method t e.method) token)
    (found_passes test methods e one.1) in
    let wanted = and_parts (same_class e.class c) (same_kind e.kind kind) row.0 in
    let its = and_parts (same_class (class_of e.method) e.class) (same_kind (kind_of_method e.method) e.kind)
    (found_has (λ g. same_class (class_of g.method) g.class && same_kind (kind_of_method g.method) g.kind) test methods e method_homes one.1) in (
      ap class_of (sym one.2) ∙ class_by_number (class_of e.method) e.class (eqb-true (class_number (class_of e.method)) (class_number e.class) its.0)
          ∙ class_by_number e.class c (eqb-true (class_number e.class) (class_number c) wanted.0),
      ap (λ n. kind_number (kind_of_method n)) (sym one.2) ∙ eqb-true (kind_number (kind_of_method e.method)) (kind_number e.kind) its.1
          ∙ eqb-true (kind_number e.kind) (kind_number kind) wanted.1,
    )
