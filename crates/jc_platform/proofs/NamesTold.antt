-- What a token stands for is what has it.
use Rattle.std.proofs.Common.{◌≡◌, ◌<◌, ◌==◌, ◌&&◌, ℕ, zero, suc, Bool, true, false, List, [], ◌∷◌, Option, Some, None, Ok, length, get_or, refl}
use Rattle.std.proofs.Common.{◌∙◌, ap, sym, arith}
use Rattle.std.specs.Prelude.{find, if◌then◌else◌}
use Rattle.std.specs.Option.{option_map}
use Rattle.std.proofs.lemmas.Bool.{false≢true}
use Rattle.std.proofs.lemmas.Bool.Decides.{Decides-eqb}
use Rattle.jc_platform.specs.declared.names.PlatformClass.{PlatformClass}
use Rattle.jc_platform.specs.declared.names.MethodKind.{MethodKind}
use Rattle.jc_platform.specs.declared.names.MethodKind.TheVariants.{Static, Virtual, Interface}
use Rattle.jc_platform.specs.declared.names.PlatformMethod.{PlatformMethod}
use Rattle.jc_platform.specs.declared.names.PlatformPackage.{PlatformPackage}
use Rattle.jc_platform.specs.declared.names.PlatformPackage.TheVariants.{JavaLang, JavacardFramework, JavacardxApdu, JavacardSecurity, JavacardxCrypto}
use Rattle.jc_platform.specs.NamePlaces.{AreDistinct, class_of, entry_of_class, entry_of_method, home_of, is_needed_class, is_needed_method}
use Rattle.jc_platform.specs.NamePlaces.{kind_of_method}
use Rattle.jc_platform.specs.Names.{ClassEntry, MethodEntry, classes, methods, no_class, no_method}
use Rattle.jc_platform.specs.Numbers.{class_number, is_needed_package, method_number, package_number, same_class, same_kind, same_package}
use Rattle.jc_platform.specs.Platform.{TellNames, class_by_token, method_by_token, package_by_number}
use Rattle.jc_platform.specs.Rows.{Above, above, is_token}
use Rattle.jc_platform.specs.Table.{AreThoseOf, Reads}
use Rattle.jc_platform.specs.Tokens.{Tokens, number_in, token_of_class, token_of_method}
use Rattle.jc_platform.proofs.Distinct.{both, distinct, found_has}
use Rattle.jc_platform.proofs.Facts.{at_number, class_at_place, class_places, homes, method_at_place, method_homes, method_places}
use Rattle.jc_platform.proofs.Lists.{and_true}
use Rattle.jc_platform.proofs.Numbers.{class_below, method_below}
use Rattle.jc_platform.proofs.Own.{same_class_is}
use Rattle.jc_platform.proofs.Superclasses.{interface_tokens, superclass_token}
use Rattle.jc_platform.proofs.Versions.{class_stands, first_needed, method_stands}

-- an element that passes is found
abbrev Found : {X : Type 0} → (X → Bool) → List X → Type 0
Found {X = X} p xs = (e : X) × (find p xs ≡ Some e) × (p e ≡ true)

found_case : {X : Type 0} (p : X → Bool) (x : X) (xs : List X) (b : Bool) → p x ≡ b → (b ≡ false → Found p xs) → Found p (x ∷ xs)
found_case p x xs true is later = (x, rw is refl, is)
found_case p x xs false is later = let f : Found p xs = later refl in (f.0, rw is f.1, f.2)

found_at : {X : Type 0} (p : X → Bool) (xs : List X) (k : ℕ) (d : X) → k < length xs → p (get_or xs k d) ≡ true → Found p xs
found_at p [] k d h passes = absurd (omega arith)
found_at p (x ∷ xs) zero d h passes = found_case p x xs true passes (λ no. absurd (let e : true ≡ false = no in cc))
found_at p (x ∷ xs) (suc k) d h passes = found_case p x xs (p x) refl (λ no. found_at p xs k d (omega arith) passes)

-- the package whose place this is
abbrev package_of_place : ℕ → PlatformPackage
package_of_place n = get_or (JavaLang ∷ JavacardFramework ∷ JavacardxApdu ∷ JavacardSecurity ∷ JavacardxCrypto ∷ []) n JavaLang

package_at_place : (p : PlatformPackage) → package_of_place (package_number p) ≡ p
package_at_place JavaLang = refl
package_at_place JavacardFramework = refl
package_at_place JavacardxApdu = refl
package_at_place JavacardSecurity = refl
package_at_place JavacardxCrypto = refl

same_package_is : (p q : PlatformPackage) → same_package p q ≡ true → p ≡ q
same_package_is p q e =
    sym (package_at_place p) ∙ ap package_of_place ((Decides-eqb (package_number p) (package_number q)).0 e) ∙ package_at_place q

same_kind_is : (k l : MethodKind) → same_kind k l ≡ true → k ≡ l
same_kind_is Static Static e = refl
same_kind_is Static Virtual e = absurd (false≢true e)
same_kind_is Static Interface e = absurd (false≢true e)
same_kind_is Virtual Static e = absurd (false≢true e)
same_kind_is Virtual Virtual e = refl
same_kind_is Virtual Interface e = absurd (false≢true e)
same_kind_is Interface Static e = absurd (false≢true e)
same_kind_is Interface Virtual e = absurd (false≢true e)
same_kind_is Interface Interface e = refl

-- the number of a package where this one stands first
abbrev numbered : PlatformPackage → PlatformPackage → ℕ
numbered first p = if same_package p JavacardxApdu then 66 else (if same_package p JavacardSecurity then 67 else
    (if same_package p JavacardxCrypto then 68 else (if same_package p first then 64 else 65)))

package_told : (first p : PlatformPackage) → is_needed_package first ≡ true → (if numbered first p == numbered first JavaLang then Some JavaLang else
    (if numbered first p == numbered first JavacardFramework then Some JavacardFramework else
    (if numbered first p == numbered first JavacardxApdu then Some JavacardxApdu else
    (if numbered first p == numbered first JavacardSecurity then Some JavacardSecurity else
    (if numbered first p == numbered first JavacardxCrypto then Some JavacardxCrypto else None))))) ≡ Some p
package_told JavaLang JavaLang needed = refl
package_told JavaLang JavacardFramework needed = refl
package_told JavaLang JavacardxApdu needed = refl
package_told JavaLang JavacardSecurity needed = refl
package_told JavaLang JavacardxCrypto needed = refl
package_told JavacardFramework JavaLang needed = refl
package_told JavacardFramework JavacardFramework needed = refl
package_told JavacardFramework JavacardxApdu needed = refl
package_told JavacardFramework JavacardSecurity needed = refl
package_told JavacardFramework JavacardxCrypto needed = refl
package_told JavacardxApdu p needed = absurd (false≢true needed)
package_told JavacardSecurity p needed = absurd (false≢true needed)
package_told JavacardxCrypto p needed = absurd (false≢true needed)

told_package : (t : Tokens) → is_needed_package t.first ≡ true → (p : PlatformPackage) → package_by_number t (number_in t p) ≡ Some p
unfolding package_by_number
told_package t needed p = package_told t.first p needed

token_is : (o : Option ℕ) (k : ℕ) → is_token o k ≡ true → o ≡ Some k
token_is None k e = absurd (false≢true e)
token_is (Some n) k e = ap Some ((Decides-eqb n k).0 e)

is_its_token : (o : Option ℕ) (k : ℕ) → o ≡ Some k → is_token o k ≡ true
is_its_token o k e = ap (λ (x : Option ℕ). is_token x k) e ∙ (Decides-eqb k k).1 refl

told_class : (t : Tokens) → AreDistinct t → (c : PlatformClass) (k : ℕ) → token_of_class t c ≡ Some k → class_by_token t (home_of c) k ≡ Some c
unfolding class_by_token
told_class t distinct c k token =
    let passes : ClassEntry → Bool = λ e. same_package e.home (home_of c) && is_token (token_of_class t e.class) k in
    let place : class_number c < length classes = omega (arith, class_below c, class_places) in
    let home : same_package (home_of c) (home_of c) ≡ true = (Decides-eqb _ _).1 refl in
    let there : passes (entry_of_class c) ≡ true = both _ _ home (ap (λ (d : PlatformClass). is_token (token_of_class t d) k) (class_at_place c)
    ∙ is_its_token (token_of_class t c) k token) in
    let f : Found passes classes = found_at passes classes (class_number c) no_class place there in
    let e = f.0 in
    let parts = and_true (same_package e.home (home_of c)) (is_token (token_of_class t e.class) k) f.2 in
    let its : same_package (home_of e.class) e.home ≡ true = found_has (λ g. same_package (home_of g.class) g.home) passes classes e homes f.1 in
    let homes_agree : home_of e.class ≡ home_of c = same_package_is _ _ its ∙ same_package_is _ _ parts.0 in
    let same : e.class ≡ c = distinct.of_classes e.class c k homes_agree (token_is (token_of_class t e.class) k parts.1) token in
    ap (option_map (λ g. g.class)) f.1 ∙ ap Some same

told_method : (t : Tokens) → AreDistinct t → (m : PlatformMethod) (k : ℕ) → token_of_method t m ≡ Some k
    → method_by_token t (class_of m) (kind_of_method m) k ≡ Some m
unfolding method_by_token
told_method t distinct m k token =
    let passes : MethodEntry → Bool = λ e. same_class e.class (class_of m) && same_kind e.kind (kind_of_method m) && is_token (token_of_method t e.method) k in
    let place : method_number m < length methods = omega (arith, method_below m, method_places) in
    let class : same_class (class_of m) (class_of m) ≡ true = (Decides-eqb _ _).1 refl in
    let kind : same_kind (kind_of_method m) (kind_of_method m) ≡ true = (Decides-eqb _ _).1 refl in
    let own : passes (entry_of_method m) ≡ true = both _ _ (both _ _ class kind)
    (ap (λ (n : PlatformMethod). is_token (token_of_method t n) k) (method_at_place m) ∙ is_its_token (token_of_method t m) k token) in
    let there : passes (get_or methods (method_number m) no_method) ≡ true = ap passes (at_number m) ∙ own in
    let f : Found passes methods = found_at passes methods (method_number m) no_method place there in
    let e = f.0 in
    let parts = and_true (same_class e.class (class_of m) && same_kind e.kind (kind_of_method m)) (is_token (token_of_method t e.method) k) f.2 in
    let places = and_true (same_class e.class (class_of m)) (same_kind e.kind (kind_of_method m)) parts.0 in
    let its = and_true (same_class (class_of e.method) e.class) (same_kind (kind_of_method e.method) e.kind)
    (found_has (λ g. same_class (class_of g.method) g.class && same_kind (kind_of_method g.method) g.kind) passes methods e method_homes f.1) in
    let same : e.method ≡ m = distinct.of_methods e.method m k (same_class_is _ _ its.0 ∙ same_class_is _ _ places.0)
    (same_kind_is _ _ its.1 ∙ same_kind_is _ _ places.1) (token_is (token_of_method t e.method) k parts.1) token in
    ap (option_map (λ g. g.method)) f.1 ∙ ap Some same

-- ---- what each table has

needed_class : (a : Above) (t : Tokens) → AreThoseOf a t → (c : PlatformClass) → is_needed_class c ≡ true → (k : ℕ) × (token_of_class t c ≡ Some k)
needed_class a t those c e = let own = class_stands a those.needed_classes c e in (own.0, sym (those.class_tokens c) ∙ own.1)

needed_method : (a : Above) (t : Tokens) → AreThoseOf a t → (m : PlatformMethod) → is_needed_method m ≡ true → (k : ℕ) × (token_of_method t m ≡ Some k)
needed_method a t those m e = let own = method_stands a those.needed_methods m e in (own.0, sym (those.method_tokens m) ∙ own.1)

pub names_told : (text : List ℕ) (t : Tokens) → Reads text (Ok t) → TellNames t
names_told text t read =
    let apart : AreDistinct t = distinct text t read in
    let a : Above = above read.1.0 in
    let said = read.1.1 in record {
      packages = told_package t (first_needed text said.0 read.1.0 said.2 t.first read.1.2.first);
      classes = told_class t apart;
      methods = told_method t apart;
      needed_classes = needed_class a t read.1.2;
      superclasses = superclass_token text said.0 read.1.0 t said.2 read.1.2;
      interfaces = interface_tokens text said.0 read.1.0 t said.2 read.1.2;
      needed_methods = needed_method a t read.1.2;
    }
