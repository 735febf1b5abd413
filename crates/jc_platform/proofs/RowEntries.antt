-- The entry of a row that a line is says that row.
use Rattle.std.proofs.Common.{◌≡◌, ◌&&◌, not, ℕ, Bool, true, false, List, [], ◌∷◌, Option, Some, None, refl, ap, sym, subst, ◌∙◌, codes, get_or}
use Rattle.std.specs.Prelude.{find, if◌then◌else◌, is_some, nat_lt, slice_get, length}
use Rattle.std.specs.Option.{option_and_then}
use Rattle.std.specs.Str.{all_ascii_digits, bytes_eq}
use Rattle.std.specs.Str.Parse.{digits_value}
use Rattle.std.proofs.lemmas.Bool.{false≢true}
use Rattle.std.proofs.lemmas.Bool.Decides.{Decides-eqb}
use Rattle.jc_platform.specs.declared.names.PlatformClass.{PlatformClass}
use Rattle.jc_platform.specs.declared.names.PlatformMethod.{PlatformMethod}
use Rattle.jc_platform.specs.declared.names.PlatformPackage.{PlatformPackage}
use Rattle.jc_platform.specs.declared.names.PlatformPackage.TheVariants.{JavaLang, JavacardFramework, JavacardxApdu, JavacardSecurity, JavacardxCrypto}
use Rattle.jc_platform.specs.declared.row.Row.{Row}
use Rattle.jc_platform.specs.declared.row.Row.TheVariants.{Extended, Random, Package, Class, Method}
use Rattle.jc_platform.specs.declared.row.Version.{Version}
use Rattle.jc_platform.specs.NamePlaces.{class_of, entry_of_class, entry_of_method, home_of}
use Rattle.jc_platform.specs.Names.{ClassEntry, MethodEntry, PackageEntry, classes, methods, packages}
use Rattle.jc_platform.specs.Numbers.{method_number, package_number, same_class, same_method, same_package}
use Rattle.jc_platform.specs.PackedEntry.{class_entry, method_entry, package_entry, row_of_entry}
use Rattle.jc_platform.specs.Rows.{Above, allows, bytes_of, class_row, classes_of, has_class_token, has_supertypes, is_package, kind_of}
use Rattle.jc_platform.specs.Rows.{may_be_class, may_be_extended, may_be_method, may_be_package, may_be_random, method_named, method_row, methods_of, number_of}
use Rattle.jc_platform.specs.Rows.{package_row, parts_at, random_row, row_of, row_of_line}
use Rattle.jc_platform.proofs.Distinct.{method_by_number}
use Rattle.jc_platform.proofs.Fitting.{IsFitting}
use Rattle.jc_platform.proofs.Lists.{and_true}
use Rattle.jc_platform.proofs.Own.{each_class, each_filtered, each_method, placed_one, same_class_is}
use Rattle.jc_platform.specs.Packing.{byte_place, entry_of, place_of_class, place_of_method}
use Rattle.jc_platform.proofs.Options.{IfThere, either_there, if_is, if_some, map_some, then_is, then_some, then_there, where_there}
use Rattle.jc_platform.proofs.Places.{passes_there}

-- ---- the token of a class that a line names is one byte

-- a class's token is one byte
abbrev pub HasByte : Row → Type 0
HasByte Extended = Unit {0}
HasByte (Random bytes) = Unit {0}
HasByte (Package p v) = Unit {0}
HasByte (Class c token) = nat_lt token 256 ≡ true
HasByte (Method m token) = Unit {0}

number_byte : (word : List ℕ) (n : ℕ) → number_of word ≡ Some n → nat_lt n 256 ≡ true
number_byte word n e =
    let is = if_some (nat_lt 0 (length word) && all_ascii_digits word && nat_lt (digits_value 10 word) 256) (digits_value 10 word) n e in
    subst (λ k. nat_lt k 256 ≡ true) is.1 (and_true (nat_lt 0 (length word) && all_ascii_digits word) (nat_lt (digits_value 10 word) 256) is.0).1

class_byte : (a : Above) (token name : List ℕ) → IfThere HasByte (class_row a token name)
class_byte a token name =
    then_there HasByte _ (number_of token) (λ t is. then_there HasByte _ (find (λ e. bytes_eq e.name name) classes)
    (λ e found. where_there HasByte (may_be_class a e t) (Class e.class t) (λ may. number_byte token t is)))

method_byte : (a : Above) (keyword token name : List ℕ) → IfThere HasByte (method_row a keyword token name)
method_byte a keyword token name =
    then_there HasByte _ (kind_of keyword) (λ kind k. then_there HasByte _ (number_of token) (λ t n. then_there HasByte _ a.class
    (λ c own. then_there HasByte _ (method_named c kind name) (λ e found. where_there HasByte (may_be_method a e t) (Method e.method t) (λ may. tt)))))

package_byte : (a : Above) (aid major minor : List ℕ) → IfThere HasByte (package_row a aid major minor)
package_byte a aid major minor =
    then_there HasByte _ (find (λ e. bytes_eq e.aid_text aid) packages) (λ e found. then_there HasByte _ (number_of major) (λ j is. then_there HasByte _
    (number_of minor) (λ n so. where_there HasByte (may_be_package a e.package_id) (Package e.package_id (record { major = j; minor = n })) (λ may. tt))))

random_byte : (a : Above) (keyword word : List ℕ) → IfThere HasByte (random_row a keyword word)
random_byte a keyword word =
    either_there HasByte (bytes_eq keyword (codes "random")) _ None
    (then_there HasByte _ (bytes_of word) (λ bytes is. where_there HasByte (may_be_random a) (Random bytes) (λ may. tt))) tt

words_byte : (a : Above) (words : List (List ℕ)) → IfThere HasByte (row_of a words)
words_byte a [] = tt
words_byte a (k ∷ []) = where_there HasByte (bytes_eq k (codes "extended") && may_be_extended a) Extended (λ may. tt)
words_byte a (k ∷ x ∷ []) = random_byte a k x
words_byte a (k ∷ x ∷ y ∷ []) = either_there HasByte (bytes_eq k (codes "class")) (class_row a x y) (method_row a k x y) (class_byte a x y) (method_byte a k x y)
words_byte a (k ∷ x ∷ y ∷ z ∷ []) = either_there HasByte (bytes_eq k (codes "package")) (package_row a x y z) None (package_byte a x y z) tt
words_byte a (k ∷ x ∷ y ∷ z ∷ v ∷ more) = tt

pub line_byte : (a : Above) (line : List ℕ) → IfThere HasByte (row_of_line a line)
line_byte a line = words_byte a (parts_at 32 line)

-- ---- packages by their numbers

package_there : (p : PlatformPackage) → (e : PackageEntry) × (slice_get packages (package_number p) ≡ Some e) × (e.package_id ≡ p)
unfolding packages
package_there JavaLang = (_, refl, refl)
package_there JavacardFramework = (_, refl, refl)
package_there JavacardxApdu = (_, refl, refl)
package_there JavacardSecurity = (_, refl, refl)
package_there JavacardxCrypto = (_, refl, refl)

abbrev package_of_place : ℕ → PlatformPackage
package_of_place n = get_or (JavaLang ∷ JavacardFramework ∷ JavacardxApdu ∷ JavacardSecurity ∷ JavacardxCrypto ∷ []) n JavaLang

package_at_place : (p : PlatformPackage) → package_of_place (package_number p) ≡ p
package_at_place JavaLang = refl
package_at_place JavacardFramework = refl
package_at_place JavacardxApdu = refl
package_at_place JavacardSecurity = refl
package_at_place JavacardxCrypto = refl

same_package_is : (p q : PlatformPackage) → same_package p q ≡ true → p ≡ q
same_package_is p q e =
    sym (package_at_place p) ∙ ap package_of_place ((Decides-eqb (package_number p) (package_number q)).0 e) ∙ package_at_place q

is_there : (o : Option PlatformPackage) (q : PlatformPackage) → is_package o q ≡ true → o ≡ Some q
is_there None q e = absurd (false≢true e)
is_there (Some p) q e = ap Some (same_package_is p q e)

-- ---- entries

-- a place among a byte's is that place
place_is : (o : Option ℕ) (place : ℕ) → option_and_then byte_place o ≡ Some place → o ≡ Some place
place_is o place e =
    let at = then_some byte_place o place e in
    at.1 ∙ ap Some (if_some (nat_lt at.0 256) at.0 place at.2).1

package_says : (a : Above) (p : PlatformPackage) (v : Version) → may_be_package a p ≡ true
    → package_entry a (package_number p) v.major v.minor ≡ Some (Package p v)
package_says a p v may =
    let own = package_there p in
    let at : may_be_package a own.0.package_id ≡ true = ap (may_be_package a) own.2 ∙ may in
    then_is (λ (e : PackageEntry). if may_be_package a e.package_id then Some (Package e.package_id (record { major = v.major; minor = v.minor })) else None)
    (slice_get packages (package_number p)) own.0 own.1
    ∙ if_is (may_be_package a own.0.package_id) (Package own.0.package_id (record { major = v.major; minor = v.minor })) at
    ∙ ap (λ (q : PlatformPackage). Some (Package q v)) own.2

both : (x y : Bool) → x ≡ true → y ≡ true → (x && y) ≡ true
both true y p q = q
both false y p q = absurd (false≢true p)

class_says : (a : Above) (c : PlatformClass) (token place : ℕ) → may_be_class a (entry_of_class c) token ≡ true → nat_lt token 256 ≡ true
    → place_of_class c ≡ Some place → class_entry a place token ≡ Some (Class c token)
class_says a c token place may byte at =
    let home = home_of c in
    let there = passes_there (λ e. same_class e.class c) (classes_of home) place (place_is _ place at) in
    let e = there.0 in
    let same : e.class ≡ c = same_class_is e.class c there.2 in
    let own : e ≡ entry_of_class e.class = placed_one (λ x. x ≡ entry_of_class x.class) (classes_of home) place e
    (each_filtered (λ x. x ≡ entry_of_class x.class) (λ x. same_package x.home home) classes each_class) there.1 in
    let is : e ≡ entry_of_class c = own ∙ ap entry_of_class same in
    let f = entry_of_class c in
    let parts = and_true (allows a f.needed && is_package a.home f.home && has_supertypes a f.class && not (is_some (a.class_token f.class)))
    (not (has_class_token a f.home token)) may in
    let first = (and_true (allows a f.needed && is_package a.home f.home && has_supertypes a f.class) (not (is_some (a.class_token f.class))) parts.0).0 in
    let second = (and_true (allows a f.needed && is_package a.home f.home) (has_supertypes a f.class) first).0 in
    let stands : a.home ≡ Some home = is_there a.home home (and_true (allows a f.needed) (is_package a.home f.home) second).1 in
    let may_here : may_be_class a e token ≡ true = ap (λ (x : ClassEntry). may_be_class a x token) is ∙ may in
    then_is (λ (h : PlatformPackage). option_and_then (λ x. if nat_lt token 256 && may_be_class a x token then Some (Class x.class token) else None)
    (slice_get (classes_of h) place)) a.home home stands
    ∙ then_is (λ (x : ClassEntry). if nat_lt token 256 && may_be_class a x token then Some (Class x.class token) else None)
    (slice_get (classes_of home) place) e there.1
    ∙ if_is (nat_lt token 256 && may_be_class a e token) (Class e.class token) (both (nat_lt token 256) (may_be_class a e token) byte may_here)
    ∙ ap (λ (d : PlatformClass). Some (Class d token)) same

method_says : (a : Above) (m : PlatformMethod) (token place : ℕ) → may_be_method a (entry_of_method m) token ≡ true → a.class ≡ Some (class_of m)
    → place_of_method m ≡ Some place → method_entry a place token ≡ Some (Method m token)
method_says a m token place may stands at =
    let class = class_of m in
    let there = passes_there (λ e. same_method e.method m) (methods_of class) place (place_is _ place at) in
    let e = there.0 in
    let same : e.method ≡ m = method_by_number e.method m ((Decides-eqb (method_number e.method) (method_number m)).0 there.2) in
    let own : e ≡ entry_of_method e.method = placed_one (λ x. x ≡ entry_of_method x.method) (methods_of class) place e
    (each_filtered (λ x. x ≡ entry_of_method x.method) (λ x. same_class x.class class) methods each_method) there.1 in
    let is : e ≡ entry_of_method m = own ∙ ap entry_of_method same in
    let may_here : may_be_method a e token ≡ true = ap (λ (x : MethodEntry). may_be_method a x token) is ∙ may in
    then_is (λ (c : PlatformClass). option_and_then (λ x. if may_be_method a x token then Some (Method x.method token) else None)
    (slice_get (methods_of c) place)) a.class class stands
    ∙ then_is (λ (x : MethodEntry). if may_be_method a x token then Some (Method x.method token) else None) (slice_get (methods_of class) place) e there.1
    ∙ if_is (may_be_method a e token) (Method e.method token) may_here
    ∙ ap (λ (n : PlatformMethod). Some (Method n token)) same

-- an entry is four bytes, and says this row
pub record Says (a : Above) (row : Row) (entry : List ℕ) : Type 0 where
  pub kind : ℕ
  pub x : ℕ
  pub y : ℕ
  pub z : ℕ
  pub is : entry ≡ kind ∷ x ∷ y ∷ z ∷ []
  pub says : row_of_entry a (kind ∷ x ∷ y ∷ z ∷ []) ≡ Some row

pub entry_says : (a : Above) (row : Row) (entry : List ℕ) → IsFitting a row → HasByte row → entry_of row ≡ Some entry → Says a row entry
entry_says a Extended entry fits byte e =
    record {
      kind = 0;
      x = 0;
      y = 0;
      z = 0;
      is = let g : Some (0 ∷ 0 ∷ 0 ∷ 0 ∷ []) ≡ Some entry = e in cc;
      says = if_is (may_be_extended a) Extended fits;
    }
entry_says a (Random bytes) entry fits byte e = absurd (let g : None ≡ Some entry = e in cc)
entry_says a (Package p v) entry fits byte e =
    record {
      kind = 1;
      x = package_number p;
      y = v.major;
      z = v.minor;
      is = let g : Some (1 ∷ package_number p ∷ v.major ∷ v.minor ∷ []) ≡ Some entry = e in cc;
      says = package_says a p v fits;
    }
entry_says a (Class c token) entry fits byte e =
    let at = map_some (λ (place : ℕ). 2 ∷ place ∷ token ∷ 0 ∷ []) (place_of_class c) entry e in
    record { kind = 2; x = at.0; y = token; z = 0; is = sym at.2; says = class_says a c token at.0 fits byte at.1 }
entry_says a (Method m token) entry fits byte e =
    let at = map_some (λ (place : ℕ). 3 ∷ place ∷ token ∷ 0 ∷ []) (place_of_method m) entry e in
    record { kind = 3; x = at.0; y = token; z = 0; is = sym at.2; says = method_says a m token at.0 fits.0 fits.1 at.1 }
