-- What AIDs, numbers and tokens stand for on the platform.
use Rattle.std.specs.Prelude.{ℕ, ◌≡◌, ◌&&◌, ◌==◌, ◌/◌, ◌%◌, true, if◌then◌else◌, List, [], ◌∷◌, Option, None, Some, is_some, find}
use Rattle.std.specs.List.{list_all}
use Rattle.std.specs.Option.{option_map, option_and_then}
use Rattle.std.specs.Str.{bytes_eq}
use Rattle.jc_platform.specs.declared.names.PlatformPackage.{PlatformPackage}
use Rattle.jc_platform.specs.declared.names.PlatformPackage.TheVariants.{JavaLang, JavacardFramework, JavacardxApdu, JavacardSecurity, JavacardxCrypto}
use Rattle.jc_platform.specs.declared.names.PlatformClass.{PlatformClass}
use Rattle.jc_platform.specs.declared.names.MethodKind.{MethodKind}
use Rattle.jc_platform.specs.declared.names.PlatformMethod.{PlatformMethod}
use Rattle.jc_platform.specs.NamePlaces.{class_of, home_of, is_needed_class, is_needed_method, kind_of_method}
use Rattle.jc_platform.specs.Hierarchy.{interfaces_of, superclass_of}
use Rattle.jc_platform.specs.Names.{classes, methods}
use Rattle.jc_platform.specs.Numbers.{same_class, same_kind, same_package}
use Rattle.jc_platform.specs.Rows.{is_token}
use Rattle.jc_platform.specs.Tokens.{Tokens, number_in, token_of_class, token_of_method, version_of_package}

-- a package's AID
unfoldable pub aid_of : PlatformPackage → List ℕ
aid_of JavaLang = 160 ∷ 0 ∷ 0 ∷ 0 ∷ 98 ∷ 0 ∷ 1 ∷ []
aid_of JavacardFramework = 160 ∷ 0 ∷ 0 ∷ 0 ∷ 98 ∷ 1 ∷ 1 ∷ []
aid_of JavacardxApdu = 160 ∷ 0 ∷ 0 ∷ 0 ∷ 98 ∷ 2 ∷ 9 ∷ []
aid_of JavacardSecurity = 160 ∷ 0 ∷ 0 ∷ 0 ∷ 98 ∷ 1 ∷ 2 ∷ []
aid_of JavacardxCrypto = 160 ∷ 0 ∷ 0 ∷ 0 ∷ 98 ∷ 2 ∷ 1 ∷ []

-- the package with this AID, of those that the table has
unfoldable pub package_by_aid : Tokens → List ℕ → Option PlatformPackage
package_by_aid t aid = if bytes_eq aid (aid_of JavaLang) then Some JavaLang else (if bytes_eq aid (aid_of JavacardFramework) then Some JavacardFramework else
    (if bytes_eq aid (aid_of JavacardxApdu) && is_some (version_of_package t JavacardxApdu) then Some JavacardxApdu else
    (if bytes_eq aid (aid_of JavacardSecurity) && is_some (version_of_package t JavacardSecurity) then Some JavacardSecurity else
    (if bytes_eq aid (aid_of JavacardxCrypto) && is_some (version_of_package t JavacardxCrypto) then Some JavacardxCrypto else None))))

-- the package with this number
unfoldable pub package_by_number : Tokens → ℕ → Option PlatformPackage
package_by_number t n = if n == number_in t JavaLang then Some JavaLang else (if n == number_in t JavacardFramework then Some JavacardFramework else
    (if n == number_in t JavacardxApdu then Some JavacardxApdu else (if n == number_in t JavacardSecurity then Some JavacardSecurity else
    (if n == number_in t JavacardxCrypto then Some JavacardxCrypto else None))))

-- the class of a package with this token
unfoldable pub class_by_token : Tokens → PlatformPackage → ℕ → Option PlatformClass
class_by_token t home token = option_map (λ e. e.class) (find (λ e. same_package e.home home && is_token (token_of_class t e.class) token)
    classes)

-- the class that an object's header names so
unfoldable pub class_by_word : Tokens → ℕ → Option PlatformClass
class_by_word t word = option_and_then (λ home. class_by_token t home (word % 256)) (package_by_number t (word / 256))

-- the method of a class with this kind and token
unfoldable pub method_by_token : Tokens → PlatformClass → MethodKind → ℕ → Option PlatformMethod
method_by_token t class kind token = option_map (λ e. e.method) (find (λ e. same_class e.class class && same_kind e.kind kind && is_token
    (token_of_method t e.method) token) methods)

-- tokens stand for one class and one method: what has a token is what the token stands for, what each table has has one, and so have the superclass and the
-- interfaces of a class that has one
pub record TellNames (t : Tokens) : Type 0 where
  pub packages : (p : PlatformPackage) → package_by_number t (number_in t p) ≡ Some p
  pub classes : (c : PlatformClass) (k : ℕ) → token_of_class t c ≡ Some k → class_by_token t (home_of c) k ≡ Some c
  pub methods : (m : PlatformMethod) (k : ℕ) → token_of_method t m ≡ Some k → method_by_token t (class_of m) (kind_of_method m) k ≡ Some m
  pub needed_classes : (c : PlatformClass) → is_needed_class c ≡ true → (k : ℕ) × (token_of_class t c ≡ Some k)
  pub superclasses : (c d : PlatformClass) → superclass_of c ≡ Some d → is_some (token_of_class t c) ≡ true → is_some (token_of_class t d) ≡ true
  pub interfaces : (c : PlatformClass) → is_some (token_of_class t c) ≡ true → list_all (λ d. is_some (token_of_class t d)) (interfaces_of c) ≡ true
  pub needed_methods : (m : PlatformMethod) → is_needed_method m ≡ true → (k : ℕ) × (token_of_method t m ≡ Some k)
