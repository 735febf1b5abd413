-- What the lines of a platform table say.
use Rattle.std.specs.Prelude.{ℕ, Bool, true, false, not, ◌&&◌, ◌||◌, ◌==◌, nat_le, nat_lt, if◌then◌else◌, List, [], ◌∷◌, length, codes, Option, None, Some, is_some}
use Rattle.std.specs.Prelude.{unwrap_or, filter, find}
use Rattle.std.specs.List.{list_all, list_any, slice_split}
use Rattle.std.specs.Option.{option_and_then}
use Rattle.std.specs.Result.{result_ok}
use Rattle.std.specs.Str.{bytes_eq, all_ascii_digits}
use Rattle.std.specs.Str.Parse.{digits_value}
use Rattle.hex.specs.Hex.{decode_sized}
use Rattle.jc_platform.specs.declared.names.PlatformPackage.{PlatformPackage}
use Rattle.jc_platform.specs.declared.names.PlatformPackage.TheVariants.{JavaLang, JavacardFramework}
use Rattle.jc_platform.specs.declared.names.PlatformClass.{PlatformClass}
use Rattle.jc_platform.specs.declared.names.MethodKind.{MethodKind}
use Rattle.jc_platform.specs.declared.names.MethodKind.TheVariants.{Static, Virtual, Interface}
use Rattle.jc_platform.specs.declared.names.PlatformMethod.{PlatformMethod}
use Rattle.jc_platform.specs.declared.row.Version.{Version}
use Rattle.jc_platform.specs.declared.row.Row.{Row}
use Rattle.jc_platform.specs.declared.row.Row.TheVariants.{Extended, Random, Package, Class, Method}
use Rattle.jc_platform.specs.Names.{ClassEntry, MethodEntry, packages, classes, methods}
use Rattle.jc_platform.specs.NamePlaces.{is_needed_class}
use Rattle.jc_platform.specs.Hierarchy.{interfaces_of, superclass_of}
use Rattle.jc_platform.specs.Numbers.{is_needed_package, same_package, same_class, same_kind, same_method}

-- ---- what stands above a line: rows from the nearest up

-- the line that allows names of the second list stands above
abbrev pub is_extended : List Row → Bool
is_extended [] = false
is_extended (Extended ∷ rows) = true
is_extended (Random bytes ∷ rows) = is_extended rows
is_extended (Package p version ∷ rows) = is_extended rows
is_extended (Class c token ∷ rows) = is_extended rows
is_extended (Method m token ∷ rows) = is_extended rows

-- the package that stands nearest above
abbrev pub package_above : List Row → Option PlatformPackage
package_above [] = None
package_above (Extended ∷ rows) = package_above rows
package_above (Random bytes ∷ rows) = package_above rows
package_above (Package p version ∷ rows) = Some p
package_above (Class c token ∷ rows) = package_above rows
package_above (Method m token ∷ rows) = package_above rows

-- the class that stands nearest above, in the package that does
abbrev pub class_above : List Row → Option PlatformClass
class_above [] = None
class_above (Extended ∷ rows) = class_above rows
class_above (Random bytes ∷ rows) = class_above rows
class_above (Package p version ∷ rows) = None
class_above (Class c token ∷ rows) = Some c
class_above (Method m token ∷ rows) = class_above rows

-- the package that stands first of all
abbrev pub first_package : List Row → Option PlatformPackage
first_package [] = None
first_package (Extended ∷ rows) = first_package rows
first_package (Random bytes ∷ rows) = first_package rows
first_package (Package p version ∷ rows) = Some (unwrap_or (first_package rows) p)
first_package (Class c token ∷ rows) = first_package rows
first_package (Method m token ∷ rows) = first_package rows

-- the version of a package that stands above
abbrev pub version_in : List Row → PlatformPackage → Option Version
version_in [] q = None
version_in (Extended ∷ rows) q = version_in rows q
version_in (Random bytes ∷ rows) q = version_in rows q
version_in (Package p version ∷ rows) q = if same_package p q then Some version else version_in rows q
version_in (Class c token ∷ rows) q = version_in rows q
version_in (Method m token ∷ rows) q = version_in rows q

-- the token of a class that stands above
abbrev pub class_token_in : List Row → PlatformClass → Option ℕ
class_token_in [] d = None
class_token_in (Extended ∷ rows) d = class_token_in rows d
class_token_in (Random bytes ∷ rows) d = class_token_in rows d
class_token_in (Package p version ∷ rows) d = class_token_in rows d
class_token_in (Class c token ∷ rows) d = if same_class c d then Some token else class_token_in rows d
class_token_in (Method m token ∷ rows) d = class_token_in rows d

-- the token of a method that stands above
abbrev pub method_token_in : List Row → PlatformMethod → Option ℕ
method_token_in [] n = None
method_token_in (Extended ∷ rows) n = method_token_in rows n
method_token_in (Random bytes ∷ rows) n = method_token_in rows n
method_token_in (Package p version ∷ rows) n = method_token_in rows n
method_token_in (Class c token ∷ rows) n = method_token_in rows n
method_token_in (Method m token ∷ rows) n = if same_method m n then Some token else method_token_in rows n

-- the bytes of the line `random` that stands above
abbrev pub random_in : List Row → Option (List ℕ)
random_in [] = None
random_in (Extended ∷ rows) = random_in rows
random_in (Random bytes ∷ rows) = Some bytes
random_in (Package p version ∷ rows) = random_in rows
random_in (Class c token ∷ rows) = random_in rows
random_in (Method m token ∷ rows) = random_in rows

-- what a line has to fit
pub record Above : Type 0 where
  pub extended : Bool
  pub home : Option PlatformPackage
  pub class : Option PlatformClass
  pub first : Option PlatformPackage
  pub version : PlatformPackage → Option Version
  pub class_token : PlatformClass → Option ℕ
  pub method_token : PlatformMethod → Option ℕ
  pub random : Option (List ℕ)

-- what is above a line that stands below these rows
abbrev pub above : List Row → Above
above rows = record {
  extended = is_extended rows;
  home = package_above rows;
  class = class_above rows;
  first = first_package rows;
  version = version_in rows;
  class_token = class_token_in rows;
  method_token = method_token_in rows;
  random = random_in rows;
}

-- ---- what a line says

-- the parts between the bytes c
abbrev pub parts_at : ℕ → List ℕ → List (List ℕ)
parts_at c bytes = slice_split (λ b. b == c) bytes

-- the number that a word of decimal digits writes, if it is at most 255
abbrev pub number_of : List ℕ → Option ℕ
number_of word = if nat_lt 0 (length word) && all_ascii_digits word && nat_lt (digits_value 10 word) 256 then Some (digits_value 10 word) else None

-- the kind of method that a keyword begins
abbrev pub kind_of : List ℕ → Option MethodKind
kind_of word = if bytes_eq word (codes "static") then Some Static else (if bytes_eq word (codes "virtual") then Some Virtual else
    (if bytes_eq word (codes "interface") then Some Interface else None))

-- the largest token of a kind
abbrev pub largest_token : MethodKind → ℕ
largest_token Static = 255
largest_token Virtual = 127
largest_token Interface = 127

-- the token is this one
abbrev pub is_token : Option ℕ → ℕ → Bool
is_token None t = false
is_token (Some token) t = token == t

-- the package is this one
abbrev pub is_package : Option PlatformPackage → PlatformPackage → Bool
is_package None q = false
is_package (Some p) q = same_package p q

-- a class of the package has the token
abbrev pub has_class_token : Above → PlatformPackage → ℕ → Bool
has_class_token a p token = list_any (λ e. same_package e.home p && is_token (a.class_token e.class) token) classes

-- a method of the class and the kind has the token
abbrev pub has_method_token : Above → PlatformClass → MethodKind → ℕ → Bool
has_method_token a c kind token = list_any (λ e. same_class e.class c && same_kind e.kind kind && is_token (a.method_token e.method) token) methods

-- the line `extended` may stand here: nothing stands above
abbrev pub may_be_extended : Above → Bool
may_be_extended a = not a.extended && not (is_some a.first)

-- both packages that each table has stand above
abbrev pub has_needed_packages : Above → Bool
has_needed_packages a = is_some (a.version JavaLang) && is_some (a.version JavacardFramework)

-- a package may stand here: it stands nowhere above, and one that not each table has stands in an extended table, after those that each has
abbrev pub may_be_package : Above → PlatformPackage → Bool
may_be_package a p = not (is_some (a.version p)) && (is_needed_package p || (a.extended && has_needed_packages a))

-- the line `random` may stand here: in an extended table, and no other stands above
abbrev pub may_be_random : Above → Bool
may_be_random a = a.extended && not (is_some a.random)

-- a table may have a name that each table has, or, where it is extended, another
abbrev pub allows : Above → Bool → Bool
allows a needed = needed || a.extended

-- a class is one that each table has, or stands above
abbrev pub has_class : Above → PlatformClass → Bool
has_class a c = is_needed_class c || is_some (a.class_token c)

-- a superclass, where there is one, is such a class
abbrev pub has_superclass : Above → Option PlatformClass → Bool
has_superclass a None = true
has_superclass a (Some c) = has_class a c

-- so are a class's superclass and all its interfaces
abbrev pub has_supertypes : Above → PlatformClass → Bool
has_supertypes a c = has_superclass a (superclass_of c) && list_all (has_class a) (interfaces_of c)

-- a class may stand here: in a table that may have it, in its own package, where the table has its superclass and its interfaces, nowhere above, and with a
-- token of its own
abbrev pub may_be_class : Above → ClassEntry → ℕ → Bool
may_be_class a e token = allows a e.needed && is_package a.home e.home && has_supertypes a e.class && not (is_some (a.class_token e.class)) && not (has_class_token a e.home token)

-- a method may stand here, in its own class: in a table that may have it, nowhere above, and with a token of its own that its kind may have
abbrev pub may_be_method : Above → MethodEntry → ℕ → Bool
may_be_method a e token = allows a e.needed && nat_le token (largest_token e.kind) && not (is_some (a.method_token e.method))
    && not (has_method_token a e.class e.kind token)

-- the row of a line that is one word
abbrev pub extended_row : Above → List ℕ → Option Row
extended_row a word = if bytes_eq word (codes "extended") && may_be_extended a then Some Extended else None

-- the 32 bytes that a word of 64 hexadecimal digits writes
abbrev pub bytes_of : List ℕ → Option (List ℕ)
bytes_of word = result_ok (decode_sized word 32)

-- the row of a line of two words: `random` and the bytes that random data are made from
abbrev pub random_row : Above → List ℕ → List ℕ → Option Row
random_row a keyword word =
    if bytes_eq keyword (codes "random") then option_and_then (λ bytes. if may_be_random a then Some (Random bytes) else None) (bytes_of word) else None

-- the row of a package with this AID and version
abbrev pub package_row : Above → List ℕ → List ℕ → List ℕ → Option Row
package_row a aid major minor =
    option_and_then (λ e.
    option_and_then (λ j.
    option_and_then (λ n.
    if may_be_package a e.package_id then Some (Package e.package_id (record { major = j; minor = n })) else None)
    (number_of minor)) (number_of major)) (find (λ e. bytes_eq e.aid_text aid) packages)

-- the row of a class with this token and name
abbrev pub class_row : Above → List ℕ → List ℕ → Option Row
class_row a token name =
    option_and_then (λ t.
    option_and_then (λ e.
    if may_be_class a e t then Some (Class e.class t) else None)
    (find (λ e. bytes_eq e.name name) classes)) (number_of token)

-- the entries of a package's classes
abbrev pub classes_of : PlatformPackage → List ClassEntry
classes_of p = filter (λ e. same_package e.home p) classes

-- the entries of a class's methods
abbrev pub methods_of : PlatformClass → List MethodEntry
methods_of c = filter (λ e. same_class e.class c) methods

-- the entry of a class's method of this kind and name
abbrev pub method_named : PlatformClass → MethodKind → List ℕ → Option MethodEntry
method_named c kind name = find (λ e. same_class e.class c && same_kind e.kind kind && bytes_eq e.name name) methods

-- the row of a method with this kind, token and name
abbrev pub method_row : Above → List ℕ → List ℕ → List ℕ → Option Row
method_row a keyword token name =
    option_and_then (λ kind.
    option_and_then (λ t.
    option_and_then (λ c.
    option_and_then (λ e.
    if may_be_method a e t then Some (Method e.method t) else None)
    (method_named c kind name)) a.class) (number_of token)) (kind_of keyword)

-- the row that a line of these words is; none where it may not stand there
abbrev pub row_of : Above → List (List ℕ) → Option Row
row_of a [] = None
row_of a (keyword ∷ []) = extended_row a keyword
row_of a (keyword ∷ x ∷ []) = random_row a keyword x
row_of a (keyword ∷ x ∷ y ∷ []) = if bytes_eq keyword (codes "class") then class_row a x y else method_row a keyword x y
row_of a (keyword ∷ x ∷ y ∷ z ∷ []) = if bytes_eq keyword (codes "package") then package_row a x y z else None
row_of a (keyword ∷ x ∷ y ∷ z ∷ v ∷ more) = None

-- the row that a line gives
abbrev pub row_of_line : Above → List ℕ → Option Row
row_of_line a line = row_of a (parts_at 32 line)
