-- What the entries of a packed table say.
use Rattle.std.specs.Prelude.{ℕ, Bool, false, ◌&&◌, ◌==◌, if◌then◌else◌, nat_lt, List, [], ◌∷◌, Option, None, Some, slice_get}
use Rattle.std.specs.Option.{option_and_then}
use Rattle.jc_platform.specs.declared.row.Row.{Row}
use Rattle.jc_platform.specs.declared.row.Row.TheVariants.{Extended, Package, Class, Method}
use Rattle.jc_platform.specs.Names.{packages}
use Rattle.jc_platform.specs.Rows.{Above, classes_of, may_be_class, may_be_extended, may_be_method, may_be_package, methods_of, parts_at, row_of_line}

-- a table is packed if its first byte is 0, with which no line begins
abbrev pub is_packed : List ℕ → Bool
is_packed [] = false
is_packed (b ∷ more) = b == 0

-- the parts of four bytes, and last what is left, which has fewer
abbrev pub entries : List ℕ → List (List ℕ)
entries [] = [] ∷ []
entries (a ∷ []) = (a ∷ []) ∷ []
entries (a ∷ b ∷ []) = (a ∷ b ∷ []) ∷ []
entries (a ∷ b ∷ c ∷ []) = (a ∷ b ∷ c ∷ []) ∷ []
entries (a ∷ b ∷ c ∷ d ∷ more) = (a ∷ b ∷ c ∷ d ∷ []) ∷ entries more

-- the row of the package with this number, counted from 0, and version
abbrev pub package_entry : Above → ℕ → ℕ → ℕ → Option Row
package_entry a number major minor =
    option_and_then (λ e. if may_be_package a e.package_id then Some (Package e.package_id (record { major = major; minor = minor })) else None)
    (slice_get packages number)

-- the row of the class with this number among those of the package above, and token, which is one byte
abbrev pub class_entry : Above → ℕ → ℕ → Option Row
class_entry a number token =
    option_and_then (λ home.
    option_and_then (λ e.
    if nat_lt token 256 && may_be_class a e token then Some (Class e.class token) else None)
    (slice_get (classes_of home) number)) a.home

-- the row of the method with this number among those of the class above, and token
abbrev pub method_entry : Above → ℕ → ℕ → Option Row
method_entry a number token =
    option_and_then (λ c.
    option_and_then (λ e.
    if may_be_method a e token then Some (Method e.method token) else None)
    (slice_get (methods_of c) number)) a.class

-- the row of an entry of this kind: 0 the line `extended`, 1 a package, 2 a class, 3 a method; none where it may not stand there
abbrev pub row_of_kind : Above → ℕ → ℕ → ℕ → ℕ → Option Row
row_of_kind a kind x y z =
    if kind == 0 then (if x == 0 && y == 0 && z == 0 && may_be_extended a then Some Extended else None) else
    (if kind == 1 then package_entry a x y z else
    (if kind == 2 then (if z == 0 then class_entry a x y else None) else
    (if kind == 3 then (if z == 0 then method_entry a x y else None) else None)))

-- the row of an entry
abbrev pub row_of_entry : Above → List ℕ → Option Row
row_of_entry a [] = None
row_of_entry a (kind ∷ []) = None
row_of_entry a (kind ∷ x ∷ []) = None
row_of_entry a (kind ∷ x ∷ y ∷ []) = None
row_of_entry a (kind ∷ x ∷ y ∷ z ∷ []) = row_of_kind a kind x y z
row_of_entry a (kind ∷ x ∷ y ∷ z ∷ v ∷ more) = None

-- the parts of a table: entries if it is packed, else the parts between line feeds
abbrev pub parts_of : List ℕ → List (List ℕ)
parts_of text = if is_packed text then entries text else parts_at 10 text

-- the row of a part of this table: of an entry if it is packed, else of a line
abbrev pub row_in : List ℕ → Above → List ℕ → Option Row
row_in text a part = if is_packed text then row_of_entry a part else row_of_line a part
