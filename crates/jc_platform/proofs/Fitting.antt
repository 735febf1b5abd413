-- Where a row stands, its name may stand.
use Rattle.std.proofs.Common.{◌≡◌, ◌&&◌, ◌==◌, cond, Bool, true, false, ℕ, List, [], ◌∷◌, Option, Some, None, refl, subst, ap, sym, ◌∙◌, codes}
use Rattle.std.specs.Prelude.{find, if◌then◌else◌, nat_lt, slice_get}
use Rattle.std.specs.Option.{option_and_then}
use Rattle.std.specs.Str.{bytes_eq}
use Rattle.jc_platform.specs.declared.names.PlatformClass.{PlatformClass}
use Rattle.jc_platform.specs.declared.names.PlatformPackage.{PlatformPackage}
use Rattle.jc_platform.specs.declared.names.MethodKind.{MethodKind}
use Rattle.jc_platform.specs.declared.row.Row.{Row}
use Rattle.jc_platform.specs.declared.row.Row.TheVariants.{Extended, Random, Package, Class, Method}
use Rattle.jc_platform.specs.NamePlaces.{class_of, entry_of_class, entry_of_method}
use Rattle.jc_platform.specs.Names.{PackageEntry, ClassEntry, MethodEntry, packages, classes, methods}
use Rattle.jc_platform.specs.Numbers.{same_class, same_kind, same_package}
use Rattle.jc_platform.specs.PackedEntry.{class_entry, is_packed, method_entry, package_entry, row_in, row_of_entry, row_of_kind}
use Rattle.jc_platform.specs.Rows.{Above, class_row, kind_of, may_be_class, may_be_method, may_be_package, method_named, method_row, number_of, package_row}
use Rattle.jc_platform.specs.Rows.{bytes_of, classes_of, extended_row, may_be_extended, may_be_random, methods_of, parts_at, random_row, row_of, row_of_line}
use Rattle.jc_platform.proofs.Lists.{and_true}
use Rattle.jc_platform.proofs.Own.{each_class, each_filtered, each_method, each_passes, found_one, found_passes, placed_one, same_class_is}

-- a row may stand there, and a method stands in its own class
abbrev pub IsFitting : Above → Row → Type 0
IsFitting a Extended = may_be_extended a ≡ true
IsFitting a (Random bytes) = Unit {0}
IsFitting a (Package p v) = may_be_package a p ≡ true
IsFitting a (Class c t) = may_be_class a (entry_of_class c) t ≡ true
IsFitting a (Method m t) = (may_be_method a (entry_of_method m) t ≡ true) × (a.class ≡ Some (class_of m))

then_some : {A B : Type 0} (f : A → Option B) (o : Option A) (r : B) → option_and_then f o ≡ Some r → (x : A) × (o ≡ Some x) × (f x ≡ Some r)
then_some f None r e = absurd (let g : None ≡ Some r = e in cc)
then_some f (Some x) r e = (x, refl, e)

if_some : (b : Bool) (r s : Row) → (if b then Some r else None) ≡ Some s → (b ≡ true) × (r ≡ s)
if_some true r s e = (refl, (let g : Some r ≡ Some s = e in cc))
if_some false r s e = absurd (let g : None ≡ Some s = e in cc)

then_row : (b : Bool) (o : Option Row) (s : Row) → (if b then o else None) ≡ Some s → o ≡ Some s
then_row true o s e = e
then_row false o s e = absurd (let g : None ≡ Some s = e in cc)

extended_fits : (a : Above) (word : List ℕ) (row : Row) → extended_row a word ≡ Some row → IsFitting a row
extended_fits a word row h =
    let x = if_some (bytes_eq word (codes "extended") && may_be_extended a) Extended row h in
    subst (λ (r : Row). IsFitting a r) x.1 (and_true (bytes_eq word (codes "extended")) (may_be_extended a) x.0).1

random_fits : (a : Above) (keyword word : List ℕ) (row : Row) → random_row a keyword word ≡ Some row → IsFitting a row
random_fits a keyword word row h =
    let x = then_row (bytes_eq keyword (codes "random")) (option_and_then (λ bytes. if may_be_random a then Some (Random bytes) else None) (bytes_of word)) row h in
    let u = then_some (λ (bytes : List ℕ). if may_be_random a then Some (Random bytes) else None) (bytes_of word) row x in
    let w = if_some (may_be_random a) (Random u.0) row u.2 in
    subst (λ (r : Row). IsFitting a r) w.1 tt

package_fits : (a : Above) (aid major minor : List ℕ) (row : Row) → package_row a aid major minor ≡ Some row → IsFitting a row
package_fits a aid major minor row h =
    let u = then_some (λ (e : PackageEntry). option_and_then (λ j. option_and_then
    (λ n. if may_be_package a e.package_id then Some (Package e.package_id (record { major = j; minor = n })) else None) (number_of minor))
    (number_of major)) (find (λ e. bytes_eq e.aid_text aid) packages) row h in
    let v = then_some (λ (j : ℕ). option_and_then (λ n. if may_be_package a u.0.package_id then Some
    (Package u.0.package_id (record { major = j; minor = n })) else None) (number_of minor)) (number_of major) row u.2 in
    let w = then_some (λ (n : ℕ). if may_be_package a u.0.package_id then Some (Package u.0.package_id (record { major = v.0; minor = n })) else None)
    (number_of minor) row v.2 in
    let x = if_some (may_be_package a u.0.package_id) (Package u.0.package_id (record { major = v.0; minor = w.0 })) row w.2 in
    subst (λ (r : Row). IsFitting a r) x.1 x.0

-- the row of a class that may stand here is its own
own_class : (a : Above) (e : ClassEntry) (t : ℕ) → e ≡ entry_of_class e.class → may_be_class a e t ≡ true → IsFitting a (Class e.class t)
own_class a e t own may = subst (λ (x : ClassEntry). may_be_class a x t ≡ true) own may

-- so is that of a method, in its own class
own_method : (a : Above) (e : MethodEntry) (t : ℕ) (c : PlatformClass) → e ≡ entry_of_method e.method → same_class e.class c ≡ true → a.class ≡ Some c
    → may_be_method a e t ≡ true → IsFitting a (Method e.method t)
own_method a e t c own here above may =
    let class : e.class ≡ class_of e.method = ap (λ (x : MethodEntry). x.class) own in
    (subst (λ (x : MethodEntry). may_be_method a x t ≡ true) own may, above ∙ ap Some (sym (same_class_is e.class c here) ∙ class))

class_fits : (a : Above) (token name : List ℕ) (row : Row) → class_row a token name ≡ Some row → IsFitting a row
class_fits a token name row h =
    let u = then_some (λ (t : ℕ). option_and_then (λ e. if may_be_class a e t then Some (Class e.class t) else None) (find (λ e. bytes_eq e.name name) classes))
    (number_of token) row h in
    let v = then_some (λ (e : ClassEntry). if may_be_class a e u.0 then Some (Class e.class u.0) else None)
    (find (λ e. bytes_eq e.name name) classes) row u.2 in
    let w = if_some (may_be_class a v.0 u.0) (Class v.0.class u.0) row v.2 in
    subst (λ (r : Row). IsFitting a r) w.1 (own_class a v.0 u.0 (found_one (λ e. e ≡ entry_of_class e.class) (λ e. bytes_eq e.name name) classes v.0 each_class v.1) w.0)

method_fits : (a : Above) (keyword token name : List ℕ) (row : Row) → method_row a keyword token name ≡ Some row → IsFitting a row
method_fits a keyword token name row h =
    let u = then_some (λ (kind : MethodKind). option_and_then (λ t. option_and_then
    (λ c. option_and_then (λ e. if may_be_method a e t then Some (Method e.method t) else None) (method_named c kind name)) a.class) (number_of token))
    (kind_of keyword) row h in
    let v = then_some (λ (t : ℕ). option_and_then (λ c. option_and_then (λ e. if may_be_method a e t then Some (Method e.method t) else None)
    (method_named c u.0 name)) a.class) (number_of token) row u.2 in
    let w = then_some (λ (c : PlatformClass). option_and_then (λ e. if may_be_method a e v.0 then Some (Method e.method v.0) else None)
    (method_named c u.0 name)) a.class row v.2 in
    let x = then_some (λ (e : MethodEntry). if may_be_method a e v.0 then Some (Method e.method v.0) else None) (method_named w.0 u.0 name) row w.2 in
    let y = if_some (may_be_method a x.0 v.0) (Method x.0.method v.0) row x.2 in
    let own = found_one (λ e. e ≡ entry_of_method e.method) (λ e. same_class e.class w.0 && same_kind e.kind u.0 && bytes_eq e.name name) methods x.0
    each_method x.1 in
    let tests = found_passes (λ e. same_class e.class w.0 && same_kind e.kind u.0 && bytes_eq e.name name) methods x.0 x.1 in
    let here = (and_true (same_class x.0.class w.0) (same_kind x.0.kind u.0) (and_true (same_class x.0.class w.0 && same_kind x.0.kind u.0)
    (bytes_eq x.0.name name) tests).0).0 in
    subst (λ (r : Row). IsFitting a r) y.1 (own_method a x.0 v.0 w.0 own here w.1 y.0)

either : (G : Type 0) (b : Bool) (x y : Option Row) (row : Row) → (x ≡ Some row → G) → (y ≡ Some row → G) → (if b then x else y) ≡ Some row → G
either G true x y row f g h = f h
either G false x y row f g h = g h

no_row : (G : Type 0) (row : Row) → None ≡ Some row → G
no_row G row h = absurd (let g : None ≡ Some row = h in cc)

pub row_fits : (a : Above) (words : List (List ℕ)) (row : Row) → row_of a words ≡ Some row → IsFitting a row
row_fits a [] row h = no_row (IsFitting a row) row h
row_fits a (k ∷ []) row h = extended_fits a k row h
row_fits a (k ∷ x ∷ []) row h = random_fits a k x row h
row_fits a (k ∷ x ∷ y ∷ []) row h = either (IsFitting a row) (bytes_eq k (codes "class")) (class_row a x y) (method_row a k x y) row (class_fits a x y row)
    (method_fits a k x y row) h
row_fits a (k ∷ x ∷ y ∷ z ∷ []) row h = either (IsFitting a row) (bytes_eq k (codes "package")) (package_row a x y z) None row (package_fits a x y z row)
    (no_row (IsFitting a row) row) h
row_fits a (k ∷ x ∷ y ∷ z ∷ v ∷ more) row h = no_row (IsFitting a row) row h

-- ---- so it is of the row of an entry

package_entry_fits : (a : Above) (n major minor : ℕ) (row : Row) → package_entry a n major minor ≡ Some row → IsFitting a row
package_entry_fits a n major minor row h =
    let u = then_some (λ (e : PackageEntry). if may_be_package a e.package_id then Some (Package e.package_id (record { major = major; minor = minor })) else None)
    (slice_get packages n) row h in
    let w = if_some (may_be_package a u.0.package_id) (Package u.0.package_id (record { major = major; minor = minor })) row u.2 in
    subst (λ (r : Row). IsFitting a r) w.1 w.0

class_entry_fits : (a : Above) (n token : ℕ) (row : Row) → class_entry a n token ≡ Some row → IsFitting a row
class_entry_fits a n token row h =
    let u = then_some (λ (home : PlatformPackage). option_and_then (λ e. if nat_lt token 256 && may_be_class a e token then Some (Class e.class token) else None)
    (slice_get (classes_of home) n)) a.home row h in
    let v = then_some (λ (e : ClassEntry). if nat_lt token 256 && may_be_class a e token then Some (Class e.class token) else None)
    (slice_get (classes_of u.0) n) row u.2 in
    let w = if_some (nat_lt token 256 && may_be_class a v.0 token) (Class v.0.class token) row v.2 in
    let may = (and_true (nat_lt token 256) (may_be_class a v.0 token) w.0).1 in
    let own = placed_one (λ e. e ≡ entry_of_class e.class) (classes_of u.0) n v.0
    (each_filtered (λ e. e ≡ entry_of_class e.class) (λ e. same_package e.home u.0) classes each_class) v.1 in
    subst (λ (r : Row). IsFitting a r) w.1 (own_class a v.0 token own may)

method_entry_fits : (a : Above) (n token : ℕ) (row : Row) → method_entry a n token ≡ Some row → IsFitting a row
method_entry_fits a n token row h =
    let u = then_some (λ (c : PlatformClass). option_and_then (λ e. if may_be_method a e token then Some (Method e.method token) else None)
    (slice_get (methods_of c) n)) a.class row h in
    let v = then_some (λ (e : MethodEntry). if may_be_method a e token then Some (Method e.method token) else None) (slice_get (methods_of u.0) n) row u.2 in
    let w = if_some (may_be_method a v.0 token) (Method v.0.method token) row v.2 in
    let own = placed_one (λ e. e ≡ entry_of_method e.method) (methods_of u.0) n v.0
    (each_filtered (λ e. e ≡ entry_of_method e.method) (λ e. same_class e.class u.0) methods each_method) v.1 in
    let here = placed_one (λ e. same_class e.class u.0 ≡ true) (methods_of u.0) n v.0 (each_passes (λ e. same_class e.class u.0) methods) v.1 in
    subst (λ (r : Row). IsFitting a r) w.1 (own_method a v.0 token u.0 own here u.1 w.0)

extended_entry_fits : (a : Above) (x y z : ℕ) (row : Row) → (if x == 0 && y == 0 && z == 0 && may_be_extended a then Some Extended else None) ≡ Some row
    → IsFitting a row
extended_entry_fits a x y z row h =
    let u = if_some (x == 0 && y == 0 && z == 0 && may_be_extended a) Extended row h in
    subst (λ (r : Row). IsFitting a r) u.1 (and_true (x == 0 && y == 0 && z == 0) (may_be_extended a) u.0).1

kind_fits : (a : Above) (kind x y z : ℕ) (row : Row) → row_of_kind a kind x y z ≡ Some row → IsFitting a row
kind_fits a kind x y z row =
    let none = no_row (IsFitting a row) row in
    let third = either (IsFitting a row) (kind == 3) (if z == 0 then method_entry a x y else None) None row
    (either (IsFitting a row) (z == 0) (method_entry a x y) None row (method_entry_fits a x y row) none) none in
    let second = either (IsFitting a row) (kind == 2) (if z == 0 then class_entry a x y else None) _ row
    (either (IsFitting a row) (z == 0) (class_entry a x y) None row (class_entry_fits a x y row) none) third in
    let first = either (IsFitting a row) (kind == 1) (package_entry a x y z) _ row (package_entry_fits a x y z row) second in
    either (IsFitting a row) (kind == 0) _ _ row (extended_entry_fits a x y z row) first

entry_fits : (a : Above) (entry : List ℕ) (row : Row) → row_of_entry a entry ≡ Some row → IsFitting a row
entry_fits a [] row h = no_row (IsFitting a row) row h
entry_fits a (k ∷ []) row h = no_row (IsFitting a row) row h
entry_fits a (k ∷ x ∷ []) row h = no_row (IsFitting a row) row h
entry_fits a (k ∷ x ∷ y ∷ []) row h = no_row (IsFitting a row) row h
entry_fits a (k ∷ x ∷ y ∷ z ∷ []) row h = kind_fits a k x y z row h
entry_fits a (k ∷ x ∷ y ∷ z ∷ v ∷ more) row h = no_row (IsFitting a row) row h

-- and of the row of any part of a table
pub part_fits : (text : List ℕ) (a : Above) (part : List ℕ) (row : Row) → row_in text a part ≡ Some row → IsFitting a row
part_fits text a part row h =
    either (IsFitting a row) (is_packed text) (row_of_entry a part) (row_of_line a part) row (entry_fits a part row) (row_fits a (parts_at 32 part) row) h
