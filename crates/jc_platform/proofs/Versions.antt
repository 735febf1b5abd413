-- What stands in a table: names that each table has, and other packages below those that each has.
use Rattle.std.proofs.Common.{◌≡◌, ◌&&◌, ◌||◌, not, ℕ, Bool, true, false, List, [], ◌∷◌, Option, Some, None, refl, ap, sym, ◌∙◌}
use Rattle.std.specs.Prelude.{is_some, unwrap_or}
use Rattle.std.proofs.lemmas.Bool.{false≢true}
use Rattle.std.proofs.lemmas.Option.{same_Some}
use Rattle.jc_platform.specs.declared.names.PlatformClass.{PlatformClass}
use Rattle.jc_platform.specs.declared.names.PlatformMethod.{PlatformMethod}
use Rattle.jc_platform.specs.declared.names.PlatformPackage.{PlatformPackage}
use Rattle.jc_platform.specs.declared.names.PlatformPackage.TheVariants.{JavaLang, JavacardFramework}
use Rattle.jc_platform.specs.declared.row.Row.{Row}
use Rattle.jc_platform.specs.declared.row.Row.TheVariants.{Extended, Random, Package, Class, Method}
use Rattle.jc_platform.specs.NamePlaces.{entry_of_class, entry_of_method, is_needed_class, is_needed_method}
use Rattle.jc_platform.specs.Numbers.{is_needed_package}
use Rattle.jc_platform.specs.Rows.{Above, above, first_package, has_needed_packages, is_extended, may_be_package, version_in}
use Rattle.jc_platform.specs.Table.{Say, has_needed_classes, has_needed_methods}
use Rattle.jc_platform.proofs.EveryRow.{every_class, every_method}
use Rattle.jc_platform.proofs.Facts.{class_at_place, method_at_place}
use Rattle.jc_platform.proofs.Fitting.{part_fits}
use Rattle.jc_platform.proofs.Lists.{and_true}

-- where a package has a version, some package stands first
version_first : (rows : List Row) (p : PlatformPackage) → is_some (version_in rows p) ≡ true → first_package rows ≡ None → ⊥
version_first [] p h e = false≢true h
version_first (Extended ∷ rows) p h e = version_first rows p h e
version_first (Random bytes ∷ rows) p h e = version_first rows p h e
version_first (Package q v ∷ rows) p h e = let g : Some (unwrap_or (first_package rows) q) ≡ None = e in absurd (let w : Some (unwrap_or (first_package rows) q) ≡ None = g in cc)
version_first (Class c t ∷ rows) p h e = version_first rows p h e
version_first (Method m t ∷ rows) p h e = version_first rows p h e

of_other : (needed there : Bool) → needed ≡ false → (needed || there) ≡ true → there ≡ true
of_other true there other may = absurd (false≢true (sym other))
of_other false there other may = may

-- a package that not each table has stands below others
stands_below : (rows : List Row) (p : PlatformPackage) → is_needed_package p ≡ false → may_be_package (above rows) p ≡ true → first_package rows ≡ None → ⊥
stands_below rows p other h none =
    let allowed = (and_true (not (is_some (version_in rows p))) (is_needed_package p || (is_extended rows && has_needed_packages (above rows))) h).1 in
    let there : (is_extended rows && has_needed_packages (above rows)) ≡ true = of_other (is_needed_package p) _ other allowed in
    let both = (and_true (is_extended rows) (has_needed_packages (above rows)) there).1 in
    version_first rows JavaLang (and_true (is_some (version_in rows JavaLang)) (is_some (version_in rows JavacardFramework)) both).0 none

first_new : (o : Option PlatformPackage) (p q : PlatformPackage) → (o ≡ None → p ≡ q → ⊥) → (o ≡ Some q → ⊥)
    → Some (unwrap_or o p) ≡ Some q → ⊥
first_new None p q new old e = new refl (same_Some p q e)
first_new (Some r) p q new old e = old e

-- it never stands first
never_first : (q : PlatformPackage) → is_needed_package q ≡ false → (text : List ℕ) (lines : List (List ℕ)) (rows : List Row) → Say text lines rows
    → first_package rows ≡ Some q → ⊥
never_first q other text [] [] said e = absurd (let g : None ≡ Some q = e in cc)
never_first q other text [] (row ∷ rows) said e = said
never_first q other text (line ∷ lines) [] said e = said
never_first q other text (line ∷ lines) (Extended ∷ rows) said e = never_first q other text lines rows said.1 e
never_first q other text (line ∷ lines) (Random bytes ∷ rows) said e = never_first q other text lines rows said.1 e
never_first q other text (line ∷ lines) (Class c t ∷ rows) said e = never_first q other text lines rows said.1 e
never_first q other text (line ∷ lines) (Method m t ∷ rows) said e = never_first q other text lines rows said.1 e
never_first q other text (line ∷ lines) (Package p v ∷ rows) said e =
    let fit : may_be_package (above rows) p ≡ true = part_fits text (above rows) line (Package p v) said.0 in
    first_new (first_package rows) p q (λ none is. stands_below rows p (ap is_needed_package is ∙ other) fit none) (never_first q other text lines rows said.1) e

is_or_is_no : (b : Bool) → (b ≡ false → ⊥) → b ≡ true
is_or_is_no true never = refl
is_or_is_no false never = absurd (never refl)

-- a package that each table has stands first
pub first_needed : (text : List ℕ) (lines : List (List ℕ)) (rows : List Row) → Say text lines rows → (p : PlatformPackage) → first_package rows ≡ Some p → is_needed_package p ≡ true
first_needed text lines rows said p first = is_or_is_no (is_needed_package p) (λ other. never_first p other text lines rows said first)

of_needed : (b : Bool) (o : Option ℕ) → (not b || is_some o) ≡ true → b ≡ true → (k : ℕ) × (o ≡ Some k)
of_needed true None all e = absurd (false≢true all)
of_needed true (Some k) all e = (k, refl)
of_needed false o all e = absurd (false≢true e)

-- a class that each table has stands
pub class_stands : (a : Above) → has_needed_classes a ≡ true → (c : PlatformClass) → is_needed_class c ≡ true → (k : ℕ) × (a.class_token c ≡ Some k)
class_stands a has c e =
    let all = every_class (λ f. not f.needed || is_some (a.class_token f.class)) has c in
    let own = of_needed (is_needed_class c) (a.class_token (entry_of_class c).class) all e in
    (own.0, ap a.class_token (sym (class_at_place c)) ∙ own.1)

-- so does a method
pub method_stands : (a : Above) → has_needed_methods a ≡ true → (m : PlatformMethod) → is_needed_method m ≡ true → (k : ℕ) × (a.method_token m ≡ Some k)
method_stands a has m e =
    let all = every_method (λ f. not f.needed || is_some (a.method_token f.method)) has m in
    let own = of_needed (is_needed_method m) (a.method_token (entry_of_method m).method) all e in
    (own.0, ap a.method_token (sym (method_at_place m)) ∙ own.1)
