-- The classes of a package stand together in the list of all.
use Rattle.std.proofs.Common.{◌≡◌, ◌≤◌, ◌+◌, ◌-◌, ℕ, List, [], ◌∷◌, take, drop, map, get_or, arith, refl, ◌∙◌}
use Rattle.jc_platform.specs.declared.rows.ClassRow.{ClassRow}
use Rattle.jc_platform.specs.declared.names.PlatformPackage.{PlatformPackage}
use Rattle.jc_platform.specs.declared.names.PlatformPackage.TheVariants.{JavaLang, JavacardFramework, JavacardxApdu, JavacardSecurity, JavacardxCrypto}
use Rattle.jc_platform.specs.Names.{classes}
use Rattle.jc_platform.specs.Numbers.{class_count, package_number}
use Rattle.jc_platform.specs.Rows.{classes_of}
use Rattle.jc_platform.specs.RowValues.{class_value}
use Rattle.jc_platform.proofs.Lists.{shown_between}

-- the places of the packages' first classes, and after them how many classes there are
abbrev pub firsts : List ℕ
firsts = 0 ∷ 12 ∷ 31 ∷ 32 ∷ 65 ∷ class_count ∷ []

pub ends_within : (p : PlatformPackage) → get_or firsts (package_number p + 1) 0 ≤ class_count
ends_within JavaLang = omega arith
ends_within JavacardFramework = omega arith
ends_within JavacardxApdu = omega arith
ends_within JavacardSecurity = omega arith
ends_within JavacardxCrypto = omega arith

-- those of a package stand from its first one to the next package's
stand_together : (p : PlatformPackage) → take (get_or firsts (package_number p + 1) 0 - get_or firsts (package_number p) 0) (drop (get_or firsts (package_number p) 0) classes) ≡ classes_of p
unfolding classes
stand_together JavaLang = refl
stand_together JavacardFramework = refl
stand_together JavacardxApdu = refl
stand_together JavacardSecurity = refl
stand_together JavacardxCrypto = refl

pub are_together : (p : PlatformPackage) (n : ℕ) (all : List ClassRow) → map class_value all ≡ classes → n ≡ package_number p
    → map class_value (take (get_or firsts (n + 1) 0 - get_or firsts n 0) (drop (get_or firsts n 0) all)) ≡ classes_of p
are_together p n all is place =
    rw place
    (shown_between class_value (get_or firsts (package_number p) 0) (get_or firsts (package_number p + 1) 0) all classes is ∙ stand_together p)
