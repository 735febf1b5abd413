-- What a table says.
use Rattle.std.specs.Prelude.{ℕ, List, Option, None, if◌then◌else◌, slice_index_or, unwrap_or}
use Rattle.jc_platform.specs.declared.names.PlatformPackage.{PlatformPackage}
use Rattle.jc_platform.specs.declared.names.PlatformPackage.TheVariants.{JavacardxApdu, JavacardSecurity, JavacardxCrypto}
use Rattle.jc_platform.specs.declared.names.PlatformClass.{PlatformClass}
use Rattle.jc_platform.specs.declared.names.PlatformMethod.{PlatformMethod}
use Rattle.jc_platform.specs.declared.row.Version.{Version}
use Rattle.jc_platform.specs.Numbers.{class_number, method_number, package_number, same_package}

-- the package that stands first, the versions of the packages and the tokens of the classes and methods that stand, by their numbers, and the bytes that
-- random data are made from
pub record Tokens : Type 0 where
  pub first : PlatformPackage
  pub versions : List (Option Version)
  pub class_tokens : List (Option ℕ)
  pub method_tokens : List (Option ℕ)
  pub random : List ℕ

-- the number that a package has among all packages of a card: 64 and 65 of those that each table has, in the table's order; of others their own
abbrev pub number_in : Tokens → PlatformPackage → ℕ
number_in t p = if same_package p JavacardxApdu then 66 else (if same_package p JavacardSecurity then 67 else
    (if same_package p JavacardxCrypto then 68 else (if same_package p t.first then 64 else 65)))

-- the version of a package, where the table has it
abbrev pub version_of_package : Tokens → PlatformPackage → Option Version
version_of_package t p = slice_index_or t.versions (package_number p) None

-- the token of a class, where the table has it
abbrev pub token_of_class : Tokens → PlatformClass → Option ℕ
token_of_class t c = slice_index_or t.class_tokens (class_number c) None

-- the token of a method, where the table has it
abbrev pub token_of_method : Tokens → PlatformMethod → Option ℕ
token_of_method t m = slice_index_or t.method_tokens (method_number m) None

-- the token of a class that the table has, else 0
abbrev pub class_token : Tokens → PlatformClass → ℕ
class_token t c = unwrap_or (token_of_class t c) 0

-- the token of a method that the table has, else 0
abbrev pub method_token : Tokens → PlatformMethod → ℕ
method_token t m = unwrap_or (token_of_method t m) 0
