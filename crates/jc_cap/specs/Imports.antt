-- The Import component.
use Rattle.std.specs.Prelude.{◌≡◌, ℕ, List, ◌∷◌, length}
use Rattle.jc_cap.specs.Packages.{NamedPackage, package_at}
use Rattle.jc_cap.specs.Reading.{◌>>=◌, Field, u1_at, many_at}
use Rattle.jc_cap.specs.Grammar.{AreEncodedInTurn, IsPackageInfo}

unfoldable pub imports_at : List ℕ → Field (List NamedPackage)
imports_at bytes = do
  count ← u1_at bytes
  many_at package_at count.0 count.1

-- a byte of count, and then the names of the packages
abbrev pub IsImports : List NamedPackage → List ℕ → Type 0
IsImports ps text = (packages : List ℕ) × AreEncodedInTurn IsPackageInfo ps packages × (text ≡ length ps ∷ packages)
