-- Packages by name.
use Rattle.std.specs.Prelude.{ℕ, List, Ok}
use Rattle.jc_cap.specs.Reading.{◌>>=◌, Field, u1_at, aid_at}

-- the version and the AID of a package
pub record NamedPackage : Type 0 where
  pub minor_version : ℕ
  pub major_version : ℕ
  pub aid : List ℕ

-- a minor version, a major version, an AID
unfoldable pub package_at : List ℕ → Field NamedPackage
package_at bytes = do
  minor ← u1_at bytes
  major ← u1_at minor.1
  aid ← aid_at major.1
  Ok (record { minor_version = minor.0; major_version = major.0; aid = aid.0 }, aid.1)
