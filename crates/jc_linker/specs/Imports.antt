-- Which packages a package imports.
use Rattle.std.specs.Prelude.{◌≡◌, ℕ, ◌-◌, ◌==◌, ◌&&◌, nat_le, Bool, List, [], ◌∷◌, Option, Some, None, Result, Ok, Err, if◌then◌else◌}
use Rattle.std.specs.Option.{option_and_then}
use Rattle.jc_platform.specs.declared.row.Version.{Version}
use Rattle.jc_platform.specs.Platform.{package_by_number}
use Rattle.jc_platform.specs.Tokens.{version_of_package}
use Rattle.jc_cap.specs.Packages.{NamedPackage}
use Rattle.jc_linker.specs.Classes.{package_in}
use Rattle.jc_linker.specs.Lookups.{package_with_aid}
use Rattle.jc_linker.specs.Values.{PackageValue, Packages}
use Rattle.jc_linker.specs.declared.fault.LinkFault.{LinkFault}
use Rattle.jc_linker.specs.declared.fault.LinkFault.TheVariants.{ImportMissing, ImportVersion}
use Rattle.jc_linker.specs.Answers.{then_on}

-- the version of a loaded package, or else of one of the platform
abbrev pub version_by : Packages → ℕ → Option PackageValue → Option Version
version_by p number (Some q) = Some (record { major = q.name.major_version; minor = q.name.minor_version })
version_by p number None = option_and_then (version_of_package p.platform) (package_by_number p.platform number)

unfoldable pub version_of : Packages → ℕ → Option Version
version_of p number = version_by p number (package_in p number)

-- an import takes packages of its major version, whose minor version is not below its own
abbrev pub fits : NamedPackage → Option Version → Bool
fits i None = nat_le 1 0
fits i (Some v) = i.major_version == v.major && nat_le i.minor_version v.minor

-- the number of the package with the AID, if its version fits
abbrev pub if_fits : Packages → NamedPackage → Option ℕ → Result ℕ LinkFault
if_fits p i None = Err ImportMissing
if_fits p i (Some number) = if fits i (version_of p number) then Ok number else Err ImportVersion

unfoldable pub import_number : Packages → NamedPackage → Result ℕ LinkFault
import_number p i = if_fits p i (package_with_aid p i.aid)

-- the numbers of all, or the fault of the first that fails
unfoldable pub import_numbers : Packages → List NamedPackage → Result (List ℕ) LinkFault
import_numbers p [] = Ok []
import_numbers p (i ∷ is) = then_on (import_number p i) (λ n. then_on (import_numbers p is) (λ ns. Ok (n ∷ ns)))

-- all of them are there, in versions that fit
abbrev pub AreFound : Packages → List NamedPackage → Type 0
AreFound p is = (numbers : List ℕ) × (import_numbers p is ≡ Ok numbers)
