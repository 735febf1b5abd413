-- What is lent from a component's bytes, without where it lies.
use Rattle.jc_cap.specs.declared.packages.PackageInfo.{PackageInfo}
use Rattle.jc_cap.specs.Packages.{NamedPackage}

abbrev pub package_info : PackageInfo → NamedPackage
package_info p = record { minor_version = p.minor_version; major_version = p.major_version; aid = p.aid.now }
