-- Lists of the platform's interfaces.
use Rattle.std.proofs.Common.{◌≡◌, suc, List, [], ◌∷◌, length, refl, ap}
use Rattle.jc_platform.specs.declared.names.PlatformClass.{PlatformClass}
use Rattle.jc_linker.specs.Classes.{platform_interfaces}
use Rattle.jc_linker.specs.Values.{Packages}

pub length_listed : (p : Packages) (cs : List PlatformClass) → length (platform_interfaces p cs) ≡ length cs
length_listed p [] = refl
length_listed p (c ∷ cs) = ap suc (length_listed p cs)
