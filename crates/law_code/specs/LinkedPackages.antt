-- Packages that were linked, each onto those before it.
use Rattle.std.specs.Prelude.{◌≡◌, ◌<◌, ◌≤◌, List, [], ◌∷◌, length, Ok}
use Rattle.jc_linker.specs.Values.{PackageValue, Packages}
use Rattle.jc_linker.specs.Values.{LinkerComponents}
use Rattle.jc_linker.specs.Linking.{link_result, with_package}

-- a package of these components is linked onto these packages, among which there is a place for it
abbrev pub IsLinkedAgainst : Packages → LinkerComponents → PackageValue → Type 0
IsLinkedAgainst p c q = (length p.loaded < 32) × (length c.classes ≤ 256) × (link_result p c ≡ Ok q)

-- packages of these components are linked onto these, one after the other
abbrev pub AreLinkedAgainst : Packages → List LinkerComponents → Packages → Type 0
AreLinkedAgainst p [] all = all ≡ p
AreLinkedAgainst p (c ∷ cs) all = (q : PackageValue) × IsLinkedAgainst p c q × AreLinkedAgainst (with_package p q) cs all

-- all loaded packages are linked, the first of them onto the platform's alone
abbrev pub AreLinked : List LinkerComponents → Packages → Type 0
AreLinked cs all = AreLinkedAgainst (record all { loaded = [] }) cs all
